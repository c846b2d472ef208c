-- What the nodes of a graph stand for.
use Rattle.std.specs.Prelude.{◌≡◌, ℕ, suc, List, [], ◌∷◌, ◌++◌, All, Option, Some}
use Rattle.std.specs.Prelude.{cond, is_some, map}
use Rattle.pb_language.specs.Book.{Registry, TaskData}
use Rattle.pb_language.specs.Expression.{Expressions, no_expressions, Parts}
use Rattle.pb_language.specs.Links.{Link, goes, fails, passes, link_to}
use Rattle.pb_language.specs.Plays.{Surroundings, append_expressions, append_parts, gathering_task}
use Rattle.pb_language.specs.Plays.{task_at}
use Rattle.pb_language.specs.Task.{Task}
use Rattle.pb_play.specs.Sound.{IsSound}
use Rattle.pb_play.specs.declared.play.BlockHead.{BlockHead}
use Rattle.pb_syntax.specs.ExprView.{exprs_view}
use Rattle.pb_task.specs.Tasks.{task_view}
use Rattle.pb_template.specs.Entries.{entries_view}
use Rattle.pb_machine.specs.Steps as flat
use Rattle.pb_flow.specs.declared.graph.Around.{Around}
use Rattle.pb_flow.specs.declared.graph.Move.{Move}
use Rattle.pb_flow.specs.declared.graph.Move.TheVariants.{Rescuing, Holding, Releasing}
use Rattle.pb_flow.specs.declared.graph.Target.{Target}
use Rattle.pb_flow.specs.declared.graph.Node.{Node}
use Rattle.pb_flow.specs.declared.graph.Visited.{Visited}
use Rattle.pb_flow.specs.declared.graph.Visited.TheVariants as visited

-- the conditions of blocks, the outermost first
abbrev pub conditions_after : Expressions → List BlockHead → Expressions
conditions_after es [] = es
conditions_after es (b ∷ bs) =
    conditions_after (append_expressions es (exprs_view b.when.items)) bs

-- the values of `vars`, the innermost first
abbrev pub scope_after : Parts → List BlockHead → Parts
scope_after ps [] = ps
scope_after ps (b ∷ bs) = scope_after (append_parts (entries_view b.vars.items) ps) bs

-- what stands round a task of a play with those `vars`
abbrev pub around_view : Registry → Parts → Around → Surroundings
around_view ms vars a = record {
  registry = ms;
  conditions = conditions_after no_expressions (map (λ b. b.now) a.blocks.items);
  scope = scope_after vars (map (λ b. b.now) a.blocks.items);
  ignores = a.ignores;
  rescued = a.rescued;
  depth = a.depth;
}

abbrev pub visited_view : Visited → TaskData
visited_view (visited.Gathering l) = gathering_task l
visited_view (visited.Task t) = task_view t.now

abbrev pub node_task : Registry → Parts → Node → Task
node_task ms vars n = task_at (around_view ms vars n.around.value) n.place (visited_view n.visited)

-- a node as the step of a flat plan
abbrev pub move_view : Move → flat.Move
move_view (Rescuing d) = flat.rescuing d
move_view (Holding m) = flat.holding m
move_view (Releasing m) = flat.releasing m

abbrev pub target_view : Target → flat.Target
target_view t = record { moves = map move_view t.moves.items; to = t.to }

abbrev pub node_step : Registry → Parts → Node → flat.Step
node_step ms vars n = record {
  task = node_task ms vars n;
  handler = n.handler;
  ok = target_view n.ok;
  failed = target_view n.failed;
}

-- a handler that wasn't notified is passed over, and where one fails the host leaves
abbrev pub node_links : Registry → Parts → ℕ → Node → List Link
node_links ms vars o n =
    let t = node_task ms vars n in
    cond (is_some n.handler) (link_to o t passes n.ok.to) []
    ++ (link_to o t goes n.ok.to ++ link_to o t fails n.failed.to)

-- the edges from nodes, the first of which has that number
abbrev pub nodes_links : Registry → Parts → ℕ → List Node → List Link
nodes_links ms vars o [] = []
nodes_links ms vars o (n ∷ ns) = node_links ms vars o n ++ nodes_links ms vars (suc o) ns

-- each task that is visited is sound, and facts are gathered at that line
abbrev pub IsVisitedSound : Registry → Option ℕ → Visited → Type 0
IsVisitedSound ms line (visited.Gathering l) = line ≡ Some l
IsVisitedSound ms line (visited.Task t) = IsSound ms t.now

abbrev pub AreVisitedSound : Registry → Option ℕ → List Node → Type 0
AreVisitedSound ms line ns = All (λ n. IsVisitedSound ms line n.visited) ns
