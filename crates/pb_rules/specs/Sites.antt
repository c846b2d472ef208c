-- What the lines of a book stand for, each with what stands round it.
use Rattle.std.specs.Prelude.{◌≡◌, List, [], ◌∷◌, ◌++◌, map, Option, Some, None}
use Rattle.pb_language.specs.Book.{Registry, Steps}
use Rattle.pb_language.specs.Expression.{Expressions, no_expressions, Parts, no_parts}
use Rattle.pb_language.specs.Plays.{append_expressions}
use Rattle.pb_language.specs.Sites as language
use Rattle.pb_language.specs.Sites.{a_block, a_flush, a_handler, a_play, a_task, site, sites_in}
use Rattle.pb_language.specs.Sites.{the_gathering}
use Rattle.pb_play.specs.Plays.{play_view}
use Rattle.pb_play.specs.Sound.{as_list}
use Rattle.pb_flow.specs.Nodes.{conditions_after, scope_after}
use Rattle.pb_syntax.specs.ExprView.{exprs_view}
use Rattle.pb_task.specs.Tasks.{IsResolved, task_view}
use Rattle.pb_task.specs.declared.task.Task.{Task}
use Rattle.pb_template.specs.Entries.{entries_view}
use Rattle.pb_rules.specs.declared.site.Around.{Around}
use Rattle.pb_rules.specs.declared.site.Site.{Site}
use Rattle.pb_rules.specs.declared.site.Thing.{Thing}
use Rattle.pb_rules.specs.declared.site.Thing.TheVariants as thing

-- the conditions of the blocks round steps, and the values of `vars` in scope there
abbrev pub conditions_round : Around → Expressions
conditions_round a = conditions_after no_expressions (map (λ b. b.now) a.blocks.items)

abbrev pub scope_round : Around → Parts
scope_round a =
    scope_after (entries_view a.play.now.vars.items) (map (λ b. b.now) a.blocks.items)

abbrev pub site_in : Around → Thing → language.Site
site_in a thing.Play = site (play_view a.play.now) no_expressions no_parts a.play.now.line a_play
    (entries_view a.play.now.vars.items)
site_in a (thing.Block h) = site (play_view a.play.now) (conditions_round a) (scope_round a)
    h.now.line a_block (entries_view h.now.vars.items)
site_in a (thing.Flush l) =
    site (play_view a.play.now) (conditions_round a) (scope_round a) l a_flush no_parts
site_in a (thing.Gathering l) =
    site (play_view a.play.now) (conditions_round a) (scope_round a) l the_gathering no_parts
site_in a (thing.Task t) = site (play_view a.play.now)
    (append_expressions (conditions_round a) (exprs_view t.now.when.items)) (scope_round a)
    t.now.line (a_task (task_view t.now)) (entries_view t.now.vars.items)
site_in a (thing.Handler i t) = site (play_view a.play.now)
    (append_expressions (conditions_round a) (exprs_view t.now.when.items)) (scope_round a)
    t.now.line (a_handler i (task_view t.now)) (entries_view t.now.vars.items)

abbrev pub site_view : Site → language.Site
site_view s = site_in s.around.value s.thing

-- the task or handler that stands there
abbrev pub task_of : Thing → Option Task
task_of (thing.Task t) = Some t.now
task_of (thing.Handler i t) = Some t.now
task_of x = None

abbrev pub task_list : Thing → List Task
task_list x = as_list (task_of x)

abbrev pub tasks_at : List Site → List Task
tasks_at [] = []
tasks_at (s ∷ ss) = task_list s.thing ++ tasks_at ss

abbrev pub IsResolvedThere : Registry → Option Task → Type 0
IsResolvedThere ms None = Unit {0}
IsResolvedThere ms (Some t) = IsResolved ms t

-- the lines of steps
abbrev pub sites_round : Around → Steps → List language.Site
sites_round a ss = sites_in (play_view a.play.now) (conditions_round a) (scope_round a) ss

-- these lines and tasks were put behind others
pub record ArePut (old new : List Site) (ls : List language.Site) (ts : List Task) : Type 0 where
  pub lines : map site_view new ≡ map site_view old ++ ls
  pub tasks : tasks_at new ≡ tasks_at old ++ ts
