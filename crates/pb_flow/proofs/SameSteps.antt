-- What goes along the edges of nodes is what goes along those of the row.
use Rattle.std.proofs.Common.{◌≡◌, ℕ, suc, List, [], ◌∷◌, ◌++◌, Bool, true, false, cond, map, slice_index_or, Option, Some, None, refl, sym, ap, ◌∙◌, is_some}
use Rattle.std.proofs.lemmas.List.{map-append}
use Rattle.pb_language.specs.Book.{Registry}
use Rattle.pb_language.specs.Expression.{Parts}
use Rattle.pb_language.specs.Judgement.{Exit}
use Rattle.pb_language.specs.Links.{Link, Way, goes, fails, passes, led, link_to}
use Rattle.pb_language.specs.Setting.{Setting}
use Rattle.pb_language.specs.Task.{Task, Row}
use Rattle.pb_flow.specs.Flow.{begins_at, row_links}
use Rattle.pb_flow.specs.Nodes.{node_links, node_task, nodes_links}
use Rattle.pb_flow.specs.Solved.{begin_steps, flow_steps, node_steps, nodes_steps, row_step, step_to}
use Rattle.pb_flow.specs.declared.graph.Node.{Node}

module _ (st : Setting) where
  abbrev step_of : Link → Exit → Exit
  step_of l = led st l.by l.way

  one-step : (o : ℕ) (t : Task) (w : Way) (n : Option ℕ) → map step_of (link_to o t w n) ≡ step_to (led st t w) n
  one-step o t w None = refl
  one-step o t w (Some n) = refl

  passing-step : (b : Bool) (o : ℕ) (t : Task) (n : Option ℕ) → map step_of (cond b (link_to o t passes n) []) ≡ cond b (step_to (led st t passes) n) []
  passing-step true o t n = one-step o t passes n
  passing-step false o t n = refl

  one-node : (ms : Registry) (vars : Parts) (o : ℕ) (n : Node) → map step_of (node_links ms vars o n) ≡ node_steps st (node_task ms vars n) n
  one-node ms vars o n =
      let t = node_task ms vars n in
      let over = cond (is_some n.handler) (link_to o t passes n.ok.to) [] in
      let goes-on = link_to o t goes n.ok.to in
      let fails-at = link_to o t fails n.failed.to in
      map-append step_of over (goes-on ++ fails-at) ∙ ap (λ es. map step_of over ++ es) (map-append step_of goes-on fails-at)
      ∙ rw (passing-step (is_some n.handler) o t n.ok.to, one-step o t goes n.ok.to, one-step o t fails n.failed.to) refl

  all-nodes : (ms : Registry) (vars : Parts) (o : ℕ) (ns : List Node) → map step_of (nodes_links ms vars o ns) ≡ nodes_steps st ms vars ns
  all-nodes ms vars o [] = refl
  all-nodes ms vars o (n ∷ ns) =
      map-append step_of (node_links ms vars o n) (nodes_links ms vars (suc o) ns)
      ∙ rw (one-node ms vars o n, all-nodes ms vars (suc o) ns) refl

pub same-steps : (st : Setting) (ms : Registry) (vars : Parts) (row : Row) (begin : Option ℕ) (ns : List Node) → begin ≡ begins_at row → nodes_links ms vars 1 ns ≡ row_links row → (i : ℕ)
    → slice_index_or (flow_steps st ms vars begin ns) i (λ e. e) ≡ row_step st row i
same-steps st ms vars row begin ns b l i =
    let steps : nodes_steps st ms vars ns ≡ map (λ x. led st x.by x.way) (row_links row) = sym (all-nodes st ms vars 1 ns) ∙ ap (map (λ (x : Link). led st x.by x.way)) l in
    ap (λ o. slice_index_or (begin_steps o ++ nodes_steps st ms vars ns) i (λ e. e)) b ∙ ap (λ xs. slice_index_or (begin_steps (begins_at row) ++ xs) i (λ e. e)) steps
