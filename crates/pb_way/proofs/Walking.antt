-- The least solution along a play's paths is the walk of its row.
use Rattle.std.proofs.Common.{◌<◌, ◌≤◌, ℕ, suc, ◌+◌, refl, sym, ap, subst, arith}
use Rattle.pb_language.specs.Judgement.{Exit}
use Rattle.pb_language.specs.Links.{flush_at, handler_places, size, values_at}
use Rattle.pb_language.specs.Nodes.{WellFlush, WellValues}
use Rattle.pb_language.specs.Ordered.{ExitLe, SettingLe}
use Rattle.pb_language.specs.Scope.{view_of}
use Rattle.pb_language.specs.Setting.{Setting}
use Rattle.pb_language.specs.Task.{Handlers, no_handlers, handler, Row, end, task, flush, section, block}
use Rattle.pb_language.specs.Walk.{walk}
use Rattle.pb_language.specs.Wells.{WellExit, WellViews}
use Rattle.pb_language.proofs.Spots.{slots_le}
use Rattle.pb_language.proofs.Walks.{exit_own}
use Rattle.pb_lattice.specs.Graph.{Graph, edge_at}
use Rattle.pb_lattice.specs.Solution.{Covers}
use Rattle.pb_semantics.proofs.Order.{own_below}
use Rattle.pb_semantics.specs.Kind.{recs}
use Rattle.pb_flow.specs.Flow.{end_node}
use Rattle.pb_flow.specs.Solved.{SolutionIsWalk, row_graph, row_step}
use Rattle.pb_walks.specs.Agree.{AllVisitsAgree, SettingsAgree}
use Rattle.pb_walks.specs.Laws.{ValuesAreVisits}
use Rattle.pb_route.specs.Routes.{ArePathsOf, Paths, path_step}
use Rattle.pb_route.specs.Visited.{NodesAreVisits}
use Rattle.pb_way.specs.Walks.{IsWalk}

-- a setting agrees with itself
own-setting : (st : Setting) → WellViews st.views → SettingsAgree st st
own-setting st w =
    let own : SettingLe st st = record { same = refl; views = λ g. slots_le (view_of g st.views) (view_of g st.views) (own_below (recs (view_of g st.views)) (w g)); hosts = λ g. refl; laters = λ p g x. refl } in
    record { first = own; second = own; well = w; well_too = w }

-- the values at a row's nodes are well formed
module _ (val : ℕ → Exit) (wells : (n : ℕ) → WellExit (val n)) where
  flush-wells : (hs : Handlers) (o : ℕ) → WellFlush hs (flush_at val hs o)
  flush-wells no_handlers o = tt
  flush-wells (handler n t hs) o = (wells o, flush-wells hs (suc o))

  row-wells : (row : Row) (o : ℕ) → WellValues row (values_at val row o)
  row-wells end o = tt
  row-wells (task t row) o = (wells o, row-wells row (suc o))
  row-wells (flush hs row) o = (flush-wells hs o, row-wells row (o + handler_places hs))
  row-wells (section body hs row) o =
      let a = o + size body in
      let f = a + handler_places hs in
      (row-wells body o, flush-wells hs a, flush-wells hs f, row-wells row (f + handler_places hs))
  row-wells (block d body saves rescued always row) o =
      let r = o + size body in
      let a = r + size rescued in
      let f = a + size always in
      (row-wells body o, row-wells rescued r, row-wells always a, row-wells always f, row-wells row (f + size always))

module _ (st : Setting) (r : Paths) (row : Row) (of : ArePathsOf row r) where
  -- what covers along the paths covers along the row's edges
  to-row : (e : Exit) (w : ℕ → Exit) → Covers WellExit ExitLe (path_step st r) r.graph e w → Covers WellExit ExitLe (row_step st row) (row_graph row) e w
  to-row e w c =
      let along : Covers WellExit ExitLe (row_step st row) r.graph e w = record {
        wells = c.wells;
        entered = c.entered;
        covered = λ i lt. subst (λ (f : Exit → Exit). ExitLe (f (w (edge_at r.graph i).source)) (w (edge_at r.graph i).target)) (of.steps st i lt) (c.covered i lt);
      } in
      subst (λ (g : Graph). Covers WellExit ExitLe (row_step st row) g e w) of.graph along

  from-row : (e : Exit) (w : ℕ → Exit) → Covers WellExit ExitLe (row_step st row) (row_graph row) e w → Covers WellExit ExitLe (path_step st r) r.graph e w
  from-row e w c =
      let along = subst (λ (g : Graph). Covers WellExit ExitLe (row_step st row) g e w) (sym of.graph) c in
      record {
        wells = along.wells;
        entered = along.entered;
        covered = λ i lt. subst (λ (f : Exit → Exit). ExitLe (f (w (edge_at r.graph i).source)) (w (edge_at r.graph i).target)) (sym (of.steps st i lt)) (along.covered i lt);
      }

  inside : (n : ℕ) → n ≤ end_node row → n < r.graph.count
  inside n le = omega (arith, ap (λ (g : Graph). g.count) of.graph)

  pub path-walk : (e : Exit) (val : ℕ → Exit) → WellViews st.views → WellExit e → ((n : ℕ) → WellExit (val n)) → Covers WellExit ExitLe (path_step st r) r.graph e val
      → ((w : ℕ → Exit) → Covers WellExit ExitLe (path_step st r) r.graph e w → (n : ℕ) → n < r.graph.count → ExitLe (val n) (w n)) → SolutionIsWalk → ValuesAreVisits → NodesAreVisits → IsWalk st row e val
  path-walk e val views well wells covers least solved visited nodes =
      let found = solved st row e val views well (to-row e val covers) (λ w c n le. least w (from-row e w c) n (inside n le)) in
      let own = exit_own e well in
      record {
        visits = subst (λ vs. AllVisitsAgree vs (walk st row e).visits) (nodes st row val 1)
            (visited st st row e e (values_at val row 1) (own-setting st views) well well (own, own) (row-wells val wells row 1) found.1 found.0);
        ends = (found.3, found.2);
        wells = λ n le. wells n;
      }
