-- What becomes of what is known along the edges of a play.
use Rattle.std.proofs.Common.{◌≡◌, ◌∙◌, ℕ, zero, suc, ◌-◌, ◌<◌, List, Option, Some, None, get_or, length, slice_get, slice_index_or, refl, sym, ap, subst, arith}
use Rattle.std.proofs.lemmas.Option.{slice_get_read}
use Rattle.pb_language.specs.Judgement.{Exit, dead, live}
use Rattle.pb_language.specs.Links as links
use Rattle.pb_language.specs.Links.{fails, goes, led}
use Rattle.pb_language.specs.Ordered.{ExitLe, SpotLe}
use Rattle.pb_language.specs.Setting.{Setting}
use Rattle.pb_language.specs.Task.{Task}
use Rattle.pb_language.specs.Wells.{WellExit}
use Rattle.pb_language.proofs.Walks.{exit_own}
use Rattle.pb_lattice.specs.Graph.{edge_at}
use Rattle.pb_lattice.specs.declared.graph.Edge.{Edge}
use Rattle.pb_semantics.specs.Kind.{slot_at}
use Rattle.pb_transfer.specs.Written.{AreSame}
use Rattle.pb_flow.specs.Solved.{along_way}
use Rattle.pb_flow.specs.declared.flow.Way.{Way}
use Rattle.pb_flow.specs.declared.flow.Way.TheVariants.{Begins, Goes, Fails, Passes}
use Rattle.pb_route.specs.Station.{station_task}
use Rattle.pb_route.specs.declared.station.Station.{Station}
use Rattle.pb_route.specs.Routes.{ArePaths, Paths, node_step, path_step, task_step}

-- exits of which the same is known are below each other
pub same-below : (e f : Exit) → WellExit f → AreSame e f → ExitLe e f × ExitLe f e
same-below dead dead w h = (tt, tt)
same-below dead (live ts) w h = absurd (cc)
same-below (live ss) dead w h = absurd (cc)
same-below (live ss) (live ts) w h =
    let own = exit_own (live ts) w in (
      record { at = λ n. subst (λ s. SpotLe s (slot_at n ts)) (sym (h n)) (own.at n) },
      record { at = λ n. subst (λ s. SpotLe (slot_at n ts) s) (sym (h n)) (own.at n) },
    )

-- what goes along an edge goes up, and stays well formed
abbrev pub GoesUp : Setting → Type 0
GoesUp st = (t : Task) (w : links.Way) (e f : Exit) → WellExit e → WellExit f → ExitLe e f → ExitLe (led st t w e) (led st t w f)

abbrev pub StaysWell : Setting → Type 0
StaysWell st = (t : Task) (w : links.Way) (e : Exit) → WellExit e → WellExit (led st t w e)

-- where the edge of that number begins
abbrev pub source_at : List Edge → ℕ → ℕ
source_at es i = (edge_at (record { count = 0; edges = es }) i).source

module _ (st : Setting) (up : GoesUp st) where
  way-up : (t : Task) (w : Way) (e f : Exit) → WellExit e → WellExit f → ExitLe e f → ExitLe (along_way st t w e) (along_way st t w f)
  way-up t Begins e f a b h = h
  way-up t Goes e f a b h = up t goes e f a b h
  way-up t Fails e f a b h = up t fails e f a b h
  way-up t Passes e f a b h = h

  task-up : (s : Option Station) (w : Way) (e f : Exit) → WellExit e → WellExit f → ExitLe e f → ExitLe (task_step st s w e) (task_step st s w f)
  task-up None w e f a b h = h
  task-up (Some s) w e f a b h = way-up (station_task s) w e f a b h

  node-up : (ss : List Station) (n : ℕ) (w : Way) (e f : Exit) → WellExit e → WellExit f → ExitLe e f → ExitLe (node_step st ss n w e) (node_step st ss n w f)
  node-up ss zero w e f a b h = h
  node-up ss (suc k) w e f a b h = task-up (slice_get ss k) w e f a b h

  pub path-up : (r : Paths) (i : ℕ) (e f : Exit) → WellExit e → WellExit f → ExitLe e f → ExitLe (path_step st r i e) (path_step st r i f)
  path-up r i e f a b h = node-up r.stations (edge_at r.graph i).source (slice_index_or r.ways i Begins) e f a b h

module _ (st : Setting) (well : StaysWell st) where
  way-well : (t : Task) (w : Way) (e : Exit) → WellExit e → WellExit (along_way st t w e)
  way-well t Begins e a = a
  way-well t Goes e a = well t goes e a
  way-well t Fails e a = well t fails e a
  way-well t Passes e a = a

  task-well : (s : Option Station) (w : Way) (e : Exit) → WellExit e → WellExit (task_step st s w e)
  task-well None w e a = a
  task-well (Some s) w e a = way-well (station_task s) w e a

  node-well : (ss : List Station) (n : ℕ) (w : Way) (e : Exit) → WellExit e → WellExit (node_step st ss n w e)
  node-well ss zero w e a = a
  node-well ss (suc k) w e a = task-well (slice_get ss k) w e a

  pub path-well : (r : Paths) (i : ℕ) (e : Exit) → WellExit e → WellExit (path_step st r i e)
  path-well r i e a = node-well r.stations (edge_at r.graph i).source (slice_index_or r.ways i Begins) e a

  -- from a task what becomes of it in that way
  pub task-along : (r : Paths) (i : ℕ) (es : List Edge) (ws : List Way) (ss : List Station) (s : Station) (e f : Exit) → es ≡ r.graph.edges → ws ≡ r.ways → ss ≡ r.stations → WellExit e
      → let n = source_at es i in
      (n ≡ 0 → ⊥) → ArePaths r → i < length r.graph.edges → s ≡ get_or ss (n - 1) s
      → AreSame f (along_way st (station_task s) (slice_index_or ws i Begins) e) → ExitLe f (path_step st r i e) × ExitLe (path_step st r i e) f
  task-along r i es ws ss s e f a b d w z paths lt is h =
      let n = source_at es i in
      let k = n - 1 in
      let way = slice_index_or ws i Begins in
      let at : (edge_at r.graph i).source ≡ suc k = ap (λ xs. source_at xs i) (sym a) ∙ omega arith in
      let less : k < length ss = omega (arith, paths.sources i lt, at, ap length d) in
      let read : slice_get r.stations k ≡ Some s = ap (λ xs. slice_get xs k) (sym d) ∙ slice_get_read ss (length ss) k s refl less is in
      let along : path_step st r i e ≡ along_way st (station_task s) way e = ap (λ x. node_step st r.stations x (slice_index_or r.ways i Begins) e) at
      ∙ ap (λ o. task_step st o (slice_index_or r.ways i Begins) e) read ∙ ap (λ xs. along_way st (station_task s) (slice_index_or xs i Begins) e) (sym b) in
      subst (λ x. ExitLe f x × ExitLe x f) (sym along) (same-below f (along_way st (station_task s) way e) (way-well (station_task s) way e w) h)

-- from the start nothing becomes of it
pub start-along : (st : Setting) (r : Paths) (i : ℕ) (es : List Edge) (e : Exit) → es ≡ r.graph.edges → WellExit e → source_at es i ≡ 0
    → ExitLe e (path_step st r i e) × ExitLe (path_step st r i e) e
start-along st r i es e a w z =
    let own = exit_own e w in
    let at : (edge_at r.graph i).source ≡ 0 = ap (λ xs. source_at xs i) (sym a) ∙ z in
    let is : path_step st r i e ≡ e = ap (λ n. node_step st r.stations n (slice_index_or r.ways i Begins) e) at in
    (subst (ExitLe e) (sym is) own, subst (λ x. ExitLe x e) (sym is) own)
