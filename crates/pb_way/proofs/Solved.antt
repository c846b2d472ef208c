-- The solution for what is known in a table is one for what is known.
use Rattle.std.proofs.Common.{◌≡◌, ◌∙◌, ◌<◌, ℕ, zero, suc, List, [], ◌∷◌, Result, Ok, Err, IfOk, get_or, map, slice_index_or, sym, ap, subst}
use Rattle.std.proofs.Math.ListN.{get_or-map}
use Rattle.std.proofs.lemmas.List.Elements.{All-cons, All-head, All-nil, All-tail}
use Rattle.std.specs.List.{All}
use Rattle.pb_language.specs.Judgement.{Exit}
use Rattle.pb_language.specs.Ordered.{ExitLe}
use Rattle.pb_language.specs.Setting.{Setting}
use Rattle.pb_language.specs.Task.{Row}
use Rattle.pb_language.specs.Wells.{WellExit, WellViews}
use Rattle.pb_lattice.specs.Environments.{IsKept, Stands, exit_of}
use Rattle.pb_lattice.specs.Graph.{Graph, edge_at}
use Rattle.pb_lattice.specs.Shared.{Shared}
use Rattle.pb_lattice.specs.Solution.{Covers}
use Rattle.pb_lattice.specs.declared.environment.Environment.{Environment}
use Rattle.pb_lattice.proofs.Exits.{stands_well}
use Rattle.pb_flow.specs.Solved.{SolutionIsWalk}
use Rattle.pb_walks.specs.Laws.{ValuesAreVisits}
use Rattle.pb_route.specs.Routes.{ArePathsOf, Paths, path_step}
use Rattle.pb_way.specs.Tabled.{Known, known_in}
use Rattle.pb_route.specs.Visited.{NodesAreVisits}
use Rattle.pb_way.specs.Walks.{IsWalk}
use Rattle.pb_route.proofs.Stations.{if-ok}
use Rattle.pb_way.proofs.Walking.{path-walk}

-- as of the values in a table
abbrev pub KnownCovers : (ℕ → Exit → Exit) → Graph → Known → (ℕ → Known) → Type 0
KnownCovers step g e w = Covers (λ (k : Known). WellExit k.exit) (λ (k m : Known). ExitLe k.exit m.exit) (λ i (k : Known). record k { exit = step i k.exit }) g e w

module _ (step : ℕ → Exit → Exit) (g : Graph) where
  plain-covers : (entry : Known) (e : Exit) (k : ℕ → Known) (val : ℕ → Exit) → entry.exit ≡ e → ((n : ℕ) → (k n).exit ≡ val n) → KnownCovers step g entry k → Covers WellExit ExitLe step g e val
  plain-covers entry e k val is same c = record {
    wells = λ n lt. subst WellExit (same n) (c.wells n lt);
    entered = subst (λ x. ExitLe x (val 0)) is (subst (λ x. ExitLe entry.exit x) (same 0) c.entered);
    covered = λ i lt.
        subst (λ x. ExitLe (step i x) (val (edge_at g i).target)) (same (edge_at g i).source)
        (subst (λ x. ExitLe (step i (k (edge_at g i).source).exit) x) (same (edge_at g i).target) (c.covered i lt));
  }

  known-covers : (entry : Known) (e : Exit) (w : ℕ → Exit) → entry.exit ≡ e → Covers WellExit ExitLe step g e w → KnownCovers step g entry (λ n. record { exit = w n; names = [] })
  known-covers entry e w is c = record {
    wells = c.wells;
    entered = subst (λ x. ExitLe x (w 0)) (sym is) c.entered;
    covered = c.covered;
  }

-- what stands stands behind its own map too
module _ (V : Type 0) (at : V → Environment) (s : Shared) where
  pub stand-all : (xs : List V) → All (λ x. Stands s (at x)) xs → All (Stands s) (map at xs)
  stand-all [] h = All-nil (Stands s)
  stand-all (x ∷ xs) h = All-cons (Stands s) (at x) (map at xs) (All-head (λ y. Stands s (at y)) x xs h) (stand-all xs (All-tail (λ y. Stands s (at y)) x xs h))

  -- also past the last, where the entry stands
  stand-each : (xs : List V) (d : V) → Stands s (at d) → All (λ x. Stands s (at x)) xs → (n : ℕ) → Stands s (at (slice_index_or xs n d))
  stand-each [] d e h n = e
  stand-each (x ∷ xs) d e h zero = All-head (λ y. Stands s (at y)) x xs h
  stand-each (x ∷ xs) d e h (suc n) = stand-each xs d e (All-tail (λ y. Stands s (at y)) x xs h) n

pub solved-walk : (st : Setting) (r : Paths) (row : Row) (g : Graph) (old new : Shared) (entry : Environment) (V : Type 0) (at : V → Environment) (start : V) (xs : List V) (es : List Environment)
    → ArePathsOf row r → at start ≡ entry → es ≡ map at xs → g ≡ r.graph → Stands old entry → IsKept old new → All (λ x. Stands new (at x)) xs
    → KnownCovers (path_step st r) g (known_in old (at start)) (λ n. known_in new (at (slice_index_or xs n start)))
    → ((w : ℕ → Known) → KnownCovers (path_step st r) g (known_in old (at start)) w → (n : ℕ) → n < g.count → ExitLe (exit_of new (at (slice_index_or xs n start))) (w n).exit)
    → WellViews st.views → SolutionIsWalk → ValuesAreVisits → NodesAreVisits → IsWalk st row (exit_of old entry) (λ n. exit_of new (slice_index_or es n entry))
solved-walk st r row g old new entry V at start xs es of begun made shape stands kept all covers least views solved visited nodes =
    let step = path_step st r in
    let val : ℕ → Exit = λ n. exit_of new (slice_index_or es n entry) in
    let read : (n : ℕ) → at (slice_index_or xs n start) ≡ slice_index_or es n entry = λ n.
    sym (get_or-map at xs n start) ∙ ap (λ x. get_or (map at xs) n x) begun ∙ ap (λ ys. get_or ys n entry) (sym made) in
    let same : (n : ℕ) → exit_of new (at (slice_index_or xs n start)) ≡ val n = λ n. ap (exit_of new) (read n) in
    let is : exit_of old (at start) ≡ exit_of old entry = ap (exit_of old) begun in
    let well : WellExit (exit_of old entry) = stands_well old entry stands in
    let there : Stands new (at start) = subst (Stands new) (sym begun) (kept.stays entry stands).0 in
    let wells : (n : ℕ) → WellExit (val n) = λ n. subst WellExit (same n) (stands_well new (at (slice_index_or xs n start)) (stand-each V at new xs start there all n)) in
    let first : Covers WellExit ExitLe step g (exit_of old entry) val =
    plain-covers step g (known_in old (at start)) (exit_of old entry) (λ n. known_in new (at (slice_index_or xs n start))) val is same covers in
    let lowest : (w : ℕ → Exit) → Covers WellExit ExitLe step g (exit_of old entry) w → (n : ℕ) → n < g.count → ExitLe (val n) (w n) = λ w c n lt.
    subst (λ x. ExitLe x (w n)) (same n) (least (λ k. record { exit = w k; names = [] }) (known-covers step g (known_in old (at start)) (exit_of old entry) w is c) n lt) in
    path-walk st r row of (exit_of old entry) val views well wells
    (subst (λ (h : Graph). Covers WellExit ExitLe step h (exit_of old entry) val) shape first)
    (subst (λ (h : Graph). (w : ℕ → Exit) → Covers WellExit ExitLe step h (exit_of old entry) w → (n : ℕ) → n < h.count → ExitLe (val n) (w n)) shape lowest)
    solved visited nodes
