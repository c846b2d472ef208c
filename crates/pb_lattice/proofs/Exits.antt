-- What environments of one table mean, in order.
use Rattle.std.proofs.Common.{◌≡◌, ◌↔◌, ◌<◌, ℕ, nat_lt, List, length, Bool, true, Option, Some, None, IsTrue, refl, sym, ◌∙◌, arith}
use Rattle.std.proofs.lemmas.Bool.Decides.{nat_tests}
use Rattle.pb_semantics.proofs.Bools.{and-both, untrue}
use Rattle.pb_language.specs.Judgement.{Exit, dead, live}
use Rattle.pb_language.specs.Ordered.{SlotsLe, ExitLe}
use Rattle.pb_language.specs.Wells.{WellExit}
use Rattle.pb_language.proofs.Walks.{exit_own}
use Rattle.pb_lattice.specs.Trees.{Tree, fits, slots_over, tree_below, are_alike}
use Rattle.pb_lattice.specs.Arena.{tree_at, IsJoined}
use Rattle.pb_lattice.specs.Shared.{Shared}
use Rattle.pb_lattice.specs.Environments.{IsRooted, StandsAt, exit_at, Stands, exit_of, is_dead, is_over, is_over_at}
use Rattle.pb_lattice.specs.declared.environment.Environment.{Environment}
use Rattle.pb_lattice.specs.declared.tree.Node.{Node}
use Rattle.pb_lattice.proofs.TreeOrder.{fits_alike}
use Rattle.pb_lattice.proofs.SpotsOver.{slots_over_le, trees_below, slots_well, joined_least}

well_at : (s : Shared) (o : Option ℕ) → StandsAt s o → WellExit (exit_at s o)
well_at s None h = tt
well_at s (Some i) h = slots_well (tree_at s.nodes i) s.names h.ascending h.well

-- what stands is well formed
pub stands_well : (s : Shared) (e : Environment) → Stands s e → WellExit (exit_of s e)
stands_well s e h = well_at s e.root h

over_at : (s : Shared) (o : Option ℕ) → StandsAt s o → is_over_at s o ≡ true
over_at s None h = refl
over_at s (Some i) h =
    let inside : i < length s.nodes = h.within in
    let is_inside : nat_lt i (length s.nodes) ≡ true = grind (arith, nat_tests) in
    and-both (nat_lt i (length s.nodes)) (fits (tree_at s.nodes i) s.names) is_inside h.fitting

-- and is over the names
pub stands_over : (s : Shared) (e : Environment) → Stands s e → is_over s e ≡ true
stands_over s e h = over_at s e.root h

pub stands_own : (s : Shared) (e : Environment) → Stands s e → ExitLe (exit_of s e) (exit_of s e)
stands_own s e h = exit_own (exit_of s e) (stands_well s e h)

pub from_none : (s : Shared) (e : Environment) (x : Exit) → e.root ≡ None → ExitLe (exit_of s e) x
from_none s e x h = rw h tt

-- of two that stand somewhere
module _ (s : Shared) (e f : Environment) (i j : ℕ) (first : e.root ≡ Some i) (second : f.root ≡ Some j) (stands : Stands s e) (other : Stands s f) where
  low : IsRooted s i
  low = rw first at stands

  high : IsRooted s j
  high = rw second at other

  abbrev t : Tree
  t = tree_at s.nodes i

  abbrev u : Tree
  u = tree_at s.nodes j

  pub below_exits : (b : Bool) → b ≡ tree_below t u → IsTrue b ↔ ExitLe (exit_of s e) (exit_of s f)
  below_exits b told = (
    λ h. rw (first, second) (slots_over_le t u s.names low.ascending (sym told ∙ h)),
    λ h. let le : SlotsLe (slots_over t s.names) (slots_over u s.names) = rw (first, second) at h in
        told ∙ trees_below t u s.names low.ascending low.fitting high.fitting (λ n. le.at n),
  )

  pub alike_roots : are_alike t u ≡ true
  alike_roots = fits_alike t u s.names low.fitting high.fitting

  pub above_exits : (ms : List Node) (k : ℕ) → IsJoined t u ms k → ExitLe (exit_of s e) (live (slots_over (tree_at ms k) s.names)) × ExitLe (exit_of s f) (live (slots_over (tree_at ms k) s.names))
  above_exits ms k is = (rw first (slots_over_le t (tree_at ms k) s.names low.ascending is.joins.first), rw second (slots_over_le u (tree_at ms k) s.names low.ascending is.joins.second))

  pub least_exits : (ms : List Node) (k : ℕ) → IsJoined t u ms k → (x : Exit) → WellExit x → ExitLe (exit_of s e) x → ExitLe (exit_of s f) x → ExitLe (live (slots_over (tree_at ms k) s.names)) x
  least_exits ms k is x w g h = joined_least t u (tree_at ms k) s.names low.ascending alike_roots low.well high.well is.well is.joins.least x w (rw first at g) (rw second at h)

-- what no way leads to is the lowest
pub dead_lowest : (e x : Exit) → is_dead e ≡ true → ExitLe e x
dead_lowest dead x h = tt
dead_lowest (live ss) x h = untrue h
