-- Marks of what is lost between two environments of a table.
use Rattle.std.proofs.Common.{◌≡◌, ℕ, List, length, true, Some, None, refl, sym, subst, ◌∙◌}
use Rattle.pb_language.specs.Judgement.{Exit, dead, live}
use Rattle.pb_lattice.specs.Arena.{tree_at}
use Rattle.pb_lattice.specs.Environments.{Stands, StandsAt, exit_of}
use Rattle.pb_lattice.specs.Lost.{lost_marks}
use Rattle.pb_lattice.specs.Shared.{Shared}
use Rattle.pb_lattice.specs.Trees.{Tree, bare, fits, slots_over}
use Rattle.pb_lattice.specs.declared.environment.Environment.{Environment}
use Rattle.pb_lattice.proofs.LostMarks.{Marks, none_lost, same_marks}

pub lost_there : (s : Shared) (e f : Environment) (i j m : ℕ) (ks new : List ℕ) → e.root ≡ Some i → f.root ≡ Some j → Stands s e → Stands s f → length ks ≡ length s.names
    → Marks m (tree_at s.nodes i) (tree_at s.nodes j) ks new → new ≡ lost_marks m (exit_of s e) (exit_of s f) s.names ks
lost_there s e f i j m ks new x y a b h marks =
    let low = subst (StandsAt s) x a in
    let high = subst (StandsAt s) y b in
    rw (x, y) (marks s.names low.ascending (sym h) low.fitting high.fitting)

-- where no way leads afterwards all is lost, as where nothing is known
pub all_lost : (s : Shared) (e f : Environment) (i j m : ℕ) (ks new : List ℕ) → e.root ≡ Some i → f.root ≡ None → tree_at s.nodes j ≡ bare → Stands s e → length ks ≡ length s.names
    → Marks m (tree_at s.nodes i) (tree_at s.nodes j) ks new → new ≡ lost_marks m (exit_of s e) (exit_of s f) s.names ks
all_lost s e f i j m ks new x y z a h marks =
    let low = subst (StandsAt s) x a in
    let is = marks s.names low.ascending (sym h) low.fitting (subst (λ (t : Tree). fits t s.names ≡ true) (sym z) refl) in
    let known = live (slots_over (tree_at s.nodes i) s.names) in
    rw (x, y) (is ∙ same_marks m known (live (slots_over (tree_at s.nodes j) s.names)) known dead s.names ks (λ n k. refl) (λ n k. rw (z) refl))

-- where none led before nothing is lost
pub none_there : (s : Shared) (e : Environment) (f : Exit) (m : ℕ) (ks : List ℕ) → e.root ≡ None → length ks ≡ length s.names → ks ≡ lost_marks m (exit_of s e) f s.names ks
none_there s e f m ks x h = rw (x) (sym (none_lost m dead f s.names ks (λ n. refl) (sym h)))
