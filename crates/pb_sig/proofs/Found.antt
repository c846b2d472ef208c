-- The module that a name finds has that name.
use Rattle.std.proofs.Common.{◌≡◌, ℕ, List, [], ◌∷◌, Bool, true, false, Option, Some, cond, refl, ap, sym, ◌∙◌}
use Rattle.std.specs.Str.{bytes_eq}
use Rattle.std.proofs.lemmas.Slice.Eq.{bytes_eq-Decides}
use Rattle.pb_semantics.specs.Signature.{ModuleData}
use Rattle.pb_sig.specs.Modules.{module_at}

same_name : (b : Bool) (k : ModuleData) (n : List ℕ) (rest : Option ModuleData) (m : ModuleData) → (b ≡ true → k.name ≡ n) → (rest ≡ Some m → m.name ≡ n) → cond b (Some k) rest ≡ Some m → m.name ≡ n
same_name true k n rest m here there e =
    let same : k ≡ m = cc in
    ap (λ (x : ModuleData). x.name) (sym same) ∙ here refl
same_name false k n rest m here there e = there e

pub module_at-name : (n : List ℕ) (ms : List ModuleData) (m : ModuleData) → module_at n ms ≡ Some m → m.name ≡ n
module_at-name n [] m e = (cc)
module_at-name n (k ∷ ms) m e = same_name (bytes_eq k.name n) k n (module_at n ms) m (bytes_eq-Decides k.name n).0 (module_at-name n ms m) e

pub module_at-own : (n : List ℕ) (ms : List ModuleData) (m : ModuleData) → module_at n ms ≡ Some m → module_at m.name ms ≡ Some m
module_at-own n ms m e = ap (λ k. module_at k ms) (module_at-name n ms m e) ∙ e
