-- The module that a name finds is the one of that name.
use Rattle.std.proofs.Common.{◌≡◌, List, [], ◌∷◌, Bool, true, false, cond, bytes_eq, Option, Some, refl, ap, ◌∙◌}
use Rattle.pb_semantics.proofs.Bools.{untrue}
use Rattle.pb_semantics.proofs.Names.{own_name, same_name}
use Rattle.pb_semantics.specs.Signature.{ModuleData}
use Rattle.pb_language.specs.Expression.{Name}
use Rattle.pb_language.specs.Plays.{module_named}
use Rattle.pb_language.specs.TaskForm.{module_at}

turned : (n m : Name) → bytes_eq n m ≡ true → bytes_eq m n ≡ true
turned n m h = ap (λ k. bytes_eq m k) (same_name n m h) ∙ own_name m

one-step : (q r : Bool) (k m named : ModuleData) (rest : Option ModuleData) → (q ≡ true → r ≡ true) → (r ≡ true → q ≡ true) → (rest ≡ Some m → named ≡ m)
    → cond q (Some k) rest ≡ Some m → cond r k named ≡ m
one-step true true k m named rest x y there h = (cc)
one-step true false k m named rest x y there h = untrue (x refl)
one-step false true k m named rest x y there h = untrue (y refl)
one-step false false k m named rest x y there h = there h

pub named-found : (n : Name) (ms : List ModuleData) (m : ModuleData) → module_at n ms ≡ Some m → module_named n ms ≡ m
named-found n [] m h = (cc)
named-found n (k ∷ ms) m h =
    one-step (bytes_eq k.name n) (bytes_eq n k.name) k m (module_named n ms) (module_at n ms) (turned k.name n) (turned n k.name) (named-found n ms m) h
