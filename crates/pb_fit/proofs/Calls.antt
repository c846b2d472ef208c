-- The module that is called, and the first fault of its arguments.
use Rattle.std.proofs.Common.{◌≡◌, List, [], ◌∷◌, Bool, true, false, cond, bytes_eq, Option, Some, refl, sym, ap, ◌∙◌}
use Rattle.pb_semantics.specs.Signature.{ModuleData}
use Rattle.pb_semantics.proofs.Bools.{and-both, untrue}
use Rattle.pb_semantics.proofs.Names.{same_name, own_name}
use Rattle.pb_language.specs.Cases.{is_lawful_shape}
use Rattle.pb_language.specs.Expression.{Name, Parts}
use Rattle.pb_language.specs.Fit.{asks, first, malformed}
use Rattle.pb_language.specs.Judgement.{action_fault, arguments_fault, is_lawful}
use Rattle.pb_language.specs.Plays.{module_named}
use Rattle.pb_language.specs.Scope.{Scope}
use Rattle.pb_language.specs.Task.{call_of}
use Rattle.pb_language.specs.TaskForm.{module_at}
use Rattle.pb_kind.specs.KindView.{kind_view}
use Rattle.pb_sig.specs.ModuleView.{known_view}
use Rattle.pb_sig.specs.declared.registry.Known.{Known}
use Rattle.pb_sig.specs.declared.registry.Known.TheVariants as known

turned : (n m : Name) → bytes_eq n m ≡ true → bytes_eq m n ≡ true
turned n m h = ap (λ k. bytes_eq m k) (same_name n m h) ∙ own_name m

found_step : (q r : Bool) (k m named : ModuleData) (rest : Option ModuleData) → (q ≡ true → r ≡ true) → (r ≡ true → q ≡ true) → (rest ≡ Some m → named ≡ m)
    → cond q (Some k) rest ≡ Some m → cond r k named ≡ m
found_step true true k m named rest x y there h = (cc)
found_step true false k m named rest x y there h = untrue (x refl)
found_step false true k m named rest x y there h = untrue (y refl)
found_step false false k m named rest x y there h = there h

-- the module of that name is the one that is found by it
module_named-found : (n : Name) (ms : List ModuleData) (m : ModuleData) → module_at n ms ≡ Some m → module_named n ms ≡ m
module_named-found n [] m h = (cc)
module_named-found n (k ∷ ms) m h =
    found_step (bytes_eq k.name n) (bytes_eq n k.name) k m (module_named n ms) (module_at n ms) (turned k.name n) (turned n k.name) (module_named-found n ms m) h

-- each module keeps the laws
is_lawful-known : (k : Known) → is_lawful (known_view k) ≡ true
is_lawful-known (known.Builtin m) = and-both (is_lawful_shape (kind_view m.ok)) (is_lawful_shape (kind_view m.failure)) m.lawful_ok m.lawful_failure
is_lawful-known (known.Declared m) = m.lawful.lawful

-- so a call of it is asked its arguments alone
pub action_fault-call : (c : Scope) (ms : List ModuleData) (k : Known) (ps : Parts) → module_at (known_view k).name ms ≡ Some (known_view k)
    → arguments_fault c (known_view k).params ps ≡ action_fault c (call_of (module_named (known_view k).name ms) ps)
action_fault-call c ms k ps found =
    let m = known_view k in
    sym (ap (λ (x : ModuleData). action_fault c (call_of x ps)) (module_named-found m.name ms m found) ∙ ap (λ q. first (asks malformed q) (arguments_fault c m.params ps)) (is_lawful-known k))
