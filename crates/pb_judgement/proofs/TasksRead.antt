-- What a task stands for does what is read of it.
use Rattle.std.proofs.Common.{◌≡◌, ℕ, List, [], ◌∷◌, Bool, true, false, cond, bytes_eq, Option, Some, refl, ap, ◌∙◌}
use Rattle.pb_semantics.specs.Signature.{ModuleData}
use Rattle.pb_semantics.proofs.Bools.{untrue}
use Rattle.pb_semantics.proofs.Names.{same_name, own_name}
use Rattle.pb_language.specs.Book.{Registry}
use Rattle.pb_language.specs.Cases.{action_name, answered_cases}
use Rattle.pb_language.specs.Expression.{Expression, Name, Parts, no_parts}
use Rattle.pb_language.specs.Plays.{action_of, module_named}
use Rattle.pb_language.specs.Task.{call_of}
use Rattle.pb_language.specs.TaskForm.{module_at}
use Rattle.pb_sig.specs.ModuleView.{known_view}
use Rattle.pb_task.specs.Tasks.{Resolves, work_view}
use Rattle.pb_task.specs.declared.task.Work.{Work}
use Rattle.pb_task.specs.declared.task.Work.TheVariants.{Module, Debug, SetFact, Assert, Fail}
use Rattle.pb_judgement.specs.Ends.{doing}

turned : (n m : List ℕ) → bytes_eq n m ≡ true → bytes_eq m n ≡ true
turned n m h = ap (λ k. bytes_eq m k) (same_name n m h) ∙ own_name m

found_step : (q r : Bool) (k m named : ModuleData) (rest : Option ModuleData) → (q ≡ true → r ≡ true) → (r ≡ true → q ≡ true) → (rest ≡ Some m → named ≡ m)
    → cond q (Some k) rest ≡ Some m → cond r k named ≡ m
found_step true true k m named rest x y there h = (cc)
found_step true false k m named rest x y there h = untrue (x refl)
found_step false true k m named rest x y there h = untrue (y refl)
found_step false false k m named rest x y there h = there h

module_named-found : (n : List ℕ) (ms : List ModuleData) (m : ModuleData) → module_at n ms ≡ Some m → module_named n ms ≡ m
module_named-found n [] m h = (cc)
module_named-found n (k ∷ ms) m h =
    found_step (bytes_eq k.name n) (bytes_eq n k.name) k m (module_named n ms) (module_at n ms) (turned k.name n) (turned n k.name) (module_named-found n ms m) h

pub answers_as : (ms : Registry) (f : Name → Option Expression) (w : Work) (ps : Parts) → Resolves ms w → answered_cases (action_of ms f (work_view w ps)) ≡ answered_cases (doing w)
answers_as ms f (Module m) ps h = ap (λ (k : ModuleData). answered_cases (call_of k no_parts)) (module_named-found (known_view m.value).name ms (known_view m.value) h)
answers_as ms f Debug ps h = refl
answers_as ms f SetFact ps h = refl
answers_as ms f (Assert a) ps h = refl
answers_as ms f Fail ps h = refl

pub named_as : (ms : Registry) (f : Name → Option Expression) (w : Work) (ps : Parts) → Resolves ms w → action_name (action_of ms f (work_view w ps)) ≡ action_name (doing w)
named_as ms f (Module m) ps h = ap (λ (k : ModuleData). k.name) (module_named-found (known_view m.value).name ms (known_view m.value) h)
named_as ms f Debug ps h = refl
named_as ms f SetFact ps h = refl
named_as ms f (Assert a) ps h = refl
named_as ms f Fail ps h = refl
