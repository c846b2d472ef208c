-- What isn't read within isn't read without.
use Rattle.std.proofs.Common.{◌≡◌, Option, Some, None, Result}
use Rattle.std.proofs.lemmas.Result.{err_from_is_err_and}
use Rattle.std.specs.Result.{IsErrAnd}
use Rattle.pb_semantics.specs.Gives.{FaultGives, Gives}
use Rattle.pb_semantics.specs.Kind.{Spot, nowhere}
use Rattle.pb_sig.specs.Offences.{no_form, no_spot}
use Rattle.pb_sig.specs.declared.fault.FormFault.{FormFault}
use Rattle.pb_sig.specs.declared.fault.FormFault.TheVariants as form

none-both : {Y W : Type 0} (e : FormFault) (y : Option Y) (z : Option W) → FaultGives (no_form e) y → (y ≡ None → z ≡ None) → FaultGives (no_form e) z
none-both form.Form y z h k = k h
none-both form.NoMemory y z h k = tt

pub Gives-none : {Y Z W : Type 0} (g : Z → W) (r : Result Z FormFault) (e : FormFault) (y : Option Y) (z : Option W) → IsErrAnd r (λ d. d ≡ e) → FaultGives (no_form e) y → (y ≡ None → z ≡ None) → Gives (λ x. Some (g x)) no_form r z
Gives-none g r e y z is h k =
    let p = err_from_is_err_and r is in
    rw (p.1, p.2) (none-both e y z h k)

nowhere-both : {Y : Type 0} (e : FormFault) (y : Option Y) (s : Spot) → FaultGives (no_form e) y → (y ≡ None → s ≡ nowhere) → FaultGives (no_spot e) s
nowhere-both form.Form y s h k = k h
nowhere-both form.NoMemory y s h k = tt

pub Gives-nowhere : {Y Z : Type 0} (g : Z → Spot) (r : Result Z FormFault) (e : FormFault) (y : Option Y) (s : Spot) → IsErrAnd r (λ d. d ≡ e) → FaultGives (no_form e) y → (y ≡ None → s ≡ nowhere) → Gives g no_spot r s
Gives-nowhere g r e y s is h k =
    let p = err_from_is_err_and r is in
    rw (p.1, p.2) (nowhere-both e y s h k)

from_nowhere : {W : Type 0} (e : FormFault) (s : Spot) (z : Option W) → FaultGives (no_spot e) s → (s ≡ nowhere → z ≡ None) → FaultGives (no_form e) z
from_nowhere form.Form s z h k = k h
from_nowhere form.NoMemory s z h k = tt

pub Gives-unsaid : {Z W : Type 0} (g : Z → W) (r : Result Z FormFault) (e : FormFault) (s : Spot) (z : Option W) → IsErrAnd r (λ d. d ≡ e) → FaultGives (no_spot e) s → (s ≡ nowhere → z ≡ None) → Gives (λ x. Some (g x)) no_form r z
Gives-unsaid g r e s z is h k =
    let p = err_from_is_err_and r is in
    rw (p.1, p.2) (from_nowhere e s z h k)
