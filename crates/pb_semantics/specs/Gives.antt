-- What a call gives: what its definition says, want of memory aside.
use Rattle.std.specs.Prelude.{◌≡◌, Option, Some, None, Result, Ok, Err}

-- a fault that stands for no answer of the definition is want of memory
abbrev pub FaultGives : {D : Type 0} → Option D → D → Type 0
FaultGives None d = Unit {0}
FaultGives (Some x) d = d ≡ x

-- a value and a fault stand for what they mean to the definition
abbrev pub Gives : {A E D : Type 0} → (A → D) → (E → Option D) → Result A E → D → Type 0
Gives value fault (Ok x) d = d ≡ value x
Gives value fault (Err e) d = FaultGives (fault e) d
