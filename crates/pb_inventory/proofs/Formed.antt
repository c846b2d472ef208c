-- What is read of parts in their order, and what is refused with one of them.
use Rattle.std.proofs.Common.{◌≡◌, List, [], ◌∷◌, ◌++◌, Option, Some, None, Result, Ok, refl, ap}
use Rattle.std.proofs.lemmas.Result.{err_from_is_err_and}
use Rattle.std.specs.Result.{IsErrAnd}
use Rattle.pb_semantics.specs.Gives.{FaultGives, Gives}
use Rattle.pb_inventory.specs.Documents.{formed}
use Rattle.pb_inventory.specs.Offences.{offence_of}
use Rattle.pb_inventory.specs.declared.fault.InventoryFault.{InventoryFault}
use Rattle.pb_inventory.specs.declared.fault.InventoryFault.TheVariants.{NotJson, Form, HostName, Cycle, Limit, NoMemory}

-- ---- parts in their order

abbrev pub and_first : {A : Type 0} → Option A → Option (List A) → Option (List A)
and_first (Some x) (Some xs) = Some (x ∷ xs)
and_first x xs = None

abbrev pub before : {A : Type 0} → List A → Option (List A) → Option (List A)
before [] r = r
before (x ∷ xs) r = and_first (Some x) (before xs r)

pub and_first-none : {A : Type 0} → (r : Option (List A)) → and_first None r ≡ None
and_first-none None = refl
and_first-none (Some xs) = refl

pub before-none : {A : Type 0} → (xs : List A) → before xs None ≡ None
before-none [] = refl
before-none (x ∷ xs) = ap (and_first (Some x)) (before-none xs)

pub before-all : {A : Type 0} → (xs : List A) → before xs (Some []) ≡ Some xs
before-all [] = refl
before-all (x ∷ xs) = ap (and_first (Some x)) (before-all xs)

pub before-push : {A : Type 0} → (xs : List A) (x : A) (r : Option (List A)) → before xs (and_first (Some x) r) ≡ before (xs ++ x ∷ []) r
before-push [] x r = refl
before-push (y ∷ xs) x r = ap (and_first (Some y)) (before-push xs x r)

-- ---- what is malformed

formed-both : {Y W : Type 0} (e : InventoryFault) (y : Option Y) (z : Option W) → FaultGives (offence_of e) (formed y) → (y ≡ None → z ≡ None) → FaultGives (offence_of e) (formed z)
formed-both NoMemory y z h k = tt
formed-both Form None z h k = ap formed (k refl)
formed-both Form (Some y) z h k = absurd (cc)
formed-both NotJson None z h k = absurd (cc)
formed-both NotJson (Some y) z h k = absurd (cc)
formed-both HostName None z h k = absurd (cc)
formed-both HostName (Some y) z h k = absurd (cc)
formed-both Cycle None z h k = absurd (cc)
formed-both Cycle (Some y) z h k = absurd (cc)
formed-both Limit None z h k = absurd (cc)
formed-both Limit (Some y) z h k = absurd (cc)

-- what is malformed within is malformed without
pub Gives-formed : {Y Z W : Type 0} (g : Z → W) (r : Result Z InventoryFault) (e : InventoryFault) (y : Option Y) (z : Option W) → IsErrAnd r (λ d. d ≡ e) → FaultGives (offence_of e) (formed y) → (y ≡ None → z ≡ None)
    → Gives (λ x. Ok (g x)) offence_of r (formed z)
Gives-formed g r e y z is h k =
    let p = err_from_is_err_and r is in
    rw (p.1, p.2) (formed-both e y z h k)

-- what is well formed is that
pub formed-ok : {Y : Type 0} (y : Option Y) (x : Y) → formed y ≡ Ok x → y ≡ Some x
formed-ok None x h = absurd (cc)
formed-ok (Some y) x h = (cc)
