-- What the readers' answers say of the files that are judged.
use Rattle.std.proofs.Common.{◌≡◌, ◌<◌, ◌≤◌, ℕ, List, length, nat_lt, Bool, true, false, Result, Ok, Err, refl, sym, ap, ◌∙◌, ◌&&◌, not, subst}
use Rattle.std.proofs.lemmas.Bool.{ltb-true, ltb-false}
use Rattle.std.specs.Str.{is_utf8}
use Rattle.pb_semantics.specs.Gives.{FaultGives}
use Rattle.pb_language.specs.Book.{Book as BookData}
use Rattle.pb_language.specs.BookForm as language
use Rattle.pb_language.specs.Program.{Inventory}
use Rattle.pb_language.specs.Judged.{judged}
use Rattle.pb_language.specs.Verdict.{accepted}
use Rattle.pb_semantics.specs.Signature.{ModuleData}
use Rattle.pb_sig.specs.Offences.{offence_of}
use Rattle.pb_sig.specs.Signatures.{Offence}
use Rattle.pb_sig.specs.declared.fault.SignatureFault.{SignatureFault}
use Rattle.pb_sig.specs.declared.fault.SignatureFault.TheVariants as signature
use Rattle.pb_inventory.specs.Offences.{FileOffence, offence_of as inventory_offence}
use Rattle.pb_inventory.specs.declared.fault.InventoryFault.{InventoryFault}
use Rattle.pb_inventory.specs.declared.fault.InventoryFault.TheVariants as inventory
use Rattle.pb_book.specs.Faults.{offence_of as book_offence}
use Rattle.pb_book.specs.declared.fault.BookFault.{BookFault}
use Rattle.pb_book.specs.declared.fault.BookFault.TheVariants as book
use Rattle.pb_verify.specs.Judges.{refused_verdict}
use Rattle.pb_verify.specs.declared.checked.Accepted.{Accepted}
use Rattle.pb_verify.specs.declared.refusal.Code.{Code}
use Rattle.pb_verify.specs.declared.verify.VerifyFault.{VerifyFault}
use Rattle.pb_verify.specs.declared.verify.VerifyFault.TheVariants as verify
use Rattle.pb_cli.specs.FileVerdicts.{Found, whole_file, wrong_book, verdict, Tells, book_found, found_after, found_by, found_with, inventory_code, is_looked_into, of_book, of_inventory, offence_code, of_signatures, of_verify, with_code}
use Rattle.pb_cli.specs.declared.judge.Fault.{Fault}
use Rattle.pb_cli.specs.declared.judge.Fault.TheVariants.{NoMemory}

-- a text that isn't too long is short
pub le-not_over : (most n : ℕ) → ¬ (most < n) → n ≤ most
le-not_over most n bound = either (nat_lt most n) refl where
  either : (b : Bool) → nat_lt most n ≡ b → n ≤ most
  either true e = absurd (bound (ltb-true most n e))
  either false e = ltb-false most n e

-- want of memory may come in the place of anything
pub Tells-no_memory : (f : Found) → Tells (Err NoMemory) f
Tells-no_memory (whole_file code) = tt
Tells-no_memory (wrong_book o) = tt
Tells-no_memory (verdict v) = tt

module _ (bs : List ℕ) where
  -- a file that isn't looked into is refused, as too long or as no JSON
  pub read-unlooked : {A E : Type 0} (most : ℕ) (limit json : E) (r : Result A E) → (most < length bs → r ≡ Err limit) → (P : Result A E → Type 0) → is_looked_into most bs ≡ false → (is_utf8 bs ≡ false → length bs ≤ most → r ≡ Err json) → P (Err limit) → P (Err json) → P r
  read-unlooked most limit json r large P h no_text by_limit by_json = either (nat_lt most (length bs)) refl where
    either : (b : Bool) → nat_lt most (length bs) ≡ b → P r
    either true e = subst P (sym (large (ltb-true most (length bs) e))) by_limit
    either false e = subst P (sym (no_text (sym (ap (λ b. not b && is_utf8 bs) e) ∙ h) (ltb-false most (length bs) e))) by_json

-- the answer where the signatures aren't read
pub Tells-signatures : (e : SignatureFault) (x : Result (List ModuleData) Offence) (i b : List ℕ) → FaultGives (offence_of e) x → Tells (Err (of_signatures e)) (found_after (with_code offence_code x) i b)
Tells-signatures signature.NotJson x i b says = rw says refl
Tells-signatures signature.Form x i b says = rw says refl
Tells-signatures signature.Law x i b says = rw says refl
Tells-signatures signature.Taken x i b says = rw says refl
Tells-signatures signature.Limit x i b says = rw says refl
Tells-signatures signature.NoMemory x i b says = Tells-no_memory (found_after (with_code offence_code x) i b)

-- where the inventory isn't
pub Tells-inventory : (ms : List ModuleData) (e : InventoryFault) (x : Result Inventory FileOffence) (w : Result BookData language.Offence) → FaultGives (inventory_offence e) x → Tells (Err (of_inventory e)) (found_by ms (with_code inventory_code x) w)
Tells-inventory ms inventory.NotJson x w says = rw says refl
Tells-inventory ms inventory.Form x w says = rw says refl
Tells-inventory ms inventory.HostName x w says = rw says refl
Tells-inventory ms inventory.Cycle x w says = rw says refl
Tells-inventory ms inventory.Limit x w says = rw says refl
Tells-inventory ms inventory.NoMemory x w says = Tells-no_memory (found_by ms (with_code inventory_code x) w)

-- where the book isn't
pub Tells-book : (ms : List ModuleData) (i : Inventory) (e : BookFault) (w : Result BookData language.Offence) → FaultGives (book_offence e) w → Tells (Err (of_book e)) (book_found ms i w)
Tells-book ms i book.NotJson w says = rw says refl
Tells-book ms i (book.Refused o) w says = rw says refl
Tells-book ms i book.NoMemory w says = Tells-no_memory (book_found ms i w)

-- where all are
pub Tells-refused : (ms : List ModuleData) (i : Inventory) (b : BookData) (e : VerifyFault) (w : Result BookData language.Offence) → w ≡ Ok b → FaultGives (refused_verdict e) (judged ms i b) → Tells (Err (of_verify e)) (book_found ms i w)
Tells-refused ms i b (verify.Refused r) w read judges = rw read judges
Tells-refused ms i b verify.NoMemory w read judges = Tells-no_memory (book_found ms i w)

pub Tells-accepted : (ms : List ModuleData) (i : Inventory) (b : BookData) (a : Accepted) (w : Result BookData language.Offence) → w ≡ Ok b → judged ms i b ≡ accepted a.budget → Tells (Ok a) (book_found ms i w)
Tells-accepted ms i b a w read judges = rw read judges

-- what is said of the book is said of the files
pub Tells-found : (r : Result Accepted Fault) (ms : List ModuleData) (i : Inventory) (v : Result Inventory Code) (w : Result BookData language.Offence) → v ≡ Ok i → Tells r (book_found ms i w) → Tells r (found_by ms v w)
Tells-found r ms i v w read tells = rw read tells

pub Tells-after : (r : Result Accepted Fault) (x : Result (List ModuleData) Code) (ms : List ModuleData) (i b : List ℕ) → x ≡ Ok ms → Tells r (found_with ms i b) → Tells r (found_after x i b)
Tells-after r x ms i b read tells = rw read tells
