-- What becomes of the files that are judged.
use Rattle.std.specs.Prelude.{◌≡◌, ◌<◌, ◌≤◌, ◌==◌, ℕ, List, length, nat_lt, cond, Option, Some}
use Rattle.std.specs.Prelude.{None, Result, Ok, Err, Bool, ◌&&◌, not}
use Rattle.std.specs.Str.{is_utf8}
use Rattle.pb_semantics.specs.Gives.{FaultGives, Gives}
use Rattle.pb_semantics.specs.Limits.{most_answer_bytes, most_inventory_bytes}
use Rattle.pb_semantics.specs.Signature.{ModuleData}
use Rattle.pb_language.specs.Book.{Book}
use Rattle.pb_language.specs.BookForm as language
use Rattle.pb_language.specs.Inventories as offence
use Rattle.pb_language.specs.Judged.{judged}
use Rattle.pb_language.specs.Program.{Inventory}
use Rattle.pb_language.specs.Verdict.{Verdict, accepted, refused as refused_at}
use Rattle.pb_sig.specs.Registered.{registry_of}
use Rattle.pb_sig.specs.Signatures.{Offence, not_json, wrong_form, broken_law, taken_name}
use Rattle.pb_sig.specs.Signatures.{over_limit, most_signature_bytes}
use Rattle.pb_sig.specs.Table.{builtins}
use Rattle.pb_sig.specs.declared.fault.SignatureFault.{SignatureFault}
use Rattle.pb_sig.specs.declared.fault.SignatureFault.TheVariants as signature
use Rattle.pb_inventory.specs.Offences as file
use Rattle.pb_inventory.specs.Offences.{FileOffence, inventory_in}
use Rattle.pb_inventory.specs.declared.fault.InventoryFault.{InventoryFault}
use Rattle.pb_inventory.specs.declared.fault.InventoryFault.TheVariants as inventory
use Rattle.pb_play.specs.Faults.{offence_view}
use Rattle.pb_book.specs.Reading.{book_in}
use Rattle.pb_book.specs.declared.fault.BookFault.{BookFault}
use Rattle.pb_book.specs.declared.fault.BookFault.TheVariants as book
use Rattle.pb_verify.specs.Meaning.{refusal_of}
use Rattle.pb_verify.specs.declared.checked.Accepted.{Accepted}
use Rattle.pb_verify.specs.declared.refusal.Code.{Code}
use Rattle.pb_runner.specs.Scripts.{script_fault, script_in}
use Rattle.pb_runner.specs.declared.script.ScriptFault.{ScriptFault}
use Rattle.pb_runner.specs.declared.script.ScriptFault.TheVariants as script
use Rattle.pb_verify.specs.declared.refusal.Code.TheVariants.{S01, S02, S03, S04, S05, I01, I02}
use Rattle.pb_verify.specs.declared.refusal.Code.TheVariants.{I03, I04, I05, P01, P02, P03, P04}
use Rattle.pb_verify.specs.declared.refusal.Code.TheVariants.{P05, P06, P07, P08, P09, A01, A02}
use Rattle.pb_verify.specs.declared.refusal.Code.TheVariants.{A03}
use Rattle.pb_verify.specs.declared.verify.VerifyFault.{VerifyFault}
use Rattle.pb_verify.specs.declared.verify.VerifyFault.TheVariants as verify
use Rattle.pb_cli.specs.declared.judge.Fault.{Fault}
use Rattle.pb_cli.specs.declared.judge.Fault.TheVariants.{Refused, NoMemory}

-- a file is refused as a whole
abbrev pub refused : Code → Fault
refused code = Refused (record { code = code; line = 0; host = None })

abbrev pub of_signatures : SignatureFault → Fault
of_signatures signature.NotJson = refused S01
of_signatures signature.Form = refused S02
of_signatures signature.Law = refused S03
of_signatures signature.Taken = refused S04
of_signatures signature.Limit = refused S05
of_signatures signature.NoMemory = NoMemory

abbrev pub of_inventory : InventoryFault → Fault
of_inventory inventory.NotJson = refused I01
of_inventory inventory.Form = refused I02
of_inventory inventory.HostName = refused I03
of_inventory inventory.Cycle = refused I04
of_inventory inventory.Limit = refused I05
of_inventory inventory.NoMemory = NoMemory

-- the P code of that number
abbrev pub book_code : ℕ → Code
book_code n = cond (n == 1) P01 (cond (n == 2) P02 (cond (n == 3) P03 (cond (n == 4) P04
    (cond (n == 5) P05 (cond (n == 6) P06 (cond (n == 7) P07 (cond (n == 8) P08 P09)))))))

-- a book is refused at a line
abbrev pub refused_book : language.Offence → Fault
refused_book o = Refused (record { code = book_code o.code; line = o.line; host = None })

abbrev pub of_book : BookFault → Fault
of_book book.NotJson = refused P01
of_book (book.Refused o) = refused_book (offence_view o)
of_book book.NoMemory = NoMemory

abbrev pub of_verify : VerifyFault → Fault
of_verify (verify.Refused r) = Refused r
of_verify verify.NoMemory = NoMemory

abbrev pub of_script : ScriptFault → Fault
of_script script.NotJson = refused A01
of_script script.Shape = refused A02
of_script script.Limit = refused A03
of_script script.NoMemory = NoMemory

-- a text is looked into: it isn't too long, and is UTF-8
abbrev pub is_looked_into : ℕ → List ℕ → Bool
is_looked_into most bytes = not (nat_lt most (length bytes)) && is_utf8 bytes

-- what a file is, or its code
abbrev pub with_code : {O X : Type 0} → (O → Code) → Result X O → Result X Code
with_code code (Ok x) = Ok x
with_code code (Err o) = Err (code o)

abbrev pub offence_code : Offence → Code
offence_code not_json = S01
offence_code wrong_form = S02
offence_code broken_law = S03
offence_code taken_name = S04
offence_code over_limit = S05

-- the modules of the run: those of a file of signatures, where there is one, beside the built-in
-- ones; or the code of that file
abbrev pub modules_verdict : Option (List ℕ) → Result (List ModuleData) Code
modules_verdict None = Ok builtins
modules_verdict (Some bytes) = with_code offence_code (registry_of bytes)

abbrev pub inventory_code : FileOffence → Code
inventory_code file.not_json = I01
inventory_code (file.refused offence.wrong_form) = I02
inventory_code (file.refused offence.wrong_host_name) = I03
inventory_code (file.refused offence.cyclic) = I04
inventory_code (file.refused offence.over_limit) = I05

-- an inventory's text is this inventory, or is refused with this code
abbrev pub inventory_verdict : List ℕ → Result Inventory Code
inventory_verdict bytes = with_code inventory_code (inventory_in bytes)

-- what becomes of the files: one is refused as a whole, or the book at a line, or it gets a verdict
-- for the inventory
pub data Found : Type 0 where
  whole_file : Code → Found
  wrong_book : language.Offence → Found
  verdict : Verdict → Found

abbrev pub book_found : List ModuleData → Inventory → Result Book language.Offence → Found
book_found ms i (Err o) = wrong_book o
book_found ms i (Ok b) = verdict (judged ms i b)

abbrev pub found_by : List ModuleData → Result Inventory Code → Result Book language.Offence
    → Found
found_by ms (Err code) book = whole_file code
found_by ms (Ok i) book = book_found ms i book

-- the inventory is asked before the book
abbrev pub found_with : List ModuleData → List ℕ → List ℕ → Found
found_with ms inventory book = found_by ms (inventory_verdict inventory) (book_in ms book)

abbrev pub found_after : Result (List ModuleData) Code → List ℕ → List ℕ → Found
found_after (Err code) inventory book = whole_file code
found_after (Ok ms) inventory book = found_with ms inventory book

-- and the signatures before both
abbrev pub found : Option (List ℕ) → List ℕ → List ℕ → Found
found signatures inventory book = found_after (modules_verdict signatures) inventory book

-- the file that is asked first is looked into: that of the signatures, where there is one
abbrev pub is_first_looked_into : Option (List ℕ) → List ℕ → Bool
is_first_looked_into None inventory = is_looked_into most_inventory_bytes inventory
is_first_looked_into (Some bytes) inventory = is_looked_into most_signature_bytes bytes

-- the verdict that refuses so, none for want of memory
abbrev pub refused_verdict : Fault → Option Verdict
refused_verdict (Refused r) = Some (refused_at (refusal_of r))
refused_verdict NoMemory = None

-- the fault itself, none for want of memory
abbrev pub fault_given : Fault → Option (Result Accepted Fault)
fault_given (Refused r) = Some (Err (Refused r))
fault_given NoMemory = None

-- that answer says what becomes of the files
abbrev pub Tells : Result Accepted Fault → Found → Type 0
Tells r (whole_file code) = Gives (λ a. Ok a) fault_given r (Err (refused code))
Tells r (wrong_book o) = Gives (λ a. Ok a) fault_given r (Err (refused_book o))
Tells r (verdict v) = Gives (λ a. accepted a.budget) refused_verdict r v

-- that answer says what becomes of these files
abbrev pub Judges : Option (List ℕ) → List ℕ → List ℕ → Result Accepted Fault → Type 0
Judges signatures inventory book r = Tells r (found signatures inventory book)

-- a file of answers has that fault: of one that is too long nothing else is asked
pub record HasScriptFault (bytes : List ℕ) (fault : ScriptFault) : Type 0 where
  pub read : length bytes ≤ most_answer_bytes → FaultGives (script_fault fault) (script_in bytes)
  pub long : most_answer_bytes < length bytes → fault ≡ script.Limit
