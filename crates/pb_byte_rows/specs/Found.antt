-- What becomes of the files of a run, from their bytes: the code of the first that is wrong, or the
-- verdict.
use Rattle.std.specs.Prelude.{ℕ, List, Result, Ok, Err}
use Rattle.pb_language.specs.Book.{Book, Registry}
use Rattle.pb_language.specs.BookForm.{Offence}
use Rattle.pb_language.specs.Builtins.{builtins}
use Rattle.pb_language.specs.Inventories as inventory
use Rattle.pb_language.specs.Judged.{judged}
use Rattle.pb_language.specs.Program.{Inventory}
use Rattle.pb_language.specs.Verdict.{Verdict}
use Rattle.pb_sig.specs.Registered.{registry_of}
use Rattle.pb_sig.specs.Signatures as signatures
use Rattle.pb_inventory.specs.Offences.{FileOffence, not_json, refused, inventory_in}
use Rattle.pb_book.specs.Reading.{book_in}

pub data Found : Type 0 where
  wrong_signatures : ℕ → Found
  wrong_inventory : ℕ → Found
  wrong_book : Offence → Found
  verdict : Verdict → Found

-- the number of a file's code
abbrev pub signatures_code : signatures.Offence → ℕ
signatures_code signatures.not_json = 1
signatures_code signatures.wrong_form = 2
signatures_code signatures.broken_law = 3
signatures_code signatures.taken_name = 4
signatures_code signatures.over_limit = 5

abbrev pub inventory_code : FileOffence → ℕ
inventory_code not_json = 1
inventory_code (refused inventory.wrong_form) = 2
inventory_code (refused inventory.wrong_host_name) = 3
inventory_code (refused inventory.cyclic) = 4
inventory_code (refused inventory.over_limit) = 5

abbrev pub book_found : Registry → Inventory → Result Book Offence → Found
book_found ms i (Err o) = wrong_book o
book_found ms i (Ok b) = verdict (judged ms i b)

-- the inventory is asked before the book
abbrev pub inventory_found : Registry → Result Inventory FileOffence → List ℕ → Found
inventory_found ms (Err o) book = wrong_inventory (inventory_code o)
inventory_found ms (Ok i) book = book_found ms i (book_in ms book)

-- and the signatures before both
abbrev pub registry_found : Result Registry signatures.Offence → List ℕ → List ℕ → Found
registry_found (Err o) inventory book = wrong_signatures (signatures_code o)
registry_found (Ok ms) inventory book = inventory_found ms (inventory_in inventory) book

-- of an inventory and a book
abbrev pub found : List ℕ → List ℕ → Found
found inventory book = inventory_found builtins (inventory_in inventory) book

-- of signatures, an inventory and a book
abbrev pub found_with : List ℕ → List ℕ → List ℕ → Found
found_with signatures inventory book = registry_found (registry_of signatures) inventory book
