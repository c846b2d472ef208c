-- The program of a book that was accepted.
use Rattle.pb_language.specs.Plays.{program_of}
use Rattle.pb_language.specs.Program.{Program}
use Rattle.pb_sig.specs.Modules.{modules_of}
use Rattle.pb_inventory.specs.Words.{inventory_view}
use Rattle.pb_book.specs.Books.{book_view}
use Rattle.pb_verify.specs.declared.checked.Accepted.{Accepted}

-- how it runs
abbrev pub program_for : Accepted → Program
program_for a =
    program_of (modules_of a.registry) (inventory_view a.inventory) (book_view a.book)
