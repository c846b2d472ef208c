-- The book that the bytes of a file are, or why they are none: the line and the P code.
use Rattle.std.specs.Prelude.{ℕ, List, length, nat_lt, cond, Option, Some, None, Result, Err}
use Rattle.pb_semantics.specs.Data.{Data}
use Rattle.pb_semantics.specs.Limits.{most_book_bytes}
use Rattle.pb_language.specs.Book.{Book, Registry}
use Rattle.pb_language.specs.BookForm.{Offence, book_from}
use Rattle.pb_value.specs.FromJson.{json_data}

-- what is wrong with the whole file stands at no line
abbrev pub of_file : ℕ → Offence
of_file n = record { line = 0; code = n }

abbrev pub book_of_json : Registry → Option Data → Result Book Offence
book_of_json ms None = Err (of_file 1)
book_of_json ms (Some d) = book_from ms d

-- a text that is too long isn't looked into
abbrev pub book_in : Registry → List ℕ → Result Book Offence
book_in ms bs = cond (nat_lt most_book_bytes (length bs)) (Err (of_file 8))
    (book_of_json ms (json_data bs))
