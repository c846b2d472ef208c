-- What a caller sees of a book, and what the book stands for.
use Rattle.std.specs.Prelude.{List, map}
use Rattle.pb_language.specs.Book as language
use Rattle.pb_play.specs.Plays.{play_view}
use Rattle.pb_play.specs.declared.play.Play.{Play}
use Rattle.pb_book.specs.declared.book.Book.{Book}

abbrev pub plays_of : Book → List Play
plays_of b = b.plays.items

abbrev pub book_view : Book → language.Book
book_view b = map play_view (plays_of b)
