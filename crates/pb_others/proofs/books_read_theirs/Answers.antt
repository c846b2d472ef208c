use Rattle.pb_others.proofs.RootedBooks.{books_read_theirs}
use Rattle.pb_others.proofs.books_read_theirs.Goals as goal

pub returns : goal.returns
returns c = books_read_theirs
