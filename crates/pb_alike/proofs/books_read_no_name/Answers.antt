use Rattle.pb_alike.proofs.NamedBooks.{books_nameless}
use Rattle.pb_alike.proofs.books_read_no_name.Goals as goal

pub returns : goal.returns
returns c = books_nameless
