use Rattle.pb_walks.proofs.AloneBooks.{books_alone}
use Rattle.pb_walks.proofs.books_read_alone.Goals as goal

pub returns : goal.returns
returns c = books_alone
