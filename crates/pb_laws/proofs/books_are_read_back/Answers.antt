use Rattle.pb_laws.proofs.Plays.{books_are_read_back}
use Rattle.pb_laws.proofs.books_are_read_back.Goals as goal

pub returns : goal.returns
returns c = books_are_read_back
