use Rattle.pb_sig.specs.Modules.{modules_of}
use Rattle.pb_play.specs.Sound.{all_tasks}
use Rattle.pb_book.proofs.Sound.{all-ordered}
use Rattle.pb_book.proofs.book.Book.read.Goals as goal

pub of_plays-requires-clause-ordered : goal.of_plays-requires-clause-ordered
of_plays-requires-clause-ordered c = all-ordered (modules_of c.args.registry.now) (all_tasks c.in_ok-read_plays.field-0.items) c.in_ok-read_plays.ensures.sound
