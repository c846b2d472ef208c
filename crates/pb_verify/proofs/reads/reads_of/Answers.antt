use Rattle.std.proofs.Common.{map}
use Rattle.pb_inventory.specs.Words.{inventory_view}
use Rattle.pb_play.specs.Words.{play_view}
use Rattle.pb_verify.proofs.reads.reads_of.Goals as goal

pub returns-then-branch : goal.returns-then-branch
returns-then-branch c = λ ms ns unread. c.books_read_theirs.ensures ns ms (inventory_view c.args.inventory.now) (map play_view c.args.plays.now) unread
