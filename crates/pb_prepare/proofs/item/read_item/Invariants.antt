use Rattle.std.proofs.Common.{◌≡◌, drop}
use Rattle.pb_vars.specs.Borrowed.{borrowed_view}
use Rattle.pb_start.specs.Items.{read_no_item}
use Rattle.pb_prepare.proofs.item.read_item.Given as goal

abbrev pub invariant-loop-name : goal.invariant-loop-name
invariant-loop-name l = read_no_item (borrowed_view l.names) ≡ read_no_item (borrowed_view (drop l.name-index l.names))
