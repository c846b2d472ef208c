use Rattle.std.proofs.Common.{◌≡◌, drop}
use Rattle.pb_semantics.specs.Kind.{no_slots}
use Rattle.pb_kind.specs.KindView.{slots_view}
use Rattle.pb_sig.specs.Rows.{with_rows}
use Rattle.pb_sig.proofs.rows.shape_of.Given as goal

abbrev pub invariant-loop-row : goal.invariant-loop-row
invariant-loop-row l = with_rows (drop l.row-index l.rows) (slots_view l.fields.entries) ≡ with_rows l.rows no_slots
