use Rattle.std.proofs.Common.{◌≡◌, map, take}
use Rattle.pb_sig.specs.Views.{parameter_view}
use Rattle.pb_sig.specs.Rows.{row_parameter}
use Rattle.pb_sig.proofs.rows.parameters_of.Given as goal

abbrev pub invariant-loop-row : goal.invariant-loop-row
invariant-loop-row l = map parameter_view l.parameters.items ≡ map row_parameter (take l.row-index l.rows)
