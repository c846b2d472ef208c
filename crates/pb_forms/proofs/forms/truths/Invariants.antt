use Rattle.std.proofs.Common.{◌≡◌, ◌&&◌, drop, option_map}
use Rattle.pb_language.specs.Fit.{first}
use Rattle.pb_forms.specs.FitView.{fault_view}
use Rattle.pb_forms.specs.InferredView.{are_bools, faults_in}
use Rattle.pb_forms.proofs.forms.truths.Given as goal

abbrev pub invariant-loop-operand : goal.invariant-loop-operand
invariant-loop-operand l = record {
  faults : faults_in l.operands ≡ first (option_map fault_view l.unfit) (faults_in (drop l.operand-index l.operands));
  kinds : are_bools l.operands ≡ l.are_bool && are_bools (drop l.operand-index l.operands);
}
