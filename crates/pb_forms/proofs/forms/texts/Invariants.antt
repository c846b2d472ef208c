use Rattle.std.proofs.Common.{◌≡◌, ◌&&◌, drop, option_map}
use Rattle.pb_language.specs.Fit.{first}
use Rattle.pb_forms.specs.FitView.{fault_view}
use Rattle.pb_forms.specs.InferredView.{are_plain_kinds, faults_in}
use Rattle.pb_forms.proofs.forms.texts.Given as goal

abbrev pub invariant-loop-part : goal.invariant-loop-part
invariant-loop-part l = record {
  faults : faults_in l.parts ≡ first (option_map fault_view l.unfit) (faults_in (drop l.part-index l.parts));
  kinds : are_plain_kinds l.parts ≡ l.are_plain && are_plain_kinds (drop l.part-index l.parts);
}
