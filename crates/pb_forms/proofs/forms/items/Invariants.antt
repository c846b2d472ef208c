use Rattle.std.proofs.Common.{◌≡◌, drop, option_map}
use Rattle.pb_language.specs.Fit.{first}
use Rattle.pb_kind.specs.Growing.{joined_onto}
use Rattle.pb_forms.specs.FitView.{fault_view}
use Rattle.pb_forms.specs.InferredView.{joined_in, part_faults_in}
use Rattle.pb_forms.proofs.forms.items.Given as goal

abbrev pub invariant-loop-item : goal.invariant-loop-item
invariant-loop-item l = record {
  faults : part_faults_in l.items ≡ first (option_map fault_view l.unfit) (part_faults_in (drop l.item-index l.items));
  kinds : joined_in l.items ≡ joined_onto l.kinds.items (joined_in (drop l.item-index l.items));
}
