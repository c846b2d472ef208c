use Rattle.std.proofs.Common.{◌≡◌, ◌++◌, List, Some, map}
use Rattle.pb_value.specs.View.{fields_view}
use Rattle.pb_value.proofs.Fields.{Entry}
use Rattle.pb_sig.specs.Signatures.{parameters_in}
use Rattle.pb_sig.specs.Views.{parameter_view}
use Rattle.pb_sig.proofs.form.parameters_in.Given as goal

abbrev pub invariant-loop-name : goal.invariant-loop-name
invariant-loop-name l =
    (done : List Entry) × (l.fields.entries ≡ done ++ l.name-iterator) × (parameters_in (fields_view done) ≡ Some (map parameter_view l.parameters.items))
