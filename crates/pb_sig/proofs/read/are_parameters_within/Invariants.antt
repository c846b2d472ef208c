use Rattle.std.proofs.Common.{◌≡◌, drop, map}
use Rattle.pb_sig.specs.Signatures.{are_parameters_within}
use Rattle.pb_sig.specs.Views.{parameter_view}
use Rattle.pb_sig.proofs.read.are_parameters_within.Given as goal

abbrev pub invariant-loop-parameter : goal.invariant-loop-parameter
invariant-loop-parameter l = are_parameters_within (map parameter_view (drop l.parameter-index l.parameters)) ≡ are_parameters_within (map parameter_view l.parameters)
