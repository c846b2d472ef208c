use Rattle.std.proofs.Common.{ap, map}
use Rattle.pb_sig.specs.Views.{parameter_view}
use Rattle.pb_sig.proofs.builtin.BuiltinModule.params.Goals as goal

pub returns : goal.returns
returns c = ap (map parameter_view) c.as_slice.ensures.value
