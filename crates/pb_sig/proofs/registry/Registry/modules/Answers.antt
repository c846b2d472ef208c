use Rattle.std.proofs.Common.{ap, map}
use Rattle.pb_sig.specs.ModuleView.{shared_view}
use Rattle.pb_sig.proofs.registry.Registry.modules.Goals as goal

pub returns : goal.returns
returns c = ap (map shared_view) c.as_slice.ensures.value
