use Rattle.std.proofs.Common.{◌≡◌, map, drop}
use Rattle.pb_sig.specs.ModuleView.{shared_view}
use Rattle.pb_sig.specs.Modules.{module_at, modules_of}
use Rattle.pb_sig.proofs.registry.Registry.resolve.Given as goal

abbrev pub invariant-loop-found : goal.invariant-loop-found
invariant-loop-found l = module_at l.name (map shared_view (drop l.found-index l.found-items)) ≡ module_at l.name (modules_of l.self)
