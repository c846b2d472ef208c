use Rattle.std.proofs.Common.{◌∙◌, option_map, ap, sym}
use Rattle.pb_sig.specs.ModuleView.{shared_view}
use Rattle.pb_sig.specs.Modules.{modules_of}
use Rattle.pb_sig.proofs.Found.{module_at-own}
use Rattle.pb_task.proofs.work.module_in.Goals as goal

pub returns-in-Some-clause-found : goal.returns-in-Some-clause-found
returns-in-Some-clause-found c =
    module_at-own c.args.name.now (modules_of c.args.registry.now) (shared_view c.in-Some.module.now) (sym c.resolve.ensures ∙ ap (option_map (λ m. shared_view m.now)) c.in-Some.is)
