use Rattle.std.proofs.Common.{ap, map, refl, ◌∙◌}
use Rattle.pb_sig.specs.ModuleView.{shared_view}
use Rattle.pb_sig.proofs.registry.Registry.builtin.Goals as goal

pub returns : goal.returns
returns c = ap (map shared_view) c.in_ok-modules.ensures.items ∙ rw (c.in_ok-shared.ensures, c.in_ok-shared-2.ensures, c.in_ok-shared-3.ensures, c.in_ok-shared-4.ensures, c.in_ok-shared-5.ensures, c.in_ok-shared-6.ensures, c.in_ok-shared-7.ensures, c.in_ok-shared-8.ensures, c.in_ok-ping.ensures, c.in_ok-command.ensures, c.in_ok-shell.ensures, c.in_ok-stat.ensures, c.in_ok-copy.ensures, c.in_ok-file.ensures, c.in_ok-service.ensures, c.in_ok-setup.ensures) refl
