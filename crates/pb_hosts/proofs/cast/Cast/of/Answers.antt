use Rattle.std.proofs.Common.{◌∙◌}
use Rattle.std.proofs.lemmas.Result.{IfOk-weaker}
use Rattle.pb_inventory.specs.Inventory.{inventory_view}
use Rattle.pb_hosts.proofs.Casting.{pattern_found}
use Rattle.pb_hosts.proofs.cast.Cast.of.Goals as goal

pub returns-in-Ok-clause-hosts : goal.returns-in-Ok-clause-hosts
returns-in-Ok-clause-hosts c =
    IfOk-weaker c.at.result _ _ (λ x hosts. hosts ∙ pattern_found (inventory_view c.args.inventory.now) c.args.play.now.pattern.items c.deref.result.now _ c.deref.ensures.value c.in-Ok.ensures.given) c.at.ensures.hosts
