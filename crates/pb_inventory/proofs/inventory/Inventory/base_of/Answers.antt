use Rattle.std.proofs.Common.{◌∙◌, Some, ap, sym}
use Rattle.pb_value.specs.View.{fields_view}
use Rattle.pb_inventory.specs.Inventory.{bases_view}
use Rattle.pb_inventory.specs.Views.{base_at, laid, layered}
use Rattle.pb_inventory.proofs.Based.{based-at}
use Rattle.pb_inventory.proofs.HostAt.{host-at}
use Rattle.pb_inventory.proofs.inventory.Inventory.base_of.Goals as goal

pub returns-clause-base : goal.returns-clause-base
returns-clause-base c =
    let v = c.args.self.now in
    (based-at (bases_view v) v.hosts.entries c.args.host _ v.numbered v.laid c.in-Some.ensures.entry).0

pub returns-clause-variables : goal.returns-clause-variables
returns-clause-variables c =
    let v = c.args.self.now in
    let h = c.in-Some.known.now in
    let own = based-at (bases_view v) v.hosts.entries c.args.host _ v.numbered v.laid c.in-Some.ensures.entry in
    host-at (λ h. h.variables) v.hosts.entries c.args.host _ c.in-Some.ensures.entry ∙ ap Some (sym own.1 ∙ ap (λ o. laid (layered (base_at (bases_view v) h.base)) (fields_view o.entries)) (sym c.deref.ensures))
