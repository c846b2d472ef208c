use Rattle.std.proofs.Common.{◌∙◌, ap, map}
use Rattle.pb_semantics.specs.Ascending.{are_ascending}
use Rattle.pb_inventory.specs.Views.{group_view, host_names}
use Rattle.pb_inventory.proofs.HostAt.{names-of_views}
use Rattle.pb_inventory.proofs.NameOrder.{names-of-groups}
use Rattle.pb_inventory.proofs.inventory.Inventory.groups.Goals as goal

pub returns-clause-groups : goal.returns-clause-groups
returns-clause-groups c = ap (λ hs. map (group_view hs) c.args.self.now.groups.entries) (names-of_views c.args.self.now.hosts.entries)

pub returns-clause-ascending : goal.returns-clause-ascending
returns-clause-ascending c =
    ap are_ascending (names-of-groups (host_names c.args.self.now.hosts.entries) c.args.self.now.groups.entries) ∙ c.args.self.now.ascending
