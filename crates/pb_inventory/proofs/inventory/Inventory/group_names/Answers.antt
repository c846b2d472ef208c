use Rattle.std.proofs.Common.{◌∙◌, Some, ap, map, string_bytes, sym}
use Rattle.pb_language.specs.Program.{memberships_of}
use Rattle.pb_inventory.specs.Inventory.{inventory_view}
use Rattle.pb_inventory.proofs.HostAt.{host-at, kept-at}
use Rattle.pb_inventory.proofs.inventory.Inventory.group_names.Goals as goal

pub returns : goal.returns
returns c =
    host-at (λ h. memberships_of h.name (inventory_view c.args.self.now).groups) c.args.self.now.hosts.entries c.args.host _ c.in-Some.ensures.entry
    ∙ ap Some (kept-at (λ n. memberships_of n (inventory_view c.args.self.now).groups) c.args.self.now.hosts.entries c.args.host _ c.args.self.now.grouped c.in-Some.ensures.entry ∙ ap (map (λ n. string_bytes n.value)) (sym c.as_slice.ensures.value))
