use Rattle.std.proofs.Common.{◌∙◌}
use Rattle.pb_inventory.proofs.PatternHosts.{host-there, place-named}
use Rattle.pb_inventory.proofs.inventory.Inventory.place_of.Goals as goal

pub returns-clause-known : goal.returns-clause-known
returns-clause-known c = c.get_index_of.ensures.found ∙ host-there c.args.name.now c.args.self.now.hosts.entries

pub returns-clause-named : goal.returns-clause-named
returns-clause-named c = place-named c.args.name.now c.args.self.now.hosts.entries c.get_index_of.result c.get_index_of.ensures.index
