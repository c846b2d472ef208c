use Rattle.std.proofs.Common.{◌∙◌, sym, ap}
use Rattle.pb_inventory.specs.Documents.{key_names}
use Rattle.pb_inventory.proofs.Keys.{any-among, with_host-there, key_names-insert}
use Rattle.pb_inventory.proofs.hosts.add_host.Goals as goal

pub returns-else-not-contains : goal.returns-else-not-contains
returns-else-not-contains c =
    with_host-there (key_names c.args.hosts.now.keys) c.args.name.now c.contains.result (sym (any-among c.args.name.now c.args.hosts.now.keys) ∙ sym c.contains.ensures) c.if-not-contains.false

pub returns-in_ok-insert : goal.returns-in_ok-insert
returns-in_ok-insert c = ap key_names c.in_ok-insert.ensures.keys ∙ key_names-insert c.args.hosts.now.keys c.in_ok-from_str.field-0 c.args.name.now c.in_ok-from_str.ensures.ok
