use Rattle.std.proofs.Common.{◌≡◌, take}
use Rattle.pb_inventory.specs.Documents.{key_names, names_view}
use Rattle.pb_inventory.proofs.assembly.shared_names.Given as goal

abbrev pub invariant-loop-name : goal.invariant-loop-name
invariant-loop-name l = names_view l.shared.items ≡ key_names (take l.name-index l.name-items)
