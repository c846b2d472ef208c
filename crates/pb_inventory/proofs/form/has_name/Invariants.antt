use Rattle.std.proofs.Common.{◌≡◌, drop}
use Rattle.pb_semantics.specs.Keeps.{is_among}
use Rattle.pb_inventory.specs.Documents.{names_view}
use Rattle.pb_inventory.proofs.form.has_name.Given as goal

abbrev pub invariant-loop-known : goal.invariant-loop-known
invariant-loop-known l = is_among l.name (names_view l.names) ≡ is_among l.name (names_view (drop l.known-index l.names))
