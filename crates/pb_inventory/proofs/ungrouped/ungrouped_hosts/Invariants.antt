use Rattle.std.proofs.Common.{◌≡◌, ◌<◌, length, map, take}
use Rattle.std.specs.Prelude.{not}
use Rattle.std.specs.List.{All, filter}
use Rattle.pb_language.specs.Families.{is_grouped}
use Rattle.pb_inventory.specs.Documents.{key_names, written_view}
use Rattle.pb_inventory.specs.Numbered.{named}
use Rattle.pb_inventory.proofs.ungrouped.ungrouped_hosts.Given as goal

abbrev pub invariant-loop-place : goal.invariant-loop-place
invariant-loop-place l = record {
  within : All (λ p. p < length l.hosts.keys) l.places.items;
  named : named (key_names l.hosts.keys) l.places.items ≡ filter (λ h. not (is_grouped (map written_view l.groups) h)) (take l.place (key_names l.hosts.keys));
}
