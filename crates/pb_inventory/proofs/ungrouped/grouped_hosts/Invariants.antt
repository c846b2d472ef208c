use Rattle.std.proofs.Common.{◌≡◌, ◌<◌, ℕ, false, get_or, length, map, take}
use Rattle.pb_language.specs.Families.{is_grouped}
use Rattle.pb_inventory.specs.Documents.{key_names, written_view}
use Rattle.pb_inventory.specs.Numbered.{name_of}
use Rattle.pb_inventory.proofs.ungrouped.grouped_hosts.Given as goal

abbrev pub invariant-loop-group : goal.invariant-loop-group
invariant-loop-group l = record {
  count : length l.grouped.items ≡ length l.hosts.keys;
  marked : (i : ℕ) → i < length l.hosts.keys → get_or l.grouped.items i false ≡ is_grouped (map written_view (take l.group-index l.groups)) (name_of (key_names l.hosts.keys) i);
}
