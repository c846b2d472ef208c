use Rattle.std.proofs.Common.{◌≡◌, ◌<◌, ℕ, drop, false, get_or, length, take, true}
use Rattle.std.specs.Prelude.{◌||◌}
use Rattle.std.specs.List.{list_all}
use Rattle.pb_semantics.specs.Keeps.{is_among}
use Rattle.pb_inventory.specs.Documents.{key_names, names_view}
use Rattle.pb_inventory.specs.Numbered.{name_of}
use Rattle.pb_inventory.proofs.ungrouped.mark.Given as goal

abbrev pub invariant-loop-name : goal.invariant-loop-name
invariant-loop-name l = record {
  known : list_all (λ n. is_among n (key_names l.hosts.keys)) (names_view (drop l.name-index l.names)) ≡ true;
  marked : (i : ℕ) → i < length l.hosts.keys → get_or l.marks i false ≡ get_or l.fn.marks i false || is_among (name_of (key_names l.hosts.keys) i) (names_view (take l.name-index l.names));
}
