use Rattle.std.proofs.Common.{◌≡◌, ◌++◌, length, map, string_bytes, take, true}
use Rattle.std.specs.Vec.Iter.{into_iter_items, into_iter_len}
use Rattle.pb_inventory.specs.Documents.{key_names}
use Rattle.pb_inventory.specs.Families.{AreBelow, lists_of}
use Rattle.pb_inventory.specs.Views.{are_placed}
use Rattle.pb_inventory.proofs.build.placed_groups.Given as goal

abbrev pub invariant-loop-list : goal.invariant-loop-list
invariant-loop-list l = record {
  counted : length (into_iter_items l.list-iterator) ≡ into_iter_len l.list-iterator;
  named : map (λ g. string_bytes g.0) l.groups.entries ≡ take (length l.groups.entries) (key_names l.fn.names.keys);
  members : map (λ g. g.1.items) l.groups.entries ++ lists_of (into_iter_items l.list-iterator) ≡ lists_of l.fn.members.items;
  below : AreBelow (length l.hosts.keys) (into_iter_items l.list-iterator);
  placed : are_placed (length l.hosts.keys) l.groups.entries ≡ true;
}
