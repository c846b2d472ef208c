-- The names that are always there for a host: the batch, and those that are the same in each play.
use Rattle.std.proofs.Common.{◌≡◌, List, true, false, cond, bytes_eq, codes, ap}
use Rattle.pb_semantics.specs.Kind.{no_slots, slot_at, spot}
use Rattle.pb_language.specs.Expression.{Name}
use Rattle.pb_language.specs.Scope.{Later, View}
use Rattle.pb_language.specs.Setting.{host_list, named_slots}
use Rattle.pb_inventory.specs.Inventory.{inventory_view}
use Rattle.pb_hosts.specs.Casts.{cast_hosts, constant_slots, setting_in}
use Rattle.pb_hosts.specs.declared.cast.Cast.{Cast}

-- the batch stands before the others, as its name is the first in the order of the bytes
pub constant_there : (c : Cast) (views : List View) (laters : List Later) (h p : Name) → bytes_eq p (codes "ansible_play_batch") ≡ false
    → slot_at p (named_slots (setting_in c views laters h) 0 no_slots) ≡ slot_at p (constant_slots (inventory_view c.inventory.now).groups h)
constant_there c views laters h p e = ap (λ q. cond q (spot true (host_list (cast_hosts c))) (slot_at p (constant_slots (inventory_view c.inventory.now).groups h))) e
