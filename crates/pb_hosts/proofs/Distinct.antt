-- No host stands twice in an inventory.
use Rattle.std.proofs.Common.{◌≡◌, List, [], ◌∷◌, map, true, not, ◌&&◌, refl, ap, ◌∙◌}
use Rattle.pb_semantics.specs.Keeps.{is_among}
use Rattle.pb_language.specs.Expression.{Name}
use Rattle.pb_language.specs.Theorem.{host_names, are_distinct}
use Rattle.pb_language.specs.World.{HostVariables}
use Rattle.pb_inventory.specs.Inventory.{inventory_view}
use Rattle.pb_inventory.specs.Numbered.{are_apart}
use Rattle.pb_inventory.specs.declared.inventory.Inventory.{Inventory}
use Rattle.pb_hosts.proofs.Places.{apart_hosts}

listed_names : (xs : List HostVariables) → host_names xs ≡ map (λ h. h.name) xs
listed_names [] = refl
listed_names (x ∷ xs) = ap (λ ns. x.name ∷ ns) (listed_names xs)

distinct_apart : (ns : List Name) → are_distinct ns ≡ are_apart ns
distinct_apart [] = refl
distinct_apart (n ∷ ns) = ap (λ b. not (is_among n ns) && b) (distinct_apart ns)

pub distinct_hosts : (i : Inventory) → are_distinct (host_names (inventory_view i).hosts) ≡ true
distinct_hosts i = ap are_distinct (listed_names (inventory_view i).hosts) ∙ distinct_apart (map (λ h. h.name) (inventory_view i).hosts) ∙ apart_hosts i
