-- What a node has of its own and from the nodes below it.
use Rattle.std.specs.Prelude.{ℕ, zero, suc, List, ◌++◌}
use Rattle.std.specs.List.{flat_map}
use Rattle.pb_inventory.specs.Graph.{children_at}

-- a node's own, and then what each of its children has within one generation less
abbrev pub held : {A : Type 0} → ℕ → (ℕ → List A) → List (List ℕ) → ℕ → List A
held zero own cs i = own i
held (suc k) own cs i = own i ++ flat_map (held k own cs) (children_at cs i)
