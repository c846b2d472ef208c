-- What is built of all slots at once.
use denote.Ref.{Bor}
use Rattle.std.specs.Prelude.{◌≡◌, ℕ, ◌<◌, List, [], ◌∷◌, length, true, String, string_bytes}
use Rattle.std.specs.declared.alloc.Global.{Global}
use Rattle.pb_semantics.specs.Kind.{Slots, no_slots, slot}
use Rattle.pb_kind.specs.KindView.{is_always, kind_view}
use Rattle.pb_kind.specs.declared.kind.Kind.{Kind}
use Rattle.pb_kind.specs.declared.kind.Slot.{Slot}
use Rattle.pb_language.specs.Expression.{Name}
use Rattle.pb_lattice.specs.Trees.{WellTree, fits, slots_over}
use Rattle.pb_lattice.specs.Arena.{tree_at}
use Rattle.pb_lattice.specs.declared.tree.Node.{Node}

-- the slots that borrowed ones stand for, under their names
abbrev pub pairs_view : List (Bor (String Global) × Bor (Slot Kind)) → Slots
pairs_view [] = no_slots
pairs_view (p ∷ ps) = slot (string_bytes p.0.now) (is_always p.1.now.presence)
    (kind_view p.1.now.kind) (pairs_view ps)

-- the node stands for a tree over the names, in which just these slots are known
pub record IsBuilt (ns : List Name) (ss : Slots) (ms : List Node) (i : ℕ) : Type 0 where
  pub within : i < length ms
  pub well : WellTree (tree_at ms i)
  pub fitting : fits (tree_at ms i) ns ≡ true
  pub slots : slots_over (tree_at ms i) ns ≡ ss
