use Rattle.std.proofs.Common.{◌≡◌, List, ◌++◌, ◌∷◌, drop, string_bytes}
use Rattle.pb_semantics.specs.Project.{projected, projected_items, projected_fields}
use Rattle.pb_kind.specs.KindView.{kind_view, slots_view}
use Rattle.pb_value.specs.View.{items_view, fields_view}
use Rattle.pb_kind.proofs.KindLemmas.{SlotEntry}
use Rattle.pb_value.proofs.Appended.{IsAbove}
use Rattle.pb_kind.proofs.Projections.{and_items, and_fields}
use Rattle.pb_kind.proofs.project.+project.Given as goal

abbrev pub invariant-project_each-loop-item : goal.invariant-project_each-loop-item
invariant-project_each-loop-item l =
    projected_items (λ d. projected d (kind_view l.kind)) (items_view l.items)
    ≡ and_items (items_view l.found.items) (projected_items (λ d. projected d (kind_view l.kind)) (items_view (drop l.item-index l.items)))

abbrev pub invariant-project_fields-loop-name : goal.invariant-project_fields-loop-name
invariant-project_fields-loop-name l =
    (done : List SlotEntry) × (l.slots.entries ≡ done ++ l.name-iterator) × ((e : SlotEntry) (more : List SlotEntry) → l.name-iterator ≡ e ∷ more → IsAbove (string_bytes e.0) (fields_view l.found.entries))
    × (projected_fields (fields_view l.fields.entries) (slots_view l.slots.entries)
    ≡ and_fields (fields_view l.found.entries) (projected_fields (fields_view l.fields.entries) (slots_view l.name-iterator)))
