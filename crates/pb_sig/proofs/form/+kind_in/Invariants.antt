use Rattle.std.proofs.Common.{◌≡◌, ◌+◌, ◌*◌, ◌++◌, List, Some}
use Rattle.pb_value.specs.View.{view, fields_view}
use Rattle.pb_kind.specs.KindView.{slots_view}
use Rattle.pb_value.proofs.Fields.{Entry}
use Rattle.pb_sig.specs.Signatures.{slots_in}
use Rattle.pb_sig.proofs.Forms.{size, sizes}
use Rattle.pb_sig.proofs.form.+kind_in.Given as goal

abbrev pub decreases-kind_in : goal.decreases-kind_in
decreases-kind_in l = 4 * size (view l.value.now) + 1

abbrev pub decreases-inner_kind : goal.decreases-inner_kind
decreases-inner_kind l = 4 * size (view l.value.now)

abbrev pub decreases-shape_in : goal.decreases-shape_in
decreases-shape_in l = 4 * size (view l.value.now) + 3

abbrev pub decreases-slots_in : goal.decreases-slots_in
decreases-slots_in l = 4 * sizes (fields_view l.fields.now.entries)

abbrev pub decreases-slot_in : goal.decreases-slot_in
decreases-slot_in l = 4 * size (view l.value.now) + 2

abbrev pub invariant-slots_in-loop-name : goal.invariant-slots_in-loop-name
invariant-slots_in-loop-name l =
    (done : List Entry) × (l.fields.entries ≡ done ++ l.name-iterator) × (slots_in (fields_view done) ≡ Some (slots_view l.slots.entries))
