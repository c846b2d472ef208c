use Rattle.std.proofs.Common.{◌≡◌, drop}
use Rattle.pb_semantics.specs.Keeps.{keeps, all_items, slots_kept, cases_kept}
use Rattle.pb_kind.specs.KindView.{kind_view, slots_view, cases_view}
use Rattle.pb_value.specs.View.{items_view, fields_view}
use Rattle.pb_kind.proofs.keeps.+has.Given as goal

abbrev pub invariant-has_each-loop-item : goal.invariant-has_each-loop-item
invariant-has_each-loop-item l =
    all_items (λ d. keeps d (kind_view l.kind)) (items_view l.items) ≡ all_items (λ d. keeps d (kind_view l.kind)) (items_view (drop l.item-index l.items))

abbrev pub invariant-has_fields-loop-name : goal.invariant-has_fields-loop-name
invariant-has_fields-loop-name l =
    slots_kept (fields_view l.fields.entries) (slots_view l.slots.entries) ≡ slots_kept (fields_view l.fields.entries) (slots_view l.name-iterator)

abbrev pub invariant-has_case-loop-case : goal.invariant-has_case-loop-case
invariant-has_case-loop-case l =
    cases_kept (fields_view l.fields.entries) (cases_view l.cases) ≡ cases_kept (fields_view l.fields.entries) (cases_view (drop l.case-index l.cases))
