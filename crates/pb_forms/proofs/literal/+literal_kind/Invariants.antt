use Rattle.std.proofs.Common.{◌≡◌, ◌++◌, List, drop, String, Global}
use Rattle.pb_language.specs.Kinds.{known_kind, known_items}
use Rattle.pb_value.specs.View.{view, items_view}
use Rattle.pb_kind.specs.KindView.{slots_view}
use Rattle.pb_kind.specs.Growing.{growing_view}
use Rattle.pb_value.specs.declared.value.Value.{Value}
use Rattle.pb_forms.proofs.Records.{slots_from}
use Rattle.pb_forms.proofs.literal.+literal_kind.Given as goal

abbrev pub invariant-literal_items-loop-index : goal.invariant-literal_items-loop-index
invariant-literal_items-loop-index l = growing_view l.joined ≡ known_items (items_view (drop l.index l.items))

abbrev pub invariant-literal_fields-loop-name : goal.invariant-literal_fields-loop-name
invariant-literal_fields-loop-name l =
    (done : List (String Global × Value)) × (l.fields.entries ≡ done ++ l.name-iterator) × (slots_view l.kinds.entries ≡ slots_from (λ v. known_kind (view v)) done)
