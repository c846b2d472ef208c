use Rattle.std.proofs.Common.{◌≡◌, drop}
use Rattle.pb_language.specs.Nesting.{some_field_holds, some_item_holds}
use Rattle.pb_value.specs.View.{items_view, fields_view}
use Rattle.pb_template.proofs.nesting.+holding.Given as goal

abbrev pub invariant-some_item_holds-loop-item : goal.invariant-some_item_holds-loop-item
invariant-some_item_holds-loop-item g l = some_item_holds g.T.Test.meaning (items_view l.items) ≡ some_item_holds g.T.Test.meaning (items_view (drop l.item-index l.items))

abbrev pub invariant-some_field_holds-loop-value : goal.invariant-some_field_holds-loop-value
invariant-some_field_holds-loop-value g l = some_field_holds g.T.Test.meaning (fields_view l.fields.entries) ≡ some_field_holds g.T.Test.meaning (fields_view l.value-iterator)
