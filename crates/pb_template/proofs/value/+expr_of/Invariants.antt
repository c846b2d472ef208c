use Rattle.std.proofs.Common.{◌≡◌, ◌++◌, drop, true}
use Rattle.pb_language.specs.Texts.{values_of, parts_of}
use Rattle.pb_template.proofs.Built.{items_before, parts_before}
use Rattle.pb_template.proofs.Ordered.{key_names}
use Rattle.pb_template.specs.Entries.{are_ascending}
use Rattle.pb_value.specs.View.{items_view, fields_view}
use Rattle.pb_syntax.specs.ExprView.{exprs_view, parts_view}
use Rattle.pb_template.proofs.value.+expr_of.Given as goal

abbrev pub invariant-exprs_of-loop-item : goal.invariant-exprs_of-loop-item
invariant-exprs_of-loop-item l = values_of (items_view l.items) ≡ items_before (exprs_view l.parts.items) (values_of (items_view (drop l.item-index l.items)))

abbrev pub invariant-record_of-loop-name : goal.invariant-record_of-loop-name
invariant-record_of-loop-name l = record {
  given : parts_of (fields_view l.fields.entries) ≡ parts_before (parts_view l.parts.entries) (parts_of (fields_view l.name-iterator));
  ordered : are_ascending (key_names l.parts.entries ++ key_names l.name-iterator) ≡ true;
}
