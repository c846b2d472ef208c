use Rattle.std.proofs.Common.{◌≡◌, drop}
use Rattle.pb_language.specs.Nesting.{are_fields_within, are_items_within}
use Rattle.pb_language.specs.Texts.{has_short_braces}
use Rattle.pb_value.specs.View.{items_view, fields_view}
use Rattle.pb_template.proofs.limits.+within.Given as goal

abbrev pub invariant-are_items_within-loop-item : goal.invariant-are_items_within-loop-item
invariant-are_items_within-loop-item l = are_items_within has_short_braces l.levels (items_view l.items) ≡ are_items_within has_short_braces l.levels (items_view (drop l.item-index l.items))

abbrev pub invariant-are_fields_within-loop-value : goal.invariant-are_fields_within-loop-value
invariant-are_fields_within-loop-value l = are_fields_within has_short_braces l.levels (fields_view l.fields.entries) ≡ are_fields_within has_short_braces l.levels (fields_view l.value-iterator)
