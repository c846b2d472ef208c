use Rattle.std.proofs.Common.{◌≡◌, option_map}
use Rattle.pb_language.specs.Texts.{are_values_within}
use Rattle.pb_template.specs.Entries.{but}
use Rattle.pb_value.specs.View.{fields_view}
use Rattle.pb_template.proofs.limits.are_values_within.Given as goal

abbrev pub invariant-loop-name : goal.invariant-loop-name
invariant-loop-name l = are_values_within (but (option_map (λ n. n.now) l.left_out) (fields_view l.fields.entries)) ≡ are_values_within (but (option_map (λ n. n.now) l.left_out) (fields_view l.name-iterator))
