use Rattle.std.proofs.Common.{◌≡◌}
use Rattle.pb_semantics.specs.Keeps.{all_listed}
use Rattle.pb_kind.specs.KindView.{slots_view}
use Rattle.pb_value.specs.View.{fields_view}
use Rattle.pb_kind.proofs.keeps.are_listed.Given as goal

abbrev pub invariant-loop-name : goal.invariant-loop-name
invariant-loop-name l = all_listed (fields_view l.fields.entries) (slots_view l.slots.entries) ≡ all_listed (fields_view l.name-iterator) (slots_view l.slots.entries)
