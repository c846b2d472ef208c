use Rattle.std.proofs.Common.{◌≡◌, true, false}
use Rattle.pb_semantics.specs.Keeps.{is_among}
use Rattle.pb_language.specs.Expression.{Name}
use Rattle.pb_kind.specs.KindView.{slots_view}
use Rattle.pb_rules.specs.Names.{names_in}
use Rattle.pb_tables.proofs.Changing.{Told}
use Rattle.pb_tables.proofs.changed.add_unlike.Given as goal

abbrev pub invariant-loop-name : goal.invariant-loop-name
invariant-loop-name l =
    (x : Name) → (is_among x (names_in l.fn.names) ≡ true → is_among x (names_in l.names) ≡ true)
    × (is_among x (names_in l.names) ≡ false → Told x (slots_view l.before.entries) (slots_view l.name-iterator) → Told x (slots_view l.before.entries) (slots_view l.after.entries))
