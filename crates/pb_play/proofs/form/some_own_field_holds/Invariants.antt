use Rattle.std.proofs.Common.{◌≡◌, map}
use Rattle.pb_language.specs.BookForm.{own_fields}
use Rattle.pb_language.specs.Nesting.{some_field_holds}
use Rattle.pb_value.specs.View.{fields_view}
use Rattle.pb_play.proofs.form.some_own_field_holds.Given as goal

abbrev pub invariant-loop-key : goal.invariant-loop-key
invariant-loop-key g l = some_field_holds g.T.Test.meaning (own_fields (map (λ w. w.now) l.words) (fields_view l.fields.entries)) ≡ some_field_holds g.T.Test.meaning (own_fields (map (λ w. w.now) l.words) (fields_view l.key-iterator))
