use Rattle.std.proofs.Common.{◌≡◌, map}
use Rattle.pb_language.specs.BookForm.{has_other_key}
use Rattle.pb_value.specs.View.{fields_view}
use Rattle.pb_play.proofs.form.has_other_key.Given as goal

abbrev pub invariant-loop-key : goal.invariant-loop-key
invariant-loop-key l = has_other_key (map (λ w. w.now) l.words) (fields_view l.fields.entries) ≡ has_other_key (map (λ w. w.now) l.words) (fields_view l.key-iterator)
