use Rattle.std.proofs.Common.{◌≡◌, codes, true, sym, ap, ◌∙◌, rules}
use Rattle.pb_semantics.specs.Data.{rec, field_value}
use Rattle.pb_semantics.specs.Keeps.{flag_is}
use Rattle.pb_value.specs.View.{view, fields_view}
use Rattle.pb_value.specs.declared.value.Value.{the_lemmas}
use Rattle.pb_runner.specs.Scripts.{says_unreachable}
use Rattle.pb_runner.proofs.script.is_unreachable.Goals as goal

pub returns-in-Rec : goal.returns-in-Rec
returns-in-Rec c =
    let record_at : view c.args.entry.now ≡ rec (fields_view c.in-Rec.fields.value.parts.entries) = search (rules, the_lemmas) in
    let fields : c.says_so.result ≡ flag_is true (field_value (codes "unreachable") (fields_view c.in-Rec.fields.value.parts.entries)) = c.says_so.ensures ∙ ap (λ m. flag_is true (field_value (codes "unreachable") (fields_view m.entries))) (c.deref-in-Rec.ensures ∙ ap (λ w. w.parts) c.deref.ensures) in
    fields ∙ sym (ap says_unreachable record_at)
