-- What a quoted text means, and a meaning that is no text.
use Rattle.std.proofs.Common.{◌≡◌, Some, Vec, Global, ℕ, string_bytes, sym, ap, ◌∙◌}
use Rattle.std.proofs.lemmas.Bool.{cond-true, cond-false, false_from_ne_true, false≢true}
use Rattle.std.proofs.lemmas.Str.{IsUtf8-from_is_utf8, IsUtf8-string_bytes, is_utf8-from_IsUtf8}
use Rattle.std.specs.Str.{is_utf8}
use Rattle.pb_syntax.specs.Letters.{meaning_at}
use Rattle.pb_syntax.proofs.lexer.meaning_of.Goals as goal

pub returns-in-Ok-clause-read : goal.returns-in-Ok-clause-read
returns-in-Ok-clause-read c =
    let meaning = meaning_at c.args.text.now c.args.token in
    let same : meaning ≡ string_bytes c.in-Ok.meaning = sym c.in_ok-letters.ensures ∙ sym (ap (λ (v : Vec ℕ Global). v.items) c.in-Ok.ensures.ok) in
    cond-true (is_utf8 meaning) _ _ (ap is_utf8 same ∙ is_utf8-from_IsUtf8 (string_bytes c.in-Ok.meaning) (IsUtf8-string_bytes c.in-Ok.meaning))
    ∙ ap Some same

pub returns-clause-refused : goal.returns-clause-refused
returns-clause-refused c =
    let meaning = meaning_at c.args.text.now c.args.token in
    cond-false (is_utf8 meaning) _ _
    (false_from_ne_true (is_utf8 meaning) (λ utf8. false≢true (c.in-Err.ensures.succeeds (IsUtf8-from_is_utf8 c.in_ok-letters.letters.items (ap is_utf8 c.in_ok-letters.ensures ∙ utf8)))))
