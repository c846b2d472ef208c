use Rattle.std.proofs.Common.{◌≡◌, slice_range, string_bytes, ap, rules, ◌∙◌}
use Rattle.pb_semantics.specs.Data.{text}
use Rattle.pb_language.specs.Expression.{literal}
use Rattle.pb_syntax.proofs.Exprs.{view-Literal}
use Rattle.pb_syntax.proofs.Parts.{slice-filled, text-none, text-put}
use Rattle.pb_syntax.proofs.template.with_text.Goals as goal

pub returns-then-from-to : goal.returns-then-from-to
returns-then-from-to c = text-none c.args.parts.items c.args.text.now c.args.from c.args.to c.if-from-to.true

pub returns : goal.returns
returns c =
    let w = slice_range c.args.text.now c.args.from c.args.to in
    let spelled : string_bytes c.in_ok-letters.letters ≡ w = search rules in
    text-put c.args.parts.items c.push.new.self.items _ w c.in_ok-push.ensures.items (view-Literal c.in_ok-value.value ∙ ap literal c.in_ok-value.ensures ∙ ap (λ bs. literal (text bs)) spelled)
    (slice-filled c.args.text.now c.args.from c.args.to c.requires.ordered c.if-from-to.false c.requires.ends.0)
