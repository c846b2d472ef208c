use Rattle.std.proofs.Common.{◌+◌, take, drop, refl, arith, ap, ◌∙◌}
use Rattle.pb_language.specs.Grammar.{expression_of, with_part}
use Rattle.pb_syntax.proofs.Parts.{marked-last, marked-other, marked-unclosed, marked-closed, part_none}
use Rattle.pb_syntax.proofs.Refusals.{passed, refuses-more}
use Rattle.pb_syntax.proofs.template.braced_at.Goals as goal

pub returns-then-opening-text-clause-refused : goal.returns-then-opening-text-clause-refused
returns-then-opening-text-clause-refused c = λ parts. marked-last parts c.args.text.now c.args.opening c.requires (omega (arith, c.if-opening-text.true))

pub returns-then-text-opening-ne123-clause-refused : goal.returns-then-text-opening-ne123-clause-refused
returns-then-text-opening-ne123-clause-refused c = λ parts. marked-other parts c.args.text.now c.args.opening (omega (arith, c.if-opening-text.false)) c.if-text-opening-ne123.true

pub returns-in_default-clause-refused : goal.returns-in_default-clause-refused
returns-in_default-clause-refused c = λ parts.
    marked-unclosed parts c.args.text.now c.args.opening (omega (arith, c.if-opening-text.false)) c.if-text-opening-ne123.false (c.in_default.ensures.none refl)

pub returns-in_err-expr-clause-refused : goal.returns-in_err-expr-clause-refused
returns-in_err-expr-clause-refused c =
    passed _ c.in_err-expr.field-0.0 _ c.from_residual.ensures.1
    (λ parts. refuses-more _ (expression_of (drop (c.args.opening + 2) (take c.in-Some.end c.args.text.now))) _ c.in_err-expr.ensures.tree
    (λ none.
    marked-closed parts c.args.text.now c.args.opening c.in-Some.end (omega (arith, c.if-opening-text.false)) c.if-text-opening-ne123.false c.in-Some.ensures.begins c.in-Some.ensures.found
    ∙ part_none _ (parts (drop (c.in-Some.end + 2) c.args.text.now)) none))

pub returns-clause-read : goal.returns-clause-read
returns-clause-read c = λ parts.
    marked-closed parts c.args.text.now c.args.opening c.in-Some.end (omega (arith, c.if-opening-text.false)) c.if-text-opening-ne123.false c.in-Some.ensures.begins c.in-Some.ensures.found
    ∙ ap (λ o. with_part o (parts (drop (c.in-Some.end + 2) c.args.text.now))) c.in_ok-expr.ensures.tree
