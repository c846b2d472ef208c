-- The loop that goes to a text's end.
use Rattle.std.proofs.Common.{◌≡◌, ◌+◌, ◌-◌, drop, slice_range, slice_index, sym, ap, ◌∙◌, arith}
use Rattle.std.proofs.lemmas.List.Edits.{between_none}
use Rattle.std.specs.Option.{is_some}
use Rattle.pb_language.specs.Tokens.{a_text, quoted, token, tokens_from, tokens_of}
use Rattle.pb_syntax.specs.Letters.{unescaped}
use Rattle.pb_syntax.proofs.Scanned.{text-begins, text-ends}
use Rattle.pb_syntax.proofs.Meanings.{whole-none, whole-turn, whole-escaped, meaning-turn, meaning-escaped}
use Rattle.pb_syntax.proofs.lexer.closing_after.Goals as goal

pub loop-at-init : goal.loop-at-init
loop-at-init c =
    let text = c.args.text.now in let start = c.args.start in
    record {
      begins = omega arith;
      ends = omega arith;
      whole = whole-none text (start + 1);
      read = text-begins text start (omega arith) (c.type_inv.text start).fits c.requires.quote
          ∙ ap (λ w. tokens_from (a_text (slice_index text start) (unescaped w)) (drop (start + 1) text)) (sym (between_none text (start + 1)));
    }

pub returns-then-byte-quote-clause-read : goal.returns-then-byte-quote-clause-read
returns-then-byte-quote-clause-read c =
    let text = c.args.text.now in let start = c.args.start in let at = c.loop-at.at in
    let before : at ≡ (at + 1) - 1 = omega arith in
    c.loop-at.invariant.read ∙ text-ends (slice_index text start) (unescaped (slice_range text (start + 1) at)) text at (omega arith) c.if-byte-quote.true
    ∙ ap (λ n. token (quoted (unescaped (slice_range text (start + 1) n))) (tokens_of (drop (at + 1) text))) before

pub loop-at-preserved-then-byte-ne92 : goal.loop-at-preserved-then-byte-ne92
loop-at-preserved-then-byte-ne92 c =
    let text = c.args.text.now in let start = c.args.start in let at = c.loop-at.at in
    record {
      begins = omega arith;
      ends = omega arith;
      whole = whole-turn text (start + 1) at (omega arith) (omega arith) c.if-byte-ne92.true c.loop-at.invariant.whole;
      read = c.loop-at.invariant.read ∙ meaning-turn (slice_index text start) text (start + 1) at (omega arith) (omega arith) c.if-byte-quote.false c.if-byte-ne92.true c.loop-at.invariant.whole;
    }

pub loop-at-preserved : goal.loop-at-preserved
loop-at-preserved c =
    let text = c.args.text.now in let start = c.args.start in let at = c.loop-at.at in
    let known = ap is_some (sym c.letter_of.ensures) ∙ sym c.if-is_some.ensures in
    record {
      begins = omega arith;
      ends = omega arith;
      whole = whole-escaped text (start + 1) at (omega arith) (omega arith) c.if-byte-ne92.false c.loop-at.invariant.whole;
      read = c.loop-at.invariant.read
          ∙ meaning-escaped (slice_index text start) text (start + 1) at (omega arith) (omega arith) c.if-byte-quote.false c.if-byte-ne92.false known c.loop-at.invariant.whole;
    }
