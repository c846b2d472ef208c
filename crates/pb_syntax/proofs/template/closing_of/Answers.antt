use Rattle.std.proofs.Common.{◌≡◌, ◌+◌, ◌&&◌, ◌==◌, false, get_or, sym, rules}
use Rattle.pb_syntax.proofs.Braces.{cut-ends, cut-found, cut-goes, cut-past, cut-unclosed, not-first, not-second-byte}
use Rattle.pb_syntax.proofs.template.closing_of.Goals as goal
use Rattle.pb_syntax.proofs.template.closing_of.Goals.{else-byte-eq125-via-then-byte-eq125+else-text-at-eq125, else-byte-eq125-via-else-byte-eq125}

pub returns-then-text-at-eq125-clause-found : goal.returns-then-text-at-eq125-clause-found
returns-then-text-at-eq125-clause-found c = cut-found _ c.args.text.now c.args.from c.loop-at.at c.loop-at-test.true c.if-byte-eq125.true c.if-text-at-eq125.true c.loop-at.invariant.left

pub returns-in_err-at-clause-none : goal.returns-in_err-at-clause-none
returns-in_err-at-clause-none c = λ _.
    let no : (get_or c.args.text.now c.loop-at.at 0 == 125) && (get_or c.args.text.now (c.loop-at.at + 1) 0 == 125) ≡ false =
    elim c.else-byte-eq125.branch [ else-byte-eq125-via-then-byte-eq125+else-text-at-eq125 w ↦ not-second-byte _ _ 125 w.if-text-at-eq125.false | else-byte-eq125-via-else-byte-eq125 w ↦ not-first _ 125 _ w.if-byte-eq125.false ] in
    cut-unclosed _ c.args.text.now c.args.from c.loop-at.at c.loop-at.invariant.begins c.loop-at-test.true no (sym c.if-is_quote.ensures) c.loop-at.invariant.left (search rules)

pub loop-at-preserved-then-is_quote : goal.loop-at-preserved-then-is_quote
loop-at-preserved-then-is_quote c = record {
  begins = search rules;
  ends = search rules;
  left =
      let no : (get_or c.args.text.now c.loop-at.at 0 == 125) && (get_or c.args.text.now (c.loop-at.at + 1) 0 == 125) ≡ false =
      elim c.else-byte-eq125.branch [ else-byte-eq125-via-then-byte-eq125+else-text-at-eq125 w ↦ not-second-byte _ _ 125 w.if-text-at-eq125.false | else-byte-eq125-via-else-byte-eq125 w ↦ not-first _ 125 _ w.if-byte-eq125.false ] in
      cut-past _ c.args.text.now c.args.from c.loop-at.at c.in_ok-at.at c.loop-at.invariant.begins c.loop-at-test.true no (sym c.if-is_quote.ensures) c.loop-at.invariant.left c.in_ok-at.ensures.begins c.in_ok-at.ensures.ends c.in_ok-at.ensures.found;
}

pub loop-at-preserved : goal.loop-at-preserved
loop-at-preserved c = record {
  begins = search rules;
  ends = search rules;
  left =
      let no : (get_or c.args.text.now c.loop-at.at 0 == 125) && (get_or c.args.text.now (c.loop-at.at + 1) 0 == 125) ≡ false =
      elim c.else-byte-eq125.branch [ else-byte-eq125-via-then-byte-eq125+else-text-at-eq125 w ↦ not-second-byte _ _ 125 w.if-text-at-eq125.false | else-byte-eq125-via-else-byte-eq125 w ↦ not-first _ 125 _ w.if-byte-eq125.false ] in
      cut-goes _ c.args.text.now c.args.from c.loop-at.at c.loop-at.invariant.begins c.loop-at-test.true no (sym c.if-is_quote.ensures) c.loop-at.invariant.left;
}

pub returns-clause-none : goal.returns-clause-none
returns-clause-none c = λ _. cut-ends _ c.args.text.now c.args.from c.loop-at.at _ c.loop-at-test.false c.loop-at.invariant.left
