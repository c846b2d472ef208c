use Rattle.std.proofs.Common.{◌≡◌, ◌+◌, ◌&&◌, ◌==◌, false, get_or, sym, rules}
use Rattle.pb_language.specs.Grammar.{is_mark}
use Rattle.pb_syntax.proofs.Braces.{opening-goes, opening-found, opening-ends, not-first, not-second}
use Rattle.pb_syntax.proofs.template.opening_of.Goals as goal
use Rattle.pb_syntax.proofs.template.opening_of.Goals.{else-text-at-eq123-via-then-text-at-eq123+else-is_opening, else-text-at-eq123-via-else-text-at-eq123}

pub loop-at-preserved : goal.loop-at-preserved
loop-at-preserved c = record {
  begins = search rules;
  ends = search rules;
  left =
      let no : (get_or c.args.text.now c.loop-at.at 0 == 123) && is_mark (get_or c.args.text.now (c.loop-at.at + 1) 0) ≡ false =
      elim c.else-text-at-eq123.branch [ else-text-at-eq123-via-then-text-at-eq123+else-is_opening w ↦ not-second _ _ (sym w.if-is_opening.ensures) | else-text-at-eq123-via-else-text-at-eq123 w ↦ not-first _ 123 _ w.if-text-at-eq123.false ] in
      opening-goes _ c.args.text.now c.args.from c.loop-at.at c.loop-at.invariant.begins c.loop-at-test.true no c.loop-at.invariant.left;
}

pub returns-clause-found : goal.returns-clause-found
returns-clause-found c = opening-ends _ c.args.text.now c.args.from c.loop-at.at c.loop-at.invariant.begins c.loop-at.invariant.ends c.loop-at-test.false c.loop-at.invariant.left

pub returns-then-is_opening-clause-found : goal.returns-then-is_opening-clause-found
returns-then-is_opening-clause-found c = opening-found _ c.args.text.now c.args.from c.loop-at.at c.loop-at-test.true c.if-text-at-eq123.true (sym c.if-is_opening.ensures) c.loop-at.invariant.left
