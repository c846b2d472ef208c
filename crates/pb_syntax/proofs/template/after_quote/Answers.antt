use Rattle.std.proofs.Common.{rules}
use Rattle.pb_syntax.proofs.Braces.{cut-ends, quoted-escape, quoted-closes, quoted-goes}
use Rattle.pb_syntax.proofs.template.after_quote.Goals as goal

pub loop-at-preserved-then-text-at-eq92 : goal.loop-at-preserved-then-text-at-eq92
loop-at-preserved-then-text-at-eq92 c = record {
  begins = search rules;
  ends = search rules;
  left = quoted-escape _ c.args.text.now c.args.from c.loop-at.at c.args.quote c.loop-at.invariant.begins c.loop-at-test.true c.if-text-at-eq92.true c.loop-at.invariant.left;
}

pub returns-then-text-at-clause-found : goal.returns-then-text-at-clause-found
returns-then-text-at-clause-found c = quoted-closes _ c.args.text.now c.args.from c.loop-at.at c.args.quote c.loop-at.invariant.begins c.loop-at-test.true c.if-text-at-eq92.false c.if-text-at.true c.loop-at.invariant.left

pub loop-at-preserved : goal.loop-at-preserved
loop-at-preserved c = record {
  begins = search rules;
  ends = search rules;
  left = quoted-goes _ c.args.text.now c.args.from c.loop-at.at c.args.quote c.loop-at.invariant.begins c.loop-at-test.true c.if-text-at-eq92.false c.if-text-at.false c.loop-at.invariant.left;
}

pub returns-clause-none : goal.returns-clause-none
returns-clause-none c = λ _. cut-ends _ c.args.text.now c.args.from c.loop-at.at _ c.loop-at-test.false c.loop-at.invariant.left
