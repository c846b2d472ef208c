use Rattle.std.proofs.Common.{◌∙◌, sym, rules, arith}
use Rattle.pb_inventory.proofs.WordBytes.{met-first, met-last, met-more, met-word}
use Rattle.pb_inventory.proofs.pattern.divider_from.Goals as goal

pub loop-place-init : goal.loop-place-init
loop-place-init c = record { begins = omega arith; ends = c.requires; met = met-first c.args.text.now c.args.from c.requires }

pub returns-then-is_divider-clause-words : goal.returns-then-is_divider-clause-words
returns-then-is_divider-clause-words c = met-word c.args.text.now c.args.from c.loop-place.place c.loop-place-test.true (sym c.is_divider.ensures ∙ c.if-is_divider.true) c.loop-place.invariant.met

pub loop-place-preserved : goal.loop-place-preserved
loop-place-preserved c = record {
  begins = search rules;
  ends = search rules;
  met = met-more c.args.text.now c.args.from c.loop-place.place c.loop-place.invariant.begins c.loop-place-test.true (sym c.is_divider.ensures ∙ c.if-is_divider.false) c.loop-place.invariant.met;
}

pub returns-clause-words : goal.returns-clause-words
returns-clause-words c = met-last c.args.text.now c.args.from c.loop-place.place (omega (arith, c.loop-place.invariant.ends, c.loop-place-test.false)) c.loop-place.invariant.met
