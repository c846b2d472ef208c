-- The loop that goes to a word's end.
use Rattle.std.proofs.Common.{◌∙◌, slice_range, arith, rules}
use Rattle.std.proofs.lemmas.Grind.{common_steps}
use Rattle.pb_syntax.proofs.Numerals.{names-spelled}
use Rattle.pb_syntax.proofs.Scanned.{names-begin, names-turn, word-begins, word-turn}
use Rattle.pb_syntax.proofs.lexer.word_at.Goals as goal

pub loop-end-init : goal.loop-end-init
loop-end-init c =
    let text = c.args.text.now in let start = c.args.start in
    record {
      begins = omega arith;
      ends = omega arith;
      lettered = names-begin text start (omega arith) c.requires.letter;
      read = word-begins text start (omega arith) (c.type_inv.text start).fits c.requires.letter;
    }

pub loop-end-preserved : goal.loop-end-preserved
loop-end-preserved c =
    let text = c.args.text.now in let start = c.args.start in let end = c.loop-end.end in
    record {
      begins = omega arith;
      ends = omega arith;
      lettered = names-turn text start end (omega arith) (omega arith) (cc) c.loop-end.invariant.lettered;
      read = c.loop-end.invariant.read ∙ word-turn text start end (omega arith) (omega arith) (cc);
    }

pub returns-clause-next : goal.returns-clause-next
returns-clause-next c = record {
  begins = omega arith;
  token = record { wide = search rules; within = search rules; spelled = names-spelled c.word_of.result (slice_range c.args.text.now c.args.start c.loop-end.end) c.word_of.ensures.lettered c.loop-end.invariant.lettered };
  read = grind (arith, common_steps);
}
