-- A turn of the loop that goes past digits.
use Rattle.std.proofs.Common.{◌∙◌, arith}
use Rattle.pb_syntax.proofs.Scanned.{digits-turn, number-turn}
use Rattle.pb_syntax.proofs.lexer.after_digits.Goals as goal

pub loop-at-preserved : goal.loop-at-preserved
loop-at-preserved c =
    let text = c.args.text.now in let from = c.args.from in let at = c.loop-at.at in
    record {
      begins = omega arith;
      ends = omega arith;
      digits = digits-turn text from at (omega arith) (omega arith) (cc) c.loop-at.invariant.digits;
      read = λ w. c.loop-at.invariant.read w ∙ number-turn w text from at (omega arith) (omega arith) (cc);
    }
