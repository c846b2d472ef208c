-- The number that the text has there.
use Rattle.std.proofs.Common.{drop, sym, ap, ◌∙◌, arith, rules}
use Rattle.pb_language.specs.Tokens.{number_then, tokens_of}
use Rattle.pb_syntax.proofs.Scanned.{number-read}
use Rattle.pb_syntax.proofs.lexer.number_at.Goals as goal

pub returns-in-Some-clause-next : goal.returns-in-Some-clause-next
returns-in-Some-clause-next c =
    let text = c.args.text.now in let start = c.args.start in let end = c.after_digits-end.result in
    record {
      begins = omega arith;
      token = search rules;
      read = c.in-Some.ensures.number _ _ ∙ sym (number-read text start end (omega arith) (omega arith) (c.type_inv.text start).fits c.requires.first c.after_digits-end.ensures.read);
    }

pub returns-in-None-clause-refused : goal.returns-in-None-clause-refused
returns-in-None-clause-refused c =
    let text = c.args.text.now in let start = c.args.start in let end = c.after_digits-end.result in
    record {
      refused =
          number-read text start end (omega arith) (omega arith) (c.type_inv.text start).fits c.requires.first c.after_digits-end.ensures.read
          ∙ ap (λ n. number_then n (tokens_of (drop end text))) c.in-None.ensures.refused;
      place = omega arith;
    }
