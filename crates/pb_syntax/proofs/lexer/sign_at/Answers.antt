-- The sign that the text has there.
use Rattle.std.proofs.Common.{◌≡◌, ◌+◌, ◌&&◌, true, false, slice_index, slice_range, sym, ◌∙◌, arith}
use Rattle.std.proofs.lemmas.Grind.{common_steps}
use Rattle.pb_language.specs.Tokens.{is_paired}
use Rattle.pb_syntax.proofs.Scanned.{sign-double, sign-refused, sign-single}
use Rattle.pb_syntax.proofs.lexer.sign_at.Goals as goal

pub returns-in_default-clause-refused : goal.returns-in_default-clause-refused
returns-in_default-clause-refused c =
    record {
      refused = sign-refused c.args.text.now c.args.start c.has_equal-is_paired.result (omega arith) c.requires.apart c.has_equal-is_paired.ensures c.in_default.ensures.refused;
      place = omega arith;
    }

pub returns-then-is_pair-clause-next : goal.returns-then-is_pair-clause-next
returns-then-is_pair-clause-next c =
    let text = c.args.text.now in let start = c.args.start in let paired = c.has_equal-is_paired.result in
    let both : (paired && is_paired (slice_index text start)) ≡ true = sym c.in-Some.ensures.pair ∙ sym c.is_pair.ensures ∙ c.if-is_pair.true in
    record {
      begins = omega arith;
      token = record { wide = grind (arith, common_steps); within = grind (arith, common_steps); spelled = c.in-Some.ensures.spelled (slice_range text start (start + 2)) };
      read = c.in-Some.ensures.sign _ _ _ ∙ sym (sign-double text start paired (omega arith) c.requires.apart c.has_equal-is_paired.ensures both);
    }

pub returns-else-is_pair-clause-next : goal.returns-else-is_pair-clause-next
returns-else-is_pair-clause-next c =
    let text = c.args.text.now in let start = c.args.start in let paired = c.has_equal-is_paired.result in
    let alone : (paired && is_paired (slice_index text start)) ≡ false = sym c.in-Some.ensures.pair ∙ sym c.is_pair.ensures ∙ c.if-is_pair.false in
    record {
      begins = omega arith;
      token = record { wide = grind (arith, common_steps); within = grind (arith, common_steps); spelled = c.in-Some.ensures.spelled (slice_range text start (start + 1)) };
      read = c.in-Some.ensures.sign _ _ _ ∙ sym (sign-single text start paired (omega arith) c.requires.apart c.has_equal-is_paired.ensures alone);
    }
