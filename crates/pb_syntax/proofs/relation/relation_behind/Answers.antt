use Rattle.std.proofs.Common.{rules}
use Rattle.pb_language.specs.Grammar.{operand_of}
use Rattle.pb_syntax.proofs.Relations.{related-sign, related-order, related-not-in}
use Rattle.pb_syntax.proofs.relation.relation_behind.Goals as goal

pub returns-in_ok-token_at-in-Equal-clause-read : goal.returns-in_ok-token_at-in-Equal-clause-read
returns-in_ok-token_at-in-Equal-clause-read c a d =
    related-sign c.args.text.now c.args.sign c.in_ok-token_at-in-Equal.field-0 a (operand_of d) c.in-Equal.is c.in_ok-token_at-in-Equal.ensures.next.read

pub returns-in_ok-token_at-in-Not-clause-read : goal.returns-in_ok-token_at-in-Not-clause-read
returns-in_ok-token_at-in-Not-clause-read c a d =
    related-not-in c.args.text.now c.args.sign c.in_ok-word-in-Not.word c.in_ok-token_at-in-Not.field-0 a (operand_of d) c.in-Not.is c.in_ok-word-in-Not.ensures.next.read (search rules)
    c.in_ok-token_at-in-Not.ensures.next.read

pub returns-in_ok-token_at-in-Less-clause-read : goal.returns-in_ok-token_at-in-Less-clause-read
returns-in_ok-token_at-in-Less-clause-read c a d =
    related-order c.args.text.now c.args.sign c.in_ok-token_at-in-Less.field-0 a (operand_of d) c.in-Less.is c.in_ok-token_at-in-Less.ensures.next.read
