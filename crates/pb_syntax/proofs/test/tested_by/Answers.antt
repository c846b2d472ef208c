use Rattle.std.proofs.Common.{rules}
use Rattle.pb_syntax.specs.Forms.{test_name}
use Rattle.pb_syntax.specs.ExprView.{expr_view}
use Rattle.pb_syntax.proofs.Named.{test-read}
use Rattle.pb_syntax.proofs.test.tested_by.Goals as goal

pub returns-clause-read : goal.returns-clause-read
returns-clause-read c = record {
  begins = search rules;
  next = c.in_ok-after.ensures.next.token;
  tree = test-read c.args.text.now c.args.token c.in_ok-after.after (test_name c.in-Some.test) (expr_view c.args.value) (expr_view c.in_ok-with_test.field-0) (search rules) c.in-Some.ensures.named c.in_ok-with_test.ensures c.in_ok-after.ensures.next.read;
}
