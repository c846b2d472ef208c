use Rattle.std.proofs.Common.{ap, rules, ◌∙◌}
use Rattle.pb_language.specs.Expression.{group_member}
use Rattle.pb_language.specs.Grammar.{with_tree}
use Rattle.pb_syntax.specs.ExprView.{names_of}
use Rattle.pb_syntax.proofs.Hosts.{group-term}
use Rattle.pb_syntax.proofs.path.group_term.Goals as goal

pub returns-clause-read : goal.returns-clause-read
returns-clause-read c = record {
  begins = search rules;
  next = c.in_ok-member.ensures.read.next;
  tree =
      group-term c.args.text.now (names_of c.in_ok-steps.steps.items) _ c.in_ok-steps.bracket c.in_ok-steps.ensures.read.tree (search rules)
      ∙ ap (with_tree (λ m. group_member m.0 m.1)) c.in_ok-member.ensures.read.tree;
}
