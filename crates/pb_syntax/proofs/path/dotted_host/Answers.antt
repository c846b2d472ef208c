use Rattle.std.proofs.Common.{ap, ◌∙◌}
use Rattle.pb_language.specs.Expression.{named_host}
use Rattle.pb_language.specs.Grammar.{with_tree}
use Rattle.pb_syntax.proofs.Hosts.{dotted-named}
use Rattle.pb_syntax.proofs.Sorts.{behind}
use Rattle.pb_syntax.proofs.path.dotted_host.Goals as goal

pub returns-clause-read : goal.returns-clause-read
returns-clause-read c = record {
  begins = c.in_ok-name.ensures.read.begins;
  next = c.in_ok-name.ensures.read.next;
  tree = dotted-named (behind c.args.text.now c.args.dot) ∙ ap (with_tree (λ n. named_host n)) c.in_ok-name.ensures.read.tree;
}
