use Rattle.std.proofs.Common.{List, [], Some, String, Global, string_bytes, ap, sym, rules, ◌∙◌}
use Rattle.pb_language.specs.Expression.{member, path}
use Rattle.pb_language.specs.Grammar.{reading, with_tree}
use Rattle.pb_syntax.specs.ExprView.{names_of}
use Rattle.pb_syntax.specs.Letters.{tokens_at}
use Rattle.pb_syntax.proofs.Exprs.{view-Path}
use Rattle.pb_syntax.proofs.Hosts.{group-path}
use Rattle.pb_syntax.proofs.path.groups_at.Goals as goal

pub returns-clause-read : goal.returns-clause-read
returns-clause-read c =
    let m = c.in_ok-member.member in
    record {
      begins = search rules;
      next = c.in_ok-member.ensures.read.next;
      tree =
          group-path c.args.text.now (names_of c.in_ok-steps.steps.items) _ c.in_ok-steps.after c.in_ok-steps.ensures.read.tree (search rules)
          ∙ ap (with_tree (λ m. path (member m.0 m.1) [])) c.in_ok-member.ensures.read.tree
          ∙ ap (λ e. Some (reading e (tokens_at c.args.text.now c.in_ok-member.after)))
          (sym (view-Path _ ∙ ap (λ (ns : List (String Global)). path (member (string_bytes m.group) m.place) (names_of ns)) c.new.ensures.items));
    }
