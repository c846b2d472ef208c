use Rattle.std.proofs.Common.{Some, ap, sym, rules, ◌∙◌}
use Rattle.std.proofs.lemmas.Result.{IfOk-weaker}
use Rattle.pb_language.specs.Expression.{path, variable}
use Rattle.pb_language.specs.Grammar.{reading, with_tree}
use Rattle.pb_syntax.specs.ExprView.{names_of}
use Rattle.pb_syntax.specs.Letters.{letters_at, tokens_at}
use Rattle.pb_syntax.proofs.Exprs.{view-Path}
use Rattle.pb_syntax.proofs.Hosts.{path-groups, path-variable}
use Rattle.pb_syntax.proofs.path.path_at.Goals as goal

pub returns-then-eq-2-clause-read : goal.returns-then-eq-2-clause-read
returns-then-eq-2-clause-read c =
    IfOk-weaker c.groups_at.result _ _
    (λ r h. record {
      begins = search rules;
      next = h.next;
      tree = path-groups c.args.text.now c.args.token c.in_ok-next.next (search rules) (search rules) c.in_ok-next.ensures.next.read ∙ h.tree;
    }) c.groups_at.ensures.read

pub returns-clause-read : goal.returns-clause-read
returns-clause-read c =
    let t = tokens_at c.args.text.now c.in_ok-steps.after in
    record {
      begins = search rules;
      next = c.in_ok-steps.ensures.read.next;
      tree =
          path-variable c.args.text.now c.args.token c.in_ok-next.next (search rules) (search rules) c.in_ok-next.ensures.next.read
          ∙ ap (with_tree (λ ns. path (variable (letters_at c.args.text.now c.args.token)) ns)) c.in_ok-steps.ensures.read.tree
          ∙ ap (λ n. Some (reading (path (variable n) (names_of c.in_ok-steps.steps.items)) t)) (sym c.in_ok-root.ensures.named)
          ∙ ap (λ e. Some (reading e t)) (sym (view-Path _));
    }
