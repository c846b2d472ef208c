use Rattle.std.proofs.Common.{◌≡◌, ◌-◌, List, None, String, Global, string_bytes, ap, sym, rules, arith, ◌∙◌}
use Rattle.smallvec.specs.SmallVec.{small_vec_len}
use Rattle.pb_language.specs.Grammar.{steps_of}
use Rattle.pb_syntax.specs.ExprView.{names_of}
use Rattle.pb_syntax.specs.Letters.{tokens_at}
use Rattle.pb_syntax.specs.Reads.{next_view}
use Rattle.pb_syntax.proofs.Refusals.{passed-refused}
use Rattle.pb_syntax.proofs.Steps.{steps-done, steps-many, steps-next, steps-stuck, with_steps}
use Rattle.pb_syntax.proofs.path.steps_at.Goals as goal

pub returns-in_err-name-clause-refused : goal.returns-in_err-name-clause-refused
returns-in_err-name-clause-refused c =
    passed-refused c.args.text.now _ c.in_err-name.field-0.0 _ c.from_residual.ensures.1
    (steps-stuck c.args.text.now c.in_err-name.field-0.0 _ (names_of c.steps.steps.items) (c.args.most - small_vec_len c.steps.steps) (tokens_at c.args.text.now c.steps.after) c.steps.invariant.left c.in_err-name.ensures.refused)

pub returns-then-len-most-clause-refused : goal.returns-then-len-most-clause-refused
returns-then-len-most-clause-refused c = record {
  place = search rules;
  refused = steps-many _ (names_of c.steps.steps.items) (c.args.most - small_vec_len c.steps.steps) (string_bytes c.in-Some.name) (tokens_at c.args.text.now c.steps.after) (tokens_at c.args.text.now c.in-Some.next) c.steps.invariant.left
      (omega (arith, c.len.ensures, c.if-len-most.true)) (c.in_ok-name.ensures.read ∙ ap (next_view c.args.text.now) c.in-Some.is);
}

pub steps-preserved : goal.steps-preserved
steps-preserved c =
    let us = tokens_at c.args.text.now c.in-Some.next in
    record {
      short = omega (arith, c.len.ensures, c.if-len-most.false, c.in_ok-push.ensures.len);
      begins = search rules;
      next = search rules;
      left =
          steps-next _ c.steps.steps.items (c.args.most - small_vec_len c.steps.steps) (c.args.most - small_vec_len c.push.new.self) c.in-Some.name (tokens_at c.args.text.now c.steps.after) us c.steps.invariant.left
          (omega (arith, c.len.ensures, c.if-len-most.false, c.in_ok-push.ensures.len)) (c.in_ok-name.ensures.read ∙ ap (next_view c.args.text.now) c.in-Some.is)
          ∙ ap (λ (ns : List (String Global)). with_steps (names_of ns) (steps_of (c.args.most - small_vec_len c.push.new.self) us)) (sym c.in_ok-push.ensures.ok);
    }

pub returns-clause-read : goal.returns-clause-read
returns-clause-read c =
    let none : c.in_ok-name.field-0 ≡ None = search rules in
    record {
      begins = c.steps.invariant.begins;
      next = c.steps.invariant.next;
      tree = steps-done _ (names_of c.steps.steps.items) (c.args.most - small_vec_len c.steps.steps) (tokens_at c.args.text.now c.steps.after) c.steps.invariant.left (c.in_ok-name.ensures.read ∙ ap (next_view c.args.text.now) none);
    }
