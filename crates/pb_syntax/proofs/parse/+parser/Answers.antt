use Rattle.std.proofs.Common.{◌≡◌, ◌∙◌, Some, IfErr, sym, ap, subst, rules, arith}
use denote.Enum.Bare.{same_true}
use Rattle.pb_language.specs.Expression.{Expression, negation, list_of}
use Rattle.pb_language.specs.Grammar.{Reading, reading, closed_items, count_of, deeper, disjunction_of, filter_of, with_tree}
use Rattle.pb_syntax.specs.ExprView.{expr_view, exprs_view}
use Rattle.pb_syntax.specs.Forms.{link_view, linked_of}
use Rattle.pb_syntax.specs.Letters.{tokens_at}
use Rattle.pb_syntax.specs.Reads.{IsRefused}
use Rattle.pb_syntax.specs.Place.{least_width}
use Rattle.pb_syntax.specs.contracts.lexer.Sort.{the_type}
use Rattle.pb_syntax.specs.declared.lexer.Sort.TheVariants as sort
use Rattle.pb_syntax.specs.declared.expr.Expr.{Expr}
use Rattle.pb_syntax.proofs.Chains.{chain-none}
use Rattle.pb_syntax.proofs.Exprs.{view-List, view-Not}
use Rattle.pb_syntax.proofs.Named.{filters-begin, filters-go, filters-break, filters-end}
use Rattle.pb_syntax.proofs.Operands.{linked-unread, operand-first, operand-next, operand-breaks, operands-done}
use Rattle.pb_syntax.proofs.Refusals.{refuses-none, refuses-more, passed-refused}
use Rattle.pb_syntax.proofs.Sorts.{behind, closed-read, closed-refused, inside-of, items-below, items-chain, items-none, items-read, items-refused, link-width, negation-read, negation-refused, not-negated}
use Rattle.pb_syntax.proofs.parse.+parser.Goals as goal

pub chain_at-operands-init : goal.chain_at-operands-init
chain_at-operands-init t c = record {
  begins = c.in_ok-first.ensures.read.begins;
  next = c.in_ok-first.ensures.read.next;
  chain = operand-first c.args.link c.args.depth (tokens_at c.args.text.now c.args.token) (tokens_at c.args.text.now c.in_ok-first.after) c.push.new.self.items c.new-operands.result.items c.in_ok-first.first c.in_ok-first.ensures.read.tree c.in_ok-push.ensures.items c.new-operands.ensures.items;
}

pub chain_at-returns-in_err-first-clause-refused : goal.chain_at-returns-in_err-first-clause-refused
chain_at-returns-in_err-first-clause-refused t c =
    passed-refused c.args.text.now _ c.in_err-first.field-0.0 _ c.from_residual.ensures.1
    (record {
      place = c.in_err-first.ensures.refused.place;
      refused = refuses-more _ _ _ c.in_err-first.ensures.refused.refused
          (λ none. chain-none (link_view c.args.link) (linked_of c.args.link (deeper c.args.depth)) (count_of (tokens_at c.args.text.now c.args.token)) (tokens_at c.args.text.now c.args.token) none);
    })

pub chain_at-returns-in_err-token_at-clause-refused : goal.chain_at-returns-in_err-token_at-clause-refused
chain_at-returns-in_err-token_at-clause-refused t c =
    passed-refused c.args.text.now _ c.in_err-token_at.field-0.0 _ c.from_residual-in_err-token_at.ensures.1
    (record {
      place = c.in_err-token_at.ensures.refused.place;
      refused = refuses-none _ _ (operand-breaks c.args.link c.args.text.now c.args.depth (tokens_at c.args.text.now c.args.token) c.operands.operands.items c.operands.after c.operands.invariant.chain (same_true the_type (record {}) c.operands.after.sort c.sort_of-sort.result (sym c.eq.ensures ∙ c.operands-test.true) ∙ c.sort_of-sort.ensures)
          (linked-unread c.args.link c.args.depth (behind c.args.text.now c.operands.after) c.in_err-token_at.ensures.refused.refused));
    })

pub chain_at-returns-in_err-operand-clause-refused : goal.chain_at-returns-in_err-operand-clause-refused
chain_at-returns-in_err-operand-clause-refused t c =
    passed-refused c.args.text.now _ c.in_err-operand.field-0.0 _ c.from_residual-in_err-operand.ensures.1
    (record {
      place = c.in_err-operand.ensures.refused.place;
      refused = refuses-more _ _ _ c.in_err-operand.ensures.refused.refused
          (λ none. operand-breaks c.args.link c.args.text.now c.args.depth (tokens_at c.args.text.now c.args.token) c.operands.operands.items c.operands.after c.operands.invariant.chain (same_true the_type (record {}) c.operands.after.sort c.sort_of-sort.result (sym c.eq.ensures ∙ c.operands-test.true) ∙ c.sort_of-sort.ensures)
          (ap (linked_of c.args.link (deeper c.args.depth)) (sym c.in_ok-token_at.ensures.next.read) ∙ none));
    })

pub chain_at-operands-preserved : goal.chain_at-operands-preserved
chain_at-operands-preserved t c = record {
  begins = search rules;
  next = c.in_ok-operand.ensures.read.next;
  chain =
      operand-next c.args.link c.args.text.now c.args.depth (tokens_at c.args.text.now c.args.token) c.operands.operands.items c.operands.after c.in_ok-token_at.field-0 c.in_ok-operand.next c.push-in-operands.new.self.items c.in_ok-operand.operand
      c.operands.invariant.chain (same_true the_type (record {}) c.operands.after.sort c.sort_of-sort.result (sym c.eq.ensures ∙ c.operands-test.true) ∙ c.sort_of-sort.ensures) c.in_ok-token_at.ensures.next.read c.in_ok-operand.ensures.read.tree c.in_ok-push-2.ensures.items;
}

pub chain_at-operands-smaller : goal.chain_at-operands-smaller
chain_at-operands-smaller t c =
    let width = ap least_width (same_true the_type (record {}) c.operands.after.sort c.sort_of-sort.result (sym c.eq.ensures ∙ c.operands-test.true) ∙ c.sort_of-sort.ensures) ∙ link-width c.args.link in
    omega (arith, width, c.operands.invariant.next.wide, c.operands.invariant.next.within, c.in_ok-token_at.ensures.next.begins, c.in_ok-operand.ensures.read.begins)

pub chain_at-returns-clause-read : goal.chain_at-returns-clause-read
chain_at-returns-clause-read t c = record {
  begins = c.operands.invariant.begins;
  next = c.operands.invariant.next;
  tree = operands-done c.args.link c.args.text.now c.args.depth (tokens_at c.args.text.now c.args.token) c.operands.operands.items c.operands.after c.operands.invariant.chain (search rules);
}

pub not_at-returns-then-ne-clause-refused : goal.not_at-returns-then-ne-clause-refused
not_at-returns-then-ne-clause-refused t c =
    subst (λ x. IfErr c.relation_at.result (λ e. IsRefused (Reading Expression) c.args.text.now e x)) (sym (not-negated (deeper c.args.depth) c.args.text.now c.args.token (search rules))) c.relation_at.ensures.refused

pub not_at-returns-clause-read : goal.not_at-returns-clause-read
not_at-returns-clause-read t c =
    let same = view-Not c.in_ok-new.field-0 ∙ ap (λ (e : Expr). negation (expr_view e)) c.in_ok-new.ensures.ok in
    record {
      begins = search rules;
      next = c.in_ok-operand.ensures.read.next;
      tree =
          negation-read c.args.depth c.args.text.now c.args.token c.in_ok-token_at.field-0 (expr_view c.in_ok-operand.operand) c.in_ok-operand.after (search rules) (search rules) c.in_ok-token_at.ensures.next.read c.in_ok-operand.ensures.read.tree
          ∙ ap (λ e. Some (reading e (tokens_at c.args.text.now c.in_ok-operand.after))) (sym same);
    }

pub not_at-returns-in_err-operand-clause-refused : goal.not_at-returns-in_err-operand-clause-refused
not_at-returns-in_err-operand-clause-refused t c =
    passed-refused c.args.text.now _ c.in_err-operand.field-0.0 _ c.from_residual-in_err-operand.ensures.1
    (record {
      place = c.in_err-operand.ensures.refused.place;
      refused = refuses-more _ _ _ c.in_err-operand.ensures.refused.refused
          (λ none. negation-refused c.args.depth c.args.text.now c.args.token c.in_ok-token_at.field-0 (search rules) (search rules) c.in_ok-token_at.ensures.next.read none);
    })

pub operand_at-filters-init : goal.operand_at-filters-init
operand_at-filters-init t c = record {
  begins = c.in_ok-operand.ensures.read.begins;
  next = c.in_ok-operand.ensures.read.next;
  filtering = filters-begin c.args.depth (tokens_at c.args.text.now c.args.token) (expr_view c.in_ok-operand.operand) (tokens_at c.args.text.now c.in_ok-operand.after) c.in_ok-operand.ensures.read.tree;
}

pub operand_at-filters-smaller : goal.operand_at-filters-smaller
operand_at-filters-smaller t c =
    let is : c.filters.after.sort ≡ sort.Pipe = search rules in
    let width = ap least_width is in
    omega (arith, width, c.filters.invariant.next.wide, c.filters.invariant.next.within, c.in_ok-name.ensures.next.begins, c.in_ok-value.ensures.read.begins)

pub operand_at-filters-preserved : goal.operand_at-filters-preserved
operand_at-filters-preserved t c = record {
  begins = search rules;
  next = c.in_ok-value.ensures.read.next;
  filtering =
      filters-go c.args.depth (tokens_at c.args.text.now c.args.token) (expr_view c.filters.operand) c.args.text.now c.filters.after c.in_ok-name.name c.in_ok-value.next (expr_view c.in_ok-value.value)
      c.filters.invariant.filtering (search rules) c.in_ok-name.ensures.next.read c.in_ok-value.ensures.read.tree;
}

pub operand_at-returns-in_err-name-clause-refused : goal.operand_at-returns-in_err-name-clause-refused
operand_at-returns-in_err-name-clause-refused t c =
    passed-refused c.args.text.now _ c.in_err-name.field-0.0 _ c.from_residual-in_err-name.ensures.1
    (record {
      place = c.in_err-name.ensures.refused.place;
      refused = refuses-none _ _ (filters-break c.args.depth (tokens_at c.args.text.now c.args.token) (expr_view c.filters.operand) c.args.text.now c.filters.after c.filters.invariant.filtering (search rules)
          (ap (filter_of (deeper c.args.depth) (expr_view c.filters.operand)) c.in_err-name.ensures.refused.refused));
    })

pub operand_at-returns-in_err-value-clause-refused : goal.operand_at-returns-in_err-value-clause-refused
operand_at-returns-in_err-value-clause-refused t c =
    passed-refused c.args.text.now _ c.in_err-value.field-0.0 _ c.from_residual-in_err-value.ensures.1
    (record {
      place = c.in_err-value.ensures.refused.place;
      refused = refuses-more _ _ _ c.in_err-value.ensures.refused.refused
          (λ none. filters-break c.args.depth (tokens_at c.args.text.now c.args.token) (expr_view c.filters.operand) c.args.text.now c.filters.after c.filters.invariant.filtering (search rules)
          (ap (filter_of (deeper c.args.depth) (expr_view c.filters.operand)) (sym c.in_ok-name.ensures.next.read) ∙ none));
    })

pub operand_at-returns-clause-read : goal.operand_at-returns-clause-read
operand_at-returns-clause-read t c = record {
  begins = c.filters.invariant.begins;
  next = c.filters.invariant.next;
  tree = filters-end c.args.depth (tokens_at c.args.text.now c.args.token) (expr_view c.filters.operand) c.args.text.now c.filters.after c.filters.invariant.filtering (search rules);
}

pub inside-returns-in_err-token_behind-clause-refused : goal.inside-returns-in_err-token_behind-clause-refused
inside-returns-in_err-token_behind-clause-refused t c =
    passed-refused c.args.text.now _ c.in_err-token_behind.field-0.0 _ c.from_residual-in_err-token_behind.ensures.1
    (record {
      place = c.in_err-token_behind.ensures.place;
      refused = refuses-none _ _
          (inside-of c.args.depth c.args.text.now c.args.token c.in_ok-token_at.field-0 (expr_view c.in_ok-expr.expr) c.in_ok-expr.close (search rules) c.in_ok-token_at.ensures.next.read c.in_ok-expr.ensures.read.tree
          ∙ closed-refused (expr_view c.in_ok-expr.expr) c.args.text.now c.in_ok-expr.close c.in_err-token_behind.ensures.refused);
    })

pub inside-returns-clause-read : goal.inside-returns-clause-read
inside-returns-clause-read t c = record {
  begins = search rules;
  next = c.in_ok-token_behind.ensures.next.token;
  tree =
      inside-of c.args.depth c.args.text.now c.args.token c.in_ok-token_at.field-0 (expr_view c.in_ok-expr.expr) c.in_ok-expr.close (search rules) c.in_ok-token_at.ensures.next.read c.in_ok-expr.ensures.read.tree
      ∙ closed-read (expr_view c.in_ok-expr.expr) c.args.text.now c.in_ok-expr.close c.in_ok-token_behind.field-0 c.in_ok-token_behind.ensures.sort c.in_ok-token_behind.ensures.next.read;
}

pub list_at-returns-in_err-token_at-clause-refused : goal.list_at-returns-in_err-token_at-clause-refused
list_at-returns-in_err-token_at-clause-refused t c =
    passed-refused c.args.text.now _ c.in_err-token_at.field-0.0 _ c.from_residual.ensures.1
    (record {
      place = c.in_err-token_at.ensures.refused.place;
      refused = refuses-none _ _ (ap (with_tree (λ es. list_of es)) (items-none c.args.depth c.args.text.now c.args.token c.in_err-token_at.ensures.refused.refused));
    })

pub list_at-returns-in_err-items-clause-refused : goal.list_at-returns-in_err-items-clause-refused
list_at-returns-in_err-items-clause-refused t c =
    passed-refused c.args.text.now _ c.in_err-items.field-0.0 _ c.from_residual-in_err-items.ensures.1
    (record {
      place = c.in_err-items.ensures.refused.place;
      refused = refuses-more _ _ _ c.in_err-items.ensures.refused.refused
          (λ none. ap (with_tree (λ es. list_of es)) (items-below c.args.depth c.args.text.now c.args.token c.in_ok-token_at.field-0 (search rules) c.in_ok-token_at.ensures.next.read ∙ none));
    })

pub list_at-returns-clause-read : goal.list_at-returns-clause-read
list_at-returns-clause-read t c = record {
  begins = search rules;
  next = c.in_ok-items.ensures.read.next;
  tree =
      ap (with_tree (λ es. list_of es)) (items-below c.args.depth c.args.text.now c.args.token c.in_ok-token_at.field-0 (search rules) c.in_ok-token_at.ensures.next.read ∙ c.in_ok-items.ensures.read.tree)
      ∙ ap (λ e. Some (reading e (tokens_at c.args.text.now c.in_ok-items.after))) (sym (view-List c.in_ok-items.items));
}

pub items_at-returns-in_err-items-clause-refused : goal.items_at-returns-in_err-items-clause-refused
items_at-returns-in_err-items-clause-refused t c =
    passed-refused c.args.text.now _ c.in_err-items.field-0.0 _ c.from_residual-in_err-items.ensures.1
    (record {
      place = c.in_err-items.ensures.refused.place;
      refused = refuses-more _ _ _ c.in_err-items.ensures.refused.refused
          (λ none. items-chain (disjunction_of (deeper c.args.depth)) c.args.text.now c.args.token (search rules) ∙ ap closed_items none);
    })

pub items_at-returns-in_err-token_behind-clause-refused : goal.items_at-returns-in_err-token_behind-clause-refused
items_at-returns-in_err-token_behind-clause-refused t c =
    passed-refused c.args.text.now _ c.in_err-token_behind.field-0.0 _ c.from_residual-in_err-token_behind.ensures.1
    (record {
      place = c.in_err-token_behind.ensures.place;
      refused = refuses-none _ _
          (items-chain (disjunction_of (deeper c.args.depth)) c.args.text.now c.args.token (search rules) ∙ ap closed_items c.in_ok-items.ensures.read.tree
          ∙ items-refused (exprs_view c.in_ok-items.items.items) c.args.text.now c.in_ok-items.close c.in_err-token_behind.ensures.refused);
    })

pub items_at-returns-clause-read : goal.items_at-returns-clause-read
items_at-returns-clause-read t c = record {
  begins = search rules;
  next = c.in_ok-token_behind.ensures.next.token;
  tree =
      items-chain (disjunction_of (deeper c.args.depth)) c.args.text.now c.args.token (search rules) ∙ ap closed_items c.in_ok-items.ensures.read.tree
      ∙ items-read (exprs_view c.in_ok-items.items.items) c.args.text.now c.in_ok-items.close c.in_ok-token_behind.field-0 c.in_ok-token_behind.ensures.sort c.in_ok-token_behind.ensures.next.read;
}
