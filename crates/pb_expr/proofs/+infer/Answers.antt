use Rattle.std.proofs.Common.{rules, ◌≡◌, true, false, Some, not, ◌&&◌, ◌+◌, length, [], ◌∷◌, ◌++◌, drop, String, Global, string_bytes, option_map, sym, ap, ◌∙◌, subst, append_assoc, arith}
use Rattle.std.proofs.Math.Bool.{not-not}
use Rattle.std.proofs.lemmas.List.{append-nil, drop_all}
use Rattle.std.proofs.lemmas.Result.{IfOk-weaker}
use Rattle.pb_semantics.specs.Kind.{lists, recs, put_slot}
use Rattle.pb_language.specs.Expression.{path_status}
use Rattle.pb_language.specs.Expansion.{all_expanded, expanded, expanded_root, parts_expanded}
use Rattle.pb_language.specs.Kinds.{items_kind, kind_of}
use Rattle.pb_language.specs.Fit.{asks, first, fault, is_any, wrong_kind, chain_fault, are_booleans, fields_fault, parts_fault}
use Rattle.pb_language.specs.Narrow.{narrow, narrow_each, narrow_some, where_taught, any_teaches}
use Rattle.pb_kind.specs.KindView.{kind_view, slots_view}
use Rattle.pb_syntax.specs.ExprView.{expr_view, exprs_view, parts_view, names_of, root_view, status_view}
use Rattle.pb_syntax.specs.declared.expr.Expr.{Expr}
use Rattle.pb_forms.specs.FitView.{fault_view}
use Rattle.pb_expr.specs.Found.{AreFound, IsFoundOf}
use Rattle.pb_forms.specs.InferredView.{are_bools, are_plain_kinds, fault_in, faults_in, joined_in, part_faults_in}
use Rattle.pb_taught.specs.TaughtView.{scope_view, scopes_view, taught_by}
use Rattle.pb_forms.specs.declared.inferred.Inferred.{Inferred}
use Rattle.pb_syntax.proofs.Ascending.{Ascending}
use Rattle.pb_forms.proofs.Findings.{and-true, first-none, fault-turn, chain-turn, booleans-turn}
use Rattle.pb_syntax.proofs.Exprs.{view-Concat, view-List, view-PathStatus}
use Rattle.pb_expr.proofs.FoundParts.{found-booleans, found-chain, found-count, found-faults, found-items, found-kinds, found-plain}
use Rattle.pb_forms.proofs.Records.{slots_from, put_slot-last, parts_slots-ascending}
use Rattle.pb_syntax.proofs.Left.{drop-at}
use Rattle.pb_expr.proofs.Ways.{some-ways, status-narrowed, ways, ways-turn, same-last}
use Rattle.pb_expr.proofs.+infer.Goals as goal

pub inference::infer_each-loop-expr-preserved : goal.inference::infer_each-loop-expr-preserved
inference::infer_each-loop-expr-preserved g t c =
    let l = c.loop-expr in
    let b = g.K.Known.before c.args.inquiry.now.known.now in
    let s = scope_view b c.args.taught.now in
    let items = c.args.exprs.now in
    let i = l.expr-index in
    let e = c.expr-item.result in
    let found = c.in_ok-found.found in
    let next : drop i items ≡ e ∷ drop (i + 1) items = drop-at items i e c.loop-expr-test.true c.expr-item.is in
    record {
      found = λ more h.
          let grown : l.all.items ++ found ∷ more ≡ c.push.new.self.items ++ more = sym (ap (λ is. is ++ more) c.in_ok-push.ensures.items ∙ append_assoc l.all.items (found ∷ []) more) in
          subst (λ is. AreFound s (all_expanded b.trees (exprs_view items)) is) grown
          (l.invariant.found (found ∷ more) (subst (λ xs. AreFound s (all_expanded b.trees (exprs_view xs)) (found ∷ more)) (sym next) ((c.in_ok-found.ensures.kind, c.in_ok-found.ensures.fault), h)));
      right = c.in_ok-found.ensures.right;
    }

pub inference::infer_each-returns-clause-found : goal.inference::infer_each-returns-clause-found
inference::infer_each-returns-clause-found g t c =
    let l = c.loop-expr in
    let b = g.K.Known.before c.args.inquiry.now.known.now in
    let s = scope_view b c.args.taught.now in
    let items = c.args.exprs.now in
    let past = drop_all l.expr-index items c.loop-expr-test.false in
    subst (λ is. AreFound s (all_expanded b.trees (exprs_view items)) is) (append-nil l.all.items)
    (l.invariant.found [] (subst (λ xs. AreFound s (all_expanded b.trees (exprs_view xs)) []) (sym past) tt))

pub inference::of_chain-loop-operand-preserved : goal.inference::of_chain-loop-operand-preserved
inference::of_chain-loop-operand-preserved g t c =
    let l = c.loop-operand in
    let b = g.K.Known.before c.args.inquiry.now.known.now in
    let f = b.trees in
    let s = scope_view b l.here.taught in
    let d = scope_view b c.in_ok-here.here.taught in
    let q = c.args.answer in
    let items = c.args.operands.now in
    let i = l.operand-index in
    let e = c.operand-item.result in
    let w = expanded f (expr_view e) in
    let rest = all_expanded f (exprs_view (drop (i + 1) items)) in
    let before = option_map fault_view l.unfit in
    let next : drop i items ≡ e ∷ drop (i + 1) items = drop-at items i e c.loop-operand-test.true c.operand-item.is in
    record {
      faults = l.invariant.faults ∙ ap (λ es. first before (chain_fault s (all_expanded f (exprs_view es)) q)) next
          ∙ chain-turn before (option_map fault_view c.in_ok-found.found.unfit) (option_map fault_view c.first_of-unfit.result) s d w rest q
          c.in_ok-found.ensures.fault c.first_of-unfit.ensures c.in_ok-here.ensures.taught;
      kinds = l.invariant.kinds ∙ ap (λ es. l.are_bool && are_booleans s (all_expanded f (exprs_view es)) q) next
          ∙ booleans-turn l.are_bool c.is_bool-are_bool.result (kind_view c.in_ok-found.found.kind) s d w rest q c.is_bool-are_bool.ensures
          c.in_ok-found.ensures.kind c.in_ok-here.ensures.taught;
      right = c.in_ok-here.ensures.right;
    }

pub inference::of_chain-returns-clause-fault : goal.inference::of_chain-returns-clause-fault
inference::of_chain-returns-clause-fault g t c =
    let l = c.loop-operand in
    let b = g.K.Known.before c.args.inquiry.now.known.now in
    let f = b.trees in
    let s = scope_view b l.here.taught in
    let d = scope_view b c.args.before.taught in
    let es = all_expanded f (exprs_view c.args.operands.now) in
    let q = c.args.answer in
    let past = drop_all l.operand-index c.args.operands.now c.loop-operand-test.false in
    let before = option_map fault_view l.unfit in
    let faults : chain_fault d es q ≡ before = l.invariant.faults ∙ ap (λ xs. first before (chain_fault s (all_expanded f (exprs_view xs)) q)) past ∙ first-none before in
    let kinds : are_booleans d es q ≡ l.are_bool = l.invariant.kinds ∙ ap (λ xs. l.are_bool && are_booleans s (all_expanded f (exprs_view xs)) q) past ∙ and-true l.are_bool in
    c.asked.ensures.fault ∙ ap (λ x. first x (asks wrong_kind l.are_bool)) (sym faults) ∙ ap (λ x. first (chain_fault d es q) (asks wrong_kind x)) (sym kinds)

pub inference::of_fields-loop-name-preserved : goal.inference::of_fields-loop-name-preserved
inference::of_fields-loop-name-preserved g t c =
    let b = g.K.Known.before c.args.inquiry.now.known.now in
    let w = b.trees in
    let s = scope_view b c.args.taught.now in
    let inv = c.loop-name.invariant in
    let done = inv.0 in
    let e : String Global × Expr = (c.in-Some.name.now, c.in-Some.field.now) in
    let left = c.next.new.self in
    let kinds = slots_view c.loop-name.kinds.entries in
    let before = option_map fault_view c.loop-name.unfit in
    let found = c.not_any-found.result in
    let f = λ (x : Expr). kind_of s (expanded w (expr_view x)) in
    let all : c.args.fields.now.entries ≡ done ++ e ∷ left = inv.1 ∙ ap (λ es. done ++ es) c.in-Some.ensures.steps in
    let rest = fields_fault s (parts_expanded w (parts_view left)) in
    let one = expanded w (expr_view e.1) in
    let kind : kind_view found.kind ≡ f e.1 = ap kind_view c.not_any-found.ensures.kind ∙ c.in_ok-infer.ensures.kind in
    let fault-is : option_map fault_view found.unfit ≡ first (fault s one) (asks wrong_kind (not (is_any (kind_of s one)))) =
    c.not_any-found.ensures.fault ∙ ap (λ x. first x (asks wrong_kind (not (is_any (kind_view c.in_ok-infer.field-0.kind))))) c.in_ok-infer.ensures.fault
    ∙ ap (λ k. first (fault s one) (asks wrong_kind (not (is_any k)))) c.in_ok-infer.ensures.kind in
    let last = put_slot-last f done e left (subst (λ es. Ascending es) all c.iter-name-items.ensures.ordered) in (
      done ++ e ∷ [],
      all ∙ sym (append_assoc done (e ∷ []) left),
      c.in_ok-put_certain.ensures ∙ ap (λ k. put_slot (string_bytes e.0) true k kinds) kind ∙ ap (put_slot (string_bytes e.0) true (f e.1)) inv.2 ∙ last,
      inv.3 ∙ ap (λ es. first before (fields_fault s (parts_expanded w (parts_view es)))) c.in-Some.ensures.steps
          ∙ ap (λ x. first before (first x rest)) (sym fault-is) ∙ fault-turn before (option_map fault_view found.unfit) rest (option_map fault_view c.first_of-unfit.result) c.first_of-unfit.ensures,
      c.in_ok-infer.ensures.right,
    )

pub inference::of_fields-returns-clause-fault : goal.inference::of_fields-returns-clause-fault
inference::of_fields-returns-clause-fault g t c =
    let b = g.K.Known.before c.args.inquiry.now.known.now in
    let s = scope_view b c.args.taught.now in
    let before = option_map fault_view c.loop-name.unfit in
    sym (c.loop-name.invariant.3 ∙ ap (λ es. first before (fields_fault s (parts_expanded b.trees (parts_view es)))) (c.in-None.ensures).steps.0 ∙ first-none before)

pub inference::of_fields-returns-clause-kind : goal.inference::of_fields-returns-clause-kind
inference::of_fields-returns-clause-kind g t c =
    let b = g.K.Known.before c.args.inquiry.now.known.now in
    let s = scope_view b c.args.taught.now in
    let inv = c.loop-name.invariant in
    let nil : c.loop-name.name-iterator ≡ [] = (c.in-None.ensures).steps.0 in
    let whole : c.args.fields.now.entries ≡ inv.0 = inv.1 ∙ ap (λ es. inv.0 ++ es) nil ∙ append-nil inv.0 in
    c.in_ok-kind.ensures ∙ ap recs (inv.2 ∙ ap (slots_from (λ (x : Expr). kind_of s (expanded b.trees (expr_view x)))) (sym whole) ∙ sym (parts_slots-ascending s b.trees c.args.fields.now.entries c.iter-name-items.ensures.ordered))

pub inference::infer-returns-in_ok-infer_each-in-Concat-clause-fault : goal.inference::infer-returns-in_ok-infer_each-in-Concat-clause-fault
inference::infer-returns-in_ok-infer_each-in-Concat-clause-fault g t c =
    let b = g.K.Known.before c.args.inquiry.now.known.now in
    let s = scope_view b c.args.taught.now in
    let founds = c.in_ok-infer_each-in-Concat.field-0.items in
    let es = all_expanded b.trees (exprs_view c.in-Concat.parts.items) in
    let all : AreFound s es founds = subst (λ xs. AreFound s (all_expanded b.trees (exprs_view xs)) founds) c.deref-in-Concat.ensures.value c.in_ok-infer_each-in-Concat.ensures.found in
    c.texts.ensures.fault ∙ ap (λ is. first (faults_in is) (asks wrong_kind (are_plain_kinds is))) c.deref-in-Concat-2.ensures.value
    ∙ ap (λ x. first x (asks wrong_kind (are_plain_kinds founds))) (sym (found-faults s es founds all))
    ∙ ap (λ x. first (parts_fault s es) (asks wrong_kind x)) (sym (found-plain s es founds all))
    ∙ ap (λ e. fault s (expanded b.trees e)) (sym (ap expr_view c.in-Concat.is ∙ view-Concat c.in-Concat.parts))

pub inference::infer-returns-in_ok-infer_each-in-List-clause-kind : goal.inference::infer-returns-in_ok-infer_each-in-List-clause-kind
inference::infer-returns-in_ok-infer_each-in-List-clause-kind g t c =
    let b = g.K.Known.before c.args.inquiry.now.known.now in
    let s = scope_view b c.args.taught.now in
    let founds = c.in_ok-infer_each-in-List.field-0.items in
    let es = all_expanded b.trees (exprs_view c.in-List.items.items) in
    let all : AreFound s es founds = subst (λ xs. AreFound s (all_expanded b.trees (exprs_view xs)) founds) c.deref-in-List.ensures.value c.in_ok-infer_each-in-List.ensures.found in
    let tree = sym (ap expr_view c.in-List.is ∙ view-List c.in-List.items) in
    IfOk-weaker c.items.result (λ i. kind_view i.kind ≡ lists (joined_in c.deref-in-List-2.result.now) (length c.deref-in-List-2.result.now)) (λ i. kind_view i.kind ≡ kind_of s (expanded b.trees (expr_view c.args.expr.now)))
    (λ i h. h ∙ ap (λ is. lists (joined_in is) (length is)) c.deref-in-List-2.ensures.value
    ∙ ap (λ k. lists k (length founds)) (sym (found-kinds s es founds all)) ∙ ap (lists (items_kind s es)) (sym (found-count s es founds all))
    ∙ ap (λ e. kind_of s (expanded b.trees e)) tree) c.items.ensures.kind

pub inference::infer-returns-in_ok-infer_each-in-List-clause-fault : goal.inference::infer-returns-in_ok-infer_each-in-List-clause-fault
inference::infer-returns-in_ok-infer_each-in-List-clause-fault g t c =
    let b = g.K.Known.before c.args.inquiry.now.known.now in
    let s = scope_view b c.args.taught.now in
    let founds = c.in_ok-infer_each-in-List.field-0.items in
    let es = all_expanded b.trees (exprs_view c.in-List.items.items) in
    let all : AreFound s es founds = subst (λ xs. AreFound s (all_expanded b.trees (exprs_view xs)) founds) c.deref-in-List.ensures.value c.in_ok-infer_each-in-List.ensures.found in
    let tree = sym (ap expr_view c.in-List.is ∙ view-List c.in-List.items) in
    IfOk-weaker c.items.result (λ i. fault_in i ≡ part_faults_in c.deref-in-List-2.result.now) (λ i. fault_in i ≡ fault s (expanded b.trees (expr_view c.args.expr.now)))
    (λ i h. h ∙ ap part_faults_in c.deref-in-List-2.ensures.value ∙ sym (found-items s es founds all) ∙ ap (λ e. fault s (expanded b.trees e)) tree) c.items.ensures.fault

pub narrowing::narrow_here-returns-in_ok-taught-in-InBatch-clause-right : goal.narrowing::narrow_here-returns-in_ok-taught-in-InBatch-clause-right
narrowing::narrow_here-returns-in_ok-taught-in-InBatch-clause-right g t c = c.here_anew.ensures.right (g.K.Known.before c.args.inquiry.now.known.now)

pub narrowing::narrow_here-returns-in-PathStatus-clause-taught : goal.narrowing::narrow_here-returns-in-PathStatus-clause-taught
narrowing::narrow_here-returns-in-PathStatus-clause-taught g t c =
    let b = g.K.Known.before c.args.inquiry.now.known.now in
    let f = b.trees in
    let d = scope_view b c.args.here.taught in
    let e = expanded f (expr_view c.args.expr.now) in
    let s = status_view c.in-PathStatus.status in
    let path = c.in-PathStatus.path in
    let r = expanded_root f (root_view path.root) in
    let ns = names_of path.steps.items in
    let q = c.args.answer in
    let tree = ap (expanded f) (ap expr_view c.in-PathStatus.is ∙ view-PathStatus c.in-PathStatus.status path) in
    IfOk-weaker c.narrow_status.result (λ h. scope_view b h.taught ≡ narrow d (path_status s r ns) q) (λ h. scope_view b h.taught ≡ narrow d e q)
    (λ h is. status-narrowed d (scope_view b h.taught) e s r ns q tree is) c.narrow_status.ensures.taught

pub narrowing::narrow_there-returns-clause-taught : goal.narrowing::narrow_there-returns-clause-taught
narrowing::narrow_there-returns-clause-taught g t c = ap (scope_view (g.K.Known.before c.args.inquiry.now.known.now)) c.here_anew.ensures.taught ∙ c.in_ok-taught.ensures

pub narrowing::narrow_there-returns-clause-right : goal.narrowing::narrow_there-returns-clause-right
narrowing::narrow_there-returns-clause-right g t c = c.here_anew.ensures.right (g.K.Known.before c.args.inquiry.now.known.now)

pub narrowing::narrow_status-returns-clause-taught : goal.narrowing::narrow_status-returns-clause-taught
narrowing::narrow_status-returns-clause-taught g t c = ap (scope_view (g.K.Known.before c.args.inquiry.now.known.now)) c.here_anew.ensures.taught ∙ c.in_ok-taught.ensures

pub narrowing::narrow_status-returns-clause-right : goal.narrowing::narrow_status-returns-clause-right
narrowing::narrow_status-returns-clause-right g t c = c.here_anew.ensures.right (g.K.Known.before c.args.inquiry.now.known.now)

pub inference::of_alias-returns-in-Some-find-clause-kind : goal.inference::of_alias-returns-in-Some-find-clause-kind
inference::of_alias-returns-in-Some-find-clause-kind g t c =
    let b = g.K.Known.before c.args.inquiry.now.known.now in
    let s = scope_view b c.args.taught.now in
    let found = c.in-Some-find.found.now in
    let right = subst (λ x. IsFoundOf s x found) (ap b.trees c.as_str.ensures.value ∙ c.in-Some.ensures.name) (c.in-Some-find.ensures s b.trees c.requires) in
    ap Some (c.in_ok-found_copied.ensures.kind ∙ right.0) ∙ sym (ap (option_map (kind_of s)) c.in-Some.ensures.tree)

pub inference::of_alias-returns-in-Some-find-clause-fault : goal.inference::of_alias-returns-in-Some-find-clause-fault
inference::of_alias-returns-in-Some-find-clause-fault g t c =
    let b = g.K.Known.before c.args.inquiry.now.known.now in
    let s = scope_view b c.args.taught.now in
    let found = c.in-Some-find.found.now in
    let right = subst (λ x. IsFoundOf s x found) (ap b.trees c.as_str.ensures.value ∙ c.in-Some.ensures.name) (c.in-Some-find.ensures s b.trees c.requires) in
    ap Some (ap (option_map fault_view) c.in_ok-found_copied.ensures.unfit ∙ right.1) ∙ sym (ap (option_map (fault s)) c.in-Some.ensures.tree)

pub inference::of_operands-of_chain-requires : goal.inference::of_operands-of_chain-requires
inference::of_operands-of_chain-requires g t c = search (rules, c.in_ok-here.ensures.right (g.K.Known.before c.args.inquiry.now.known.now) c.requires)

pub inference::of_operands-returns-in_ok-infer_each-clause-fault : goal.inference::of_operands-returns-in_ok-infer_each-clause-fault
inference::of_operands-returns-in_ok-infer_each-clause-fault g t c =
    let b = g.K.Known.before c.args.inquiry.now.known.now in
    let s = scope_view b c.args.taught.now in
    let q = c.args.answer in
    let founds = c.in_ok-infer_each.field-0.items in
    let es = all_expanded b.trees (exprs_view c.args.operands.now) in
    let none : any_teaches es ≡ false = sym (c.any_teaches.ensures b.trees) ∙ c.if-any_teaches.false in
    let all = c.in_ok-infer_each.ensures.found in
    c.truths.ensures.fault ∙ ap (λ is. first (faults_in is) (asks wrong_kind (are_bools is))) c.deref.ensures.value
    ∙ ap (λ x. first x (asks wrong_kind (are_bools founds))) (sym (found-chain s es founds q none all))
    ∙ ap (λ x. first (chain_fault s es q) (asks wrong_kind x)) (sym (found-booleans s es founds q none all))

pub narrowing::ways_of_chain-loop-operand-preserved : goal.narrowing::ways_of_chain-loop-operand-preserved
narrowing::ways_of_chain-loop-operand-preserved g t c =
    let l = c.loop-operand in
    let m = g.K.Known.before c.args.inquiry.now.known.now in
    let s = scope_view m l.here.taught in
    let q = c.args.answer in
    let items = c.args.operands.now in
    let i = l.operand-index in
    let e = c.operand-item.result in
    let w = expanded m.trees (expr_view e) in
    let rest = all_expanded m.trees (exprs_view (drop (i + 1) items)) in
    let same = c.in_ok-same.same in
    let other = c.in_ok-same.other in
    let next : drop i items ≡ e ∷ drop (i + 1) items = drop-at items i e c.loop-operand-test.true c.operand-item.is in
    record {
      holds = l.invariant.holds ∙ ap (λ es. narrow_each s (all_expanded m.trees (exprs_view es)) q) next
          ∙ ap (λ d. narrow_each d rest q) (sym c.in_ok-same.ensures.same);
      ways = l.invariant.ways ∙ ap (λ es. scopes_view m l.ways.items ++ ways s (all_expanded m.trees (exprs_view es)) (not q)) next
          ∙ ways-turn m l.ways.items c.push.new.self.items other l.here.taught same.taught w rest (not q) c.in_ok-same.ensures.other
          (c.in_ok-same.ensures.same ∙ ap (narrow s w) (sym (not-not q))) c.in_ok-push.ensures.items;
      before = same-last m l.ways.items c.push.new.self.items other (scope_view m same.taught) (scope_view m c.args.before.taught) c.in_ok-push.ensures.items;
      right = c.in_ok-same.ensures.right;
    }

pub narrowing::ways_of_chain-returns-clause-fails : goal.narrowing::ways_of_chain-returns-clause-fails
narrowing::ways_of_chain-returns-clause-fails g t c =
    let l = c.loop-operand in
    let m = g.K.Known.before c.args.inquiry.now.known.now in
    let first = scope_view m c.args.before.taught in
    let es = all_expanded m.trees (exprs_view c.args.operands.now) in
    let q = not c.args.answer in
    let past = drop_all l.operand-index c.args.operands.now c.loop-operand-test.false in
    let all : ways first es q ≡ scopes_view m l.ways.items =
    l.invariant.ways ∙ ap (λ xs. scopes_view m l.ways.items ++ ways (scope_view m l.here.taught) (all_expanded m.trees (exprs_view xs)) q) past ∙ append-nil (scopes_view m l.ways.items) in
    ap (scope_view m) c.here_anew.ensures.taught ∙ c.in_ok-taught.ensures m ∙ ap (taught_by (scopes_view m l.ways.items)) (c.in_ok-last.ensures m)
    ∙ l.invariant.before ∙ ap (λ ds. taught_by ds first) (sym all) ∙ sym (some-ways first es q)

pub narrowing::ways_of_chain-returns-clause-right : goal.narrowing::ways_of_chain-returns-clause-right
narrowing::ways_of_chain-returns-clause-right g t c = record {
  holds = c.loop-operand.invariant.right;
  fails = c.here_anew.ensures.right (g.K.Known.before c.args.inquiry.now.known.now);
}

pub narrowing::both_of_leaf-narrow_here-requires : goal.narrowing::both_of_leaf-narrow_here-requires
narrowing::both_of_leaf-narrow_here-requires g t c = search (rules, c.in_ok-copy.ensures.right (g.K.Known.before c.args.inquiry.now.known.now) c.in_ok-here.ensures.right)

pub narrowing::both_of_chain-returns-then-any_teaches-clause-fails : goal.narrowing::both_of_chain-returns-then-any_teaches-clause-fails
narrowing::both_of_chain-returns-then-any_teaches-clause-fails g t c =
    let b = g.K.Known.before c.args.inquiry.now.known.now in
    let s = scope_view b c.args.before.taught in
    let es = all_expanded b.trees (exprs_view c.args.operands.now) in
    let some = narrow_some s es (not c.args.answer) in
    let told : any_teaches es ≡ true = sym (c.any_teaches.ensures b.trees) ∙ c.if-any_teaches.true in
    IfOk-weaker c.ways_of_chain.result (λ w. scope_view b w.fails.taught ≡ some) (λ w. scope_view b w.fails.taught ≡ where_taught (any_teaches es) some s)
    (λ w h. h ∙ sym (ap (λ x. where_taught x some s) told)) c.ways_of_chain.ensures.fails

pub narrowing::both_of_chain-narrow_each-requires : goal.narrowing::both_of_chain-narrow_each-requires
narrowing::both_of_chain-narrow_each-requires g t c = search (rules, c.in_ok-copy.ensures.right (g.K.Known.before c.args.inquiry.now.known.now) c.requires)

pub narrowing::narrow_some-returns-clause-taught : goal.narrowing::narrow_some-returns-clause-taught
narrowing::narrow_some-returns-clause-taught g t c =
    let b = g.K.Known.before c.args.inquiry.now.known.now in
    let s = scope_view b c.args.before.taught in
    let es = all_expanded b.trees (exprs_view c.args.operands.now) in
    let q = c.args.answer in
    let told : any_teaches es ≡ true = sym (c.any_teaches.ensures b.trees) ∙ c.if-not-any_teaches.false in
    c.in_ok-ways.ensures.fails ∙ ap (narrow_some s es) (not-not q) ∙ sym (ap (λ x. where_taught x (narrow_some s es q) s) told)
