use Rattle.std.proofs.Common.{◌≡◌, ℕ, ◌+◌, ◌*◌, ◌++◌, ◌&&◌, List, drop, not, String, Global, max, option_map}
use Rattle.pb_language.specs.Expansion.{all_expanded, expanded, parts_expanded}
use Rattle.pb_language.specs.Kinds.{kind_of}
use Rattle.pb_language.specs.Fit.{first, chain_fault, are_booleans, fields_fault}
use Rattle.pb_language.specs.Narrow.{narrow_each}
use Rattle.pb_kind.specs.KindView.{slots_view}
use Rattle.pb_syntax.specs.ExprView.{expr_view, exprs_view, parts_view}
use Rattle.pb_syntax.specs.declared.expr.Expr.{Expr, size-Expr}
use Rattle.pb_forms.specs.FitView.{fault_view}
use Rattle.pb_expr.specs.Found.{AreFound, IsRight}
use Rattle.pb_taught.specs.TaughtView.{scope_view, scopes_view, taught_by}
use Rattle.pb_forms.specs.declared.inferred.Inferred.{Inferred}
use Rattle.pb_forms.proofs.Records.{slots_from}
use Rattle.pb_expr.proofs.Ways.{ways}
use Rattle.pb_expr.proofs.+infer.Given as goal

-- how far names may still lead, where no tree is deeper than that
abbrev pub left : ℕ → ℕ → ℕ
left chain depth = chain * (10 * depth + 12)

abbrev pub decreases-inference::infer : goal.decreases-inference::infer
decreases-inference::infer g l = 10 * goal.size-inference::infer g l + 3 + left l.inquiry.now.chain (g.K.Known.depth l.inquiry.now.known.now)

abbrev pub decreases-inference::of_alias : goal.decreases-inference::of_alias
decreases-inference::of_alias g l = left l.inquiry.now.chain (g.K.Known.depth l.inquiry.now.known.now)

abbrev pub decreases-inference::at_path : goal.decreases-inference::at_path
decreases-inference::at_path g l = 1 + left l.inquiry.now.chain (g.K.Known.depth l.inquiry.now.known.now)

abbrev pub decreases-inference::infer_path : goal.decreases-inference::infer_path
decreases-inference::infer_path g l = 2 + left l.inquiry.now.chain (g.K.Known.depth l.inquiry.now.known.now)

abbrev pub decreases-inference::infer_both : goal.decreases-inference::infer_both
decreases-inference::infer_both g l = 10 * max (size-Expr l.one.now) (size-Expr l.other.now) + 4 + left l.inquiry.now.chain (g.K.Known.depth l.inquiry.now.known.now)

abbrev pub decreases-inference::infer_each : goal.decreases-inference::infer_each
decreases-inference::infer_each g l = 10 * goal.size-inference::infer_each g l + 4 + left l.inquiry.now.chain (g.K.Known.depth l.inquiry.now.known.now)

abbrev pub decreases-inference::of_operands : goal.decreases-inference::of_operands
decreases-inference::of_operands g l = 10 * goal.size-inference::of_operands g l + 5 + left l.inquiry.now.chain (g.K.Known.depth l.inquiry.now.known.now)

abbrev pub decreases-inference::of_chain : goal.decreases-inference::of_chain
decreases-inference::of_chain g l = 10 * goal.size-inference::of_chain g l + 4 + left l.inquiry.now.chain (g.K.Known.depth l.inquiry.now.known.now)

abbrev pub decreases-inference::of_fields : goal.decreases-inference::of_fields
decreases-inference::of_fields g l = 10 * goal.size-inference::of_fields g l + 4 + left l.inquiry.now.chain (g.K.Known.depth l.inquiry.now.known.now)

abbrev pub decreases-narrowing::narrow_here : goal.decreases-narrowing::narrow_here
decreases-narrowing::narrow_here g l = 10 * goal.size-narrowing::narrow_here g l + 2 + left l.inquiry.now.chain (g.K.Known.depth l.inquiry.now.known.now)

abbrev pub decreases-narrowing::narrow_there : goal.decreases-narrowing::narrow_there
decreases-narrowing::narrow_there g l = 1 + left l.inquiry.now.chain (g.K.Known.depth l.inquiry.now.known.now)

abbrev pub decreases-narrowing::narrow_status : goal.decreases-narrowing::narrow_status
decreases-narrowing::narrow_status g l = 1 + left l.inquiry.now.chain (g.K.Known.depth l.inquiry.now.known.now)

abbrev pub decreases-inference::of_path_or : goal.decreases-inference::of_path_or
decreases-inference::of_path_or g l = 10 * size-Expr l.other.now + 4 + left l.inquiry.now.chain (g.K.Known.depth l.inquiry.now.known.now)

abbrev pub decreases-narrowing::narrow_each : goal.decreases-narrowing::narrow_each
decreases-narrowing::narrow_each g l = 10 * goal.size-narrowing::narrow_each g l + 4 + left l.inquiry.now.chain (g.K.Known.depth l.inquiry.now.known.now)

abbrev pub decreases-narrowing::narrow_some : goal.decreases-narrowing::narrow_some
decreases-narrowing::narrow_some g l = 10 * goal.size-narrowing::narrow_some g l + 8 + left l.inquiry.now.chain (g.K.Known.depth l.inquiry.now.known.now)

abbrev pub decreases-narrowing::asked_before : goal.decreases-narrowing::asked_before
decreases-narrowing::asked_before g l = 10 * goal.size-narrowing::asked_before g l + 2 + left l.inquiry.now.chain (g.K.Known.depth l.inquiry.now.known.now)

abbrev pub decreases-narrowing::both_of_leaf : goal.decreases-narrowing::both_of_leaf
decreases-narrowing::both_of_leaf g l = 10 * goal.size-narrowing::both_of_leaf g l + 3 + left l.inquiry.now.chain (g.K.Known.depth l.inquiry.now.known.now)

abbrev pub decreases-narrowing::narrow_both : goal.decreases-narrowing::narrow_both
decreases-narrowing::narrow_both g l = 10 * goal.size-narrowing::narrow_both g l + 4 + left l.inquiry.now.chain (g.K.Known.depth l.inquiry.now.known.now)

abbrev pub decreases-narrowing::narrow_apart : goal.decreases-narrowing::narrow_apart
decreases-narrowing::narrow_apart g l = 10 * goal.size-narrowing::narrow_apart g l + 5 + left l.inquiry.now.chain (g.K.Known.depth l.inquiry.now.known.now)

abbrev pub decreases-narrowing::ways_of_chain : goal.decreases-narrowing::ways_of_chain
decreases-narrowing::ways_of_chain g l = 10 * goal.size-narrowing::ways_of_chain g l + 6 + left l.inquiry.now.chain (g.K.Known.depth l.inquiry.now.known.now)

abbrev pub decreases-narrowing::both_of_chain : goal.decreases-narrowing::both_of_chain
decreases-narrowing::both_of_chain g l = 10 * goal.size-narrowing::both_of_chain g l + 7 + left l.inquiry.now.chain (g.K.Known.depth l.inquiry.now.known.now)

abbrev pub invariant-inference::infer_each-loop-expr : goal.invariant-inference::infer_each-loop-expr
invariant-inference::infer_each-loop-expr g l =
    let b = g.K.Known.before l.inquiry.known.now in
    let c = scope_view b l.taught in
    record {
      found : (more : List Inferred) → AreFound c (all_expanded b.trees (exprs_view (drop l.expr-index l.exprs))) more
          → AreFound c (all_expanded b.trees (exprs_view l.exprs)) (l.all.items ++ more);
      right : IsRight b l.taught l.asked;
    }

abbrev pub invariant-inference::of_chain-loop-operand : goal.invariant-inference::of_chain-loop-operand
invariant-inference::of_chain-loop-operand g l =
    let b = g.K.Known.before l.inquiry.known.now in
    let c = scope_view b l.initial.here.taught in
    let d = scope_view b l.here.taught in
    let es = all_expanded b.trees (exprs_view l.operands) in
    let rest = all_expanded b.trees (exprs_view (drop l.operand-index l.operands)) in
    record {
      faults : chain_fault c es l.answer ≡ first (option_map fault_view l.unfit) (chain_fault d rest l.answer);
      kinds : are_booleans c es l.answer ≡ l.are_bool && are_booleans d rest l.answer;
      right : IsRight b l.here.taught l.here.asked;
    }

abbrev pub invariant-inference::of_fields-loop-name : goal.invariant-inference::of_fields-loop-name
invariant-inference::of_fields-loop-name g l =
    let b = g.K.Known.before l.inquiry.known.now in
    let c = scope_view b l.taught in
    (done : List (String Global × Expr)) × (l.fields.entries ≡ done ++ l.name-iterator)
    × (slots_view l.kinds.entries ≡ slots_from (λ e. kind_of c (expanded b.trees (expr_view e))) done)
    × (fields_fault c (parts_expanded b.trees (parts_view l.fields.entries)) ≡ first (option_map fault_view l.unfit) (fields_fault c (parts_expanded b.trees (parts_view l.name-iterator))))
    × IsRight b l.taught l.asked

abbrev pub invariant-narrowing::narrow_each-loop-operand : goal.invariant-narrowing::narrow_each-loop-operand
invariant-narrowing::narrow_each-loop-operand g l =
    let b = g.K.Known.before l.inquiry.known.now in
    record {
      taught : narrow_each (scope_view b l.initial.here.taught) (all_expanded b.trees (exprs_view l.operands)) l.answer
          ≡ narrow_each (scope_view b l.here.taught) (all_expanded b.trees (exprs_view (drop l.operand-index l.operands))) l.answer;
      right : IsRight b l.here.taught l.here.asked;
    }

abbrev pub invariant-narrowing::ways_of_chain-loop-operand : goal.invariant-narrowing::ways_of_chain-loop-operand
invariant-narrowing::ways_of_chain-loop-operand g l =
    let b = g.K.Known.before l.inquiry.known.now in
    let c = scope_view b l.initial.here.taught in
    let d = scope_view b l.here.taught in
    let known = scopes_view b l.ways.items in
    let es = all_expanded b.trees (exprs_view l.operands) in
    let rest = all_expanded b.trees (exprs_view (drop l.operand-index l.operands)) in
    record {
      holds : narrow_each c es l.answer ≡ narrow_each d rest l.answer;
      ways : ways c es (not l.answer) ≡ known ++ ways d rest (not l.answer);
      before : taught_by known d ≡ taught_by known c;
      right : IsRight b l.here.taught l.here.asked;
    }
