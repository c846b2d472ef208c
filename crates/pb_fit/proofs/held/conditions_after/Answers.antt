use Rattle.std.proofs.Common.{◌≡◌, ◌+◌, ◌∷◌, drop, option_map, true, sym, ap, ◌∙◌}
use Rattle.std.proofs.lemmas.List.{drop_all}
use Rattle.pb_language.specs.Expansion.{all_expanded, expanded}
use Rattle.pb_language.specs.Fit.{first}
use Rattle.pb_language.specs.Judgement.{conditions_fault}
use Rattle.pb_language.specs.Narrow.{narrow_each}
use Rattle.pb_syntax.specs.ExprView.{expr_view, exprs_view}
use Rattle.pb_syntax.proofs.Left.{drop-at}
use Rattle.pb_forms.specs.FitView.{fault_view}
use Rattle.pb_taught.specs.TaughtView.{scope_view}
use Rattle.pb_forms.proofs.Findings.{first-none}
use Rattle.pb_fit.proofs.InTurn.{condition-turn}
use Rattle.pb_fit.proofs.held.conditions_after.Goals as goal

pub loop-condition-preserved : goal.loop-condition-preserved
loop-condition-preserved g c =
    let l = c.loop-condition in
    let b = g.K.Known.before c.args.known.now in
    let f = b.trees in
    let s = scope_view b l.taught in
    let d = scope_view b c.in_ok-taught.taught in
    let items = c.args.conditions.now in
    let i = l.condition-index in
    let e = c.condition-item.result in
    let w = expanded f (expr_view e) in
    let rest = all_expanded f (exprs_view (drop (i + 1) items)) in
    let before = option_map fault_view l.unfit in
    let next : drop i items ≡ e ∷ drop (i + 1) items = drop-at items i e c.loop-condition-test.true c.condition-item.is in
    record {
      faults = l.invariant.faults ∙ ap (λ es. first before (conditions_fault s (all_expanded f (exprs_view es)))) next
          ∙ condition-turn before (option_map fault_view c.in_ok-unfit.unfit) s d w rest c.in_ok-unfit.ensures c.in_ok-taught.ensures;
      taught = l.invariant.taught ∙ ap (λ es. narrow_each s (all_expanded f (exprs_view es)) true) next
          ∙ ap (λ x. narrow_each x rest true) (sym c.in_ok-taught.ensures);
    }

pub returns-clause-fault : goal.returns-clause-fault
returns-clause-fault g c =
    let l = c.loop-condition in
    let b = g.K.Known.before c.args.known.now in
    let past = drop_all l.condition-index c.args.conditions.now c.loop-condition-test.false in
    let before = option_map fault_view l.unfit in
    sym (l.invariant.faults ∙ ap (λ es. first before (conditions_fault (scope_view b l.taught) (all_expanded b.trees (exprs_view es)))) past ∙ first-none before)
