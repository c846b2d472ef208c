use Rattle.std.proofs.Common.{◌≡◌, drop, option_map, true}
use Rattle.pb_language.specs.Expansion.{all_expanded}
use Rattle.pb_language.specs.Fit.{first}
use Rattle.pb_language.specs.Judgement.{conditions_fault}
use Rattle.pb_language.specs.Narrow.{narrow_each}
use Rattle.pb_syntax.specs.ExprView.{exprs_view}
use Rattle.pb_forms.specs.FitView.{fault_view}
use Rattle.pb_taught.specs.TaughtView.{scope_view}
use Rattle.pb_fit.proofs.held.conditions_after.Given as goal

abbrev pub invariant-loop-condition : goal.invariant-loop-condition
invariant-loop-condition g l =
    let b = g.K.Known.before l.known in
    let c = scope_view b l.initial.taught in
    let d = scope_view b l.taught in
    let es = all_expanded b.trees (exprs_view l.conditions) in
    let rest = all_expanded b.trees (exprs_view (drop l.condition-index l.conditions)) in
    record {
      faults : first (option_map fault_view l.initial.unfit) (conditions_fault c es) ≡ first (option_map fault_view l.unfit) (conditions_fault d rest);
      taught : narrow_each c es true ≡ narrow_each d rest true;
    }
