use Rattle.std.proofs.Common.{◌≡◌, ◌<◌, ◌≤◌, ap, get_or, length, option_map, refl, take, subst}
use Rattle.std.proofs.lemmas.List.{take_all}
use Rattle.std.proofs.lemmas.Result.{IfOk-weaker}
use Rattle.pb_syntax.specs.ExprView.{exprs_view}
use Rattle.pb_forms.specs.FitView.{fault_view}
use Rattle.pb_taught.specs.TaughtView.{scope_view}
use Rattle.pb_visit.proofs.Held.{IsHeld, conditions_round, fault_more, round_next, taught_more}
use Rattle.pb_visit.proofs.footing.conditions_found.Goals as goal

pub loop-block-init : goal.loop-block-init
loop-block-init g c = record { fault = refl; taught = c.nothing.ensures (g.K.Known.before c.args.known.now) }

pub loop-block-preserved : goal.loop-block-preserved
loop-block-preserved g c =
    let b = g.K.Known.before c.args.known.now in
    let bs = c.args.around.now.blocks.items in
    let i = c.loop-block.block-index in
    let x = c.block-item.result in
    let same = c.deref-block-items.ensures.value in
    let lt : i < length bs = rw (← same) c.loop-block-test.true in
    let is : x ≡ get_or bs i x = rw (← same) c.block-item.is in
    let es = conditions_round (take i bs) in
    let fs = exprs_view x.now.when.items in
    let gs = exprs_view c.deref.result.now in
    let l = c.loop-block in
    let h = c.in_ok-held in
    rw (round_next bs i x lt is) (record {
      fault = fault_more b es fs gs l.held l.invariant (ap exprs_view c.deref.ensures.value) (option_map fault_view h.held.unfit) h.ensures.fault;
      taught = taught_more b es fs gs l.held l.invariant (ap exprs_view c.deref.ensures.value) (scope_view b h.held.taught) h.ensures.taught;
    })

pub returns-clause-fault : goal.returns-clause-fault
returns-clause-fault g c =
    let b = g.K.Known.before c.args.known.now in
    let bs = c.args.around.now.blocks.items in
    let l = c.loop-block in
    let past : length bs ≤ l.block-index = rw (← c.deref-block-items.ensures.value) c.loop-block-test.false in
    let all : IsHeld b (conditions_round bs) l.held = subst (λ xs. IsHeld b (conditions_round xs) l.held) (take_all l.block-index bs past) l.invariant in
    IfOk-weaker c.conditions_after-2.result _ _
    (λ h is. fault_more b (conditions_round bs) (exprs_view c.args.task.now.when.items) (exprs_view c.deref-2.result.now) l.held all (ap exprs_view c.deref-2.ensures.value) (option_map fault_view h.unfit) is) c.conditions_after-2.ensures.fault

pub returns-clause-taught : goal.returns-clause-taught
returns-clause-taught g c =
    let b = g.K.Known.before c.args.known.now in
    let bs = c.args.around.now.blocks.items in
    let l = c.loop-block in
    let past : length bs ≤ l.block-index = rw (← c.deref-block-items.ensures.value) c.loop-block-test.false in
    let all : IsHeld b (conditions_round bs) l.held = subst (λ xs. IsHeld b (conditions_round xs) l.held) (take_all l.block-index bs past) l.invariant in
    IfOk-weaker c.conditions_after-2.result _ _
    (λ h is. taught_more b (conditions_round bs) (exprs_view c.args.task.now.when.items) (exprs_view c.deref-2.result.now) l.held all (ap exprs_view c.deref-2.ensures.value) (scope_view b h.taught) is) c.conditions_after-2.ensures.taught
