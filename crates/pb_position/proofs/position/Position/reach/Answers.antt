use Rattle.std.proofs.Common.{◌≡◌, ◌<◌, ◌≤◌, ◌-◌, ℕ, suc, length, sym, subst, Option, List, true, arith, ◌∙◌, refl}
use Rattle.pb_flow.specs.Ahead.{is_ahead}
use Rattle.pb_flow.specs.declared.graph.Move.{Move}
use Rattle.pb_position.specs.Calls.{Moves}
use Rattle.pb_position.proofs.Along.{sets_off, leaves_the_play, comes_to_the_end, stands_at_the_step, passes_the_handler, comes_nearer, ahead_of_the_start, number_is_within, leads_ahead_from, far}
use Rattle.pb_position.proofs.position.Position.reach.Goals as goal

pub loop-to-init : goal.loop-to-init
loop-to-init c = record {
  ahead = c.requires.ahead;
  goes = sets_off c.args.steps.now c.args.first c.args.self.now;
  handlers = refl;
}

pub returns-then-index-steps-clause-host : goal.returns-then-index-steps-clause-host
returns-then-index-steps-clause-host c =
    let number : (0 < c.in-Some.number) × (c.in-Some.number ≤ suc (length c.args.steps.now)) = number_is_within (suc (length c.args.steps.now)) c.in-Some.number c.loop-to.to c.loop-to.invariant.ahead c.in-Some.is in
    comes_to_the_end c.args.steps.now c.args.first c.args.self.now c.loop-to.self c.loop-to.to c.in-Some.number c.loop-to.invariant.goes c.in-Some.is (omega (arith, number.0))

pub returns-then-begins_task-clause-host : goal.returns-then-begins_task-clause-host
returns-then-begins_task-clause-host c =
    let number : (0 < c.in-Some.number) × (c.in-Some.number ≤ suc (length c.args.steps.now)) = number_is_within (suc (length c.args.steps.now)) c.in-Some.number c.loop-to.to c.loop-to.invariant.ahead c.in-Some.is in
    stands_at_the_step c.args.steps.now c.requires.leads c.in-Some.number (c.in-Some.number - 1) c.index-steps-index.result (omega (arith, number.0)) (omega arith) c.index-steps-index.is
    c.args.first c.args.self.now c.loop-to.self c.begins_task.new.self c.loop-to.to c.loop-to.invariant.goes c.in-Some.is c.if-begins_task.ensures.host

pub loop-to-smaller : goal.loop-to-smaller
loop-to-smaller c =
    let number : (0 < c.in-Some.number) × (c.in-Some.number ≤ suc (length c.args.steps.now)) = number_is_within (suc (length c.args.steps.now)) c.in-Some.number c.loop-to.to c.loop-to.invariant.ahead c.in-Some.is in
    let on : is_ahead c.in-Some.number (suc (length c.args.steps.now)) c.index-steps-index.result.ok.to ≡ true = leads_ahead_from c.in-Some.number (c.in-Some.number - 1) c.args.steps.now c.index-steps-index.result c.requires.leads (omega (arith, number.0)) (omega arith) c.index-steps-index.is in
    subst (λ (o : Option ℕ). far (suc (length c.args.steps.now)) c.index-steps-index.result.ok.to < far (suc (length c.args.steps.now)) o) (sym c.in-Some.is)
    (comes_nearer (suc (length c.args.steps.now)) c.in-Some.number c.index-steps-index.result.ok.to number.1 on)

pub loop-to-preserved : goal.loop-to-preserved
loop-to-preserved c =
    let number : (0 < c.in-Some.number) × (c.in-Some.number ≤ suc (length c.args.steps.now)) = number_is_within (suc (length c.args.steps.now)) c.in-Some.number c.loop-to.to c.loop-to.invariant.ahead c.in-Some.is in
    let on : is_ahead c.in-Some.number (suc (length c.args.steps.now)) c.index-steps-index.result.ok.to ≡ true = leads_ahead_from c.in-Some.number (c.in-Some.number - 1) c.args.steps.now c.index-steps-index.result c.requires.leads (omega (arith, number.0)) (omega arith) c.index-steps-index.is in record {
      ahead = ahead_of_the_start c.in-Some.number (suc (length c.args.steps.now)) c.index-steps-index.result.ok.to on;
      goes =
          passes_the_handler c.args.steps.now c.requires.leads c.in-Some.number (c.in-Some.number - 1) c.index-steps-index.result (omega (arith, number.0)) (omega arith) c.index-steps-index.is
          c.args.first c.args.self.now c.loop-to.self c.begins_task.new.self c.make.new.self c.loop-to.to c.loop-to.invariant.goes c.in-Some.is c.if-begins_task.ensures.host
          (subst (λ (moves : List Move). Moves moves c.begins_task.new.self c.make.new.self) c.deref.ensures.value c.in_ok-make.ensures.host);
      handlers = c.make.ensures.handlers ∙ c.begins_task.ensures.handlers ∙ c.loop-to.invariant.handlers;
    }

pub returns-in_default-clause-host : goal.returns-in_default-clause-host
returns-in_default-clause-host c =
    leaves_the_play c.args.steps.now c.args.first c.args.self.now c.loop-to.self c.leave.new.self c.loop-to.to c.loop-to.invariant.goes c.in_default.is c.leave.ensures.host
