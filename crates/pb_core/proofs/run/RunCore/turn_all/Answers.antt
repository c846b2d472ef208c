use Rattle.std.proofs.Common.{[], ◌∙◌, refl, ap, arith}
use Rattle.pb_core.specs.Formers.{before}
use Rattle.pb_core.proofs.Turnings.{turned_first, turned_more}
use Rattle.pb_core.proofs.run.RunCore.turn_all.Goals as goal

pub loop-self-init : goal.loop-self-init
loop-self-init g c =
    let old = c.args.self.now in
    let e = c.in_ok-index.ensures in record {
      turns = turned_first old c.turn_from.new.self c.if-not-can_turn.ensures.turn e.turns;
      some = omega arith;
      left = let fewer = e.fewer in omega (arith, fewer);
      tickets = e.tickets;
      back = e.back old.current c.in_ok-index.index ∙ ap (λ fs. before old.current c.in_ok-index.index fs old) c.new-formers.ensures.items ∙ ap (λ x. before old.current x [] old) e.index;
    }

pub loop-self-preserved-in-Ok : goal.loop-self-preserved-in-Ok
loop-self-preserved-in-Ok g c =
    let before = c.loop-self.invariant in
    let e = c.in-Ok.ensures in record {
      turns = turned_more c.loop-self.turns _ c.args.self.now c.loop-self.self c.turn_from-in-loop-self.new.self before.turns c.loop-self-test.ensures.turn e.turns refl;
      some = omega arith;
      left = let left = before.left in let fewer = e.fewer in omega (arith, left, fewer);
      tickets = e.tickets ∙ before.tickets;
      back = e.back c.args.self.now.current c.in_ok-index.index ∙ before.back;
    }

pub returns-in-Err-clause-err : goal.returns-in-Err-clause-err
returns-in-Err-clause-err g c = c.stand_back.ensures ∙ c.turn_from-in-loop-self.ensures.back c.args.self.now.current c.in_ok-index.index ∙ c.loop-self.invariant.back
