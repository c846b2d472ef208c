use Rattle.std.proofs.Common.{◌≡◌, ◌+◌, length, ap, subst, ◌∙◌, inr, arith}
use Rattle.pb_pool.specs.Jobs.{IsRuledGive}
use Rattle.pb_pool.specs.Seats.{Counts, given_more}
use Rattle.pb_pool.proofs.Works.{fits, may_answer_after, told_now}
use Rattle.pb_pool.proofs.worker.end.Goals as goal

pub give-requires : goal.give-requires
give-requires g c =
    told_now g.W.Runner.answers g.W.Runner.short g.P.Rule.of g.P.Rule.told c.loop.runner c.answers_of.new.runner c.loop.job c.deref.result.now c.in_ok-answers.answers.items c.deref.ensures.value c.loop.invariant.told c.loop.invariant.job
    c.in_ok-answers.ensures.answered c.in_ok-answers.ensures.fine

pub returns-in-Ok-Done-clause-told : goal.returns-in-Ok-Done-clause-told
returns-in-Ok-Done-clause-told g c =
    may_answer_after g.W.Runner.answers g.W.Runner.short g.P.Rule.of g.P.Rule.told c.loop.runner c.answers_of.new.runner c.deref.result.now c.in_ok-answers.answers.items c.loop.invariant.told c.in_ok-answers.ensures.answered

pub returns-in-Err-Stopped-default-default-clause-told : goal.returns-in-Err-Stopped-default-default-clause-told
returns-in-Err-Stopped-default-default-clause-told g c =
    may_answer_after g.W.Runner.answers g.W.Runner.short g.P.Rule.of g.P.Rule.told c.loop.runner c.answers_of.new.runner c.deref.result.now c.in_ok-answers.answers.items c.loop.invariant.told c.in_ok-answers.ensures.answered

pub returns-in-Err-Stranger-default-default-clause-told : goal.returns-in-Err-Stranger-default-default-clause-told
returns-in-Err-Stranger-default-default-clause-told g c =
    may_answer_after g.W.Runner.answers g.W.Runner.short g.P.Rule.of g.P.Rule.told c.loop.runner c.answers_of.new.runner c.deref.result.now c.in_ok-answers.answers.items c.loop.invariant.told c.in_ok-answers.ensures.answered

pub loop-preserved : goal.loop-preserved
loop-preserved g c =
    let l = c.loop in
    let i = l.invariant in
    let e = c.in-Ok-Again.ensures in
    let calls = c.in_ok-answers.ensures.made ∙ ap (λ cs. g.W.Runner.calls l.runner + length cs) c.deref.ensures.value in
    let seat = ap (λ (s : Counts). s.handed) (subst (λ x. c.give.new.seat ≡ given_more x l.seat) c.in-Ok-Again.field-0-is e.seat) in record {
      next = tt;
      finite = tt;
      told = may_answer_after g.W.Runner.answers g.W.Runner.short g.P.Rule.of g.P.Rule.told c.loop.runner c.answers_of.new.runner c.deref.result.now c.in_ok-answers.answers.items c.loop.invariant.told c.in_ok-answers.ensures.answered;
      job = inr (subst (IsRuledGive g.P.Rule.of) c.in-Ok-Again.field-0-is e.ruled);
      within = e.few;
      few = (i.few.0, i.few.1, omega (arith, i.few.2, calls, seat));
      made = omega (arith, i.made, calls, seat);
    }
