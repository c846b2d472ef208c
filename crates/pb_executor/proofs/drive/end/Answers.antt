use Rattle.std.proofs.Common.{◌+◌, length, refl, ap, subst, ◌∙◌, arith}
use Rattle.pb_run.specs.declared.event.Given.TheVariants as given
use Rattle.pb_runner.specs.Answered.{AreAnswered}
use Rattle.pb_executor.specs.Drives.{GivesRun, again, done}
use Rattle.pb_executor.specs.States.{RunState}
use Rattle.pb_executor.proofs.Turns.{again_handed, given_longer, goes_given, goes_nowhere, goes_twice}
use Rattle.pb_executor.proofs.drive.end.Goals as goal

pub returns-in-Ok-Done-clause-ends : goal.returns-in-Ok-Done-clause-ends
returns-in-Ok-Done-clause-ends g c =
    let l = c.loop-attempt in
    let xs = c.in_ok-answers.answers in
    let asked = subst (λ cs. AreAnswered g.R.Runner.answers l.runner cs xs.items c.answers_of.new.runner) c.deref.ensures.value c.in_ok-answers.ensures.answered in
    let gives = subst (λ x. GivesRun l.job.host l.job.ticket xs x l.run c.give.new.self) c.in-Ok-Done.field-0-is c.in-Ok-Done.ensures.given in
    l.invariant.ends c.give.new.self c.answers_of.new.runner (done xs asked gives)

pub loop-attempt-init : goal.loop-attempt-init
loop-attempt-init g c = record {
  ends = λ last s more. more;
  same = goes_nowhere c.args.run.now;
  within = c.requires.within;
  few = c.requires.few;
  made = refl;
  long = omega arith;
  short = omega arith;
}

pub loop-attempt-preserved : goal.loop-attempt-preserved
loop-attempt-preserved g c =
    let l = c.loop-attempt in
    let i = l.invariant in
    let e = c.in-Ok-Again.ensures in
    let next = c.in-Ok-Again.next in
    let xs = c.in_ok-answers.answers in
    let new = c.give.new.self in
    let asked = subst (λ cs. AreAnswered g.R.Runner.answers l.runner cs xs.items c.answers_of.new.runner) c.deref.ensures.value c.in_ok-answers.ensures.answered in
    let gives = subst (λ x. GivesRun l.job.host l.job.ticket xs x l.run new) c.in-Ok-Again.field-0-is e.given in
    let handed = again_handed l.run new l.job.host l.job.ticket xs next gives in
    let longer = given_longer l.run new l.job.host l.job.ticket xs (given.Again next) gives in
    let budget = ap (λ (r : RunState). r.accepted.budget) gives.same in
    let calls = c.in_ok-answers.ensures.made ∙ ap (λ cs. g.R.Runner.calls l.runner + length cs) c.deref.ensures.value in
    record {
      ends = λ last s more. i.ends last s (again xs next asked gives more);
      same = goes_twice c.args.run.now l.run new i.same (goes_given l.run new l.job.host l.job.ticket xs (given.Again next) gives);
      within = e.sound.within;
      few = omega (arith, handed, budget, calls, i.few, i.within, e.sound.within);
      made = omega (arith, handed, calls, i.made);
      long = omega (arith, longer, i.long);
      short = omega (arith, longer, i.long, e.few);
    }
