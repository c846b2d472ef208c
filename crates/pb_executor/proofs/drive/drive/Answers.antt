use Rattle.std.proofs.Common.{subst, sym, arith}
use Rattle.pb_run.specs.declared.event.Taken.TheVariants as taken
use Rattle.pb_executor.specs.Drives.{GoesOn, TakesRun, goes_on, rests}
use Rattle.pb_executor.proofs.Turns.{goes_nowhere, goes_taken, goes_twice, no_job, over_or_out, rests_handed, taken_handed, taken_longer}
use Rattle.pb_executor.proofs.drive.drive.Goals as goal

pub loop-turn-init : goal.loop-turn-init
loop-turn-init g c = record {
  made = omega arith;
  same = goes_nowhere c.args.run.now;
  driven = λ last s more. more;
  long = omega arith;
  short = omega arith;
}

pub returns-in-Err-clause-book : goal.returns-in-Err-clause-book
returns-in-Err-clause-book g c =
    let start = c.args.run.now in
    let same = subst (GoesOn start) (sym c.in-Err.ensures.err) c.loop-turn.invariant.same in
    goes_twice start c.take.new.self c.give_up.new.run same c.give_up.ensures.book

pub returns-in-Err-end-clause-book : goal.returns-in-Err-end-clause-book
returns-in-Err-end-clause-book g c =
    let start = c.args.run.now in
    let l = c.loop-turn in
    let begun = c.take.new.self in
    let takes = subst (λ t. TakesRun t l.run begun) c.in-Job.is c.in-Ok.ensures.taken in
    let before = goes_twice start l.run begun l.invariant.same (goes_taken l.run begun (taken.Job c.in-Job.job) takes) in
    goes_twice start c.end.new.run c.give_up-in-Err-end.new.run (goes_twice start begun c.end.new.run before c.in-Err-end.ensures.book) c.give_up-in-Err-end.ensures.book

pub returns-in_default : goal.returns-in_default
returns-in_default g c =
    let l = c.loop-turn in
    let i = l.invariant in
    let new = c.take.new.self in
    let t = c.in-Ok.taken in
    let e = c.in-Ok.ensures in
    let free = no_job t c.in_default.not-Job in
    let handed = rests_handed l.run new t free e.taken in
    record {
      driven = i.driven new l.runner (rests t free e.taken);
      ends = over_or_out l.run new t free e.taken e.idle;
      book = goes_twice c.args.run.now l.run new i.same (goes_taken l.run new t e.taken);
      sound = e.sound;
      made = omega (arith, handed, i.made);
    }

pub loop-turn-preserved : goal.loop-turn-preserved
loop-turn-preserved g c =
    let l = c.loop-turn in
    let i = l.invariant in
    let begun = c.take.new.self in
    let j = c.in-Job.job in
    let e = c.in_default-end.ensures in
    let takes = subst (λ t. TakesRun t l.run begun) c.in-Job.is c.in-Ok.ensures.taken in
    let handed = taken_handed l.run begun j takes in
    let longer = taken_longer l.run begun (taken.Job j) takes in
    record {
      made = omega (arith, handed, e.made, i.made);
      same = goes_twice c.args.run.now begun c.end.new.run (goes_twice c.args.run.now l.run begun i.same (goes_taken l.run begun (taken.Job j) takes)) e.book;
      driven = λ last s more. i.driven last s (goes_on j takes e.ends more);
      long = omega (arith, longer, e.longer, i.long);
      short = omega (arith, longer, i.long, c.in-Ok.ensures.few);
    }
