use Rattle.std.proofs.Common.{◌≡◌, ◌<◌, length, get_or}
use Rattle.pb_vars.specs.InScope.{in_scope}
use Rattle.pb_vars.specs.Rounds.{answer_named, through}
use Rattle.pb_vars.proofs.AfterRounds.{next-answer}
use Rattle.pb_vars.proofs.in_scope.InScope.round.Goals as goal

pub loop-entry-preserved : goal.loop-entry-preserved
loop-entry-preserved g c =
    let es = c.args.self.now.entries.items in
    let f = through (λ n. answer_named n (in_scope c.args.self.now) c.args.answers.now) (g.Q.Question.holds c.args.question.now) in
    let i = c.loop-entry.entry-index in
    let x = c.entry-item.result in
    let same = c.deref-entry-items.ensures.value in
    let within : i < length es = rw (← same) c.loop-entry-test.true in
    let is : x ≡ get_or es i x = rw (← same) c.entry-item.is in
    next-answer f es i x c.loop-entry.next.items c.push.new.self.items c.every_read.result within is c.loop-entry.invariant c.every_read.ensures c.in_ok-push.ensures.items
