use Rattle.std.proofs.Common.{map, length, get_or, ap, subst}
use Rattle.std.proofs.lemmas.Result.{err_from_is_err_and}
use Rattle.pb_finish.specs.Answers.{answer_data}
use Rattle.pb_jobs.specs.Machines.{AreCallsOf}
use Rattle.pb_jobs.proofs.Faults.{again_gives, again_past_gives, counted_gives, leave_gives, not_out_gives, settle_gives}
use Rattle.pb_jobs.proofs.Finishes.{comes_so, counts_none, counts_same}
use Rattle.pb_jobs.proofs.Gives.{changes_again, changes_left, changes_settled}
use Rattle.pb_jobs.proofs.machine.Machine.give.Goals as goal

pub returns-in_ok-leave-in-Left-clause-gives : goal.returns-in_ok-leave-in-Left-clause-gives
returns-in_ok-leave-in-Left-clause-gives c = λ reading s is w fine.
    let known = comes_so c.args.self.now c.look.new.self c.in-Some.batch c.scene.result c.args.host c.args.answers.now c.in_ok-finished.finished _
    c.look.ensures.same c.in-Some.is c.scene.ensures c.in_ok-finished.ensures.finishes c.in-Left.is reading s is w fine in
    let changes = changes_left s c.args.host w (map answer_data c.args.answers.now) _ known.1 in
    record {
      after = c.in_ok-leave-in-Left.ensures.leaves reading s known.0 w (map answer_data c.args.answers.now) known.1;
      calls = tt;
      hosts = changes.hosts;
      steps = changes.steps;
    }

pub returns-in_ok-leave-in-Left-clause-counts : goal.returns-in_ok-leave-in-Left-clause-counts
returns-in_ok-leave-in-Left-clause-counts c =
    counts_none c.args.self.now c.look.new.self _ c.args.host c.look.ensures.same c.in_ok-leave-in-Left.ensures.counts

pub returns-in_ok-calls-in-Again-clause-gives : goal.returns-in_ok-calls-in-Again-clause-gives
returns-in_ok-calls-in-Again-clause-gives c = λ reading s is w fine.
    let known = comes_so c.args.self.now c.look.new.self c.in-Some.batch c.scene.result c.args.host c.args.answers.now c.in_ok-finished.finished _
    c.look.ensures.same c.in-Some.is c.scene.ensures c.in_ok-finished.ensures.finishes c.in-Again.is reading s is w fine in
    let given = c.in_ok-calls-in-Again.ensures.repeats reading s known.0 w (map answer_data c.args.answers.now) known.1 in
    let calls = subst (λ n. AreCallsOf w n c.in_ok-calls-in-Again.calls.items) (ap (λ v. get_or v.items c.args.host 0) c.look.ensures.same.calls) given.1 in
    let changes = changes_again s c.args.host w (map answer_data c.args.answers.now) _ c.in_ok-calls-in-Again.calls.items known.1 calls in
    record {
      after = given.0;
      calls = (known.1, calls);
      hosts = changes.hosts;
      steps = changes.steps;
    }

pub returns-in_ok-calls-in-Again-clause-counts : goal.returns-in_ok-calls-in-Again-clause-counts
returns-in_ok-calls-in-Again-clause-counts c =
    counts_same c.args.self.now c.look.new.self _ c.args.host c.look.ensures.same (length c.in_ok-calls-in-Again.calls.items) c.in_ok-calls-in-Again.ensures.counts

pub returns-in_ok-settle-in-Ended-clause-gives : goal.returns-in_ok-settle-in-Ended-clause-gives
returns-in_ok-settle-in-Ended-clause-gives c = λ reading s is w fine.
    let known = comes_so c.args.self.now c.look.new.self c.in-Some.batch c.scene.result c.args.host c.args.answers.now c.in_ok-finished.finished _
    c.look.ensures.same c.in-Some.is c.scene.ensures c.in_ok-finished.ensures.finishes c.in-Ended.is reading s is w fine in
    let changes = changes_settled s c.args.host w (map answer_data c.args.answers.now) _ _ known.1 in
    record {
      after = c.in_ok-settle-in-Ended.ensures.settles reading s known.0 w (map answer_data c.args.answers.now) known.1;
      calls = tt;
      hosts = changes.hosts;
      steps = changes.steps;
    }

pub returns-in_ok-settle-in-Ended-clause-counts : goal.returns-in_ok-settle-in-Ended-clause-counts
returns-in_ok-settle-in-Ended-clause-counts c =
    counts_none c.args.self.now c.look.new.self _ c.args.host c.look.ensures.same c.in_ok-settle-in-Ended.ensures.counts

pub returns-in_err-finished-clause-there : goal.returns-in_err-finished-clause-there
returns-in_err-finished-clause-there c =
    let p = err_from_is_err_and c.from_residual-in_err-finished.result c.from_residual-in_err-finished.ensures.1 in
    rw (p.1, p.2) (λ e. not_out_gives c.args.self.now c.look.new.self c.in-Some.batch c.scene.result c.look.ensures.same c.in-Some.is c.scene.ensures c.args.host (map answer_data c.args.answers.now) (c.in_err-finished.ensures.there e))

pub returns-in_err-finished-clause-full : goal.returns-in_err-finished-clause-full
returns-in_err-finished-clause-full c =
    let p = err_from_is_err_and c.from_residual-in_err-finished.result c.from_residual-in_err-finished.ensures.1 in
    rw (p.1, p.2) (λ e. absurd (c.in_err-finished.ensures.full e))

pub returns-in_err-leave-in-Left-clause-there : goal.returns-in_err-leave-in-Left-clause-there
returns-in_err-leave-in-Left-clause-there c =
    let p = err_from_is_err_and c.from_residual-in_err-leave-in-Left.result c.from_residual-in_err-leave-in-Left.ensures.1 in
    rw (p.1, p.2) (λ e. leave_gives c.args.self.now c.look.new.self c.look.ensures.same c.args.host (map answer_data c.args.answers.now) (c.in_err-leave-in-Left.ensures.there e))

pub returns-in_err-leave-in-Left-clause-full : goal.returns-in_err-leave-in-Left-clause-full
returns-in_err-leave-in-Left-clause-full c =
    let p = err_from_is_err_and c.from_residual-in_err-leave-in-Left.result c.from_residual-in_err-leave-in-Left.ensures.1 in
    rw (p.1, p.2) (λ e. counted_gives c.args.self.now c.look.new.self c.look.ensures.same c.args.host (map answer_data c.args.answers.now) (c.in_err-leave-in-Left.ensures.full e))

pub returns-in_err-calls-in-Again-clause-there : goal.returns-in_err-calls-in-Again-clause-there
returns-in_err-calls-in-Again-clause-there c =
    let p = err_from_is_err_and c.from_residual-in_err-calls-in-Again.result c.from_residual-in_err-calls-in-Again.ensures.1 in
    rw (p.1, p.2) (λ e. again_gives c.args.self.now c.look.new.self c.look.ensures.same c.args.host (map answer_data c.args.answers.now) (c.in_err-calls-in-Again.ensures.there e))

pub returns-in_err-calls-in-Again-clause-full : goal.returns-in_err-calls-in-Again-clause-full
returns-in_err-calls-in-Again-clause-full c =
    let p = err_from_is_err_and c.from_residual-in_err-calls-in-Again.result c.from_residual-in_err-calls-in-Again.ensures.1 in
    rw (p.1, p.2) (λ e. again_past_gives c.args.self.now c.look.new.self c.look.ensures.same c.args.host (map answer_data c.args.answers.now) (c.in_err-calls-in-Again.ensures.full e) (λ reading s is w fine. (comes_so c.args.self.now c.look.new.self c.in-Some.batch c.scene.result c.args.host c.args.answers.now c.in_ok-finished.finished _ c.look.ensures.same c.in-Some.is c.scene.ensures c.in_ok-finished.ensures.finishes c.in-Again.is reading s is w fine).1))

pub returns-in_err-settle-in-Ended-clause-there : goal.returns-in_err-settle-in-Ended-clause-there
returns-in_err-settle-in-Ended-clause-there c =
    let p = err_from_is_err_and c.from_residual-in_err-settle-in-Ended.result c.from_residual-in_err-settle-in-Ended.ensures.1 in
    rw (p.1, p.2) (λ e. settle_gives c.args.self.now c.look.new.self c.look.ensures.same c.args.host (map answer_data c.args.answers.now) c.in-Ended.outcome c.in-Ended.writes.items (c.in_err-settle-in-Ended.ensures.there e) (λ reading s is w fine. (comes_so c.args.self.now c.look.new.self c.in-Some.batch c.scene.result c.args.host c.args.answers.now c.in_ok-finished.finished _ c.look.ensures.same c.in-Some.is c.scene.ensures c.in_ok-finished.ensures.finishes c.in-Ended.is reading s is w fine).1))

pub returns-in_err-settle-in-Ended-clause-full : goal.returns-in_err-settle-in-Ended-clause-full
returns-in_err-settle-in-Ended-clause-full c =
    let p = err_from_is_err_and c.from_residual-in_err-settle-in-Ended.result c.from_residual-in_err-settle-in-Ended.ensures.1 in
    rw (p.1, p.2) (λ e. counted_gives c.args.self.now c.look.new.self c.look.ensures.same c.args.host (map answer_data c.args.answers.now) (c.in_err-settle-in-Ended.ensures.full e))
