use Rattle.std.proofs.Common.{◌<◌, ◌^◌, arith, subst}
use Rattle.pb_run.specs.Follows.{event_view}
use Rattle.pb_executor.specs.Inside.{run_state}
use Rattle.pb_executor.specs.Replays.{FollowsRun}
use Rattle.pb_executor.specs.States.{RunState}
use Rattle.pb_executor.proofs.Insides.{follow_keeps, follows_run, is_memory}
use Rattle.pb_executor.proofs.run.Run.follow.Goals as goal
use Rattle.pb_executor.proofs.run.Run.follow.Goals.{in-Ok, in-Err}

pub refused_by-requires : goal.refused_by-requires
refused_by-requires c =
    let few : c.self.inside.checked.now.budget < 2 ^ 64 = omega (arith, c.budget-budget.ensures.budget) in
    is_memory c.self.inside c.self.invariant few c.in-Err.fault c.in-Err.ensures.faults

pub invariant_of-self : goal.invariant_of-self
invariant_of-self c = follow_keeps c.self.inside c.self.invariant c.follow.new.self (event_view c.args.event.now) c.follow.result c.follow.ensures.follows c.follow.ensures.err

pub returns : goal.returns
returns c =
    let a = c.self.inside in
    let v = event_view c.args.event.now in
    let m = c.follow.new.self in
    elim c.match-follow.branch [
      | in-Ok w ↦
          rw w.result-is (subst (λ (r : RunState). FollowsRun v r (run_state (record a { recorded = m }))) c.self.view_is (follows_run a c.self.invariant m v w.in-Ok.ensures.follows))
      | in-Err w ↦ rw w.result-is tt
    ]
