use Rattle.std.proofs.Common.{◌<◌, ◌^◌, arith, subst}
use Rattle.pb_executor.specs.Drives.{GivesRun}
use Rattle.pb_executor.specs.Inside.{run_state}
use Rattle.pb_executor.specs.Refusals.{IsRefusedRun, error_in}
use Rattle.pb_executor.specs.States.{RunState}
use Rattle.pb_executor.proofs.Insides.{give_keeps, gives_run, is_no_fault, refused_run, sound_run}
use Rattle.pb_executor.proofs.run.Run.give.Goals as goal
use Rattle.pb_executor.proofs.run.Run.give.Goals.{in-Ok, in-Err}

pub error_of-requires : goal.error_of-requires
error_of-requires c =
    let few : c.self.inside.checked.now.budget < 2 ^ 64 = omega (arith, c.budget-budget.ensures.budget) in
    is_no_fault c.self.inside c.self.invariant few c.in-Err.fault c.args.job.host c.args.job.ticket c.in-Err.ensures.refused

pub invariant_of-self : goal.invariant_of-self
invariant_of-self c = give_keeps c.self.inside c.self.invariant c.give.new.self c.args.job.host c.args.job.ticket c.args.answers c.give.result c.give.ensures.gives c.give.ensures.err

pub returns-clause-given : goal.returns-clause-given
returns-clause-given c =
    let a = c.self.inside in
    let m = c.give.new.self in
    let k = c.args.job.host in
    let t = c.args.job.ticket in
    let xs = c.args.answers in
    elim c.match-give.branch [
      | in-Ok w ↦
          rw w.result-is (subst (λ (r : RunState). GivesRun k t xs w.in-Ok.given r (run_state (record a { recorded = m }))) c.self.view_is
          (gives_run a c.self.invariant m k t xs w.in-Ok.given w.in-Ok.ensures.gives))
      | in-Err w ↦ rw w.result-is tt
    ]

pub returns-clause-refused : goal.returns-clause-refused
returns-clause-refused c =
    let k = c.args.job.host in
    let t = c.args.job.ticket in
    elim c.match-give.branch [
      | in-Ok w ↦ rw w.result-is tt
      | in-Err w ↦
          rw (w.result-is, w.error_of.ensures) (subst (λ (r : RunState). IsRefusedRun (error_in w.in-Err.fault) k t r) c.self.view_is
          (refused_run c.self.inside c.self.invariant w.in-Err.fault k t w.in-Err.ensures.refused))
    ]

pub returns-clause-sound : goal.returns-clause-sound
returns-clause-sound c =
    sound_run (record c.self.inside { recorded = c.give.new.self }) (give_keeps c.self.inside c.self.invariant c.give.new.self c.args.job.host c.args.job.ticket c.args.answers c.give.result c.give.ensures.gives c.give.ensures.err)
