use Rattle.std.proofs.Common.{◌<◌, ◌^◌, arith, subst}
use Rattle.pb_executor.specs.Drives.{TakesRun}
use Rattle.pb_executor.specs.Inside.{run_state}
use Rattle.pb_executor.specs.Refusals.{TakesSomeRun}
use Rattle.pb_executor.specs.States.{RunState}
use Rattle.pb_executor.proofs.Insides.{idle_run, is_memory, sound_run, take_keeps, takes_run, takes_some}
use Rattle.pb_executor.proofs.run.Run.take.Goals as goal
use Rattle.pb_executor.proofs.run.Run.take.Goals.{in-Ok, in-Err}

pub refused_by-requires : goal.refused_by-requires
refused_by-requires c =
    let few : c.self.inside.checked.now.budget < 2 ^ 64 = omega (arith, c.budget-budget.ensures.budget) in
    is_memory c.self.inside c.self.invariant few c.in-Err.fault c.in-Err.ensures.faults

pub invariant_of-self : goal.invariant_of-self
invariant_of-self c = take_keeps c.self.inside c.self.invariant c.take.new.self c.take.result c.take.ensures.takes c.take.ensures.err

pub returns-clause-taken : goal.returns-clause-taken
returns-clause-taken c =
    let a = c.self.inside in
    let m = c.take.new.self in
    elim c.match-take.branch [
      | in-Ok w ↦
          rw w.result-is (subst (λ (r : RunState). TakesRun w.in-Ok.taken r (run_state (record a { recorded = m }))) c.self.view_is
          (takes_run a c.self.invariant m w.in-Ok.taken w.in-Ok.ensures.takes))
      | in-Err w ↦ rw w.result-is tt
    ]

pub returns-clause-idle : goal.returns-clause-idle
returns-clause-idle c =
    elim c.match-take.branch [
      | in-Ok w ↦ rw w.result-is (idle_run c.self.inside c.self.invariant c.take.new.self w.in-Ok.taken w.in-Ok.ensures.takes)
      | in-Err w ↦ rw w.result-is tt
    ]

pub returns-clause-sound : goal.returns-clause-sound
returns-clause-sound c =
    sound_run (record c.self.inside { recorded = c.take.new.self }) (take_keeps c.self.inside c.self.invariant c.take.new.self c.take.result c.take.ensures.takes c.take.ensures.err)

pub returns-clause-memory : goal.returns-clause-memory
returns-clause-memory c =
    elim c.match-take.branch [
      | in-Ok w ↦ rw w.result-is tt
      | in-Err w ↦ rw w.result-is (subst TakesSomeRun c.self.view_is (takes_some c.self.inside c.self.invariant w.in-Err.ensures.memory))
    ]
