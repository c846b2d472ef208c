use Rattle.std.proofs.Common.{◌≡◌, subst}
use Rattle.pb_executor.specs.States.{RunState, opening_for, state_of}
use Rattle.pb_executor.proofs.run.Run.is_stopped.Goals as goal

pub returns : goal.returns
returns c =
    let a = c.self.inside in
    subst (λ (r : RunState). c.is_stopped.result ≡ (state_of r).is_stopped) c.self.view_is
    (c.is_stopped.ensures (opening_for a.checked.now a.forks) c.self.invariant.recorded)
