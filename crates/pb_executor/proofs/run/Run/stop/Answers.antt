use Rattle.std.proofs.Common.{◌++◌, ap, ◌∙◌}
use Rattle.pb_run.specs.Recorded.{stop_events}
use Rattle.pb_executor.specs.States.{RunState, state_of}
use Rattle.pb_executor.proofs.Insides.{stop_keeps, stops_run}
use Rattle.pb_executor.proofs.run.Run.stop.Goals as goal

pub invariant_of-self : goal.invariant_of-self
invariant_of-self c = stop_keeps c.self.inside c.self.invariant c.stop.new.self c.stop.ensures

pub returns : goal.returns
returns c =
    stops_run c.self.inside c.self.invariant c.stop.new.self c.stop.ensures
    ∙ ap (λ (r : RunState). record r { history = r.history ++ stop_events (state_of r) }) c.self.view_is
