use Rattle.std.proofs.Common.{ap, sym, ◌∙◌}
use Rattle.pb_executor.specs.States.{RunState}
use Rattle.pb_pool.proofs.Keeps.{kept_stopped}
use Rattle.pb_pool.proofs.shared.SharedRun.stop.Goals as goal

pub invariant_of-self : goal.invariant_of-self
invariant_of-self g c =
    let a = c.self.inside in
    let halts = c.stop.ensures in
    let same = halts ∙ ap (λ xs. record a.run { history = xs }) (sym (ap (λ (r : RunState). r.history) halts)) in
    kept_stopped g.P.Rule.of g.P.Rule.told a.opened a.calls.total a.gives.total a.run c.stop.new.self c.self.invariant same c.history-events.ensures.sound halts
