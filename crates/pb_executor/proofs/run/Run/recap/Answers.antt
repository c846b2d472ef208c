use Rattle.std.proofs.Common.{◌≡◌, get_or, subst}
use Rattle.pb_core.specs.Hosts.{recap_view}
use Rattle.pb_language.specs.Machine.{empty_recap}
use Rattle.pb_run.specs.Recorded.{recaps_in}
use Rattle.pb_executor.specs.States.{RunState, opening_for, state_of}
use Rattle.pb_executor.proofs.run.Run.recap.Goals as goal

pub returns : goal.returns
returns c =
    let a = c.self.inside in
    subst (λ (r : RunState). recap_view c.recap.result ≡ get_or (recaps_in (state_of r)) c.args.host empty_recap) c.self.view_is
    (c.recap.ensures (opening_for a.checked.now a.forks) c.self.invariant.recorded)
