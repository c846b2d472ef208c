use Rattle.std.proofs.Common.{ap, ◌∙◌, sym}
use Rattle.pb_language.specs.Machine.{State}
use Rattle.pb_machine.proofs.Machines.{same_run}
use Rattle.pb_run.specs.Recorded.{data_of}
use Rattle.pb_run.proofs.recorded.RecordedMachine.is_stopped.Goals as goal

pub returns : goal.returns
returns c = λ o recorded.
    sym (ap (λ (s : State). s.is_stopped) (same_run o.program o.inventory o.forks (data_of c.args.self.now.history.items)) ∙ recorded.is_stopped)
