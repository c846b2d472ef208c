use Rattle.pb_cli.proofs.Runs.{accepted_with, refused_with}
use Rattle.pb_cli.proofs.outcome.ran_by.Goals as goal

pub returns-in-Ok : goal.returns-in-Ok
returns-in-Ok g c =
    accepted_with g.W.Runner.answers g.W.Runner.short c.args.programs.items c.ran_accepted_by-outcome.result c.args.forks c.args.bytes.now c.in-Ok.checked c.in-Ok.ensures c.ran_accepted_by-outcome.ensures

pub returns-in-Err : goal.returns-in-Err
returns-in-Err g c =
    refused_with g.W.Runner.answers g.W.Runner.short c.args.programs.items c.fault_outcome.result c.args.forks c.args.bytes.now c.in-Err.fault c.in-Err.ensures c.fault_outcome.ensures
