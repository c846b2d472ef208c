use Rattle.pb_cli.proofs.Runs.{accepted_runs, refused_runs}
use Rattle.pb_cli.proofs.outcome.ran.Goals as goal

pub returns-in-Ok : goal.returns-in-Ok
returns-in-Ok g c =
    accepted_runs c.ran_accepted-outcome.result c.args.forks c.args.bytes.now c.in-Ok.checked c.as_slice.result.now c.as_slice.ensures.value c.in-Ok.ensures c.ran_accepted-outcome.ensures

pub returns-in-Err : goal.returns-in-Err
returns-in-Err g c = refused_runs c.fault_outcome.result c.args.forks c.args.bytes.now c.in-Err.fault c.in-Err.ensures c.fault_outcome.ensures
