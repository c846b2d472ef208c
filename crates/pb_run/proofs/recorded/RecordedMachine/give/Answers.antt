use Rattle.std.proofs.Common.{sym, ◌∙◌}
use Rattle.pb_run.proofs.Records.{refused_none, refused_stopped, refused_stranger}
use Rattle.pb_run.proofs.recorded.RecordedMachine.give.Goals as goal

pub returns-then-self-clause-refused : goal.returns-then-self-clause-refused
returns-then-self-clause-refused c = refused_stopped c.args.self.now c.args.job.host c.args.job.ticket c.if-self.true

pub returns-then-not-is_out-clause-refused : goal.returns-then-not-is_out-clause-refused
returns-then-not-is_out-clause-refused c =
    refused_stranger c.args.self.now c.args.job.host c.args.job.ticket c.if-self.false (sym c.is_out.ensures ∙ c.if-not-is_out.true)

pub returns-in-Err-clause-refused : goal.returns-in-Err-clause-refused
returns-in-Err-clause-refused c = (
  refused_none c.args.self.now c.args.job.host c.args.job.ticket c.if-self.false (sym c.is_out.ensures ∙ c.if-not-is_out.false),
  c.in-Err.ensures.faults,
)
