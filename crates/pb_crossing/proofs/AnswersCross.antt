-- Calls of modules and their answers may go to another thread, and be shared with one.
use denote.Param.Send.{IsSend, IsSync, sendable}
use Rattle.std.proofs.Crossing as own
use Rattle.pb_finish.specs.contracts.answer.Why as Why
use Rattle.pb_finish.specs.contracts.answer.Answer as Answer
use Rattle.pb_jobs.specs.contracts.job.Call as Call
use Rattle.pb_jobs.specs.contracts.job.Job as Job
use Rattle.pb_crossing.proofs.ValuesCross as values

pub Why-field-send : IsSend (Why.the_field).row
Why-field-send = search (values.crosses, own.crosses, sendable) depth 20

pub Why-field-sync : IsSync (Why.the_field).row
Why-field-sync = search (values.crosses, own.crosses, sendable) depth 20

pub Why-send : IsSend Why.the_row
Why-send = search (Why-field-send, sendable)

pub Why-sync : IsSync Why.the_row
Why-sync = search (Why-field-sync, sendable)

pub ruleset why = (Why-field-send, Why-field-sync, Why-send, Why-sync)

pub Answer-field-send : IsSend (Answer.the_field).row
Answer-field-send = search (why, values.crosses, own.crosses, sendable) depth 20

pub Answer-field-sync : IsSync (Answer.the_field).row
Answer-field-sync = search (why, values.crosses, own.crosses, sendable) depth 20

pub Answer-send : IsSend Answer.the_row
Answer-send = search (Answer-field-send, sendable)

pub Answer-sync : IsSync Answer.the_row
Answer-sync = search (Answer-field-sync, sendable)

pub ruleset answer = (Answer-field-send, Answer-field-sync, Answer-send, Answer-sync)

pub Call-field-send : IsSend (Call.the_field).row
Call-field-send = search (values.crosses, own.crosses, sendable) depth 20

pub Call-field-sync : IsSync (Call.the_field).row
Call-field-sync = search (values.crosses, own.crosses, sendable) depth 20

pub Call-send : IsSend Call.the_row
Call-send = search (Call-field-send, sendable)

pub Call-sync : IsSync Call.the_row
Call-sync = search (Call-field-sync, sendable)

pub ruleset call = (Call-field-send, Call-field-sync, Call-send, Call-sync)

pub Job-field-send : IsSend (Job.the_field).row
Job-field-send = search (call, values.crosses, own.crosses, sendable) depth 20

pub Job-field-sync : IsSync (Job.the_field).row
Job-field-sync = search (call, values.crosses, own.crosses, sendable) depth 20

pub Job-send : IsSend Job.the_row
Job-send = search (Job-field-send, sendable)

pub Job-sync : IsSync Job.the_row
Job-sync = search (Job-field-sync, sendable)

pub ruleset job = (Job-field-send, Job-field-sync, Job-send, Job-sync)

pub ruleset crosses = (why, answer, call, job)
