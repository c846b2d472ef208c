-- A run may go to another thread, and be shared with one.
use denote.Param.Send.{IsSend, IsSync, sendable}
use denote.Ref.{NamedLft}
use Rattle.std.proofs.Crossing as own
use Rattle.pb_run.specs.contracts.event.Event as Event
use Rattle.pb_run.specs.contracts.recorded.RecordedMachine as RecordedMachine
use Rattle.pb_executor.specs.contracts.run.Run as Run
use Rattle.pb_crossing.proofs.AnswersCross as answers
use Rattle.pb_crossing.proofs.MachinesCross as machines
use Rattle.pb_crossing.proofs.CheckedCross as checked

pub Event-field-send : IsSend (Event.the_field).row
Event-field-send = search (answers.crosses, own.crosses, sendable) depth 20

pub Event-field-sync : IsSync (Event.the_field).row
Event-field-sync = search (answers.crosses, own.crosses, sendable) depth 20

pub Event-send : IsSend Event.the_row
Event-send = search (Event-field-send, sendable)

pub Event-sync : IsSync Event.the_row
Event-sync = search (Event-field-sync, sendable)

pub ruleset event = (Event-field-send, Event-field-sync, Event-send, Event-sync)

module _ (life : NamedLft) where
  pub RecordedMachine-field-send : IsSend (RecordedMachine.the_field life).row
  RecordedMachine-field-send = search (event, machines.crosses, own.crosses, sendable) depth 20

  pub RecordedMachine-field-sync : IsSync (RecordedMachine.the_field life).row
  RecordedMachine-field-sync = search (event, machines.crosses, own.crosses, sendable) depth 20

  pub RecordedMachine-send : IsSend (RecordedMachine.the_row life)
  RecordedMachine-send = search (RecordedMachine-field-send, sendable)

  pub RecordedMachine-sync : IsSync (RecordedMachine.the_row life)
  RecordedMachine-sync = search (RecordedMachine-field-sync, sendable)

pub ruleset recorded_machine = (RecordedMachine-field-send, RecordedMachine-field-sync, RecordedMachine-send, RecordedMachine-sync)

module _ (life : NamedLft) where
  pub Run-field-send : IsSend (Run.the_field life).row
  Run-field-send = search (recorded_machine, checked.crosses, own.crosses, sendable) depth 20

  pub Run-field-sync : IsSync (Run.the_field life).row
  Run-field-sync = search (recorded_machine, checked.crosses, own.crosses, sendable) depth 20

  pub Run-send : IsSend (Run.the_row life)
  Run-send = search (Run-field-send, sendable)

  pub Run-sync : IsSync (Run.the_row life)
  Run-sync = search (Run-field-sync, sendable)

pub ruleset run = (Run-field-send, Run-field-sync, Run-send, Run-sync)

pub ruleset crosses = (event, recorded_machine, run)
