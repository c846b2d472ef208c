use Rattle.pb_lines.proofs.Elapsing.{elapses}
use Rattle.pb_lines.proofs.file.FileDeviceDevice.read_at.Goals as goal

pub returns-in-Ok-clause-time : goal.returns-in-Ok-clause-time
returns-in-Ok-clause-time c = elapses c.args.self.now.log.events c.note.new.self.events _ c.note.ensures

pub returns-in-Err-clause-time : goal.returns-in-Err-clause-time
returns-in-Err-clause-time c = elapses c.args.self.now.log.events c.note-in-Err.new.self.events _ c.note-in-Err.ensures
