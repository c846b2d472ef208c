use Rattle.pb_core.proofs.Beginnings.{adds_place, adds_none}
use Rattle.pb_core.proofs.entries.add_waiting.Goals as goal

pub returns-in_ok-wait-in-Some : goal.returns-in_ok-wait-in-Some
returns-in_ok-wait-in-Some c = adds_place c.args.entry.now c.in-Some.place c.args.index.now c.wait.new.self c.in-Some.is c.in_ok-wait-in-Some.ensures.waits c.wait.ensures.running

pub returns-in-None : goal.returns-in-None
returns-in-None c = adds_none c.args.entry.now c.args.index.now c.in-None.is
