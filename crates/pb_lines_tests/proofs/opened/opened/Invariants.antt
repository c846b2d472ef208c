use Rattle.pb_lines.specs.Reader.{IsReading}
use Rattle.pb_lines_tests.proofs.opened.opened.Given as goal

abbrev pub invariant-loop : goal.invariant-loop
invariant-loop g l = IsReading g.D.Device.honest g.D.Device.seen g.D.Device.may_leave l.reader
