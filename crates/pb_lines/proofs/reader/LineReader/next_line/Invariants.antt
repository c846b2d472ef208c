use Rattle.std.proofs.Common.{◌≡◌, ◌-◌}
use Rattle.pb_lines.specs.Device.{OnlyReads}
use Rattle.pb_lines.specs.Reader.{IsReading, place_of, unread_of}
use Rattle.pb_lines.proofs.reader.LineReader.next_line.Given as goal

abbrev pub invariant-loop-gate : goal.invariant-loop-gate
invariant-loop-gate g l = record {
  reading : IsReading g.D.Device.honest g.D.Device.seen g.D.Device.may_leave l.self;
  place : place_of l.self ≡ place_of l.fn.self;
  reads : OnlyReads g.D.Device.honest g.D.Device.seen g.D.Device.moment g.D.Device.left_since g.D.Device.faults l.fn.self.device l.self.device;
}

abbrev pub decreases-loop-gate : goal.decreases-loop-gate
decreases-loop-gate g l = 16777218 - unread_of l.self
