use Rattle.std.proofs.Common.{◌≡◌, ◌+◌, [], length, ◌∙◌, ap, arith}
use Rattle.pb_lines.specs.Lines.{recovered, records}
use Rattle.pb_lines.proofs.Crash.{settled}
use Rattle.pb_lines.proofs.Records.{clean, recovered_closed}
use Rattle.pb_lines.proofs.Reading.{place_at_end}
use Rattle.pb_lines.proofs.reader.LineReader.finish.Goals as goal

pub repair-requires-clause-end : goal.repair-requires-clause-end
repair-requires-clause-end g c h =
    let at = c.requires.reading.placed h in
    place_at_end (g.D.Device.seen c.args.self.device) (c.args.self.place + c.args.self.given) at.front at.inside (c.requires.over h)

pub returns-in-Ok-clause-settled : goal.returns-in-Ok-clause-settled
returns-in-Ok-clause-settled g c h =
    let before = c.repair.ensures.honest h in
    let at = c.requires.reading.placed before in
    let file = g.D.Device.seen c.args.self.device in
    let gate : c.args.self.place + c.args.self.given ≡ length (records (recovered file)) =
    place_at_end file (c.args.self.place + c.args.self.given) at.front at.inside (c.requires.over before) in
    (settled g.D.Device.seen g.D.Device.may_leave (record { device = c.repair.new.device; end = c.args.self.place + c.args.self.given }) (recovered file) (clean file) (c.in-Ok.ensures.settled.1 h) gate c.in-Ok.ensures.settled.0).0

pub returns-in-Ok-clause-same : goal.returns-in-Ok-clause-same
returns-in-Ok-clause-same g c h =
    let file = g.D.Device.seen c.args.self.device in (c.repair.ensures.honest h, ap recovered (c.in-Ok.ensures.settled.1 h) ∙ recovered_closed (recovered file) 35 [] (clean file) (omega arith))
