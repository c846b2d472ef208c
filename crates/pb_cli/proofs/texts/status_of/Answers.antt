use Rattle.std.proofs.Common.{◌<◌, length, if◌then◌else◌, sym, ap, arith}
use Rattle.pb_cli.specs.Texts.{recaps_of, some_unreachable}
use Rattle.pb_core.specs.Hosts.{recap_view}
use Rattle.pb_cli.proofs.RunTexts.{some_failed-here}
use Rattle.pb_cli.proofs.texts.status_of.Goals as goal

pub returns-then-recap-gt0 : goal.returns-then-recap-gt0
returns-then-recap-gt0 c =
    let within : c.loop-host.host < length (recaps_of c.args.run.now) = omega (arith, c.hosts-hosts.ensures.recaps) in
    let failed = some_failed-here (recaps_of c.args.run.now) c.loop-host.host (recap_view c.recap-recap.result) within c.recap-recap.ensures c.if-recap-gt0.true c.loop-host.invariant.failed in
    sym (ap (λ b. if b then 2 else if some_unreachable (recaps_of c.args.run.now) then 4 else 0) failed)
