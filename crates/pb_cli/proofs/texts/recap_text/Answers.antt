use Rattle.std.proofs.Common.{◌≡◌, ◌<◌, ◌++◌, length, string_bytes, ◌∙◌, arith, rules}
use Rattle.pb_cli.specs.Texts.{recaps_of, recap_line}
use Rattle.pb_core.specs.Hosts.{recap_view}
use Rattle.pb_cli.proofs.RunTexts.{run_lines-next}
use Rattle.pb_cli.proofs.texts.recap_text.Goals as goal

pub loop-host-preserved : goal.loop-host-preserved
loop-host-preserved c =
    let within : c.loop-host.host < length (recaps_of c.args.run.now) = omega (arith, c.hosts-hosts.ensures.recaps) in
    let line : c.as_str.result.now ≡ recap_line c.host_name.result.now (recap_view c.recap.result) = c.as_str.ensures.value ∙ c.in_ok-line.ensures in
    let written : string_bytes c.push_str.new.self ≡ string_bytes c.loop-host.text ++ c.as_str.result.now = search rules in
    rw written
    (run_lines-next c.args.run.now c.loop-host.host c.host_name.result.now (recap_view c.recap.result) (string_bytes c.loop-host.text) c.as_str.result.now
    c.host_name.ensures c.recap.ensures within line c.loop-host.invariant)
