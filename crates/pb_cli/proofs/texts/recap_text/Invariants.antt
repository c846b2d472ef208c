use Rattle.std.proofs.Common.{◌≡◌, ◌++◌, drop, string_bytes}
use Rattle.pb_cli.specs.Texts.{recaps_of, recap_lines, run_lines, host_names}
use Rattle.pb_cli.proofs.texts.recap_text.Given as goal

abbrev pub invariant-loop-host : goal.invariant-loop-host
invariant-loop-host l = run_lines l.run ≡ string_bytes l.text ++ recap_lines (drop l.host (host_names l.run)) (drop l.host (recaps_of l.run))
