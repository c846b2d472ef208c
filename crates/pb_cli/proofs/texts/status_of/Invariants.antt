use Rattle.std.proofs.Common.{◌≡◌, ◌||◌, drop}
use Rattle.pb_cli.specs.Texts.{recaps_of, some_failed, some_unreachable}
use Rattle.pb_cli.proofs.texts.status_of.Given as goal

abbrev pub invariant-loop-host : goal.invariant-loop-host
invariant-loop-host l = record {
  failed : some_failed (recaps_of l.run) ≡ some_failed (drop l.host (recaps_of l.run));
  unreachable : some_unreachable (recaps_of l.run) ≡ l.unreachable || some_unreachable (drop l.host (recaps_of l.run));
}
