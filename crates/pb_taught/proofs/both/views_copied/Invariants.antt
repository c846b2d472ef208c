use Rattle.std.proofs.Common.{◌≡◌, []}
use Rattle.pb_taught.specs.TaughtView.{views_view}
use Rattle.pb_taught.proofs.Seen.{copied_onto}
use Rattle.pb_taught.proofs.both.views_copied.Given as goal

abbrev pub invariant-loop-host : goal.invariant-loop-host
invariant-loop-host l = copied_onto l.views.entries [] ≡ copied_onto l.host-iterator (views_view l.all.entries)
