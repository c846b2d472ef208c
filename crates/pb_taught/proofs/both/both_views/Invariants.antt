use Rattle.std.proofs.Common.{◌≡◌, []}
use Rattle.pb_taught.specs.TaughtView.{views_view}
use Rattle.pb_taught.proofs.Seen.{views_onto}
use Rattle.pb_taught.proofs.both.both_views.Given as goal

abbrev pub invariant-loop-host : goal.invariant-loop-host
invariant-loop-host l =
    let ws = views_view l.other.entries in
    views_onto (views_view l.one.entries) ws [] ≡ views_onto (views_view l.host-iterator) ws (views_view l.all.entries)
