use Rattle.std.proofs.Common.{◌≡◌, List, String, Global}
use Rattle.pb_semantics.specs.Kind.{Spot}
use Rattle.pb_language.specs.Scope.{each_spot}
use Rattle.pb_syntax.specs.ExprView.{names_of}
use Rattle.pb_taught.specs.Joined.{spots_onto}
use Rattle.pb_taught.specs.TaughtView.{scope_view}
use Rattle.pb_taught.proofs.views.each_slot.Given as goal

abbrev pub invariant-loop-host : goal.invariant-loop-host
invariant-loop-host g l =
    let each : List (String Global) → Spot = λ ns. each_spot (scope_view (g.K.Known.before l.known) l.taught) l.is_active l.name (names_of ns) in
    each l.hosts.keys ≡ spots_onto l.slots.items (each l.host-iterator)
