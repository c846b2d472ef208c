use Rattle.std.proofs.Common.{◌≡◌, drop}
use Rattle.pb_semantics.specs.Kind.{spot}
use Rattle.pb_language.specs.Kinds.{path_spot}
use Rattle.pb_kind.specs.KindView.{is_always, kind_view}
use Rattle.pb_syntax.specs.ExprView.{names_of}
use Rattle.pb_forms.proofs.kinds.spot_at_end.Given as goal

abbrev pub invariant-loop-step : goal.invariant-loop-step
invariant-loop-step l =
    path_spot (names_of l.steps) (spot (is_always l.slot.presence) (kind_view l.slot.kind))
    ≡ path_spot (names_of (drop l.step-index l.steps)) (spot l.is_certain (kind_view l.here))
