use Rattle.std.proofs.Common.{◌≡◌, map, drop}
use Rattle.std.specs.List.{list_any}
use Rattle.pb_semantics.specs.Keeps.{is_among}
use Rattle.pb_play.specs.Handlers.{is_named, names_met}
use Rattle.pb_play.specs.Plays.{handler_view}
use Rattle.pb_play.proofs.handler.is_taken.Given as goal

abbrev pub invariant-loop-handler : goal.invariant-loop-handler
invariant-loop-handler l = is_among l.name (names_met (map handler_view l.handlers)) ≡ list_any (is_named l.name) (map handler_view (drop l.handler-index l.handlers))
