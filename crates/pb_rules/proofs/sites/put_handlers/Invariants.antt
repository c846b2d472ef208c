use Rattle.pb_play.specs.Plays.{play_view}
use Rattle.pb_rules.proofs.Put.{HandlersPut}
use Rattle.pb_rules.proofs.sites.put_handlers.Given as goal

abbrev pub invariant-loop-number : goal.invariant-loop-number
invariant-loop-number l = HandlersPut (play_view l.around.value.play.now) l.initial.sites.items l.sites.items l.handlers l.number
