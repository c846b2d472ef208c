use Rattle.pb_rules.proofs.Put.{PlaysPut}
use Rattle.pb_rules.proofs.sites.sites_of.Given as goal

abbrev pub invariant-loop-play : goal.invariant-loop-play
invariant-loop-play l = PlaysPut l.sites.items l.plays l.play-index
