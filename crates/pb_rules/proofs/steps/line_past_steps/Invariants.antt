use Rattle.std.proofs.Common.{◌≡◌, ◌≤◌, drop, map}
use Rattle.pb_language.specs.Rules.{too_many_steps}
use Rattle.pb_play.specs.Plays.{play_view}
use Rattle.pb_rules.proofs.steps.line_past_steps.Given as goal

abbrev pub invariant-loop-play : goal.invariant-loop-play
invariant-loop-play l = record {
  left : too_many_steps l.steps (map play_view (drop l.play-index l.plays)) ≡ too_many_steps 0 (map play_view l.plays);
  few : l.steps ≤ 8192;
}
