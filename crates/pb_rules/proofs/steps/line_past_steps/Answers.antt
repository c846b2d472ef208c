use Rattle.std.proofs.Common.{◌∙◌, ◌+◌, drop, map, ap, sym, arith}
use Rattle.pb_language.specs.Rules.{too_many_steps}
use Rattle.pb_play.specs.Plays.{play_view}
use Rattle.pb_syntax.proofs.Left.{drop-at}
use Rattle.pb_rules.proofs.Counted.{play-within}
use Rattle.pb_rules.proofs.steps.line_past_steps.Goals as goal

pub loop-play-preserved : goal.loop-play-preserved
loop-play-preserved c =
    let l = c.loop-play in
    let ps = c.args.plays.now in
    let p = c.play-item.result in
    record {
      left = sym (play-within l.steps c.steps_of-steps.result (play_view p) (map play_view (drop (l.play-index + 1) ps)) c.steps_of-steps.ensures (omega arith))
          ∙ ap (λ qs. too_many_steps l.steps (map play_view qs)) (sym (drop-at ps l.play-index p c.loop-play-test.true c.play-item.is)) ∙ l.invariant.left;
      few = omega arith;
    }
