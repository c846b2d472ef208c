use Rattle.std.proofs.Common.{◌≡◌, ◌+◌, [], ◌∷◌, ◌++◌, take, sym, ap, ◌∙◌}
use Rattle.std.proofs.lemmas.List.{take_more}
use Rattle.pb_sig.specs.Modules.{modules_of}
use Rattle.pb_verify.proofs.Gathered.{gather_more}
use Rattle.pb_verify.proofs.scenes.gathering_tasks.Goals as goal

pub loop-play-preserved : goal.loop-play-preserved
loop-play-preserved c =
    let ms = modules_of c.args.registry.now in
    let plays = c.args.plays.now in
    let k = c.loop-play.play-index in
    let p = c.play-item.result in
    let more : take (k + 1) plays ≡ take k plays ++ p ∷ [] = take_more plays k p c.loop-play-test.true ∙ ap (λ x. take k plays ++ x ∷ []) (sym c.play-item.is) in
    rw (more, c.in_ok-push.ensures.items) (gather_more ms (take k plays) c.loop-play.tasks.items p c.in_ok-gathering_of.field-0 c.loop-play.invariant c.in_ok-gathering_of.ensures)
