use Rattle.std.proofs.Common.{◌≡◌, ◌+◌, [], length, sym, subst, arith}
use Rattle.pb_language.specs.Plays.{places_in, row_of}
use Rattle.pb_language.specs.Task.{end, flush}
use Rattle.pb_play.specs.Plays.{steps_view}
use Rattle.pb_play.specs.Sound.{tasks_in}
use Rattle.pb_flow.specs.Build.{IsPut, handlers_from}
use Rattle.pb_flow.specs.Nodes.{around_view, target_view}
use Rattle.pb_machine.specs.Steps.{leaving}
use Rattle.pb_flow.proofs.Blocks.{both-ok, on-ok}
use Rattle.pb_flow.proofs.Joins.{row-joined}
use Rattle.pb_flow.proofs.Puts.{put-joined}
use Rattle.pb_flow.proofs.Sounds.{stay-both, stay-more}
use Rattle.pb_flow.proofs.build.put_ended.Goals as goal

pub returns-clause-put : goal.returns-clause-put
returns-clause-put c =
    let scene = c.args.scene.now in
    let n = length scene.handlers.now in
    let ss = steps_view c.args.steps.now in
    let old = c.args.tail.now in
    let mid = c.put_flush.new.tail in
    let new = c.put_steps.new.tail in
    both-ok c.put_steps.result _ _ _ c.put_steps.ensures.put c.put_steps.ensures.place (λ at p e. λ ms vars.
    let s = around_view ms vars scene.part.around.value in
    let hs = handlers_from ms vars scene in
    let at_flush : mid.place ≡ places_in n ss + new.place = omega arith in
    subst (λ r. IsPut ms vars r 0 (target_view c.args.after.now) leaving old new (target_view at)) (sym (row-joined hs n s new.place ss (flush (hs (places_in n ss + new.place)) end)))
    (put-joined ms vars (row_of hs n s new.place ss end) (flush (hs (places_in n ss + new.place)) end) 0 (target_view c.args.after.now) leaving old mid new (target_view c.in_ok-flush.flush) (target_view at)
    (subst (λ k. IsPut ms vars (flush (hs k) end) 0 (target_view c.args.after.now) leaving old mid (target_view c.in_ok-flush.flush)) at_flush (c.in_ok-flush.ensures.put ms vars 0 leaving))
    (subst (λ t. IsPut ms vars (row_of hs n s new.place ss end) 0 (target_view c.in_ok-flush.flush) t mid new (target_view at)) c.leaving-leaving.ensures
    (subst (λ k. IsPut ms vars (row_of hs n s new.place ss end) k (target_view c.in_ok-flush.flush) (target_view c.leaving-leaving.result) mid new (target_view at)) scene.outermost (p ms vars)))))

pub returns-clause-sound : goal.returns-clause-sound
returns-clause-sound c =
    let hs = c.args.scene.now.handlers.now in
    let ts = tasks_in c.args.steps.now in
    on-ok c.put_steps.result _ _ c.put_steps.ensures.sound
    (stay-both hs ts c.args.tail.now c.put_flush.new.tail c.put_steps.new.tail (stay-more hs [] ts c.args.tail.now c.put_flush.new.tail (λ ms b. tt) c.in_ok-flush.ensures.sound))
