use Rattle.std.proofs.Common.{◌≡◌, ◌+◌, [], length, refl, subst, arith}
use Rattle.pb_language.specs.Plays.{places_in, row_of}
use Rattle.pb_language.specs.Task.{end, flush}
use Rattle.pb_play.specs.Plays.{steps_view}
use Rattle.pb_play.specs.Sound.{tasks_in}
use Rattle.pb_flow.specs.Build.{IsPut, handlers_from}
use Rattle.pb_flow.specs.Nodes.{around_view, target_view}
use Rattle.pb_machine.specs.Steps.{leaving}
use Rattle.pb_flow.specs.declared.tail.Tail.{Tail}
use Rattle.pb_flow.proofs.Blocks.{both-ok, on-ok}
use Rattle.pb_flow.proofs.Puts.{put-section}
use Rattle.pb_flow.proofs.Sounds.{stay-both, stay-more}
use Rattle.pb_flow.proofs.build.put_forced.Goals as goal

pub returns-clause-put : goal.returns-clause-put
returns-clause-put c =
    let scene = c.args.scene.now in
    let n = length scene.handlers.now in
    let ss = steps_view c.args.steps.now in
    let old = c.args.tail.now in
    let one = c.put_flush.new.tail in
    let again : Tail = record { nodes = one.nodes; front = one.front; place = old.place } in
    let two = c.put_flush-2.new.tail in
    let new = c.put_steps.new.tail in
    both-ok c.put_steps.result _ _ _ c.put_steps.ensures.put c.put_steps.ensures.place (λ at p e. λ ms vars.
    let s = around_view ms vars scene.part.around.value in
    let hs = handlers_from ms vars scene in
    let at_first : one.place ≡ places_in n ss + new.place = omega (arith, c.in_ok-failed.ensures.place, c.in_ok-ok.ensures.place) in
    let at_second : two.place ≡ places_in n ss + new.place = omega arith in
    put-section ms vars (row_of hs n s new.place ss end) (hs (places_in n ss + new.place)) 0 (target_view c.args.after.now) old one again two new (target_view c.in_ok-failed.failed) (target_view c.in_ok-ok.ok) (target_view at) refl refl
    (subst (λ k. IsPut ms vars (flush (hs k) end) 0 leaving leaving old one (target_view c.in_ok-failed.failed)) at_first
    (subst (λ t. IsPut ms vars (flush (hs one.place) end) 0 t leaving old one (target_view c.in_ok-failed.failed)) c.leaving-leaving.ensures (c.in_ok-failed.ensures.put ms vars 0 leaving)))
    (subst (λ k. IsPut ms vars (flush (hs k) end) 0 (target_view c.args.after.now) leaving again two (target_view c.in_ok-ok.ok)) at_second (c.in_ok-ok.ensures.put ms vars 0 leaving))
    (subst (λ k. IsPut ms vars (row_of hs n s new.place ss end) k (target_view c.in_ok-ok.ok) (target_view c.in_ok-failed.failed) two new (target_view at)) scene.outermost (p ms vars)))

pub returns-clause-sound : goal.returns-clause-sound
returns-clause-sound c =
    let hs = c.args.scene.now.handlers.now in
    let ts = tasks_in c.args.steps.now in
    let old = c.args.tail.now in
    let one = c.put_flush.new.tail in
    let two = c.put_flush-2.new.tail in
    on-ok c.put_steps.result _ _ c.put_steps.ensures.sound
    (stay-both hs ts old two c.put_steps.new.tail (stay-more hs [] ts old two (λ ms b. tt) (stay-both hs [] old one two c.in_ok-failed.ensures.sound (record { sound = c.in_ok-ok.ensures.sound.sound }))))
