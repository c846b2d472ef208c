use Rattle.std.proofs.Common.{rules, ◌≡◌, ◌∙◌, suc, ◌+◌, ◌-◌, ◌<◌, length, drop, ap, sym, subst, refl, arith}
use Rattle.pb_language.specs.Book.{flush_step, no_steps}
use Rattle.pb_language.specs.Plays.{is_given, places_in, row_of}
use Rattle.pb_language.specs.Task.{end}
use Rattle.pb_language.specs.Sites.{steps_in}
use Rattle.pb_play.specs.Plays.{step_view, steps_view}
use Rattle.pb_machine.specs.Steps.{saved_target}
use Rattle.pb_play.specs.Sound.{tasks_in}
use Rattle.pb_play.specs.declared.play.Step.{the_lemmas as step_lemmas}
use Rattle.pb_flow.specs.Build.{IsPut, StaySound, handlers_from, steps_row}
use Rattle.pb_flow.specs.Nodes.{around_view, target_view}
use Rattle.pb_flow.specs.declared.graph.Around.{Around}
use Rattle.pb_flow.specs.declared.tail.Tail.{Tail}
use Rattle.pb_flow.proofs.Blocks.{block-put, both-ok, on-ok, part-put}
use Rattle.pb_flow.proofs.Counts.{left, less-left, places-sum, steps-sum, sum-left, weight, weight-sum}
use Rattle.pb_flow.proofs.Joins.{row-front}
use Rattle.pb_flow.proofs.Puts.{put-joined}
use Rattle.pb_flow.proofs.Sizes.{twice}
use Rattle.pb_flow.proofs.Sounds.{stay-block, stay-step, task-alone}
use Rattle.pb_flow.proofs.build.+put.Goals as goal

pub put_steps-put_step-requires : goal.put_steps-put_step-requires
put_steps-put_step-requires t c =
    let n = length c.args.scene.now.handlers.now in
    let ss = c.args.steps.now in
    let s = c.index-steps-index.result in
    let j = c.loop-index.index in
    let i = j - 1 in
    let one : j ≡ i + 1 = omega arith in
    let lt : i < length ss = omega arith in (
      omega (arith, c.decreases, sum-left weight weight-sum ss i j s one lt c.index-steps-index.is, less-left weight weight-sum ss i),
      (
        omega (arith, sum-left (steps_in n 0) (steps-sum n) ss i j s one lt c.index-steps-index.is, less-left (steps_in n 0) (steps-sum n) ss i),
        omega (arith, sum-left (places_in n) (places-sum n) ss i j s one lt c.index-steps-index.is, less-left (places_in n) (places-sum n) ss i),
      ),
    )

pub put_steps-loop-index-preserved : goal.put_steps-loop-index-preserved
put_steps-loop-index-preserved t c =
    let n = length c.args.scene.now.handlers.now in
    let ss = c.args.steps.now in
    let s = c.index-steps-index.result in
    let j = c.loop-index.index in
    let i = j - 1 in
    let one : j ≡ i + 1 = omega arith in
    let lt : i < length ss = omega arith in
    let inv = c.loop-index.invariant in
    let h = c.in_ok-next-2.ensures in
    record {
      front = omega (arith, sum-left (steps_in n 0) (steps-sum n) ss i j s one lt c.index-steps-index.is, h.front);
      place = omega (arith, sum-left (places_in n) (places-sum n) ss i j s one lt c.index-steps-index.is, h.place);
      sound = stay-step c.args.scene.now.handlers.now ss i j s c.args.tail.now c.loop-index.tail c.put_step.new.tail one lt c.index-steps-index.is inv.sound h.sound;
      put = λ ms vars.
          let a = around_view ms vars c.args.part.now.around.value in
          let hs = handlers_from ms vars c.args.scene.now in
          let p = c.put_step.new.tail.place in
          let rest = steps_view (drop j ss) in
          let is : steps_view (drop i ss) ≡ step_view s rest = left ss i s lt c.index-steps-index.is ∙ ap (λ k. step_view s (steps_view (drop k ss))) (sym one) in
          subst (λ r. IsPut ms vars r c.args.part.now.held (target_view c.args.ok.now) (target_view c.args.failed.now) c.args.tail.now c.put_step.new.tail (target_view c.in_ok-next-2.next)) (sym (ap (λ x. row_of hs n a p x end) is ∙ row-front hs n a p c.loop-index.tail.place s rest h.place))
          (put-joined ms vars (row_of hs n a p (step_view s no_steps) end) (row_of hs n a c.loop-index.tail.place rest end) c.args.part.now.held (target_view c.args.ok.now) (target_view c.args.failed.now) c.args.tail.now c.loop-index.tail c.put_step.new.tail (target_view c.loop-index.next) (target_view c.in_ok-next-2.next) (inv.put ms vars) (h.put ms vars));
    }

pub put_block-put_steps-requires : goal.put_block-put_steps-requires
put_block-put_steps-requires t c =
    let n = length c.args.scene.now.handlers.now in
    let tw = twice n 0 (steps_view c.args.block.now.always.items) in
    let a4 = ap (λ xs. steps_in n 0 (steps_view xs)) c.deref.ensures.value in
    let b4 = ap (λ xs. places_in n (steps_view xs)) c.deref.ensures.value in
    (omega (arith, c.decreases, ap (λ xs. weight (steps_view xs)) c.deref.ensures.value), (omega (arith, c.requires.room), omega (arith, c.requires.places)))

pub put_block-put_steps-requires-2 : goal.put_block-put_steps-requires-2
put_block-put_steps-requires-2 t c =
    let n = length c.args.scene.now.handlers.now in
    let tw = twice n 0 (steps_view c.args.block.now.always.items) in
    let a4 = ap (λ xs. steps_in n 0 (steps_view xs)) c.deref.ensures.value in
    let a5 = ap (λ xs. steps_in n 0 (steps_view xs)) c.deref-2.ensures.value in
    let b4 = ap (λ xs. places_in n (steps_view xs)) c.deref.ensures.value in
    let b5 = ap (λ xs. places_in n (steps_view xs)) c.deref-2.ensures.value in
    (omega (arith, c.decreases, ap (λ xs. weight (steps_view xs)) c.deref-2.ensures.value), (omega (arith, c.requires.room, c.in_ok-last.ensures.front), omega (arith, c.requires.places, c.in_ok-last.ensures.place)))

pub put_block-put_steps-requires-3 : goal.put_block-put_steps-requires-3
put_block-put_steps-requires-3 t c =
    let n = length c.args.scene.now.handlers.now in
    let tw = twice n 0 (steps_view c.args.block.now.always.items) in
    let a4 = ap (λ xs. steps_in n 0 (steps_view xs)) c.deref.ensures.value in
    let a5 = ap (λ xs. steps_in n 0 (steps_view xs)) c.deref-2.ensures.value in
    let a6 = ap (λ xs. steps_in n 0 (steps_view xs)) c.deref-3.ensures.value in
    let b4 = ap (λ xs. places_in n (steps_view xs)) c.deref.ensures.value in
    let b5 = ap (λ xs. places_in n (steps_view xs)) c.deref-2.ensures.value in
    let b6 = ap (λ xs. places_in n (steps_view xs)) c.deref-3.ensures.value in
    (omega (arith, c.decreases, ap (λ xs. weight (steps_view xs)) c.deref-3.ensures.value), (omega (arith, c.requires.room, c.in_ok-last.ensures.front, c.in_ok-on.ensures.front), omega (arith, c.requires.places, c.in_ok-last.ensures.place, c.in_ok-on.ensures.place)))

pub put_block-put_steps-requires-4 : goal.put_block-put_steps-requires-4
put_block-put_steps-requires-4 t c =
    let n = length c.args.scene.now.handlers.now in
    let tw = twice n 0 (steps_view c.args.block.now.always.items) in
    let a4 = ap (λ xs. steps_in n 0 (steps_view xs)) c.deref.ensures.value in
    let a5 = ap (λ xs. steps_in n 0 (steps_view xs)) c.deref-2.ensures.value in
    let a6 = ap (λ xs. steps_in n 0 (steps_view xs)) c.deref-3.ensures.value in
    let a7 = ap (λ xs. steps_in n 0 (steps_view xs)) c.deref-5.ensures.value in
    let b4 = ap (λ xs. places_in n (steps_view xs)) c.deref.ensures.value in
    let b5 = ap (λ xs. places_in n (steps_view xs)) c.deref-2.ensures.value in
    let b6 = ap (λ xs. places_in n (steps_view xs)) c.deref-3.ensures.value in
    let b7 = ap (λ xs. places_in n (steps_view xs)) c.deref-5.ensures.value in
    (omega (arith, c.decreases, ap (λ xs. weight (steps_view xs)) c.deref-5.ensures.value), (omega (arith, c.requires.room, c.in_ok-last.ensures.front, c.in_ok-on.ensures.front, c.in_ok-inside.ensures.front), omega (arith, c.requires.places, c.in_ok-last.ensures.place, c.in_ok-on.ensures.place, c.in_ok-inside.ensures.place)))

pub put_block-returns-clause-front : goal.put_block-returns-clause-front
put_block-returns-clause-front t c =
    let n = length c.args.scene.now.handlers.now in
    let tw = twice n 0 (steps_view c.args.block.now.always.items) in
    let a4 = ap (λ xs. steps_in n 0 (steps_view xs)) c.deref.ensures.value in
    let a5 = ap (λ xs. steps_in n 0 (steps_view xs)) c.deref-2.ensures.value in
    let a6 = ap (λ xs. steps_in n 0 (steps_view xs)) c.deref-3.ensures.value in
    let a7 = ap (λ xs. steps_in n 0 (steps_view xs)) c.deref-5.ensures.value in
    on-ok c.put_steps-4.result _ _ c.put_steps-4.ensures.front (λ e. omega (arith, c.in_ok-last.ensures.front, c.in_ok-on.ensures.front, c.in_ok-inside.ensures.front))

pub put_block-returns-clause-put : goal.put_block-returns-clause-put
put_block-returns-clause-put t c =
    let scene = c.args.scene.now in
    let b = c.args.block.now in
    let part = c.args.part.now in
    let hurt = c.in_ok-hurt.hurt in
    let always = c.in_ok-always.always in
    let rescue = c.in_ok-rescue.rescue in
    let body = c.in_ok-body.body in
    let ok = target_view c.args.ok.now in
    let failed = target_view c.args.failed.now in
    let out = target_view c.in_ok-out.out in
    let last = target_view c.in_ok-last.last in
    let on = target_view c.in_ok-on.on in
    let fails = target_view c.in_ok-fails.fails in
    let entering = target_view c.in_ok-inside.inside in
    let saved = target_view c.in_ok-saved.saved in
    let old = c.args.tail.now in
    let one = c.put_steps.new.tail in
    let again : Tail = record { nodes = one.nodes; front = one.front; place = old.place } in
    let two = c.put_steps-2.new.tail in
    let three = c.put_steps-3.new.tail in
    let new = c.put_steps-4.new.tail in
    let well : always.held ≡ part.held = omega (arith, c.in_ok-hurt.ensures.held, c.in_ok-always.ensures.held) in
    both-ok c.put_steps-4.result _ _ _ c.put_steps-4.ensures.put c.put_steps-4.ensures.place (λ at p e. λ ms vars.
    block-put ms vars scene part.around.value b hurt.around.value rescue.around.value body.around.value c.deref-5.result.now c.deref-3.result.now c.deref.result.now c.deref-2.result.now part.held ok failed
    old one again two three new out last on fails entering saved (target_view at)
    (c.in_ok-hurt.ensures.around ms vars) (c.in_ok-rescue.ensures.around ms vars) (c.in_ok-body.ensures.around ms vars)
    c.deref-5.ensures.value c.deref-3.ensures.value c.deref.ensures.value c.deref-2.ensures.value
    refl refl refl c.in_ok-last.ensures.place c.in_ok-on.ensures.place c.in_ok-inside.ensures.place e
    c.in_ok-out.ensures c.in_ok-fails.ensures
    (subst (λ (a : Around). saved ≡ saved_target a.depth (is_given (steps_view b.rescue.items)) entering fails) c.deref-4.ensures c.in_ok-saved.ensures)
    (part-put ms vars scene hurt.around.value hurt.around.value one.place (steps_view c.deref.result.now) hurt.held (suc part.held) out failed old one last refl c.in_ok-hurt.ensures.held (c.in_ok-last.ensures.put ms vars))
    (part-put ms vars scene always.around.value hurt.around.value two.place (steps_view c.deref-2.result.now) always.held part.held ok failed again two on c.in_ok-always.ensures.around well (c.in_ok-on.ensures.put ms vars))
    (part-put ms vars scene rescue.around.value rescue.around.value three.place (steps_view c.deref-3.result.now) rescue.held part.held on fails two three entering refl c.in_ok-rescue.ensures.held (c.in_ok-inside.ensures.put ms vars))
    (part-put ms vars scene body.around.value body.around.value new.place (steps_view c.deref-5.result.now) body.held part.held on saved three new (target_view at) refl c.in_ok-body.ensures.held (p ms vars)))

pub put_block-returns-clause-sound : goal.put_block-returns-clause-sound
put_block-returns-clause-sound t c =
    let hs = c.args.scene.now.handlers.now in
    let before = rw c.deref.ensures.value at c.in_ok-last.ensures.sound in
    let again = rw c.deref-2.ensures.value at c.in_ok-on.ensures.sound in
    let saved = rw c.deref-3.ensures.value at c.in_ok-inside.ensures.sound in
    on-ok c.put_steps-4.result _ _ c.put_steps-4.ensures.sound (λ h.
    stay-block hs c.args.block.now c.args.tail.now c.put_steps.new.tail c.put_steps-2.new.tail c.put_steps-3.new.tail c.put_steps-4.new.tail
    before (record { sound = again.sound }) saved (rw c.deref-5.ensures.value at h))

pub put_step-returns-in-Task-clause-sound : goal.put_step-returns-in-Task-clause-sound
put_step-returns-in-Task-clause-sound t c =
    on-ok c.put.result _ _ c.put.ensures.sound (λ f. record { sound = λ ms line a b. f ms line (task-alone ms c.args.step.now c.in-Task.task c.in-Task.is b) })

pub put_step-returns-in-Flush-clause-put : goal.put_step-returns-in-Flush-clause-put
put_step-returns-in-Flush-clause-put t c =
    let f : step_view c.args.step.now no_steps ≡ flush_step c.in-Flush.field-0 no_steps = rw c.in-Flush.is (search (rules, step_lemmas)) in
    both-ok c.put_flush.result _ _ _ c.put_flush.ensures.put c.put_flush.ensures.place (λ at p e. λ ms vars.
    subst (λ ss. IsPut ms vars (steps_row ms vars c.args.scene.now c.args.part.now.around.value c.put_flush.new.tail.place ss) c.args.part.now.held (target_view c.args.ok.now) (target_view c.args.failed.now) c.args.tail.now c.put_flush.new.tail (target_view at)) (sym f)
    (p ms vars c.args.part.now.held (target_view c.args.failed.now)))

pub put_steps-returns-clause-sound : goal.put_steps-returns-clause-sound
put_steps-returns-clause-sound t c =
    let e : c.loop-index.index ≡ 0 = omega arith in
    subst (λ i. StaySound c.args.scene.now.handlers.now (tasks_in (drop i c.args.steps.now)) c.args.tail.now c.loop-index.tail) e c.loop-index.invariant.sound
