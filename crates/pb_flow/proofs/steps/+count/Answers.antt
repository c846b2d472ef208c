use Rattle.std.proofs.Common.{◌∙◌, min, ap, sym, refl}
use Rattle.pb_language.specs.Book.{no_steps}
use Rattle.pb_language.specs.Plays.{places_in}
use Rattle.pb_language.specs.Sites.{steps_in}
use Rattle.pb_play.specs.Plays.{step_view, steps_view}
use Rattle.pb_flow.proofs.Counts.{block-count, counted-all, counted-more, parts-once, parts-twice, places-sum, steps-sum, view-block}
use Rattle.pb_flow.proofs.steps.+count.Goals as goal

pub count_in-loop-step-preserved : goal.count_in-loop-step-preserved
count_in-loop-step-preserved t c =
    let n = c.args.handlers in
    let l = c.loop-step in
    record {
      steps = counted-more (steps_in n 0) (steps-sum n) c.args.steps.now l.step-index c.step-item.result _ _ _ l.invariant.steps c.loop-step-test.true c.step-item.is c.step_count.ensures.steps c.and-count.ensures.steps;
      places = counted-more (places_in n) (places-sum n) c.args.steps.now l.step-index c.step-item.result _ _ _ l.invariant.places c.loop-step-test.true c.step-item.is c.step_count.ensures.places c.and-count.ensures.places;
    }

pub count_in-returns-clause-steps : goal.count_in-returns-clause-steps
count_in-returns-clause-steps t c = counted-all (steps_in c.args.handlers 0) refl c.args.steps.now c.loop-step.step-index _ c.loop-step.invariant.steps c.loop-step-test.false

pub count_in-returns-clause-places : goal.count_in-returns-clause-places
count_in-returns-clause-places t c = counted-all (places_in c.args.handlers) refl c.args.steps.now c.loop-step.step-index _ c.loop-step.invariant.places c.loop-step-test.false

pub step_count-returns-in-Block-clause-steps : goal.step_count-returns-in-Block-clause-steps
step_count-returns-in-Block-clause-steps t c =
    let n = c.args.handlers in
    let b = c.in-Block.block in
    parts-twice (steps_in n 0 (steps_view b.body.items)) (steps_in n 0 (steps_view b.rescue.items)) (steps_in n 0 (steps_view b.always.items)) _ _ _ _ _ _
    (c.count_in-body.ensures.steps ∙ ap (λ x. min 8193 (steps_in n 0 (steps_view x))) c.deref.ensures.value)
    (c.count_in-rescue.ensures.steps ∙ ap (λ x. min 8193 (steps_in n 0 (steps_view x))) c.deref-in-Block.ensures.value)
    (c.count_in-always.ensures.steps ∙ ap (λ x. min 8193 (steps_in n 0 (steps_view x))) c.deref-in-Block-2.ensures.value)
    c.twice.ensures.steps c.and.ensures.steps c.and-in-Block.ensures.steps
    ∙ ap (λ x. min 8193 x) (block-count n b ∙ ap (λ x. steps_in n 0 (step_view x no_steps)) (sym c.in-Block.is))

pub step_count-returns-in-Block-clause-places : goal.step_count-returns-in-Block-clause-places
step_count-returns-in-Block-clause-places t c =
    let n = c.args.handlers in
    let b = c.in-Block.block in
    parts-once (places_in n (steps_view b.body.items)) (places_in n (steps_view b.rescue.items)) (places_in n (steps_view b.always.items)) _ _ _ _ _
    (c.count_in-body.ensures.places ∙ ap (λ x. min 8193 (places_in n (steps_view x))) c.deref.ensures.value)
    (c.count_in-rescue.ensures.places ∙ ap (λ x. min 8193 (places_in n (steps_view x))) c.deref-in-Block.ensures.value)
    (c.twice.ensures.places ∙ c.count_in-always.ensures.places ∙ ap (λ x. min 8193 (places_in n (steps_view x))) c.deref-in-Block-2.ensures.value)
    c.and.ensures.places c.and-in-Block.ensures.places
    ∙ ap (λ x. min 8193 (places_in n x)) (sym (view-block b no_steps)) ∙ ap (λ x. min 8193 (places_in n (step_view x no_steps))) (sym c.in-Block.is)
