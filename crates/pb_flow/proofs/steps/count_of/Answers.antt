use Rattle.std.proofs.Common.{◌≡◌, ◌∙◌, ℕ, ◌+◌, List, cond, length, min, ap, sym, arith}
use Rattle.std.proofs.lemmas.List.{length-map}
use Rattle.pb_language.specs.Sites.{gathering_steps, section_steps}
use Rattle.pb_play.specs.Plays.{handler_view, play_view, steps_view}
use Rattle.pb_play.specs.declared.play.Step.{Step}
use Rattle.pb_flow.specs.Places.{section_places}
use Rattle.pb_flow.proofs.steps.count_of.Goals as goal

sums : (x y z w a b c d inner outer all : ℕ) → a ≡ min 8193 x → b ≡ min 8193 y → c ≡ min 8193 z → d ≡ min 8193 w → inner ≡ min 8193 (c + d) → outer ≡ min 8193 (b + inner) → all ≡ min 8193 (a + outer)
    → all ≡ min 8193 (x + (y + (z + w)))
sums x y z w a b c d inner outer all e f g h i j k = omega arith

pub returns-clause-steps : goal.returns-clause-steps
returns-clause-steps c =
    let play = c.args.play.now in
    let m = length (play_view play).handlers in
    let forces = cond play.force_handlers 2 1 in
    let n : c.len-handlers.result ≡ m = c.len-handlers.ensures ∙ play.handlers.ok.0 ∙ sym (length-map play.handlers.items handler_view) in
    let at = λ (xs ys : List Step) (e : xs ≡ ys). ap (λ zs. min 8193 (section_steps c.len-handlers.result forces (steps_view zs))) e ∙ ap (λ k. min 8193 (section_steps k forces (steps_view ys))) n in
    sums (gathering_steps play.gathering) (section_steps m forces (steps_view play.pre_tasks.items)) (section_steps m forces (steps_view play.tasks.items))
    (section_steps m forces (steps_view play.post_tasks.items)) _ _ _ _ _ _ _
    c.gathering_count-gathering.ensures.steps (c.section_count-pre_tasks.ensures.steps ∙ at _ _ c.deref.ensures.value) (c.section_count-tasks.ensures.steps ∙ at _ _ c.deref-2.ensures.value)
    (c.section_count-post_tasks.ensures.steps ∙ at _ _ c.deref-3.ensures.value) c.and.ensures.steps c.and-2.ensures.steps c.and-3.ensures.steps

pub returns-clause-places : goal.returns-clause-places
returns-clause-places c =
    let play = c.args.play.now in
    let m = length (play_view play).handlers in
    let n : c.len-handlers.result ≡ m = c.len-handlers.ensures ∙ play.handlers.ok.0 ∙ sym (length-map play.handlers.items handler_view) in
    let at = λ (xs ys : List Step) (e : xs ≡ ys). ap (λ zs. min 8193 (section_places c.len-handlers.result (steps_view zs))) e ∙ ap (λ k. min 8193 (section_places k (steps_view ys))) n in
    sums (gathering_steps play.gathering) (section_places m (steps_view play.pre_tasks.items)) (section_places m (steps_view play.tasks.items))
    (section_places m (steps_view play.post_tasks.items)) _ _ _ _ _ _ _
    c.gathering_count-gathering.ensures.places (c.section_count-pre_tasks.ensures.places ∙ at _ _ c.deref.ensures.value) (c.section_count-tasks.ensures.places ∙ at _ _ c.deref-2.ensures.value)
    (c.section_count-post_tasks.ensures.places ∙ at _ _ c.deref-3.ensures.value) c.and.ensures.places c.and-2.ensures.places c.and-3.ensures.places
