use Rattle.std.proofs.Common.{◌≡◌, ◌∙◌, ℕ, ◌+◌, ◌*◌, cond, min, ap, arith}
use Rattle.pb_language.specs.Plays.{places_in}
use Rattle.pb_language.specs.Sites.{steps_in}
use Rattle.pb_play.specs.Plays.{steps_view}
use Rattle.pb_flow.proofs.steps.section_count.Goals as goal

both : (x y a b all : ℕ) → a ≡ min 8193 x → b ≡ min 8193 y → all ≡ min 8193 (a + b) → all ≡ min 8193 (x + y)
both x y a b all e f g = omega arith

pub returns-clause-steps : goal.returns-clause-steps
returns-clause-steps c =
    let n = c.args.handlers in
    let steps = steps_in n 0 (steps_view c.args.steps.now) in
    let flush = cond c.args.forces 2 1 * n in
    both steps flush _ _ c.and.result.steps c.count_in.ensures.steps c.flush_count.ensures.steps c.and.ensures.steps ∙ ap (λ b. min 8193 (cond b (steps + flush) 0)) c.if-not-is_given.ensures

pub returns-clause-places : goal.returns-clause-places
returns-clause-places c =
    let n = c.args.handlers in
    let places = places_in n (steps_view c.args.steps.now) in
    both places n _ _ c.and.result.places c.count_in.ensures.places c.flush_count.ensures.places c.and.ensures.places ∙ ap (λ b. min 8193 (cond b (places + n) 0)) c.if-not-is_given.ensures
