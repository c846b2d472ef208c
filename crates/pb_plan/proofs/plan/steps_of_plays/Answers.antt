use Rattle.std.proofs.Common.{◌≡◌, ◌+◌, ℕ, List, [], ◌∷◌, ◌++◌, ◌∙◌, add-one, drop, length, map, take, refl, sym, ap, ap₂, subst, subst₂}
use Rattle.std.proofs.lemmas.List.{length_push, map_push, take_more}
use Rattle.pb_play.specs.Plays.{play_view}
use Rattle.pb_slots.specs.Words.{names_of_slots}
use Rattle.pb_steps.specs.Nodes.{AreNodes}
use Rattle.pb_steps.specs.Outlines.{PlayPlan, plan_view, play_plan}
use Rattle.pb_steps.specs.declared.nodes.PlayNodes.{PlayNodes}
use Rattle.pb_steps.specs.declared.step.PlaySteps.{PlaySteps}
use Rattle.pb_steps.proofs.Planned.{nothing-left}
use Rattle.pb_plan.specs.Nodes.{AreUsesOf}
use Rattle.pb_plan.proofs.Planned.{first-left, none-left, uses-more}
use Rattle.pb_plan.proofs.plan.steps_of_plays.Goals as goal

-- how many handlers a plan has, and its play
abbrev many-in : PlaySteps → ℕ
many-in s = s.handlers

abbrev many-of : PlayNodes → ℕ
many-of n = length n.play.now.handlers.items

pub loop-nodes-init : goal.loop-nodes-init
loop-nodes-init c =
    let ps = c.args.plays.items in
    let names = names_of_slots c.args.slots.now in
    let none = sym c.in_ok-planned.ensures.items in (
      c.into_iter-nodes-iterator.ensures.into_iter_gives.0 ∙ ap (λ (xs : List PlaySteps). drop (length xs) ps) none,
      λ ms.
          let f : PlayNodes → PlayPlan = λ n. play_plan ms (play_view n.play.now) in
          subst (λ (xs : List PlaySteps). map plan_view xs ≡ map f (take (length xs) ps)) none refl,
      λ ms. subst (λ (xs : List PlaySteps). AreUsesOf ms names xs (take (length xs) ps)) none tt,
      subst (λ (xs : List PlaySteps). map many-in xs ≡ map many-of (take (length xs) ps)) none refl,
    )

pub of-requires : goal.of-requires
of-requires c =
    let l = c.loop-nodes in
    let k = length l.planned.items in
    let n = c.in-Some.nodes in
    let at = first-left c.args.plays.items k n c.next.new.self.rest.items (sym l.invariant.0 ∙ c.in-Some.ensures.steps.0) in record {
      nodes = subst AreNodes at.1 (c.requires.nodes k n at.0);
    }

pub loop-nodes-preserved : goal.loop-nodes-preserved
loop-nodes-preserved c =
    let l = c.loop-nodes in
    let ps = c.args.plays.items in
    let k = length l.planned.items in
    let n = c.in-Some.nodes in
    let s = c.in_ok-of.field-0 in
    let names = names_of_slots c.args.slots.now in
    let at = first-left ps k n c.next.new.self.rest.items (sym l.invariant.0 ∙ c.in-Some.ensures.steps.0) in
    let longer : length c.push.new.self.items ≡ k + 1 = ap length c.in_ok-push.ensures.items ∙ length_push l.planned.items s in
    let more : take (k + 1) ps ≡ take k ps ++ n ∷ [] = take_more ps k n at.0 ∙ ap (λ x. take k ps ++ x ∷ []) at.1 in (
      sym at.2 ∙ ap (λ i. drop i ps) (sym (longer ∙ add-one k)),
      λ ms.
          let f : PlayNodes → PlayPlan = λ n. play_plan ms (play_view n.play.now) in
          ap (map plan_view) c.in_ok-push.ensures.items ∙ map_push plan_view l.planned.items s ∙ ap₂ (λ xs (x : PlayPlan). xs ++ x ∷ []) (l.invariant.1 ms) (c.in_ok-of.ensures.plan ms) ∙ sym (map_push f (take k ps) n)
          ∙ ap (map f) (sym more) ∙ ap (λ i. map f (take i ps)) (sym longer),
      λ ms.
          subst₂ (λ xs ys. AreUsesOf ms names xs ys) (sym c.in_ok-push.ensures.items) (sym (ap (λ i. take i ps) longer ∙ more))
          (uses-more ms names l.planned.items (take k ps) s n (l.invariant.2 ms) ((λ is. c.in_ok-of.ensures.uses ms is.sound is.gathers), tt)),
      ap (map many-in) c.in_ok-push.ensures.items ∙ map_push many-in l.planned.items s ∙ ap₂ (λ xs (x : ℕ). xs ++ x ∷ []) l.invariant.3 c.in_ok-of.ensures.handlers ∙ sym (map_push many-of (take k ps) n)
          ∙ ap (map many-of) (sym more) ∙ ap (λ i. map many-of (take i ps)) (sym longer),
    )

pub returns-clause-plans : goal.returns-clause-plans
returns-clause-plans c ms =
    let l = c.loop-nodes in
    let ps = c.args.plays.items in
    let f : PlayNodes → PlayPlan = λ n. play_plan ms (play_view n.play.now) in
    let none = nothing-left l.nodes-iterator.rest.items l.nodes-iterator.rest.len (sym l.nodes-iterator.rest.ok.0) c.in-None.ensures.steps.0 in
    l.invariant.1 ms ∙ ap (map f) (none-left ps (length l.planned.items) (sym l.invariant.0 ∙ none))

pub returns-clause-uses : goal.returns-clause-uses
returns-clause-uses c ms =
    let l = c.loop-nodes in
    let ps = c.args.plays.items in
    let names = names_of_slots c.args.slots.now in
    let none = nothing-left l.nodes-iterator.rest.items l.nodes-iterator.rest.len (sym l.nodes-iterator.rest.ok.0) c.in-None.ensures.steps.0 in
    subst (AreUsesOf ms names l.planned.items) (none-left ps (length l.planned.items) (sym l.invariant.0 ∙ none)) (l.invariant.2 ms)

pub returns-clause-handlers : goal.returns-clause-handlers
returns-clause-handlers c =
    let l = c.loop-nodes in
    let ps = c.args.plays.items in
    let none = nothing-left l.nodes-iterator.rest.items l.nodes-iterator.rest.len (sym l.nodes-iterator.rest.ok.0) c.in-None.ensures.steps.0 in
    l.invariant.3 ∙ ap (map many-of) (none-left ps (length l.planned.items) (sym l.invariant.0 ∙ none))
