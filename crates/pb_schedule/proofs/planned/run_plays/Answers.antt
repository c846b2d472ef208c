use Rattle.std.proofs.Common.{◌≡◌, ◌∙◌, ◌⊎◌, ⊎_elim, inl, inr, length, map, sym, arith}
use Rattle.std.specs.Slice.Iter.{iter_rest}
use Rattle.std.proofs.lemmas.List.{length-map}
use Rattle.pb_play.specs.Plays.{is_linear}
use Rattle.pb_play.specs.declared.play.Play.{Play}
use Rattle.pb_core.specs.declared.batch.RunPlay.{RunPlay}
use Rattle.pb_schedule.proofs.Made.{all-made}
use Rattle.pb_schedule.proofs.planned.run_plays.Goals as goal

all : (c : goal.After-drop-play-iterator-3) → (map (λ (r : RunPlay). r.plan) c.loop-play.run.items ≡ c.args.plans.items) × (map (λ (r : RunPlay). r.tasks) c.loop-play.run.items ≡ c.args.tasks.items)
    × (map (λ (r : RunPlay). r.is_linear) c.loop-play.run.items ≡ map (λ (p : Play). is_linear p.strategy) c.args.plays.now)
all c =
    let l = c.loop-play in
    let plans = l.play-iterator.a.b.rest in
    let tasks = l.play-iterator.b.rest in
    let left = iter_rest l.play-iterator.a.a in
    let linear : Play → _ = λ p. is_linear p.strategy in
    let none : (length plans.items ≡ 0) ⊎ ((length tasks.items ≡ 0) ⊎ (length (map linear left) ≡ 0)) =
    ⊎_elim (λ u. ⊎_elim (λ v. inr (inr (length-map left linear ∙ v.1.0))) (λ v. inl (omega (arith, plans.ok, v.1.0))) u.1) (λ u. inr (inl (omega (arith, tasks.ok, u.1.0)))) c.in-None.ensures.steps in
    all-made (λ (r : RunPlay). r.plan) (λ (r : RunPlay). r.tasks) (λ (r : RunPlay). r.is_linear) l.run.items c.args.plans.items plans.items c.args.tasks.items tasks.items (map linear c.args.plays.now) (map linear left)
    l.invariant.plans l.invariant.tasks l.invariant.linear (omega (arith, c.requires.plans, c.requires.tasks)) (length-map c.args.plays.now linear ∙ sym c.requires.plans) none

pub returns-clause-plans : goal.returns-clause-plans
returns-clause-plans c = (all c).0

pub returns-clause-tasks : goal.returns-clause-tasks
returns-clause-tasks c = (all c).1

pub returns-clause-linear : goal.returns-clause-linear
returns-clause-linear c = (all c).2
