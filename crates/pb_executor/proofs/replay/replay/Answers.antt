use Rattle.std.proofs.Common.{◌≡◌, suc, ◌+◌, ◌∷◌, [], drop, map, refl, sym, ap, ap₂, subst, ◌∙◌, arith}
use Rattle.std.proofs.Math.Seq.{drop-cons}
use Rattle.std.proofs.lemmas.List.{append-nil, drop_all}
use Rattle.pb_run.specs.Follows.{event_view}
use Rattle.pb_executor.specs.Drives.{IsSameRun}
use Rattle.pb_executor.specs.Replays.{with_enabled}
use Rattle.pb_executor.specs.States.{RunState, opened}
use Rattle.pb_executor.proofs.Replays.{follows_all}
use Rattle.pb_executor.proofs.Turns.{same_twice}
use Rattle.pb_executor.proofs.replay.replay.Goals as goal

pub loop-event-init : goal.loop-event-init
loop-event-init c =
    let start = opened c.args.checked.now c.args.forks in
    let is = c.in_ok-run.ensures.opened in
    record {
      same = subst (IsSameRun start) (sym is) refl;
      left = ap (λ (r : RunState). with_enabled r (map event_view c.args.events.now)) is;
    }

pub loop-event-preserved : goal.loop-event-preserved
loop-event-preserved c =
    let l = c.loop-event in
    let events = c.args.events.now in
    let event = c.event-item.result in
    let f = c.in_ok-follow.ensures in
    let later = drop (l.event-index + 1) events in
    let one : suc l.event-index ≡ l.event-index + 1 = omega arith in
    let left : drop l.event-index events ≡ event ∷ later = drop-cons events l.event-index event c.loop-event-test.true ∙ ap₂ (λ e n. e ∷ drop n events) (sym c.event-item.is) one in
    record {
      same = same_twice (opened c.args.checked.now c.args.forks) l.run c.follow.new.self l.invariant.same f.same;
      left = follows_all (event_view event) l.run c.follow.new.self f (map event_view later) ∙ ap (λ es. with_enabled l.run (map event_view es)) (sym left) ∙ l.invariant.left;
    }

pub returns-clause-replays : goal.returns-clause-replays
returns-clause-replays c =
    let l = c.loop-event in
    let none : drop l.event-index c.args.events.now ≡ [] = drop_all l.event-index c.args.events.now c.loop-event-test.false in
    record {
      accepted = ap (λ (r : RunState). r.accepted) l.invariant.same;
      forks_are = ap (λ (r : RunState). r.forks) l.invariant.same;
      events = sym (append-nil (map event_view l.run.history)) ∙ ap (λ es. with_enabled l.run (map event_view es)) (sym none) ∙ l.invariant.left;
    }
