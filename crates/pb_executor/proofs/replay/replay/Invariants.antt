use Rattle.std.proofs.Common.{◌≡◌, drop, map}
use Rattle.pb_run.specs.Follows.{enabled_of, event_view}
use Rattle.pb_executor.specs.Drives.{IsSameRun}
use Rattle.pb_executor.specs.Replays.{with_enabled}
use Rattle.pb_executor.specs.States.{opened, state_of}
use Rattle.pb_executor.proofs.replay.replay.Given as goal

-- what can happen of the events that are left comes behind what has happened
abbrev pub invariant-loop-event : goal.invariant-loop-event
invariant-loop-event l = record {
  same : IsSameRun (opened l.checked l.forks) l.run;
  left : with_enabled l.run (map event_view (drop l.event-index l.events))
      ≡ enabled_of (state_of (opened l.checked l.forks)) (map event_view l.events);
}
