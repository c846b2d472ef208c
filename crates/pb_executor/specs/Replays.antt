-- A run made anew from the events of another.
use Rattle.std.specs.Prelude.{◌≡◌, ◌++◌, ℕ, List, map}
use Rattle.pb_verify.specs.declared.checked.Accepted.{Accepted}
use Rattle.pb_run.specs.Follows.{EventView, enabled_of, event_view, if_enabled}
use Rattle.pb_run.specs.declared.event.Event.{Event}
use Rattle.pb_executor.specs.Drives.{IsSameRun}
use Rattle.pb_executor.specs.States.{RunState, opened, state_of}

-- the event happens, where it can
pub record FollowsRun (v : EventView) (old new : RunState) : Type 0 where
  pub same : IsSameRun old new
  pub events : map event_view new.history
      ≡ map event_view old.history ++ if_enabled (state_of old) v

-- what has happened, and what can of these events behind it
abbrev pub with_enabled : RunState → List EventView → List EventView
with_enabled r vs = map event_view r.history ++ enabled_of (state_of r) vs

-- a run of what was accepted in which just those of these events happened that can
pub record Replays (a : Accepted) (forks : ℕ) (es : List Event) (r : RunState) : Type 0 where
  pub accepted : r.accepted ≡ a
  pub forks_are : r.forks ≡ forks
  pub events : map event_view r.history
      ≡ enabled_of (state_of (opened a forks)) (map event_view es)
