-- The words of this crate that the contracts of others cite, from one place.
pub use Rattle.pb_executor.specs.Drives.{Drives, GivesRun, GoesOn, HasEnded, IsSameRun, TakesRun}
pub use Rattle.pb_executor.specs.Sound.{IsSound}
pub use Rattle.pb_executor.specs.States.{RunState, opened, opening_of, state_of}
