-- The words of this crate that the contracts of others cite, from one place.
pub use Rattle.pb_core.specs.Readings.{Agree, AreGiven, Reading, with_variables}
pub use Rattle.pb_core.specs.Hosts.{IsHost, IsOutcome, counts_of, recap_view}
pub use Rattle.pb_core.specs.Entries.{AreHosts}
pub use Rattle.pb_core.specs.Cores.{AreBatches, AreOfNoProgram, IsAgainPast, IsBatch, IsCore}
pub use Rattle.pb_core.specs.Cores.{IsPlay}
pub use Rattle.pb_core.specs.Cores.{activities_of, counts_at, job_at, play_of, recaps_of}
pub use Rattle.pb_core.specs.Cores.{scheduled_batches, scheduled_plays, size_of, tickets_of}
pub use Rattle.pb_core.specs.Events.{AreActive, Begins, CanStart, CanTurn, HasNoJob, IsDisabled}
pub use Rattle.pb_core.specs.Events.{IsNext}
pub use Rattle.pb_core.specs.Events.{Leaves, Opens, Repeats, Settles, Stops, TellsEnd, TellsStop}
pub use Rattle.pb_core.specs.Events.{Turns, TurnsAll, TurnsTo, active_in, is_over}
pub use Rattle.pb_core.specs.Formers.{before_turns}
