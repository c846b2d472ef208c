-- The words of this crate that the contracts of others cite, from one place.
pub use Rattle.pb_run.specs.Calls.{Gives, IsGiven, IsRefused, IsTaken, StaysRecorded, Takes}
pub use Rattle.pb_run.specs.Calls.{TakesSome, records_some}
pub use Rattle.pb_run.specs.Calls.{is_ticket, refusal_in}
pub use Rattle.pb_run.specs.Faults.{AreSlotted, Faults, IsPast}
pub use Rattle.pb_run.specs.Follows.{EventView, Follows, enabled_of, event_view, if_enabled}
pub use Rattle.pb_run.specs.Openings.{AllEnabled, IsNeverStuck, Opening, state_after}
pub use Rattle.pb_run.specs.Recorded.{IsRecorded, IsScheduled, Opens, Recaps, Stops, data_of}
pub use Rattle.pb_run.specs.Recorded.{slot_names}
