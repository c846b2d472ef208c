-- The words of this crate that the contracts of others cite, from one place.
pub use Rattle.pb_schedule.specs.Schedules.{program_for}
