-- The words of this crate that the contracts of others cite, from one place.
pub use Rattle.pb_visit.specs.Visits.{IsEither, IsReached, env_of, task_there, writes_view}
