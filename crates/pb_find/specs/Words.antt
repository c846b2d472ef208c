-- The words of this crate that the contracts of others cite, from one place.
pub use Rattle.pb_find.specs.Finds.{Finds, offence_of}
pub use Rattle.pb_find.specs.Ways.{value_at, way_visits}
