-- The words of this crate that the contracts of others cite, from one place.
pub use Rattle.pb_tables.specs.Outcomes.{AlwaysNamesHandlers, ReadsNoMore, host_offence}
pub use Rattle.pb_tables.specs.Outcomes.{outcome_verdict}
pub use Rattle.pb_tables.specs.Scenes.{AreScenes, IsScene}
