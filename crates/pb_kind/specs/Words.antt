-- The words of this crate that the contracts of others cite, from one place.
pub use Rattle.pb_kind.specs.Found.{slot_given, spot_view}
pub use Rattle.pb_kind.specs.Growing.{joined_onto}
pub use Rattle.pb_kind.specs.KindView.{cases_view, is_always, kind_view, shape_view, slots_view}
