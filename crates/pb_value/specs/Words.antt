-- The words of this crate that the contracts of others cite, from one place.
pub use Rattle.pb_value.specs.Append.{append_fields}
pub use Rattle.pb_value.specs.FromJson.{json_data}
pub use Rattle.pb_value.specs.View.{fields_view, items_view, view}
