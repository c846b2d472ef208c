-- The words of this crate that the contracts of others cite, from one place.
pub use Rattle.pb_template.specs.Entries.{are_ascending, but, entries_view, entry_names}
