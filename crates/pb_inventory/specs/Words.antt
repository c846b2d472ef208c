-- The words of this crate that the contracts of others cite, from one place.
pub use Rattle.pb_inventory.specs.Offences.{FileOffence, inventory_in, not_json, offence_of}
pub use Rattle.pb_inventory.specs.Offences.{refused}
pub use Rattle.pb_inventory.specs.Inventory.{bases_view, inventory_view}
pub use Rattle.pb_inventory.specs.Numbered.{name_of}
pub use Rattle.pb_inventory.specs.Views.{base_at, group_view, laid, layered}
pub use Rattle.pb_inventory.specs.Patterns.{hosts_found, names_at, no_hosts, patterns_words}
