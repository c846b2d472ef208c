-- The words of this crate that the contracts of others cite, from one place.
pub use Rattle.pb_hosts.specs.Casts.{cast_hosts, setting_in}
pub use Rattle.pb_hosts.specs.Constants.{AreConstants}
pub use Rattle.pb_hosts.specs.Shown.{views_view}
pub use Rattle.pb_hosts.specs.Sights.{laters_view, seen_setting}
pub use Rattle.pb_hosts.specs.Tables.{host_names, laters_from, never_lasts, since_view}
pub use Rattle.pb_hosts.specs.Tables.{shared_slots, slots_in, slots_of_each, views_from, views_with}
