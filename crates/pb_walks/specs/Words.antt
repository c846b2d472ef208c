-- The words of this crate that the contracts of others cite, from one place.
pub use Rattle.pb_walks.specs.Agree.{AllHostsAgree, AllPlaysAgree, AllVisitsAgree, ExitsAgree}
pub use Rattle.pb_walks.specs.Agree.{HostsAgree, LaterAgrees, LatersAgree, PlaysAgree}
pub use Rattle.pb_walks.specs.Agree.{SettingsAgree, SlotsAgree, ViewsAgree, VisitsAgree}
pub use Rattle.pb_walks.specs.Alone.{any_reads_others_there, book_reads_others}
pub use Rattle.pb_walks.specs.Alone.{plays_read_others, site_reads_others}
