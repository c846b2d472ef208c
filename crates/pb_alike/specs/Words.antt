-- The words of this crate that the contracts of others cite, from one place.
pub use Rattle.pb_alike.specs.Alike.{AllPlaysAlike, AllVisitsAlike, LookAlike, PlaysAlike}
pub use Rattle.pb_alike.specs.Alike.{SamePlays, SettingsAlike, VisitsAlike, refused_on, ways_of}
pub use Rattle.pb_alike.specs.Named.{any_reads_name_there, book_reads_name, plays_read_name}
pub use Rattle.pb_alike.specs.Named.{site_reads_name}
