-- The words of this crate that the contracts of others cite, from one place.
pub use Rattle.pb_others.specs.Others.{DifferIn, book_reads_theirs, is_theirs, plays_read_theirs}
pub use Rattle.pb_others.specs.Rooted.{any_site_has_root, site_has_root}
