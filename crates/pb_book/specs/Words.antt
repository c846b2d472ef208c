-- The words of this crate that the contracts of others cite, from one place.
pub use Rattle.pb_book.specs.Books.{book_view, plays_of}
pub use Rattle.pb_book.specs.Ordered.{are_in_order}
pub use Rattle.pb_book.specs.Faults.{offence_of}
pub use Rattle.pb_book.specs.Reading.{book_in}
