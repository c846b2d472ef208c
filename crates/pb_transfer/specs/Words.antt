-- The words of this crate that the contracts of others cite, from one place.
pub use Rattle.pb_transfer.specs.Written.{AreSame, sets_view, where_led}
