-- The words of this crate that the contracts of others cite, from one place.
pub use Rattle.pb_taught.specs.Before.{Before}
pub use Rattle.pb_taught.specs.OwnScope.{own_scope}
pub use Rattle.pb_taught.specs.TaughtView.{scope_view, untaught}
