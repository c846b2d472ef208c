-- The words of this crate that the contracts of others cite, from one place.
pub use Rattle.pb_vars.specs.InScope.{AreAnswers, greatest, in_scope}
pub use Rattle.pb_vars.specs.Reads.{Read, every_read, expanded_every_read, is_known, is_own}
pub use Rattle.pb_vars.specs.ReadView.{read_view}
pub use Rattle.pb_vars.specs.Same.{HaveSame}
