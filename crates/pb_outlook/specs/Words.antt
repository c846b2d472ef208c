-- The words of this crate that the contracts of others cite, from one place.
pub use Rattle.pb_outlook.specs.Standing.{before_at, failure_spot, known_of, own_names, with_given}
pub use Rattle.pb_outlook.specs.Standing.{with_known, with_result}
