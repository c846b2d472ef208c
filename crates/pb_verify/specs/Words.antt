-- The words of this crate that the contracts of others cite, from one place.
pub use Rattle.pb_verify.specs.Judges.{IsChecked, is_accepted, refused_verdict, run_of_accepted}
pub use Rattle.pb_verify.specs.Meaning.{accepts, refusal_of}
