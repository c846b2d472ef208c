-- The words of this crate that the contracts of others cite, from one place.
pub use Rattle.pb_judgement.specs.Ends.{Does, IsJudgedIn, case_kind, doing}
pub use Rattle.pb_judgement.specs.Surrounded.{manner_at}
pub use Rattle.pb_judgement.specs.Results.{AreResults}
