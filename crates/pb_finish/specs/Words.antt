-- The words of this crate that the contracts of others cite, from one place.
pub use Rattle.pb_finish.specs.Answers.{IsFaultOf, answer_data, first_of}
pub use Rattle.pb_finish.specs.Breaches.{IsFirstBreach}
pub use Rattle.pb_finish.specs.Endings.{CameTo, ComesTo, EndsAs, HasEnded, IsBreach, IsOutcome}
pub use Rattle.pb_finish.specs.Endings.{TellsBreach, failure_in}
