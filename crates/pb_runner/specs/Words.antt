-- The words of this crate that the contracts of others cite, from one place.
pub use Rattle.pb_runner.specs.Answered.{AreAnswered}
pub use Rattle.pb_runner.specs.Scripts.{IsFromFile, IsScripted, answers_in, script_fault}
pub use Rattle.pb_runner.specs.Scripts.{script_in}
