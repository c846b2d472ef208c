-- The words of this crate that the contracts of others cite, from one place.
pub use Rattle.pb_play.specs.Faults.{offence_of, offence_view}
pub use Rattle.pb_play.specs.Counted.{is_counted}
pub use Rattle.pb_play.specs.Plays.{cut_view, handler_view, head_view, is_linear, play_view}
pub use Rattle.pb_play.specs.Plays.{step_view, steps_view, words_in}
pub use Rattle.pb_play.specs.Sound.{AreSound, IsSound, all_tasks}
