-- The words of this crate that the contracts of others cite, from one place.
pub use Rattle.pb_task.specs.Faults.{offence_of}
pub use Rattle.pb_task.specs.Offences.{number_of, task_read}
pub use Rattle.pb_task.specs.Standings.{standing_view}
pub use Rattle.pb_task.specs.Tasks.{IsOrdered, IsResolved, Resolves, asserted_view, attempts_view}
pub use Rattle.pb_task.specs.Tasks.{names_view, task_view, work_view}
