-- What the fields of a `Run` stand for.
use Rattle.std.specs.Prelude.{◌≡◌, ◌<◌, List, true}
use Rattle.pb_language.specs.Expression.{Name}
use Rattle.pb_sig.specs.Modules.{modules_of}
use Rattle.pb_book.specs.Books.{book_view}
use Rattle.pb_steps.specs.Uses.{Among}
use Rattle.pb_plan.specs.Plays.{SomePlayUses}
use Rattle.pb_verify.specs.Judges.{is_accepted}
use Rattle.pb_verify.specs.declared.checked.Accepted.{Accepted}
use Rattle.pb_run.specs.Recorded.{IsRecorded, history_of, slot_names}
use Rattle.pb_executor.specs.States.{RunState, opening_for}
use Rattle.pb_executor.specs.declared.run.Run.TheInside.{Inside}

abbrev pub run_state : Inside → RunState
run_state a =
    record { accepted = a.checked.now; forks = a.forks; history = history_of a.recorded }

-- each variable that a task of the book reads, registers or sets is one of these
abbrev pub AllNamed : Accepted → List Name → Type 0
AllNamed a names = (n : Name) → SomePlayUses (modules_of a.registry) (book_view a.book) n
    → Among names n

-- what is recorded is the run of what was accepted, and each of its variables has a slot
pub record IsRun (a : Inside) : Type 0 where
  pub accepted : is_accepted a.checked.now ≡ true
  pub recorded : IsRecorded (opening_for a.checked.now a.forks) a.recorded
  pub forks : 0 < a.forks
  pub slots : AllNamed a.checked.now (slot_names a.recorded)
