-- Laws of journals.
use Rattle.std.specs.Prelude.{◌≡◌, List, ◌++◌}
use Rattle.pb_language.specs.Machine.{State}
use Rattle.pb_run.specs.Follows.{EventView, enabled_of, event_view}
use Rattle.pb_run.specs.declared.event.Event.{Event}
use Rattle.pb_journal.specs.Said.{said_by}

-- where each of these events can happen, each of the first of them can
abbrev pub FirstEventsHappen : Type 0
FirstEventsHappen = (s : State) (first more : List EventView)
    → enabled_of s (first ++ more) ≡ first ++ more → enabled_of s first ≡ first

-- of events of which the same is said, a run sees the same
abbrev pub LooksAtWhatIsSaid : Type 0
LooksAtWhatIsSaid = (e other : Event) → said_by e ≡ said_by other → event_view e ≡ event_view other
