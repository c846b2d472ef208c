-- Events of a run that happen again, where they can.
use Rattle.std.specs.Prelude.{◌≡◌, ◌++◌, List, [], ◌∷◌, cond, map, Option, Some, None}
use Rattle.pb_language.specs.Machine as machine
use Rattle.pb_language.specs.Machine.{State, enabled, step}
use Rattle.pb_finish.specs.declared.answer.Answer.{Answer}
use Rattle.pb_finish.specs.declared.answer.Answer.TheVariants.{Broken, Object, Unreachable}
use Rattle.pb_finish.specs.declared.answer.Why.{Why}
use Rattle.pb_run.specs.Openings.{IsNeverStuck, Opening, state_after}
use Rattle.pb_run.specs.Recorded.{IsRecorded, data_of, event_data, slot_names}
use Rattle.pb_run.specs.declared.event.Event.{Event}
use Rattle.pb_run.specs.declared.event.Event.TheVariants.{Start, Give, Turn, Stop}
use Rattle.pb_run.specs.declared.recorded.RecordedMachine.{RecordedMachine}

-- why an answer is broken
abbrev pub why_of : Answer → Option Why
why_of (Object v) = None
why_of Unreachable = None
why_of (Broken why) = Some why

-- the same of each answer of a Give
abbrev pub whys_of : Event → List (Option Why)
whys_of (Start k) = []
whys_of (Give k answers) = map why_of answers.items
whys_of Turn = []
whys_of Stop = []

-- an event, up to the data that its values stand for
abbrev pub EventView : Type 0
EventView = machine.Event × List (Option Why)

abbrev pub event_view : Event → EventView
event_view e = (event_data e, whys_of e)

-- the event, where it can happen in that state
abbrev pub if_enabled : State → EventView → List EventView
if_enabled s v = cond (enabled s v.0) (v ∷ []) []

-- those of these events that can happen, one after the other
abbrev pub enabled_of : State → List EventView → List EventView
enabled_of s [] = []
enabled_of s (v ∷ vs) =
    cond (enabled s v.0) (v ∷ enabled_of (step s v.0) vs) (enabled_of s vs)

pub record HasFollowed (o : Opening) (v : EventView) (old new : RecordedMachine) : Type 0 where
  pub events : map event_view new.history.items ≡ map event_view old.history.items
      ++ if_enabled (state_after o (data_of old.history.items)) v
  pub recorded : IsRecorded o new
  pub slots : slot_names new ≡ slot_names old

-- the event happens where it can, and else nothing does
abbrev pub Follows : EventView → RecordedMachine → RecordedMachine → Type 0
Follows v old new = (o : Opening) → IsNeverStuck o → IsRecorded o old → HasFollowed o v old new
