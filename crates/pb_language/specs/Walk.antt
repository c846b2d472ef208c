-- The environments of a row: one for each way to a task, and those of its two exits (this project's
-- own).
use Rattle.std.specs.Prelude.{List, [], ◌∷◌, ◌++◌, Bool, cond}
use Rattle.pb_semantics.specs.Kind.{Slots}
use Rattle.pb_semantics.specs.Join.{join_slots}
use Rattle.pb_language.specs.Task.{Task, Handlers, no_handlers, handler, Row, end, task, flush}
use Rattle.pb_language.specs.Task.{section, block}
use Rattle.pb_language.specs.Setting.{Setting}
use Rattle.pb_language.specs.Judgement.{Exit, dead, live, going_exit, failing_exit}

-- a way to a task
pub record Visit : Type 0 where
  pub setting : Setting
  pub visited : Task
  pub env : Slots

-- where ways meet
abbrev pub meet : Exit → Exit → Exit
meet dead f = f
meet (live ss) dead = live ss
meet (live ss) (live ts) = live (join_slots ss ts)

pub record Walked : Type 0 where
  pub visits : List Visit
  pub well : Exit
  pub hurt : Exit

abbrev pub visits_at : Setting → Task → Exit → List Visit
visits_at st t dead = []
visits_at st t (live env) = record { setting = st; visited = t; env = env } ∷ []

abbrev pub going_from : Setting → Task → Exit → Exit
going_from st t dead = dead
going_from st t (live env) = going_exit st t env

abbrev pub failing_from : Setting → Task → Exit → Exit
failing_from st t dead = dead
failing_from st t (live env) = failing_exit st t env

abbrev pub nothing_done : Exit → Walked
nothing_done e = record { visits = []; well = e; hurt = dead }

abbrev pub after_visits : List Visit → Exit → Walked → Walked
after_visits vs x w = record { visits = vs ++ w.visits; well = w.well; hurt = meet x w.hurt }

-- what follows a flush
abbrev pub then_walk : Walked → (Exit → Walked) → Walked
then_walk w after = after_visits w.visits dead (after w.well)

-- a handler may have run or not; where one fails the host leaves at once
abbrev pub flush_walk : Setting → Handlers → Exit → Walked
flush_walk st no_handlers e = nothing_done e
flush_walk st (handler n t hs) e =
    after_visits (visits_at st t e) dead (flush_walk st hs (meet e (going_from st t e)))

-- of the body, the rescue, the always in each mode, and what follows
abbrev pub whole_block : Walked → Walked → Walked → Walked → Walked → Walked
whole_block w s g h k = record {
  visits = w.visits ++ (s.visits ++ (g.visits ++ (h.visits ++ k.visits)));
  well = k.well;
  hurt = meet k.hurt (meet g.hurt (meet h.well h.hurt));
}

abbrev pub then_after : Walked → Walked → Walked → Walked → (Exit → Walked) → Walked
then_after w s g h after = whole_block w s g h (after g.well)

abbrev pub then_always : Walked → Walked → (Exit → Walked) → (Exit → Walked) → Walked
then_always w s always after = then_after w s (always (meet w.well s.well)) (always s.hurt) after

-- without a rescue a failure goes on as it is
abbrev pub unsaved : Exit → Walked
unsaved e = record { visits = []; well = dead; hurt = e }

abbrev pub then_rescue : Walked → Bool → (Exit → Walked) → (Exit → Walked) → (Exit → Walked)
    → Walked
then_rescue w saves rescued always after =
    then_always w (cond saves (rescued w.hurt) (unsaved w.hurt)) always after

-- of a section that forces its handlers: its steps, its flush in each mode, and what follows
abbrev pub whole_section : Walked → Walked → Walked → Walked → Walked
whole_section w g h k = record {
  visits = w.visits ++ (g.visits ++ (h.visits ++ k.visits));
  well = k.well;
  hurt = k.hurt;
}

abbrev pub then_end : Walked → Walked → Walked → (Exit → Walked) → Walked
then_end w g h after = whole_section w g h (after g.well)

abbrev pub then_flushes : Walked → (Exit → Walked) → (Exit → Walked) → Walked
then_flushes w flushed after = then_end w (flushed w.well) (flushed w.hurt) after

abbrev pub walk : Setting → Row → Exit → Walked
walk st end e = nothing_done e
walk st (task t row) e =
    after_visits (visits_at st t e) (failing_from st t e) (walk st row (going_from st t e))
walk st (flush hs row) e = then_walk (flush_walk st hs e) (walk st row)
walk st (section body hs row) e = then_flushes (walk st body e) (flush_walk st hs) (walk st row)
walk st (block d body saves rescued always row) e =
    then_rescue (walk st body e) saves (walk st rescued) (walk st always) (walk st row)
