-- The calls of a play's places, counted node by node (this project's own).
use Rattle.std.specs.Prelude.{◌≡◌, ℕ, suc, ◌+◌, ◌*◌, max, nat_eq, List, [], ◌∷◌, cond}
use Rattle.std.specs.Prelude.{Option, Some, None}
use Rattle.pb_language.specs.Book.{PlayData, Registry}
use Rattle.pb_language.specs.Expression.{Expression}
use Rattle.pb_language.specs.Give.{retries_of}
use Rattle.pb_language.specs.Judgement.{Exit, loop_length}
use Rattle.pb_language.specs.Plays.{play_row}
use Rattle.pb_language.specs.Setting.{Setting}
use Rattle.pb_language.specs.Tables.{row_calls}
use Rattle.pb_language.specs.Task.{Action, Task, call_of, debug, set_fact, assertion, failure_of}
use Rattle.pb_language.specs.Walk.{Visit}
use Rattle.pb_flow.specs.Flow.{tasks_of}
use Rattle.pb_route.specs.Visited.{nodes_visits}

-- the greatest length of a loop over the visits of a place
abbrev pub length_at : ℕ → List Visit → ℕ
length_at p [] = 0
length_at p (v ∷ vs) = cond (nat_eq p v.visited.place)
    (max (loop_length v.setting v.visited v.env v.visited.loop) (length_at p vs)) (length_at p vs)

-- without a loop there is one item, also where no way leads
abbrev pub items_at : List Visit → ℕ → Option Expression → ℕ
items_at vs p None = 1
items_at vs p (Some e) = length_at p vs

abbrev pub calls_at : List Visit → Task → Action → ℕ
calls_at vs t (call_of m ps) = suc (retries_of t.attempts) * items_at vs t.place t.loop
calls_at vs t (debug e) = 0
calls_at vs t (set_fact ps) = 0
calls_at vs t (assertion es o) = 0
calls_at vs t (failure_of o) = 0

-- of nodes, those that are the first of their place, from that place on
abbrev pub places_calls : List Visit → ℕ → List Task → ℕ
places_calls vs p [] = 0
places_calls vs p (t ∷ ts) = cond (nat_eq t.place p)
    (calls_at vs t t.action + places_calls vs (suc p) ts) (places_calls vs p ts)

-- each place of a play is counted once, with the greatest length of its loop
abbrev pub PlacesAreCounted : Type 0
PlacesAreCounted = (ms : Registry) (play : PlayData) (st : Setting) (val : ℕ → Exit)
    → let row = play_row ms play in
    let vs = nodes_visits st (tasks_of row) val 1 in
    row_calls vs row ≡ places_calls vs 0 (tasks_of row)
