-- Cuts of batches, counts of steps, a budget of deep blocks, and histories, computed.
use Rattle.std.specs.Prelude.{◌≡◌, refl, ℕ, zero, suc, List, [], ◌∷◌, Some, None, codes, map, length}
use Rattle.pb_language.specs.Expression.{no_expressions, no_parts}
use Rattle.pb_language.specs.Book.{Steps, no_steps, task_step, block_step, host_count, percentage, Book}
use Rattle.pb_language.specs.Builtins.{builtins}
use Rattle.pb_language.specs.Drive.{next_start}
use Rattle.pb_language.specs.Judged.{judged}
use Rattle.pb_language.specs.Machine.{start, give, turn, stop, State, history, opening, run_from}
use Rattle.pb_language.specs.Plays.{batches_for, program_of}
use Rattle.pb_language.specs.Program.{all_batches}
use Rattle.pb_language.specs.Sites.{steps_of}
use Rattle.pb_language.specs.Theorem.{occurrence_events}
use Rattle.pb_language.specs.Verdict.{accepted}
use Rattle.pb_rows.specs.Small.{ping, play, one_host, two_hosts, pinged}

abbrev five : List (List ℕ)
five = codes "a" ∷ codes "b" ∷ codes "c" ∷ codes "d" ∷ codes "e" ∷ []

abbrev three : List (List ℕ)
three = codes "a" ∷ codes "b" ∷ codes "c" ∷ []

-- the last entry repeats, and a percentage is of all hosts
cuts : map length (batches_for (host_count 1 ∷ percentage 50 ∷ []) five) ≡ 1 ∷ 2 ∷ 2 ∷ []
cuts = refl

-- rounded down, and at least one
small_cuts : map length (batches_for (percentage 30 ∷ []) three) ≡ 1 ∷ 1 ∷ 1 ∷ []
small_cuts = refl

no_cuts : batches_for [] [] ≡ []
no_cuts = refl

abbrev nested : ℕ → Steps → Steps
nested zero ss = ss
nested (suc n) ss = block_step (record { line = 2; condition = no_expressions; vars = no_parts; ignore_errors = None }) no_steps no_steps (nested n ss) no_steps

-- two tasks in twelve `always` parts, one in another
steps : steps_of (play (nested 12 (task_step (ping 14) (task_step (ping 15) no_steps)))) ≡ 8192
steps = refl

-- each task has one place, however many modes it has
deep_budget : judged builtins one_host (play (nested 12 (task_step (ping 14) (task_step (ping 15) no_steps))) ∷ []) ≡ accepted 2
deep_budget = refl

abbrev pings : Book
pings = play (task_step (ping 2) (task_step (ping 3) no_steps)) ∷ []

abbrev opened : ℕ → State
opened forks = opening (program_of builtins two_hosts pings) two_hosts forks

-- with two forks both hosts start; then nobody can until both gave, since under `linear` nobody runs ahead
both_start : next_start (run_from (opened 2) (start 0 ∷ start 1 ∷ [])) ≡ None
both_start = refl

waits_for_the_other : next_start (run_from (opened 2) (start 0 ∷ start 1 ∷ give 0 (pinged ∷ []) ∷ [])) ≡ None
waits_for_the_other = refl

goes_on : next_start (run_from (opened 2) (start 0 ∷ start 1 ∷ give 0 (pinged ∷ []) ∷ give 1 (pinged ∷ []) ∷ [])) ≡ Some (record { number = 0; place = 1 })
goes_on = refl

-- with one fork the second waits
one_at_a_time : next_start (run_from (opened 1) (start 0 ∷ [])) ≡ None
one_at_a_time = refl

-- a job is given once, and after a Stop nothing happens
given_once : history (opened 1) (start 0 ∷ give 0 (pinged ∷ []) ∷ give 0 (pinged ∷ []) ∷ []) ≡ start 0 ∷ give 0 (pinged ∷ []) ∷ []
given_once = refl

stopped : history (opened 2) (start 0 ∷ start 1 ∷ stop ∷ give 0 (pinged ∷ []) ∷ []) ≡ start 0 ∷ start 1 ∷ stop ∷ []
stopped = refl

abbrev one_ping : Book
one_ping = play (task_step (ping 2) no_steps) ∷ []

-- the run ends with the Turn of its last batch
ends : history (opening (program_of builtins one_host one_ping) one_host 1) (start 0 ∷ give 0 (pinged ∷ []) ∷ turn ∷ turn ∷ stop ∷ []) ≡ start 0 ∷ give 0 (pinged ∷ []) ∷ turn ∷ []
ends = refl

-- an occurrence is a host of a batch and a place of its play, whatever its modes; it has one Start and one Give
two_places_of_two_hosts : occurrence_events (all_batches (program_of builtins two_hosts pings)) ≡ 8
two_places_of_two_hosts = refl

two_places_of_one_host : occurrence_events (all_batches (program_of builtins one_host (play (nested 12 (task_step (ping 14) (task_step (ping 15) no_steps))) ∷ []))) ≡ 4
two_places_of_one_host = refl

-- as many events as there can be: two for each occurrence, and one for each batch, where a Stop can stand in place of the last Turn
as_many_as_can_be : length (history (opened 2) (start 0 ∷ start 1 ∷ give 0 (pinged ∷ []) ∷ give 1 (pinged ∷ []) ∷ start 1 ∷ start 0 ∷ give 0 (pinged ∷ []) ∷ give 1 (pinged ∷ []) ∷ turn ∷ stop ∷ [])) ≡ 9
as_many_as_can_be = refl

with_a_stop : length (history (opened 2) (start 0 ∷ start 1 ∷ give 0 (pinged ∷ []) ∷ give 1 (pinged ∷ []) ∷ start 1 ∷ start 0 ∷ give 0 (pinged ∷ []) ∷ give 1 (pinged ∷ []) ∷ stop ∷ turn ∷ [])) ≡ 9
with_a_stop = refl
