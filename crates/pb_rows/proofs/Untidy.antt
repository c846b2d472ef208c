-- Lists of events that are no neat run, with attempts and forced flushes under way: which of them happen, computed.
use Rattle.std.specs.Prelude.{◌≡◌, refl, List, [], ◌∷◌, ◌++◌, true, false, codes}
use Rattle.pb_semantics.specs.Data.{boolean}
use Rattle.pb_language.specs.Expression.{literal, no_expressions, expression}
use Rattle.pb_language.specs.Book.{TaskData, no_steps, task_step, PlayData, Book}
use Rattle.pb_language.specs.Builtins.{builtins}
use Rattle.pb_language.specs.Give.{unreachable}
use Rattle.pb_language.specs.Machine.{Event, start, give, turn, stop, Recap, empty_recap}
use Rattle.pb_language.specs.Plays.{program_of}
use Rattle.pb_language.specs.Program.{all_batches}
use Rattle.pb_language.specs.Theorem.{occurrence_events}
use Rattle.pb_rows.specs.Recaps.{told, tells}
use Rattle.pb_rows.specs.Small.{ping, command, asking, handler_of, play, one_host, two_hosts, well, badly, pinged}

-- ATTEMPTS: at most two of the first task's command

abbrev asked : PlayData
asked = play (task_step (asking 2) (task_step (ping 3) no_steps))

abbrev asks : Book
asks = asked ∷ []

abbrev done : Recap
done = record empty_recap { ok = 1; changed = 1 }

abbrev failed : Recap
failed = record empty_recap { failed = 1 }

given_before_its_start : told builtins one_host asks 1 (give 0 (well ∷ []) ∷ []) ≡ tells [] 0 (false ∷ []) (empty_recap ∷ [])
given_before_its_start = refl

turned_before_any_start : told builtins one_host asks 1 (turn ∷ []) ≡ tells [] 0 (false ∷ []) (empty_recap ∷ [])
turned_before_any_start = refl

started_twice : told builtins one_host asks 1 (start 0 ∷ start 0 ∷ []) ≡ tells (start 0 ∷ []) 1 (true ∷ []) (empty_recap ∷ [])
started_twice = refl

nobody_there : told builtins one_host asks 1 (start 1 ∷ start 0 ∷ give 1 (well ∷ []) ∷ []) ≡ tells (start 0 ∷ []) 1 (true ∷ []) (empty_recap ∷ [])
nobody_there = refl

-- the same call again: nothing is counted, and the job stays out
asked_again : told builtins one_host asks 1 (start 0 ∷ give 0 (badly ∷ []) ∷ []) ≡ tells (start 0 ∷ give 0 (badly ∷ []) ∷ []) 2 (true ∷ []) (empty_recap ∷ [])
asked_again = refl

abbrev between : List Event
between = start 0 ∷ give 0 (badly ∷ []) ∷ []

started_between : told builtins one_host asks 1 (between ++ start 0 ∷ []) ≡ tells between 2 (true ∷ []) (empty_recap ∷ [])
started_between = refl

turned_between : told builtins one_host asks 1 (between ++ turn ∷ []) ≡ tells between 2 (true ∷ []) (empty_recap ∷ [])
turned_between = refl

stopped_between : told builtins one_host asks 1 (between ++ stop ∷ give 0 (well ∷ []) ∷ turn ∷ stop ∷ []) ≡ tells (between ++ stop ∷ []) 2 (true ∷ []) (empty_recap ∷ [])
stopped_between = refl

held_at_once : told builtins one_host asks 1 (start 0 ∷ give 0 (well ∷ []) ∷ give 0 (well ∷ []) ∷ []) ≡ tells (start 0 ∷ give 0 (well ∷ []) ∷ []) 1 (false ∷ []) (done ∷ [])
held_at_once = refl

held_at_last : told builtins one_host asks 1 (between ++ give 0 (well ∷ []) ∷ give 0 (well ∷ []) ∷ []) ≡ tells (between ++ give 0 (well ∷ []) ∷ []) 2 (false ∷ []) (done ∷ [])
held_at_last = refl

-- so many attempts and no more; then the host has left, and the batch can only turn
never_held : told builtins one_host asks 1 (between ++ give 0 (badly ∷ []) ∷ give 0 (well ∷ []) ∷ start 0 ∷ turn ∷ turn ∷ [])
    ≡ tells (between ++ give 0 (badly ∷ []) ∷ turn ∷ []) 2 (false ∷ []) (failed ∷ [])
never_held = refl

too_few_at_first : told builtins one_host asks 1 (start 0 ∷ give 0 [] ∷ give 0 (well ∷ []) ∷ []) ≡ tells (start 0 ∷ give 0 [] ∷ []) 1 (false ∷ []) (failed ∷ [])
too_few_at_first = refl

too_few_at_last : told builtins one_host asks 1 (between ++ give 0 [] ∷ start 0 ∷ []) ≡ tells (between ++ give 0 [] ∷ []) 2 (false ∷ []) (failed ∷ [])
too_few_at_last = refl

-- what is past the calls is never looked at, and is no answer of the next attempt
too_many_at_first : told builtins one_host asks 1 (start 0 ∷ give 0 (badly ∷ well ∷ []) ∷ []) ≡ tells (start 0 ∷ give 0 (badly ∷ well ∷ []) ∷ []) 2 (true ∷ []) (empty_recap ∷ [])
too_many_at_first = refl

too_many_at_last : told builtins one_host asks 1 (between ++ give 0 (well ∷ unreachable ∷ []) ∷ []) ≡ tells (between ++ give 0 (well ∷ unreachable ∷ []) ∷ []) 2 (false ∷ []) (done ∷ [])
too_many_at_last = refl

lost_between : told builtins one_host asks 1 (between ++ give 0 (unreachable ∷ []) ∷ give 0 (well ∷ []) ∷ start 0 ∷ [])
    ≡ tells (between ++ give 0 (unreachable ∷ []) ∷ []) 2 (false ∷ []) (record empty_recap { unreachable = 1 } ∷ [])
lost_between = refl

-- a skipped task makes no call, so nothing is asked
abbrev skips : Book
skips = play (task_step (record (asking 2) { condition = expression (literal (boolean false)) no_expressions }) no_steps) ∷ []

skipped_at_once : told builtins one_host skips 1 (start 0 ∷ give 0 (badly ∷ []) ∷ give 0 (badly ∷ []) ∷ []) ≡ tells (start 0 ∷ give 0 (badly ∷ []) ∷ []) 0 (false ∷ []) (record empty_recap { skipped = 1 } ∷ [])
skipped_at_once = refl

abbrev both_out : List Event
both_out = start 0 ∷ start 1 ∷ give 0 (badly ∷ []) ∷ give 1 (well ∷ []) ∷ []

-- under `linear` the others wait for every attempt
others_wait : told builtins two_hosts asks 2 (both_out ++ start 1 ∷ []) ≡ tells both_out 3 (true ∷ false ∷ []) (empty_recap ∷ done ∷ [])
others_wait = refl

others_go_on : told builtins two_hosts asks 2 (both_out ++ give 0 (well ∷ []) ∷ start 1 ∷ []) ≡ tells (both_out ++ give 0 (well ∷ []) ∷ start 1 ∷ []) 4 (false ∷ true ∷ []) (done ∷ done ∷ [])
others_go_on = refl

others_run_ahead : told builtins two_hosts (record asked { is_linear = false } ∷ []) 2 (both_out ++ start 1 ∷ []) ≡ tells (both_out ++ start 1 ∷ []) 4 (true ∷ true ∷ []) (empty_recap ∷ done ∷ [])
others_run_ahead = refl

-- the next attempt keeps its fork
keeps_its_fork : told builtins two_hosts asks 1 (between ++ start 1 ∷ []) ≡ tells between 2 (true ∷ false ∷ []) (empty_recap ∷ empty_recap ∷ [])
keeps_its_fork = refl

-- at most one Start and two Gives, then one of each
all_events : occurrence_events (all_batches (program_of builtins one_host asks)) ≡ 5
all_events = refl

-- FORCED FLUSHES: the first task notifies, the second fails

abbrev notifying : TaskData
notifying = record (command 2) { notify = codes "r" ∷ [] }

abbrev forcing : TaskData → PlayData
forcing t = record (play (task_step notifying (task_step (command 3) (task_step (ping 4) no_steps))))
    { handlers = handler_of (codes "r") t ∷ []; forces = true }

abbrev forces : Book
forces = forcing (ping 5) ∷ []

abbrev has_failed : List Event
has_failed = start 0 ∷ give 0 (well ∷ []) ∷ start 0 ∷ give 0 (badly ∷ []) ∷ []

abbrev one_failed : Recap
one_failed = record done { failed = 1 }

-- its handler is still to run
turned_before_the_flush : told builtins one_host forces 1 (has_failed ++ turn ∷ []) ≡ tells has_failed 2 (false ∷ []) (one_failed ∷ [])
turned_before_the_flush = refl

given_before_the_flush : told builtins one_host forces 1 (has_failed ++ give 0 (pinged ∷ []) ∷ []) ≡ tells has_failed 2 (false ∷ []) (one_failed ∷ [])
given_before_the_flush = refl

abbrev in_flush : List Event
in_flush = has_failed ++ start 0 ∷ []

turned_in_the_flush : told builtins one_host forces 1 (in_flush ++ start 0 ∷ turn ∷ []) ≡ tells in_flush 3 (true ∷ []) (one_failed ∷ [])
turned_in_the_flush = refl

stopped_in_the_flush : told builtins one_host forces 1 (in_flush ++ stop ∷ give 0 (pinged ∷ []) ∷ start 0 ∷ turn ∷ []) ≡ tells (in_flush ++ stop ∷ []) 3 (true ∷ []) (one_failed ∷ [])
stopped_in_the_flush = refl

-- then it leaves, and nothing between is made good
left_after_the_flush : told builtins one_host forces 1 (in_flush ++ give 0 (pinged ∷ []) ∷ give 0 (pinged ∷ []) ∷ start 0 ∷ turn ∷ turn ∷ [])
    ≡ tells (in_flush ++ give 0 (pinged ∷ []) ∷ turn ∷ []) 3 (false ∷ []) (record one_failed { ok = 2 } ∷ [])
left_after_the_flush = refl

too_few_in_the_flush : told builtins one_host forces 1 (in_flush ++ give 0 [] ∷ start 0 ∷ []) ≡ tells (in_flush ++ give 0 [] ∷ []) 3 (false ∷ []) (record one_failed { failed = 2 } ∷ [])
too_few_in_the_flush = refl

too_many_in_the_flush : told builtins one_host forces 1 (in_flush ++ give 0 (pinged ∷ badly ∷ []) ∷ []) ≡ tells (in_flush ++ give 0 (pinged ∷ badly ∷ []) ∷ []) 3 (false ∷ []) (record one_failed { ok = 2 } ∷ [])
too_many_in_the_flush = refl

lost_in_the_flush : told builtins one_host forces 1 (in_flush ++ give 0 (unreachable ∷ []) ∷ start 0 ∷ []) ≡ tells (in_flush ++ give 0 (unreachable ∷ []) ∷ []) 3 (false ∷ []) (record one_failed { unreachable = 1 } ∷ [])
lost_in_the_flush = refl

-- nobody was notified
left_at_once : told builtins one_host forces 1 (start 0 ∷ give 0 (badly ∷ []) ∷ start 0 ∷ turn ∷ []) ≡ tells (start 0 ∷ give 0 (badly ∷ []) ∷ turn ∷ []) 1 (false ∷ []) (failed ∷ [])
left_at_once = refl

-- the flush of the one waits for the other's tasks, and the other for the flush
abbrev one_of_two_failed : List Event
one_of_two_failed = start 0 ∷ start 1 ∷ give 0 (well ∷ []) ∷ give 1 (well ∷ []) ∷ start 0 ∷ start 1 ∷ give 0 (badly ∷ []) ∷ []

flush_waits : told builtins two_hosts forces 2 (one_of_two_failed ++ start 0 ∷ give 1 (well ∷ []) ∷ start 0 ∷ []) ≡ tells (one_of_two_failed ++ give 1 (well ∷ []) ∷ []) 4 (false ∷ false ∷ []) (one_failed ∷ record done { ok = 2; changed = 2 } ∷ [])
flush_waits = refl

abbrev other_at_the_flush : List Event
other_at_the_flush = one_of_two_failed ++ give 1 (well ∷ []) ∷ start 1 ∷ give 1 (pinged ∷ []) ∷ []

flush_waits_no_more : told builtins two_hosts forces 2 (other_at_the_flush ++ start 1 ∷ start 0 ∷ turn ∷ [])
    ≡ tells (other_at_the_flush ++ start 1 ∷ start 0 ∷ []) 7 (true ∷ true ∷ []) (one_failed ∷ record done { ok = 3; changed = 2 } ∷ [])
flush_waits_no_more = refl

-- ATTEMPTS IN A FORCED FLUSH

abbrev forces_asking : Book
forces_asking = forcing (asking 5) ∷ []

abbrev flush_asks : List Event
flush_asks = in_flush ++ give 0 (badly ∷ []) ∷ []

asked_in_the_flush : told builtins one_host forces_asking 1 (flush_asks ++ start 0 ∷ turn ∷ []) ≡ tells flush_asks 4 (true ∷ []) (one_failed ∷ [])
asked_in_the_flush = refl

held_in_the_flush : told builtins one_host forces_asking 1 (flush_asks ++ give 0 (well ∷ []) ∷ start 0 ∷ turn ∷ []) ≡ tells (flush_asks ++ give 0 (well ∷ []) ∷ turn ∷ []) 4 (false ∷ []) (record one_failed { ok = 2; changed = 2 } ∷ [])
held_in_the_flush = refl

never_held_in_the_flush : told builtins one_host forces_asking 1 (flush_asks ++ give 0 (badly ∷ []) ∷ give 0 (well ∷ []) ∷ start 0 ∷ turn ∷ [])
    ≡ tells (flush_asks ++ give 0 (badly ∷ []) ∷ turn ∷ []) 4 (false ∷ []) (record one_failed { failed = 2 } ∷ [])
never_held_in_the_flush = refl

too_few_asked_in_the_flush : told builtins one_host forces_asking 1 (flush_asks ++ give 0 [] ∷ give 0 (well ∷ []) ∷ []) ≡ tells (flush_asks ++ give 0 [] ∷ []) 4 (false ∷ []) (record one_failed { failed = 2 } ∷ [])
too_few_asked_in_the_flush = refl

stopped_asked_in_the_flush : told builtins one_host forces_asking 1 (flush_asks ++ stop ∷ give 0 (well ∷ []) ∷ stop ∷ turn ∷ []) ≡ tells (flush_asks ++ stop ∷ []) 4 (true ∷ []) (one_failed ∷ [])
stopped_asked_in_the_flush = refl
