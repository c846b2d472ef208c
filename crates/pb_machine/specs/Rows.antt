-- Plans, arrivals and runs that are computed (this project's own).
use Rattle.std.specs.Prelude.{◌≡◌, ℕ, zero, suc, List, [], ◌∷◌, map, true, false, Some, codes}
use Rattle.pb_semantics.specs.Data.{boolean, text, no_fields}
use Rattle.pb_language.specs.Expression.{Name, literal, no_expressions, expression}
use Rattle.pb_language.specs.Task.{Task, Handlers, no_handlers, handler, Row, end, task, flush}
use Rattle.pb_language.specs.Task.{section, block, failure_of}
use Rattle.pb_language.specs.Program.{Inventory, Program}
use Rattle.pb_language.specs.Machine.{Event, start, give, empty_recap}
use Rattle.pb_machine.specs.Steps.{rescuing, holding, releasing, Target, leaving, to_node, moving}
use Rattle.pb_machine.specs.Steps.{play_steps}
use Rattle.pb_machine.specs.Hosts.{at_end, left_play, at, stands, FlatHost, arrived}
use Rattle.pb_machine.specs.Ways.{no_task}
use Rattle.pb_machine.specs.Run.{run}

-- tasks without calls: one that is done, one that fails with that text, and one that notifies
abbrev pub does : ℕ → Task
does n = record no_task { line = n; place = n }

abbrev pub fails : ℕ → List ℕ → Task
fails n s = record (does n) { action = failure_of (Some (literal (text s))) }

abbrev pub notifies : ℕ → List Name → Task
notifies n xs = record (does n) {
  changed_when = Some (expression (literal (boolean true)) no_expressions);
  notifies = xs;
}

abbrev pub two_handlers : Handlers
two_handlers = handler 0 (does 8) (handler 1 (does 9) no_handlers)

-- where the nodes of a play lead, in their order
abbrev pub ok_targets : Row → List Target
ok_targets row = map (λ s. s.ok) (play_steps row)

abbrev pub failed_targets : Row → List Target
failed_targets row = map (λ s. s.failed) (play_steps row)

-- A block in the body of a block with a rescue, each with an always. Its nodes: 1 the first task; 2
-- the body of the inner block, 3 and 4 its always; 5 the rescue; 6 and 7 the outer always.
abbrev pub nested : Row
nested = block 0
    (task (does 1) (block 0 (task (does 2) end) false end (task (does 3) end) end))
    true (task (does 4) end) (task (does 5) end) end

-- a failure in node 2 is held by node 4, and then enters the rescue; one in the rescue, by node 7
abbrev pub NestedTargets : Type 0
NestedTargets = (ok_targets nested
    ≡ to_node 2
    ∷ to_node 3
    ∷ to_node 6
    ∷ moving (releasing 0) (moving (rescuing 0) (to_node 5))
    ∷ to_node 6
    ∷ to_node 8
    ∷ moving (releasing 0) leaving
    ∷ [])
    × (failed_targets nested
    ≡ moving (rescuing 0) (to_node 5)
    ∷ moving (holding 0) (to_node 4)
    ∷ moving (rescuing 0) (to_node 5)
    ∷ moving (rescuing 0) (to_node 5)
    ∷ moving (holding 0) (to_node 7)
    ∷ leaving
    ∷ leaving
    ∷ [])

-- A block with an always in the always of a block. Its nodes: 1 the outer body; 2 the inner body, 3
-- and 4 the inner always; and the same after a failure of node 1: 5, and 6 and 7.
abbrev pub always_in_always : Row
always_in_always = block 0 (task (does 1) end) false end
    (block 0 (task (does 2) end) false end (task (does 3) end) end) end

-- after node 6 the failure of node 1 goes outwards, after node 7 that of node 5
abbrev pub AlwaysTargets : Type 0
AlwaysTargets = (ok_targets always_in_always
    ≡ to_node 2
    ∷ to_node 3
    ∷ to_node 8
    ∷ moving (releasing 0) leaving
    ∷ to_node 6
    ∷ moving (releasing 0) leaving
    ∷ moving (releasing 1) leaving
    ∷ [])
    × (failed_targets always_in_always
    ≡ moving (holding 0) (to_node 5)
    ∷ moving (holding 0) (to_node 4)
    ∷ leaving
    ∷ leaving
    ∷ moving (holding 1) (to_node 7)
    ∷ leaving
    ∷ leaving
    ∷ [])

-- A section of two tasks that forces two handlers, and a task behind it. Its nodes: 1 and 2 the
-- tasks, 3 and 4 the handlers, 5 and 6 the handlers after a failure, 7 the last task.
abbrev pub forced : Row
forced = section
    (task (notifies 1 (codes "x" ∷ codes "y" ∷ [])) (task (fails 2 (codes "no")) end))
    two_handlers (task (does 3) end)

-- after the handlers that a failure forced the host leaves
abbrev pub ForcedTargets : Type 0
ForcedTargets = (ok_targets forced
    ≡ to_node 2
    ∷ to_node 3
    ∷ to_node 4
    ∷ to_node 7
    ∷ to_node 6
    ∷ leaving
    ∷ to_node 8
    ∷ [])
    × (failed_targets forced
    ≡ to_node 5
    ∷ to_node 5
    ∷ leaving
    ∷ leaving
    ∷ leaving
    ∷ leaving
    ∷ leaving
    ∷ [])

-- a host on no node, with those handlers marked
abbrev pub marked : List ℕ → FlatHost
marked ms = record {
  name = codes "a";
  variables = no_fields;
  marks = ms;
  failure = [];
  rescues = [];
  holds = [];
  stage = stands (at 0);
  recap = empty_recap;
}

-- a task, a flush of two handlers, nodes 2 and 3, and a task; and a flush at a play's end
abbrev pub flushed : Row
flushed = task (does 1) (flush two_handlers (task (does 2) end))

abbrev pub flushed_last : Row
flushed_last = task (does 1) (flush two_handlers end)

abbrev pub at_flush : Row → ℕ → List ℕ → FlatHost
at_flush row n ms = arrived (play_steps row) (to_node n) (marked ms)

-- a handler that isn't marked is passed over, also the last of a play and of a forced flush; the
-- others begin in their order, each without its mark
abbrev pub FlushesPass : Type 0
FlushesPass = (at_flush flushed 2 [] ≡ record (marked []) { stage = stands (at 4) })
    × (at_flush flushed_last 2 [] ≡ record (marked []) { stage = stands at_end })
    × (at_flush forced 5 [] ≡ record (marked []) { stage = stands left_play })
    × (at_flush flushed 2 (1 ∷ []) ≡ record (marked []) { stage = stands (at 3) })
    × (at_flush flushed 2 (1 ∷ 0 ∷ []) ≡ record (marked (1 ∷ [])) { stage = stands (at 2) })

abbrev pub one_host : Inventory
one_host = record {
  hosts = record { name = codes "a"; variables = no_fields } ∷ [];
  groups = [];
}

-- the program of one play with that row, in which the handlers are named
abbrev pub program : Row → Program
program row = record {
  line = 1;
  row = row;
  hosts = codes "a" ∷ [];
  is_linear = true;
  handlers = record { name = Some (codes "y"); topics = [] }
      ∷ record { name = Some (codes "x"); topics = [] } ∷ [];
  batches = (codes "a" ∷ []) ∷ [];
} ∷ []

abbrev pub jobs : ℕ → List Event
jobs zero = []
jobs (suc n) = start 0 ∷ give 0 [] ∷ jobs n

abbrev pub first_of : List FlatHost → FlatHost
first_of [] = marked []
first_of (h ∷ hs) = h

-- the host after the first jobs of that play
abbrev pub after_jobs : ℕ → Row → FlatHost
after_jobs n row = first_of (run (program row) one_host 1 (jobs n)).hosts

-- the second task fails: both handlers that the first one notified run, and then the host leaves
abbrev pub ForcedRun : Type 0
ForcedRun = ((after_jobs 0 forced).stage ≡ stands (at 1))
    × ((after_jobs 1 forced).stage ≡ stands (at 2))
    × ((after_jobs 2 forced).stage ≡ stands (at 5))
    × ((after_jobs 3 forced).stage ≡ stands (at 6))
    × (after_jobs 4 forced ≡ record (marked []) {
      failure = codes "no";
      stage = stands left_play;
      recap = record empty_recap { ok = 3; changed = 1; failed = 1 };
    })

-- two blocks with rescues, one after the other: nodes 1 and 2, and 3 and 4
abbrev pub twice_rescued : Row
twice_rescued = block 0 (task (fails 1 (codes "first")) end) true (task (does 2) end) end
    (block 0 (task (fails 3 (codes "second")) end) true (task (does 4) end) end end)

-- a block with a rescue in the rescue of a block: node 1, and in the rescue 2, 3, and 4 behind it
abbrev pub rescue_in_rescue : Row
rescue_in_rescue = block 0 (task (fails 1 (codes "outer")) end) true
    (block 1 (task (fails 2 (codes "inner")) end) true (task (does 3) end) end
    (task (does 4) end)) end end

-- a rescue gets its failure's text, and keeps it while another runs inside it
abbrev pub RescuesGetTexts : Type 0
RescuesGetTexts = ((after_jobs 1 twice_rescued).rescues ≡ codes "first" ∷ [])
    × ((after_jobs 3 twice_rescued).stage ≡ stands (at 4))
    × ((after_jobs 3 twice_rescued).rescues ≡ codes "second" ∷ [])
    × ((after_jobs 2 rescue_in_rescue).stage ≡ stands (at 3))
    × ((after_jobs 2 rescue_in_rescue).rescues ≡ codes "inner" ∷ codes "outer" ∷ [])

-- a block whose body fails, with that always, in the body of a block with a rescue
abbrev pub always_before_rescue : Row → Row
always_before_rescue always =
    block 0 (block 0 (task (fails 1 (codes "body")) end) false end always end) true
    (task (does 9) end) end end

-- an always that fails, as nodes 2 and 3; and one in which a failure is rescued, as 2, 3 and 4, 5
abbrev pub failing_always : Row
failing_always = task (fails 2 (codes "always")) end

abbrev pub rescuing_always : Row
rescuing_always = block 0 (task (fails 2 (codes "inside")) end) true (task (does 3) end) end end

-- the outer rescue gets the text of the always where that fails too, and else that of the body
abbrev pub OuterRescuesGetTexts : Type 0
OuterRescuesGetTexts = ((after_jobs 1 (always_before_rescue failing_always)).stage ≡ stands (at 3))
    × ((after_jobs 2 (always_before_rescue failing_always)).stage ≡ stands (at 4))
    × ((after_jobs 2 (always_before_rescue failing_always)).rescues ≡ codes "always" ∷ [])
    × ((after_jobs 2 (always_before_rescue rescuing_always)).rescues ≡ codes "inside" ∷ [])
    × ((after_jobs 3 (always_before_rescue rescuing_always)).stage ≡ stands (at 6))
    × ((after_jobs 3 (always_before_rescue rescuing_always)).rescues ≡ codes "body" ∷ [])
