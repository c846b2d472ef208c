-- Laws of a run that goes on by one event, over the machine on flat plans (this project's own).
use Rattle.std.specs.Prelude.{◌≡◌, ◌<◌, ℕ, List, ◌&&◌, not, false, true, Some, option_map}
use Rattle.pb_language.specs.Give.{Answer, Own, admitted, Ended, results_are, end_all, asks_again}
use Rattle.pb_language.specs.Give.{any_changed, any_failed, last_attempts}
use Rattle.pb_language.specs.Notify.{handlers_are}
use Rattle.pb_language.specs.Start.{Pass, planned, plan_of}
use Rattle.pb_language.specs.Machine.{notified_by, start, give, turn}
use Rattle.pb_machine.specs.Run as flat
use Rattle.pb_machine.specs.Run.{FlatState, world_of}
use Rattle.pb_machine.specs.Simulation.{state_of}
use Rattle.pb_history.specs.Happens.{MayStart, task_of_start, Works, answered, step_in, turned}
use Rattle.pb_history.specs.Turns as tree

-- the host that starts next stands before a task, and its Start may happen
abbrev pub NextMayStart : Type 0
NextMayStart = (s : FlatState) (k : ℕ)
    → option_map (λ x. x.number) (flat.next_start s) ≡ Some k → MayStart s k

-- where a Start isn't stuck, the task comes to passes
abbrev pub StartsArePlanned : Type 0
StartsArePlanned = (s : FlatState) (k : ℕ) (m : MayStart s k)
    → (flat.step s (start k)).is_stuck ≡ false → (ps : List Pass)
    × (plan_of (world_of s m.batch m.host (task_of_start m)) (task_of_start m)
    (task_of_start m).loop ≡ planned ps)

-- where a Give isn't stuck, what is admitted comes to results
abbrev pub GivesComeTo : Type 0
GivesComeTo = (s : FlatState) (k : ℕ) (w : Works s k) (xs : List Answer) (os : List Own)
    → (flat.step s (give k xs)).is_stuck ≡ false → answered w xs ≡ admitted os → (es : List Ended)
    × (end_all (world_of s w.batch w.host (step_in w).task) (step_in w).task os ≡ results_are es)

-- and those that end the task notify handlers
abbrev pub GivesNotify : Type 0
GivesNotify = (s : FlatState) (k : ℕ) (w : Works s k) (xs : List Answer) (os : List Own)
    (es : List Ended) → (flat.step s (give k xs)).is_stuck ≡ false → answered w xs ≡ admitted os
    → end_all (world_of s w.batch w.host (step_in w).task) (step_in w).task os ≡ results_are es
    → asks_again (step_in w).task w.attempts es ≡ false → (ms : List ℕ)
    × (notified_by w.batch.play (step_in w).task
    (any_changed (last_attempts es) && not (any_failed (last_attempts es))) ≡ handlers_are ms)

-- the Turns of which each is enabled, and behind which none is, are those that are due
abbrev pub TurnsAreDue : Type 0
TurnsAreDue = (s : FlatState) (n : ℕ) → ((i : ℕ) → i < n → flat.enabled (turned i s) turn ≡ true)
    → flat.enabled (turned n s) turn ≡ false
    → (tree.turned (state_of s) ≡ state_of (turned n s)) × (tree.turns_due (state_of s) ≡ n)
