-- What the task of a host at work writes (this project's own).
use Rattle.std.specs.Prelude.{◌≡◌, ℕ, List, true}
use Rattle.pb_semantics.specs.Data.{no_fields}
use Rattle.pb_semantics.specs.Keeps.{is_among}
use Rattle.pb_language.specs.Expression.{Name}
use Rattle.pb_language.specs.Give.{Answer, Ended, last_attempts, written_variables}
use Rattle.pb_language.specs.Machine.{Event}
use Rattle.pb_language.specs.Program.{Inventory, Program}
use Rattle.pb_language.specs.TaskForm.{keys_of}
use Rattle.pb_machine.specs.Run as flat
use Rattle.pb_history.specs.Happens.{Comes, Works, step_in}
use Rattle.pb_reads.specs.Uses.{written_by}

-- whatever has happened, where answers of a job come to results the task writes no variable that it
-- doesn't register or set
abbrev pub WritesItsOwn : Type 0
WritesItsOwn = (program : Program) (inventory : Inventory) (forks : ℕ) (es : List Event) (k : ℕ)
    (w : Works (flat.run program inventory forks es) k) (xs : List Answer) (results : List Ended)
    → Comes w xs results → (n : Name) → (let t = (step_in w).task in
    is_among n (keys_of (written_variables t (last_attempts results) no_fields)) ≡ true
    → is_among n (written_by t) ≡ true)
