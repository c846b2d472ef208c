-- What the plays of a book use.
use Rattle.std.specs.Prelude.{◌⊎◌, List, [], ◌∷◌, Vec, map}
use Rattle.std.specs.declared.alloc.Global.{Global}
use Rattle.pb_language.specs.Book.{PlayData, Registry}
use Rattle.pb_language.specs.Expression.{Name}
use Rattle.pb_language.specs.Plays.{names_of_handlers, play_row}
use Rattle.pb_language.specs.Task.{Task}
use Rattle.pb_machine.specs.Steps.{play_steps}
use Rattle.pb_start.specs.declared.prepared.Prepared.{Prepared}
use Rattle.pb_steps.specs.Tasks.{ArePrepared}
use Rattle.pb_steps.specs.Uses.{AreUsed, SomeUses}
use Rattle.pb_steps.specs.declared.step.PlaySteps.{PlaySteps}

-- the tasks of a play's plan
abbrev pub plan_tasks : Registry → PlayData → List Task
plan_tasks ms p = map (λ s. s.task) (play_steps (play_row ms p))

-- each step of each play knows what its task uses
abbrev pub AllUsed : Registry → List Name → List PlaySteps → List PlayData → Type 0
AllUsed ms names [] [] = Unit {0}
AllUsed ms names (s ∷ ss) (p ∷ ps) =
    AreUsed names (names_of_handlers p.handlers) s.steps.items (plan_tasks ms p)
    × AllUsed ms names ss ps
AllUsed ms names ss ps = ⊥

-- each step of each play has its task as it runs
abbrev pub AllPrepared : Registry → List (Vec Prepared Global) → List PlayData → Type 0
AllPrepared ms [] [] = Unit {0}
AllPrepared ms (ts ∷ tss) (p ∷ ps) = ArePrepared ts.items (plan_tasks ms p) × AllPrepared ms tss ps
AllPrepared ms tss ps = ⊥

-- some task of some play reads, registers or sets the variable
abbrev pub SomePlayUses : Registry → List PlayData → Name → Type 0
SomePlayUses ms [] n = ⊥
SomePlayUses ms (p ∷ ps) n = SomeUses (plan_tasks ms p) n ⊎ SomePlayUses ms ps n
