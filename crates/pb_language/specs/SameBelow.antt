-- Scopes and environments that are below each other: what is asked of them has the same answer
-- (this project's own).
use Rattle.std.specs.Prelude.{◌≡◌, true}
use Rattle.pb_semantics.specs.Kind.{KindData, Slots, recs}
use Rattle.pb_semantics.specs.Below.{below}
use Rattle.pb_semantics.specs.Well.{Well}
use Rattle.pb_language.specs.Expression.{Expression}
use Rattle.pb_language.specs.Scope.{Scope}
use Rattle.pb_language.specs.Fit.{fault}
use Rattle.pb_language.specs.Knows.{WellScope}
use Rattle.pb_language.specs.Task.{Task}
use Rattle.pb_language.specs.Setting.{Setting}
use Rattle.pb_language.specs.Judgement.{task_fault, loop_length}
use Rattle.pb_language.specs.Cases.{Sets}
use Rattle.pb_language.specs.Tables.{with_writes, writes_below}
use Rattle.pb_language.specs.Wells.{WellSets, WellViews}
use Rattle.pb_language.specs.Ordered.{SlotsLe, ScopeLe, SettingLe, SetsLe}

abbrev pub SameKind : KindData → KindData → Type 0
SameKind k m = (below k m ≡ true) × (below m k ≡ true)

abbrev pub SameScope : Scope → Scope → Type 0
SameScope c d = ScopeLe c d × ScopeLe d c

-- an expression has the same fault in scopes that are below each other
abbrev pub SameFaults : Type 0
SameFaults = (c d : Scope) (e : Expression) → WellScope c → WellScope d → SameScope c d
    → fault c e ≡ fault d e

-- and a task in environments that are, under views that are
abbrev pub SameTaskFaults : Type 0
SameTaskFaults = (st su : Setting) (t : Task) (ss ts : Slots) → WellViews st.views
    → WellViews su.views → Well (recs ss) → Well (recs ts) → SettingLe st su × SettingLe su st
    → SlotsLe ss ts × SlotsLe ts ss → (task_fault st t ss ≡ task_fault su t ts)
    × (loop_length st t ss t.loop ≡ loop_length su t ts t.loop)

-- what a view becomes by writes goes up with the view and with what is written
abbrev pub WritesGoUp : Type 0
WritesGoUp = (r s : Sets) (ss ts : Slots) → WellSets r → WellSets s → Well (recs ss)
    → Well (recs ts) → SetsLe r s → SlotsLe ss ts → SlotsLe (with_writes r ss) (with_writes s ts)

-- and whether writes are below a view is the same both ways
abbrev pub SameWritesBelow : Type 0
SameWritesBelow = (r s : Sets) (ss ts : Slots) → WellSets r → WellSets s → SetsLe r s × SetsLe s r
    → SlotsLe ss ts × SlotsLe ts ss → writes_below r ss ≡ writes_below s ts
