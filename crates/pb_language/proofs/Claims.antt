-- What is claimed of a task at its Start and at its Give.
use Rattle.std.proofs.Common.{◌≡◌, ◌≤◌, ◌&&◌, ℕ, List, [], ◌∷◌, true, false, not, Option, Some, None, length, is_some, arith}
use Rattle.pb_semantics.specs.Data.{Data, Fields, field_value}
use Rattle.pb_semantics.specs.Kind.{Slots, recs}
use Rattle.pb_semantics.specs.Keeps.{keeps, cases_kept, is_among, Models}
use Rattle.pb_semantics.specs.Well.{Well}
use Rattle.pb_language.specs.Expression.{Name, Expression}
use Rattle.pb_language.specs.World.{World, variables_of}
use Rattle.pb_language.specs.Scope.{Later, view_of, later_of, is_later}
use Rattle.pb_language.specs.Kinds.{kind_of}
use Rattle.pb_language.specs.Task.{Action, call_of, debug, set_fact, assertion, failure_of, Task}
use Rattle.pb_language.specs.Cases.{Sets, no_sets, sets, answered_cases, is_conditional, failing_cases, item_kind}
use Rattle.pb_language.specs.Setting.{Setting, start_scope, named_slots}
use Rattle.pb_language.specs.Judgement.{task_fault, has_case, has_going, going_slots, failing_slots, task_writes, task_sets, loop_length}
use Rattle.pb_language.specs.Start.{Changes, no_changes, change, Entry, skips, calls, acts, Pass, Plan, planned, halted, plan_of, call_count}
use Rattle.pb_language.specs.Give.{last_attempts, Answer, Admitted, admitted, breached, unreached, admit_passes, Ended, Results, results_are, no_results, acted, end_all, any_failed, written_variables}
use Rattle.pb_language.specs.Tables.{writes_below}
use Rattle.pb_language.specs.Wells.{WellSets}

-- what a world has of a host's setting: each host's variables keep the views, and active hosts have what they have at their later places
pub record Around (w : World) (st : Setting) (laters : List Later) (place : ℕ) : Type 0 where
  pub this : w.this ≡ st.this
  pub groups : w.groups ≡ st.groups
  pub wells : (g : Name) → Well (recs (view_of g st.views))
  pub views : (g : Name) → Models (variables_of g w.hosts) (view_of g st.views)
  pub later : (g : Name) → is_among g w.batch ≡ true → (x : Name) → is_later (later_of g laters) place x ≡ true → is_some (field_value x (variables_of g w.hosts)) ≡ true

-- the changes are those of the sets, one after the other: a value keeps its kind, and a name without a value is not certain
abbrev pub Follows : Changes → Sets → Type 0
Follows no_changes no_sets = Unit {0}
Follows no_changes (sets n a k r) = false ≡ true
Follows (change n o c) no_sets = false ≡ true
Follows (change n None c) (sets m a k r) = (n ≡ m) × (a ≡ false) × Follows c r
Follows (change n (Some d) c) (sets m a k r) = (n ≡ m) × (keeps d k ≡ true) × Follows c r

-- a task without calls
abbrev pub action_calls : Action → ℕ → ℕ
action_calls (call_of m ps) n = n
action_calls (debug e) n = 0
action_calls (set_fact ps) n = 0
action_calls (assertion es o) n = 0
action_calls (failure_of o) n = 0

pub more_calls : (a : Action) (n m : ℕ) → n ≤ m → action_calls a n ≤ action_calls a m
more_calls (call_of p ps) n m h = h
more_calls (debug e) n m h = omega arith
more_calls (set_fact ps) n m h = omega arith
more_calls (assertion es o) n m h = omega arith
more_calls (failure_of o) n m h = omega arith

abbrev pub IsCall : Action → Type 0
IsCall (call_of m ps) = Unit {0}
IsCall a = false ≡ true

module _ (st : Setting) (t : Task) (env : Slots) where
  -- an item of the loop, or none without one
  abbrev pub ItemFine : Option Expression → Option Data → Type 0
  ItemFine None None = Unit {0}
  ItemFine None (Some d) = false ≡ true
  ItemFine (Some e) None = false ≡ true
  ItemFine (Some e) (Some d) = keeps d (item_kind (kind_of (start_scope st t env) e)) ≡ true

  -- a skip is under a condition; an action's result is one of its cases, and it sets what it says, or nothing where it sets nothing
  abbrev pub EntryFine : Entry → Type 0
  EntryFine skips = is_conditional t.conditions ≡ true
  EntryFine (calls d) = IsCall t.action
  EntryFine (acts sh fs c) = (cases_kept (acted None sh fs c).fields (answered_cases t.action) ≡ true) × Follows c (task_sets st t env)

  pub record PassFine (p : Pass) : Type 0 where
    pub item : ItemFine t.loop p.item
    pub entry : EntryFine p.entry

  abbrev pub AllPasses : List Pass → Type 0
  AllPasses [] = Unit {0}
  AllPasses (p ∷ ps) = PassFine p × AllPasses ps

  abbrev pub Single : Option Expression → List Pass → Type 0
  Single None [] = false ≡ true
  Single None (p ∷ []) = Unit {0}
  Single None (p ∷ q ∷ ps) = false ≡ true
  Single (Some e) ps = Unit {0}

  pub record PassesFine (ps : List Pass) : Type 0 where
    pub each : AllPasses ps
    -- without a loop there is one
    pub single : Single t.loop ps
    pub few : length ps ≤ loop_length st t env t.loop
    pub calls : call_count ps ≤ action_calls t.action (loop_length st t env t.loop)

  abbrev pub PlanFine : Plan → Type 0
  PlanFine (planned ps) = PassesFine ps
  PlanFine (halted s) = false ≡ true

  -- what is known of the variables that a task leaves, where it goes on and where it fails, and of the views
  pub record Written (es : List Ended) (vars : Fields) : Type 0 where
    pub going : any_failed es && not t.ignores ≡ false → Models (written_variables t es vars) (going_slots st t env) × (has_going t t.loop ≡ true)
    pub failing : any_failed es && not t.ignores ≡ true → Models (written_variables t es vars) (failing_slots st t env) × (has_case (failing_cases t) ≡ true)
    pub kept : (view : Slots) → Models vars view → writes_below (task_writes st t env) view ≡ true → Models (written_variables t es vars) view

  abbrev pub ResultsFine : Fields → Results → Type 0
  ResultsFine vars (results_are es) = Written (last_attempts es) vars
  ResultsFine vars (no_results s) = false ≡ true

  abbrev pub AdmittedFine : World → Fields → Admitted → Type 0
  AdmittedFine w vars (admitted os) = ResultsFine vars (end_all w t os)
  AdmittedFine w vars breached = Unit {0}
  AdmittedFine w vars unreached = Unit {0}

-- a Start of a fit task isn't stuck
abbrev pub StartClaim : Type 0
StartClaim = (w : World) (st : Setting) (t : Task) (env : Slots) → Around w st st.laters t.place → Well (recs env) → Models w.mine (named_slots st t.depth env) → task_fault st t env ≡ None → PlanFine st t env (plan_of w t t.loop)

-- nor is its Give, whatever the answers; and its writes are known
abbrev pub GiveClaim : Type 0
GiveClaim = (w : World) (st : Setting) (t : Task) (env : Slots) (vars : Fields) (ps : List Pass) (xs : List Answer) → Around w st [] t.place → Well (recs env) → Models vars env → Models w.mine (named_slots st t.depth env) → task_fault st t env ≡ None → PassesFine st t env ps
    → AdmittedFine st t env w vars (admit_passes t.action ps xs)

-- the environments after a task are well formed, and so is what it writes
abbrev pub AfterClaim : Type 0
AfterClaim = (st : Setting) → ((g : Name) → Well (recs (view_of g st.views))) → (t : Task) (env : Slots) → Well (recs env) → Well (recs (going_slots st t env)) × Well (recs (failing_slots st t env)) × WellSets (task_writes st t env)
