-- What every step of a run keeps.
use Rattle.std.proofs.Common.{◌≡◌, ◌≤◌, ◌<◌, ◌+◌, ◌*◌, ⊎_elim, ℕ, suc, max, List, [], ◌∷◌, Bool, true, false, not, ◌&&◌, ◌||◌, cond, nat_lt, Some, None, is_some, length, refl, sym, ap, subst, ◌∙◌, arith}
use Rattle.std.proofs.lemmas.Bool.{ltb-true}
use Rattle.std.proofs.Math.Nat.{mul-le-mul_left}
use Rattle.pb_semantics.specs.Data.{Fields, no_fields, field_value}
use Rattle.pb_semantics.specs.Kind.{Slots, no_slots, recs}
use Rattle.pb_semantics.specs.Keeps.{is_among, Models}
use Rattle.pb_semantics.specs.Below.{are_among}
use Rattle.pb_semantics.specs.Well.{Well}
use Rattle.pb_semantics.proofs.Bools.{untrue, and-right}
use Rattle.pb_language.specs.Expression.{Name}
use Rattle.pb_language.specs.World.{variables_of}
use Rattle.pb_language.specs.Scope.{View, view_of, Later, later_of, is_later}
use Rattle.pb_language.specs.Notify.{Notified, handlers_are, names_nothing, all_notified, names_something}
use Rattle.pb_language.specs.Task.{Action, call_of, debug, set_fact, assertion, failure_of, Task}
use Rattle.pb_language.specs.Rest.{Rest, done, left, next, ask, rescue, hold, release}
use Rattle.pb_language.specs.Cases.{failing_cases}
use Rattle.pb_language.specs.Fit.{unknown_handler}
use Rattle.pb_language.specs.Setting.{Setting, named_slots, start_scope, item_scope, action_scope, give_scope, until_scope}
use Rattle.pb_language.specs.Judgement.{Exit, live, task_fault, live_if, has_case, has_going, going_slots, failing_slots, going_exit, failing_exit, loop_fault, conditions_fault, action_fault, keyword_fault, until_fault}
use Rattle.pb_language.specs.Program.{Inventory, Play, Program, Batch, setting_of}
use Rattle.pb_language.specs.Tables.{place_calls, place_length}
use Rattle.pb_language.specs.Theorem.{are_distinct, host_names}
use Rattle.pb_language.specs.Start.{Pass, Plan, planned, halted, plan_of, call_count}
use Rattle.pb_language.specs.Give.{Answer, Admitted, admitted, breached, unreached, admit_passes, Ended, Results, results_are, no_results, end_all, all_hold, retries_of, asks_again, last_attempts, any_failed, any_changed, written_variables}
use Rattle.pb_language.specs.Machine.{over, gone, begins, Stage, waits, runs, Host, Recap, State, is_marked, unmarked, outermost, innermost, settled, still_active, variables_seen, world_of, host_at, put_host, is_out, running, all_stand, can_start, with_host, on_plan, on_start, notified_by, after_task, on_notified, on_ended, on_again, on_results, on_admitted, on_give}
use Rattle.pb_language.proofs.Claims.{Around, StartClaim, GiveClaim, PlanFine, AdmittedFine, ResultsFine, Written, action_calls, more_calls}
use Rattle.pb_language.proofs.Ways.{WellEnv}
use Rattle.pb_language.proofs.Named.{named_models}
use Rattle.pb_language.proofs.Seen.{names_of, names_put, put_at, seen_at, seen, active_at, still_among, all_still, few_still, stand_at, total, total_put}
use Rattle.pb_language.proofs.Positions.{walked, most, FineVisit, TypedAt, Running, in_any, StageFine, owes, settled_fine, settled_owes, stage_there, first_attempt, next_attempt}
use Rattle.pb_language.proofs.Fits.{no_second, not_asked}

-- the texts that a fit task notifies name handlers
pub handlers_named : (s : Setting) (t : Task) (env : Slots) → task_fault s t env ≡ None → names_something (all_notified s.handlers t.notifies) ≡ true
handlers_named s t env h =
    let a = no_second (loop_fault (start_scope s t env) t.loop) _ h in
    let b = no_second (conditions_fault (item_scope s t env) t.conditions) _ a in
    let c = no_second (action_fault (action_scope s t env) t.action) _ b in
    let d = no_second (keyword_fault (give_scope s t env) t.changed_when) _ c in
    let e = no_second (keyword_fault (give_scope s t env) t.failed_when) _ d in
    let f = no_second (until_fault (until_scope s t env) t.attempts) _ e in
    not_asked unknown_handler (names_something (all_notified s.handlers t.notifies)) f

le_itself : (n : ℕ) → n ≤ n
le_itself n = omega arith

nothing : (r : ℕ) → suc r * 0 ≤ 0
nothing r = omega arith

calls_at : (vs : List _) (t : Task) (a : Action) → suc (retries_of t.attempts) * action_calls a (place_length t t.loop vs) ≤ place_calls vs t a
calls_at vs t (call_of m ps) = le_itself (suc (retries_of t.attempts) * place_length t t.loop vs)
calls_at vs t (debug e) = nothing (retries_of t.attempts)
calls_at vs t (set_fact ps) = nothing (retries_of t.attempts)
calls_at vs t (assertion es o) = nothing (retries_of t.attempts)
calls_at vs t (failure_of o) = nothing (retries_of t.attempts)

-- an exit that is there
there_exit : (q : Bool) (env : Slots) (Q : Exit → Type 0) → q ≡ true → Q (live_if q env) → Q (live env)
there_exit true env Q e y = y
there_exit false env Q e y = untrue e

marked_name : (q : Bool) (x y h : Host) → x.name ≡ h.name → y.name ≡ h.name → (cond q x y).name ≡ h.name
marked_name true x y h e i = e
marked_name false x y h e i = i

marked_variables : (q : Bool) (x y h : Host) → x.variables ≡ h.variables → y.variables ≡ h.variables → (cond q x y).variables ≡ h.variables
marked_variables true x y h e i = e
marked_variables false x y h e i = i

pub settled_name : (h : Host) (r : Rest) → (settled h r).name ≡ h.name
settled_name h done = refl
settled_name h left = refl
settled_name h (next t a b) = refl
settled_name h (ask n a b) = marked_name (is_marked n h.marks) (settled (record h { marks = unmarked n h.marks }) a) (settled h b) h (settled_name (record h { marks = unmarked n h.marks }) a) (settled_name h b)
settled_name h (rescue d r) = settled_name (record h { rescues = h.failure ∷ outermost d h.rescues }) r
settled_name h (hold m r) = settled_name (record h { holds = h.failure ∷ outermost m h.holds }) r
settled_name h (release m r) = settled_name (record h { failure = innermost (outermost (suc m) h.holds) }) r

pub settled_variables : (h : Host) (r : Rest) → (settled h r).variables ≡ h.variables
settled_variables h done = refl
settled_variables h left = refl
settled_variables h (next t a b) = refl
settled_variables h (ask n a b) =
    marked_variables (is_marked n h.marks) (settled (record h { marks = unmarked n h.marks }) a) (settled h b) h (settled_variables (record h { marks = unmarked n h.marks }) a) (settled_variables h b)
settled_variables h (rescue d r) = settled_variables (record h { rescues = h.failure ∷ outermost d h.rescues }) r
settled_variables h (hold m r) = settled_variables (record h { holds = h.failure ∷ outermost m h.holds }) r
settled_variables h (release m r) = settled_variables (record h { failure = innermost (outermost (suc m) h.holds) }) r

-- what is fixed: the inventory, the tables and the budget
pub record Fixed (inventory : Inventory) (views : List View) : Type 0 where
  pub distinct : are_distinct (host_names inventory.hosts) ≡ true
  pub wells : (g : Name) → Well (recs (view_of g views))
  pub absent : (g : Name) → is_among g (host_names inventory.hosts) ≡ false → view_of g views ≡ no_slots

-- what every state keeps, whatever batch runs
pub record Kept (inventory : Inventory) (views : List View) (s : State) : Type 0 where
  pub same : s.inventory ≡ inventory
  pub names : names_of s.hosts ≡ host_names inventory.hosts
  pub fresh : s.is_stuck ≡ false
  pub models : (k : ℕ) (h : Host) → host_at k s.hosts ≡ Some h → Models h.variables (view_of h.name views)

module _ (inventory : Inventory) (views : List View) (fixed : Fixed inventory views) (start_claim : StartClaim) (give_claim : GiveClaim) (limit : ℕ) where
  module _ (p : Play) (laters : List Later) (b : List Name) (bs : List (List Name)) (exits : Name → Exit) (ps : Program) (ls : List (List Later)) where
    abbrev pub now : Batch
    now = record { play = p; members = b }

    abbrev pub StandsFine : Name → Fields → Stage → Type 0
    StandsFine n vars g = StageFine views inventory p laters exits ps ls b bs n vars g

    abbrev pub owed : Name → Stage → ℕ
    owed n g = owes views inventory p laters exits ps ls b bs n g

    -- what is known of the batch
    pub record BatchFine : Type 0 where
      pub apart : (n : Name) → is_among n b ≡ true → in_any n bs ≡ false
      pub members : are_among b p.hosts ≡ true
      pub few : length b ≤ length p.hosts
      pub free : p.is_linear ≡ false → laters ≡ []

    -- each host stands well, and what was handed out and what may still be stay within the limit
    pub record HostsFine (s : State) : Type 0 where
      pub stands : (k : ℕ) (h : Host) → host_at k s.hosts ≡ Some h → StandsFine h.name h.variables h.stage
      pub within : s.handed + total owed s.hosts ≤ limit

    module _ (batch : BatchFine) (s : State) (kept : Kept inventory views s) (fine : HostsFine s) where
      distinct_now : are_distinct (names_of s.hosts) ≡ true
      distinct_now = subst (λ ns. are_distinct ns ≡ true) (sym kept.names) fixed.distinct

      seen_models : (g : Name) → Models (variables_of g (variables_seen s.hosts)) (view_of g views)
      seen_models g =
          ⊎_elim (λ x. subst (λ n. Models (variables_of g (variables_seen s.hosts)) (view_of n views)) (sym x.4) (subst (λ fs. Models fs (view_of x.1.name views)) (sym x.3) (kept.models x.0 x.1 x.2)))
          (λ x. let none = fixed.absent g (subst (λ ns. is_among g ns ≡ false) kept.names x.1) in
          subst (λ fs. Models fs (view_of g views)) (sym x.0) (subst (λ ss. Models no_fields ss) (sym none) (record { at = λ n. refl }))) (seen g s.hosts)

      -- of the active hosts of the batch
      seen_later : (q : ℕ) → all_stand q s.hosts ≡ true → (g : Name) → is_among g (still_active s.hosts b) ≡ true → (x : Name) → is_later (later_of g laters) q x ≡ true
          → is_some (field_value x (variables_of g (variables_seen s.hosts))) ≡ true
      seen_later q all g i x j =
          let y = still_among g s.hosts b i in
          let z = active_at g s.hosts y.1 in
          let here : is_among z.1.name b ≡ true = subst (λ n. is_among n b ≡ true) z.4 y.0 in
          let there = stage_there views inventory p laters exits ps ls b bs z.1.name here (batch.apart z.1.name here) q z.1.variables z.1.stage (fine.stands z.0 z.1 z.2) z.3 (stand_at q z.0 s.hosts z.1 all z.2) in
          let vars = seen_at z.0 s.hosts z.1 distinct_now z.2 in
          rw (z.4, vars) (there.at x (subst (λ n. is_later (later_of n laters) q x ≡ true) z.4 j))

      around_with : (q : ℕ) (ls' : List Later) (h : Host) (t : Task) → ((g : Name) → is_among g (still_active s.hosts b) ≡ true → (x : Name) → is_later (later_of g ls') q x ≡ true → is_some (field_value x (variables_of g (variables_seen s.hosts))) ≡ true)
          → Around (world_of s now h t) (setting_of inventory p views laters h.name) ls' q
      around_with q ls' h t f = record {
        this = refl;
        groups = ap (λ v. v.groups) kept.same;
        wells = fixed.wells;
        views = seen_models;
        later = f;
      }

      start_later : (q : Bool) (place : ℕ) → p.is_linear ≡ q → not q || all_stand place s.hosts ≡ true → (g : Name) → is_among g (still_active s.hosts b) ≡ true → (x : Name) → is_later (later_of g laters) place x ≡ true
          → is_some (field_value x (variables_of g (variables_seen s.hosts))) ≡ true
      start_later true place e h g i x j = seen_later place h g i x j
      start_later false place e h g i x j = untrue (subst (λ l. is_later (later_of g l) place x ≡ true) (batch.free e) j)

      mine_models : (h : Host) (t : Task) (env : Slots) → Models h.variables env → Models (world_of s now h t).mine (named_slots (setting_of inventory p views laters h.name) t.depth env)
      mine_models h t env m =
          rw kept.same (named_models (setting_of inventory p views laters h.name) t.depth _ (still_active s.hosts b) h.variables env m (all_still s.hosts b p.hosts batch.members)
          (let i = few_still s.hosts b in let j = batch.few in omega (arith, i, j)))

      -- one host is given anew
      replaced_stands : (k : ℕ) (x : Host) → StandsFine x.name x.variables x.stage → (j : ℕ) (y : Host) → host_at j (put_host k x s.hosts) ≡ Some y → StandsFine y.name y.variables y.stage
      replaced_stands k x f j y e = ⊎_elim (λ z. subst (λ h. StandsFine h.name h.variables h.stage) z.1 f) (λ z. fine.stands j y z) (put_at j k x s.hosts y e)

      replaced_models : (k : ℕ) (x : Host) → Models x.variables (view_of x.name views) → (j : ℕ) (y : Host) → host_at j (put_host k x s.hosts) ≡ Some y → Models y.variables (view_of y.name views)
      replaced_models k x f j y e = ⊎_elim (λ z. subst (λ h. Models h.variables (view_of h.name views)) z.1 f) (λ z. kept.models j y z) (put_at j k x s.hosts y e)

      abbrev pub Stepped : State → Type 0
      Stepped z = Kept inventory views z × HostsFine z × (z.batches ≡ s.batches)

      replaced : (k c : ℕ) (h x : Host) → host_at k s.hosts ≡ Some h → x.name ≡ h.name → Models x.variables (view_of x.name views) → StandsFine x.name x.variables x.stage → owed x.name x.stage + c ≤ owed h.name h.stage
          → Stepped (record s { hosts = put_host k x s.hosts; handed = s.handed + c })
      replaced k c h x e n m f o =
          let t = total_put owed k x s.hosts h e in
          let i = fine.within in (
            record { same = kept.same; names = names_put k x h s.hosts e n ∙ kept.names; fresh = kept.fresh; models = replaced_models k x m },
            record { stands = replaced_stands k x f; within = omega (arith, t, i, o) },
            refl,
          )

      replaced_here : (k : ℕ) (h x : Host) → host_at k s.hosts ≡ Some h → x.name ≡ h.name → Models x.variables (view_of x.name views) → StandsFine x.name x.variables x.stage → owed x.name x.stage ≤ owed h.name h.stage → Stepped (with_host s k x)
      replaced_here k h x e n m f o =
          let t = total_put owed k x s.hosts h e in
          let i = fine.within in (
            record { same = kept.same; names = names_put k x h s.hosts e n ∙ kept.names; fresh = kept.fresh; models = replaced_models k x m },
            record { stands = replaced_stands k x f; within = omega (arith, t, i, o) },
            refl,
          )

      plan_fine : (k : ℕ) (h : Host) (t : Task) (x y : Rest) (env : Slots) (plan : Plan) → host_at k s.hosts ≡ Some h → h.stage ≡ waits (begins t x y) → is_among h.name b ≡ true → Models h.variables env → WellEnv env
          → FineVisit views inventory p laters exits ps ls h.name t env → TypedAt views inventory p laters exits ps ls h.name (going_exit (setting_of inventory p views laters h.name) t env) x
          → TypedAt views inventory p laters exits ps ls h.name (failing_exit (setting_of inventory p views laters h.name) t env) y → PlanFine (setting_of inventory p views laters h.name) t env plan → Stepped (on_plan s k h t x y plan)
      plan_fine k h t x y env (halted w) e g here m wl v yx yy f = untrue f
      plan_fine k h t x y env (planned passes) e g here m wl v yx yy f =
          let stage = ap (λ z. owed h.name z) g in
          let few = more_calls t.action _ _ v.few in
          let calls = f.calls in
          let c = call_count passes in
          let n = action_calls t.action (place_length t t.loop (walked views inventory p laters exits ps ls h.name).visits) in
          let low : c ≤ n = omega (arith, few, calls) in
          let all = mul-le-mul_left (suc (retries_of t.attempts)) low in
          let attempts = first_attempt (retries_of t.attempts) c in
          let same = calls_at (walked views inventory p laters exits ps ls h.name).visits t t.action in
          replaced k c h (record h { stage = runs t 0 passes x y }) e refl (kept.models k h e) (here, record { env = env; models = m; well = wl; visit = v; passes_fine = f; going = yx; failing = yy })
          (omega (arith, stage, all, attempts, same))

      pub start_fine : (k : ℕ) (h : Host) (g : Stage) → host_at k s.hosts ≡ Some h → h.stage ≡ g → StandsFine h.name h.variables g → can_start s now g ≡ true → Stepped (on_start s now k h g)
      start_fine k h (waits over) e g f c = untrue c
      start_fine k h (waits gone) e g f c = untrue c
      start_fine k h (runs t i passes x y) e g f c = untrue c
      start_fine k h (waits (begins t x y)) e g f c =
          let z = f.1.typed in
          let m = z.1.up h.variables f.1.models in
          let a = around_with t.place laters h t (start_later p.is_linear t.place refl (and-right (nat_lt (running s.hosts) s.forks) (not p.is_linear || all_stand t.place s.hosts) c)) in
          plan_fine k h t x y z.0 (plan_of (world_of s now h t) t t.loop) e g f.0 m z.2 z.3 z.4 z.5
          (start_claim (world_of s now h t) (setting_of inventory p views laters h.name) t z.0 a z.2 (mine_models h t z.0 m) z.3.fit)

      module _ (k : ℕ) (h : Host) (t : Task) (i : ℕ) (passes : List Pass) (x y : Rest) (e : host_at k s.hosts ≡ Some h) (g : h.stage ≡ runs t i passes x y) (here : is_among h.name b ≡ true) (r : Running views inventory p laters exits ps ls h.name h.variables t passes x y) where
        -- the host goes on after its task
        on_way : (es : List Ended) (ms : List ℕ) (env : Slots) (w : Rest) → Models (written_variables t es h.variables) env → Models (written_variables t es h.variables) (view_of h.name views)
            → TypedAt views inventory p laters exits ps ls h.name (live env) w → most views inventory p laters exits ps ls h.name w ≤ max (most views inventory p laters exits ps ls h.name x) (most views inventory p laters exits ps ls h.name y)
            → Stepped (with_host s k (settled (after_task h t es ms) w))
        on_way es ms env w m v z o =
            let a = after_task h t es ms in
            let name = settled_name a w in
            let vars = settled_variables a w in
            let f = settled_fine views inventory p laters exits ps ls b bs h.name here (batch.apart h.name here) w a (written_variables t es h.variables) env m z in
            let l = settled_owes views inventory p laters exits ps ls b bs h.name here (batch.apart h.name here) w a in
            let stage = ap (λ z. owed h.name z) g in
            let lower : owed (settled a w).name (settled a w).stage ≤ owed h.name h.stage = rw name (omega (arith, l, o, stage)) in
            replaced_here k h (settled a w) e name (rw (name, vars) v) (rw (name, vars) f) lower

        either_way : (q : Bool) (es : List Ended) (ms : List ℕ) → any_failed es && not t.ignores ≡ q → Written (setting_of inventory p views laters h.name) t r.env es h.variables → Stepped (with_host s k (settled (after_task h t es ms) (cond q y x)))
        either_way true es ms j w =
            let z = w.failing j in
            on_way es ms (failing_slots (setting_of inventory p views laters h.name) t r.env) y z.0 (w.kept (view_of h.name views) (kept.models k h e) r.visit.below)
            (there_exit (has_case (failing_cases t)) (failing_slots (setting_of inventory p views laters h.name) t r.env) (λ j. TypedAt views inventory p laters exits ps ls h.name j y) z.1 r.failing) (grind arith)
        either_way false es ms j w =
            let z = w.going j in
            on_way es ms (going_slots (setting_of inventory p views laters h.name) t r.env) x z.0 (w.kept (view_of h.name views) (kept.models k h e) r.visit.below)
            (there_exit (has_going t t.loop) (going_slots (setting_of inventory p views laters h.name) t r.env) (λ j. TypedAt views inventory p laters exits ps ls h.name j x) z.1 r.going) (grind arith)

        notified_fine : (es : List Ended) (n : Notified) → names_something n ≡ true → Written (setting_of inventory p views laters h.name) t r.env es h.variables → Stepped (on_notified s k h t x y es n)
        notified_fine es names_nothing n w = untrue n
        notified_fine es (handlers_are ms) n w = either_way (any_failed es && not t.ignores) es ms refl w

        flagged : (q : Bool) → names_something (notified_by p t q) ≡ true
        flagged true = handlers_named (setting_of inventory p views laters h.name) t r.env r.visit.fit
        flagged false = refl

        ended_fine : (es : List Ended) → Written (setting_of inventory p views laters h.name) t r.env es h.variables → Stepped (on_ended s now k h t x y es)
        ended_fine es f = notified_fine es (notified_by p t (any_changed es && not (any_failed es))) (flagged (any_changed es && not (any_failed es))) f

        -- another attempt is one of those that were counted
        again_fine : i < retries_of t.attempts → Stepped (on_again s k h t i passes x y)
        again_fine l =
            let stage = ap (λ z. owed h.name z) g in
            let next = next_attempt (retries_of t.attempts) i (call_count passes) l in
            replaced k (call_count passes) h (record h { stage = runs t (suc i) passes x y }) e refl (kept.models k h e) (here, r) (omega (arith, stage, next))

        attempt_fine : (q : Bool) (es : List Ended) → asks_again t i es ≡ q → Written (setting_of inventory p views laters h.name) t r.env (last_attempts es) h.variables → Stepped (cond q (on_again s k h t i passes x y) (on_ended s now k h t x y (last_attempts es)))
        attempt_fine true es a f = again_fine (ltb-true i (retries_of t.attempts) (and-right (not (all_hold es)) (nat_lt i (retries_of t.attempts)) a))
        attempt_fine false es a f = ended_fine (last_attempts es) f

        results_fine : (rs : Results) → ResultsFine (setting_of inventory p views laters h.name) t r.env h.variables rs → Stepped (on_results s now k h t i passes x y rs)
        results_fine (no_results w) f = untrue f
        results_fine (results_are es) f = attempt_fine (asks_again t i es) es refl f

        gone_fine : (rc : Recap) → Stepped (with_host s k (record h { stage = waits gone; recap = rc }))
        gone_fine rc = replaced_here k h (record h { stage = waits gone; recap = rc }) e refl (kept.models k h e) tt (omega arith)

        admitted_fine : (ad : Admitted) → AdmittedFine (setting_of inventory p views laters h.name) t r.env (world_of s now h t) h.variables ad → Stepped (on_admitted s now k h t i passes x y ad)
        admitted_fine (admitted os) f = results_fine (end_all (world_of s now h t) t os) f
        admitted_fine breached f = gone_fine (record h.recap { failed = suc h.recap.failed })
        admitted_fine unreached f = gone_fine (record h.recap { unreachable = suc h.recap.unreachable })

        given_fine : (xs : List Answer) → Stepped (on_admitted s now k h t i passes x y (admit_passes t.action passes xs))
        given_fine xs =
            let a = around_with t.place [] h t (λ n j z l. untrue l) in
            admitted_fine (admit_passes t.action passes xs)
            (give_claim (world_of s now h t) (setting_of inventory p views laters h.name) t r.env h.variables passes xs a r.well r.models (mine_models h t r.env r.models) r.visit.fit r.passes_fine)

      pub give_fine : (k : ℕ) (h : Host) (g : Stage) (xs : List Answer) → host_at k s.hosts ≡ Some h → h.stage ≡ g → StandsFine h.name h.variables g → is_out g ≡ true → Stepped (on_give s now k h xs g)
      give_fine k h (waits i) xs e g f o = untrue o
      give_fine k h (runs t i passes x y) xs e g f o = given_fine k h t i passes x y e g f.0 f.1 xs
