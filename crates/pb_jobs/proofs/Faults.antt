-- What the faults of a scene and of a core say of the machine of a run.
use Rattle.std.proofs.Common.{◌≡◌, ◌<◌, ◌≤◌, ◌^◌, ℕ, suc, ◌+◌, List, [], Vec, length, false, true, not, ◌&&◌, Option, Some, None, IfSome, String, is_some, unwrap_or, get_or, slice_get, ⊎_elim, refl, sym, ap, ap₂, subst, ◌∙◌, arith}
use Rattle.std.specs.List.{All}
use Rattle.std.specs.declared.alloc.Global.{Global}
use Rattle.std.proofs.lemmas.List.{length-map}
use Rattle.std.proofs.lemmas.Option.{slice_get_within}
use Rattle.pb_semantics.proofs.Bools.{untrue}
use Rattle.pb_language.specs.Cases.{action_name}
use Rattle.pb_language.specs.Give.{Answer}
use Rattle.pb_language.specs.Machine.{give, start}
use Rattle.pb_language.specs.Start as started
use Rattle.pb_language.specs.Start.{call_count, plan_of, planned}
use Rattle.pb_machine.specs.Run.{FlatState, enabled, is_out, is_possible, of_host, step, world_of}
use Rattle.pb_history.specs.Happens.{MayStart, Starts, Works, step_in, task_of_start}
use Rattle.pb_history.proofs.Starts.{starts_are_planned}
use Rattle.pb_inventory.specs.Inventory.{inventory_view}
use Rattle.pb_slots.specs.Words.{names_of_slots}
use Rattle.pb_value.specs.View.{fields_view}
use Rattle.pb_value.specs.declared.value.Value.{Value}
use Rattle.pb_world.specs.Writes.{have_slots}
use Rattle.pb_start.specs.declared.passes.Pass.{Pass}
use Rattle.pb_core.specs.Cores.{IsAgainPast, counts_at, job_at, job_in, size_of}
use Rattle.pb_core.specs.Events.{HasNoJob, IsDisabled}
use Rattle.pb_core.specs.Hosts.{IsStage, job_of}
use Rattle.pb_core.specs.Readings.{Reading}
use Rattle.pb_core.specs.declared.host.HostState.{HostState}
use Rattle.pb_core.specs.declared.host.Stage.{Stage}
use Rattle.pb_core.specs.declared.host.Stage.TheVariants.{Runs, Waits}
use Rattle.pb_core.specs.declared.run.RunCore.{RunCore}
use Rattle.pb_core.proofs.Hosts.{host_missing}
use Rattle.pb_core.specs.declared.outcome.TaskOutcome.{TaskOutcome}
use Rattle.pb_core.proofs.Steps.{steps_again, steps_start}
use Rattle.pb_jobs.specs.Active.{IsActiveBatch}
use Rattle.pb_jobs.specs.Faults.{AgainPast, BeginsPast, CannotAgain, CannotBegin, CannotGive, CannotLeave, CannotSettle, GivesPast, HasRoom, IsCounted}
use Rattle.pb_jobs.specs.HostTasks.{HasNoTask, IsNotOut}
use Rattle.pb_jobs.specs.Calls.{call_data}
use Rattle.pb_jobs.specs.Machines.{IsMachine, IsSameBut, IsSceneOf, kept_in}
use Rattle.pb_jobs.specs.Scenes.{IsScene}
use Rattle.pb_jobs.specs.Tasks.{EndsSo, IsBegun, Repeats, RepeatsAs, RepeatsPast, StartsAs, StartsPast, handed_at}
use Rattle.pb_jobs.specs.declared.active.ActiveBatch.{ActiveBatch}
use Rattle.pb_jobs.specs.declared.job.Call.{Call}
use Rattle.pb_jobs.specs.declared.machine.Machine.{Machine}
use Rattle.pb_jobs.specs.declared.scene.RunScene.{RunScene}
use Rattle.pb_jobs.specs.declared.start.Begun.{Begun}
use Rattle.pb_jobs.proofs.Begins.{calls_many}
use Rattle.pb_jobs.proofs.Nodes.{at_start, at_work, host_is}
use Rattle.pb_jobs.proofs.Seen.{machine_same, scene_is}
use Rattle.pb_jobs.proofs.Worlds.{given_there}

-- sums that are past 64 bits
raised : (a b h n m : ℕ) → a ≡ b → b ≤ h → n ≡ m → 2 ^ 64 ≤ a + n → 2 ^ 64 ≤ h + m
raised a b h n m e l d w = omega (arith, e, l, d, w)

level : (h a n m : ℕ) → h ≡ a → n ≡ m → 2 ^ 64 ≤ a + n → 2 ^ 64 ≤ h + m
level h a n m e d w = omega (arith, e, d, w)

-- ---- at a Start

-- what is seen once the active hosts have been looked for
module _ (old now : Machine) (b : ActiveBatch) (c : RunScene) (same : IsSameBut old now) (known : now.batch ≡ Some b) (sees : IsSceneOf now now.core b c) where
  scene_after : (reading : Reading (Vec Pass Global)) (s : FlatState) → IsMachine old reading s → IsScene c reading s
  scene_after reading s machine =
      let after = machine_same old now reading s same machine in
      let active = subst (λ (o : Option ActiveBatch). IfSome o (IsActiveBatch reading (inventory_view now.inventory.now) s)) known after.batch in
      let many = subst (λ (o : Option ActiveBatch). IfSome o (λ b. b.hosts.hosts ≡ length (inventory_view now.inventory.now).hosts)) known now.each_active in
      scene_is now now.core b c reading s after.kept sees active many

  module _ (k : ℕ) where
    pub no_task_begins : HasNoTask c k → CannotBegin k old
    no_task_begins none = λ reading s machine m. none reading s (scene_after reading s machine) (at_start m)

    pub disabled_begins : IsDisabled (start k) now.core → CannotBegin k old
    disabled_begins off = λ reading s machine m.
        let after = machine_same old now reading s same machine in
        untrue (sym (off reading s after.kept.core) ∙ m.enabled)

    before_is : handed_at c k ≡ get_or old.calls.items k 0
    before_is = ap (λ cs. get_or cs k 0) sees.calls ∙ ap (λ (v : Vec ℕ Global). get_or v.items k 0) same.calls

    -- more calls are handed out than there is room for
    past : ((reading : Reading (Vec Pass Global)) (s : FlatState) → IsMachine old reading s → (m : MayStart s k) (ps : List started.Pass)
        → (let t = task_of_start m in plan_of (world_of s m.batch m.host t) t t.loop ≡ planned ps → get_or old.calls.items k 0 ≤ s.handed → 2 ^ 64 ≤ s.handed + call_count ps)) → BeginsPast k old
    past more = λ reading s machine m fine few.
        let (ps, plans) = starts_are_planned s k m fine in
        let starts : Starts s k ps = record {
          batch = m.batch;
          later = m.later;
          host = m.host;
          node = m.node;
          batches = m.batches;
          there = m.there;
          stage = m.stage;
          enabled = m.enabled;
          plans = plans;
        } in
        let goes : (step s (start k)).handed ≡ s.handed + call_count ps = ap (λ (t : FlatState). t.handed) (steps_start s k ps starts) in
        subst (λ n. 2 ^ 64 ≤ n) (sym goes) (more reading s machine m ps plans few)

    pub scene_past : StartsPast c k → BeginsPast k old
    scene_past told = past (λ reading s machine m ps plans few.
        let more = told reading s (scene_after reading s machine) m ps plans in
        raised (handed_at c k) (get_or old.calls.items k 0) s.handed (call_count ps) (call_count ps) before_is few refl more)

    begun_many : (s : FlatState) (m : MayStart s k) (begun : Begun) (ps : List started.Pass) → IsBegun c m begun ps → length begun.calls.items ≡ call_count ps
    begun_many s m begun ps is = sym (length-map begun.calls.items call_data) ∙ ap length is.calls ∙ calls_many k m.host.name (action_name (task_of_start m).action) ps (handed_at c k)

    -- by the calls of its passes
    pub calls_past : (begun : Begun) → StartsAs c k begun → 2 ^ 64 ≤ get_or now.calls.items k 0 + length begun.calls.items → BeginsPast k old
    calls_past begun does more = past (λ reading s machine m ps plans few.
        let is = does reading s (scene_after reading s machine) m ps plans in
        let many = begun_many s m begun ps is in
        let there : get_or now.calls.items k 0 ≡ get_or old.calls.items k 0 = ap (λ (v : Vec ℕ Global). get_or v.items k 0) same.calls in
        raised (get_or now.calls.items k 0) (get_or old.calls.items k 0) s.handed (length begun.calls.items) (call_count ps) there few many more)

    -- by those of the whole run
    pub core_past : (begun : Begun) (n : ℕ) → StartsAs c k begun → n ≡ length begun.calls.items → 2 ^ 64 ≤ now.core.handed + n → BeginsPast k old
    core_past begun n does count more = past (λ reading s machine m ps plans few.
        let is = does reading s (scene_after reading s machine) m ps plans in
        let after = machine_same old now reading s same machine in
        let many = begun_many s m begun ps is in
        level s.handed now.core.handed n (call_count ps) after.kept.core.handed (count ∙ many) more)

-- ---- at a Give

-- a job that is out may be answered
may_give : (s : FlatState) (k : ℕ) (w : Works s k) (xs : List Answer) → enabled s (give k xs) ≡ true
may_give s k w xs =
    ap₂ (λ q bs. not q && is_possible s bs (give k xs)) w.going w.batches
    ∙ ap (λ h. of_host h (λ x. is_out x.stage)) w.there ∙ ap is_out w.stage

-- so many calls are made again
again_handed : (s : FlatState) (k : ℕ) (w : Works s k) (xs : List Answer) → Repeats w xs → (step s (give k xs)).handed ≡ s.handed + call_count w.passes
again_handed s k w xs again = ap (λ (t : FlatState). t.handed) (steps_again s k w xs again.0 again.1 again.2)

module _ (old now : Machine) (same : IsSameBut old now) (k : ℕ) (xs : List Answer) where
  room_now : (s : FlatState) → HasRoom k old s → HasRoom k now s
  room_now s room = record {
    calls = subst (λ (v : Vec ℕ Global). get_or v.items k 0 ≤ s.handed) (sym same.calls) room.calls;
    attempts = subst (λ (core : RunCore (Vec Pass Global)). IfSome (job_at core k) (λ j. suc j.0 < 2 ^ 64)) (sym same.core) room.attempts;
    counts = subst (λ (core : RunCore (Vec Pass Global)). All (λ n. suc n < 2 ^ 64) (counts_at core k)) (sym same.core) room.counts;
  }

  pub leave_gives : CannotLeave k now → CannotGive k xs old
  leave_gives off = λ reading s machine w fine slots. untrue (sym (off xs reading s (machine_same old now reading s same machine).kept.core) ∙ may_give s k w xs)

  pub again_gives : CannotAgain k now → CannotGive k xs old
  again_gives off = λ reading s machine w fine slots. off reading s (machine_same old now reading s same machine) w

  pub settle_gives : (o : TaskOutcome) (ws : List (String Global × Value)) → CannotSettle k o ws now
      → ((reading : Reading (Vec Pass Global)) (s : FlatState) → IsMachine old reading s → (w : Works s k) → (step s (give k xs)).is_stuck ≡ false → EndsSo w xs o (fields_view ws)) → CannotGive k xs old
  settle_gives o ws off ends = λ reading s machine w fine slots.
      let so = ends reading s machine w fine in
      off reading s (machine_same old now reading s same machine) w xs so (subst (λ t. have_slots (names_of_slots t) ws ≡ true) (sym same.slots) (slots o ws so))

  pub counted_gives : IsCounted k now → GivesPast k xs old
  counted_gives full = λ reading s machine w fine room. absurd (full (room_now s room).counts)

  pub again_past_gives : AgainPast k now → ((reading : Reading (Vec Pass Global)) (s : FlatState) → IsMachine old reading s → (w : Works s k) → (step s (give k xs)).is_stuck ≡ false → Repeats w xs) → GivesPast k xs old
  again_past_gives more repeats = λ reading s machine w fine room.
      subst (λ n. 2 ^ 64 ≤ n) (sym (again_handed s k w xs (repeats reading s machine w fine))) (more reading s (machine_same old now reading s same machine) w (room_now s room))

pub not_out_gives : (old now : Machine) (b : ActiveBatch) (c : RunScene) (same : IsSameBut old now) (known : now.batch ≡ Some b) (sees : IsSceneOf now now.core b c) (k : ℕ) (xs : List Answer) → IsNotOut c k → CannotGive k xs old
not_out_gives old now b c same known sees k xs none = λ reading s machine w fine slots. none reading s (scene_after old now b c same known sees reading s machine) w

-- ---- the calls are made again

same_itself : (m : Machine) → IsSameBut m m
same_itself m = record {
  inventory = refl;
  slots = refl;
  constants = refl;
  facts = refl;
  core = refl;
  calls = refl;
  batch = λ reading s is. is.batch;
}

pub again_off : (m : Machine) (k : ℕ) → ((xs : List Answer) → IsDisabled (give k xs) m.core) → CannotAgain k m
again_off m k off = λ reading s machine w. untrue (sym (off [] reading s machine.kept.core) ∙ may_give s k w [])

module _ (m : Machine) (b : ActiveBatch) (c : RunScene) (known : m.batch ≡ Some b) (sees : IsSceneOf m m.core b c) (k : ℕ) where
  pub not_out_again : IsNotOut c k → CannotAgain k m
  not_out_again none = λ reading s machine w. none reading s (scene_after m m b c (same_itself m) known sees reading s machine) w

  pub scene_again : RepeatsPast c k → AgainPast k m
  scene_again told = λ reading s machine w room.
      let more = told reading s (scene_after m m b c (same_itself m) known sees reading s machine) w in
      raised (handed_at c k) (get_or m.calls.items k 0) s.handed (call_count w.passes) (call_count w.passes) (ap (λ cs. get_or cs k 0) sees.calls) room.calls refl more

  pub calls_again : (cs : List Call) → RepeatsAs c k cs → 2 ^ 64 ≤ get_or m.calls.items k 0 + length cs → AgainPast k m
  calls_again cs does more = λ reading s machine w room.
      let is = does reading s (scene_after m m b c (same_itself m) known sees reading s machine) w in
      let many : length cs ≡ call_count w.passes = sym (length-map cs call_data) ∙ ap length is ∙ calls_many k w.host.name (action_name (step_in w).task.action) w.passes (handed_at c k) in
      raised (get_or m.calls.items k 0) (get_or m.calls.items k 0) s.handed (length cs) (call_count w.passes) refl room.calls many more

-- by the core
pub core_again : (m : Machine) (k : ℕ) → IsAgainPast k m.core → AgainPast k m
core_again m k full = λ reading s machine w room. by reading s machine w (slice_get m.core.hosts.items k) refl (past s room) where
  past : (s : FlatState) → HasRoom k m s → 2 ^ 64 ≤ m.core.handed + full.0.1
  past s room =
      let few : suc full.0.0 < 2 ^ 64 = subst (λ o. IfSome o (λ j. suc j.0 < 2 ^ 64)) full.1 room.attempts in
      ⊎_elim (λ many. absurd (omega (arith, many, few))) (λ many. many) full.2

  job : (reading : Reading (Vec Pass Global)) (s : FlatState) → IsMachine m reading s → (w : Works s k) → 2 ^ 64 ≤ m.core.handed + full.0.1 → (g : Stage (Vec Pass Global)) → IsStage reading g w.host.stage → job_of g ≡ Some full.0
      → 2 ^ 64 ≤ s.handed + call_count w.passes
  job reading s machine w many Waits is out = absurd (subst (λ f. IsStage reading Waits f) w.stage is)
  job reading s machine w many (Runs t a cs ps) is out =
      let here = subst (λ f. IsStage reading (Runs t a cs ps) f) w.stage is in
      let same : full.0.1 ≡ cs = ap (λ (o : Option (ℕ × ℕ)). (unwrap_or o full.0).1) (sym out) in
      level s.handed m.core.handed full.0.1 (call_count w.passes) machine.kept.core.handed (same ∙ here.2) many

  by : (reading : Reading (Vec Pass Global)) (s : FlatState) → IsMachine m reading s → (w : Works s k) → (o : Option (HostState (Vec Pass Global))) → slice_get m.core.hosts.items k ≡ o → 2 ^ 64 ≤ m.core.handed + full.0.1 → 2 ^ 64 ≤ s.handed + call_count w.passes
  by reading s machine w None e many =
      let none = host_missing reading (size_of s.batches) m.core.hosts.items s.hosts k machine.kept.core.hosts e in
      let no : None ≡ Some w.host = sym none ∙ w.there in
      absurd (cc)
  by reading s machine w (Some x) e many =
      let host = host_is reading m.core s machine.kept.core k (at_work w) x e in
      job reading s machine w many x.stage host.stage (ap job_in (sym e) ∙ full.1)

-- ---- the task ends

module _ (m : Machine) (k : ℕ) (o : TaskOutcome) (ws : List (String Global × Value)) where
  pub past_settles : length (inventory_view m.inventory.now).hosts ≤ k → CannotSettle k o ws m
  past_settles far = λ reading s machine w xs ends slots.
      let given = given_there (kept_in m) reading s machine.kept k w.host w.there in
      let within = slice_get_within (inventory_view m.inventory.now).hosts k given.0 given.1 in
      omega (arith, far, within)

  pub unslotted_settles : {A : Type 0} (p : Option A) → is_some p ≡ have_slots (names_of_slots m.slots) ws → ((x : A) → p ≡ Some x → ⊥) → CannotSettle k o ws m
  unslotted_settles None found none = λ reading s machine w xs ends slots. untrue (found ∙ slots)
  unslotted_settles (Some x) found none = absurd (none x refl)

  pub core_settles : HasNoJob k o.notified.items m.core → CannotSettle k o ws m
  core_settles none = λ reading s machine w xs ends slots. none reading s machine.kept.core w (step_in w).task _ ends.notified
