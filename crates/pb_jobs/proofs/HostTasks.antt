-- The task where a host stands, and how it is seen that it stands at none.
use Rattle.std.proofs.Common.{◌≡◌, ◌<◌, ◌≤◌, ℕ, suc, ◌+◌, List, [], ◌∷◌, length, map, Vec, Option, None, Some, get_or, option_map, slice_get, unwrap_or, refl, sym, ap, subst, ◌∙◌, arith}
use Rattle.std.specs.declared.alloc.Global.{Global}
use denote.Ref.{Bor}
use Rattle.pb_language.specs.Expression.{Name}
use Rattle.pb_language.specs.Machine.{innermost, outermost}
use Rattle.pb_language.specs.Notify.{HandlerNames, all_notified}
use Rattle.pb_language.specs.Program as program
use Rattle.pb_language.specs.Task.{Task}
use Rattle.pb_language.specs.World.{HostVariables}
use Rattle.pb_machine.specs.Hosts.{FlatHost, at, at_end, left_play, stands}
use Rattle.pb_machine.specs.Run.{FlatState, host_at, plan_steps, world_of}
use Rattle.pb_machine.specs.Steps as flat
use Rattle.pb_machine.specs.Ways.{step_along, step_at}
use Rattle.pb_position.specs.declared.position.Location as code
use Rattle.pb_position.specs.Positions.{IsAt, location_view}
use Rattle.pb_inventory.specs.Inventory.{inventory_view}
use Rattle.pb_value.specs.View.{view}
use Rattle.pb_value.specs.declared.value.Value.{Value}
use Rattle.pb_start.specs.Prepared.{Prepares}
use Rattle.pb_start.specs.declared.passes.Pass.{Pass}
use Rattle.pb_start.specs.declared.prepared.Prepared.{Prepared}
use Rattle.pb_steps.specs.Words.{ArePrepared}
use Rattle.pb_steps.specs.declared.step.Step.{Step}
use Rattle.pb_world.specs.Constants.{AreConstants}
use Rattle.pb_world.specs.RunWorld.{ShowsRun}
use Rattle.pb_world.specs.World.{failure_value, world_shown}
use Rattle.pb_world.specs.declared.world.HostWorld.{HostWorld}
use Rattle.pb_core.specs.Readings.{Reading}
use Rattle.pb_core.specs.Cores.{AreNotified, play_of, scheduled_batches, scheduled_plays, size_of}
use Rattle.pb_core.specs.declared.batch.RunPlay.{RunPlay}
use Rattle.pb_core.specs.declared.host.HostState.{HostState}
use Rattle.pb_core.specs.declared.host.Stage.TheVariants.{Waits}
use Rattle.pb_core.specs.Hosts.{IsStage}
use Rattle.pb_core.proofs.Cores.{play_none}
use Rattle.pb_core.proofs.Hosts.{host_missing}
use Rattle.pb_jobs.specs.HostTasks.{HasNoTask, IsNameOf, IsNotOut, IsStepOf}
use Rattle.pb_jobs.specs.Scenes.{HasFailure, IsAtNode, IsNodeOf, IsScene, IsTaskOf, kept_by}
use Rattle.pb_jobs.specs.declared.scene.RunScene.{RunScene}
use Rattle.pb_jobs.proofs.Nodes.{at_work, host_is, node_is, notified_at, play_here, prepared_at}
use Rattle.pb_jobs.proofs.Outcomes.{seen_through}
use Rattle.pb_jobs.proofs.Worlds.{given_there, runs_shown}

-- as many tasks as steps
prepared_many : (ps : List Prepared) (ss : List flat.Step) → ArePrepared ps (map (λ x. x.task) ss) → length ps ≡ length ss
prepared_many [] [] are = refl
prepared_many [] (x ∷ ss) are = absurd are
prepared_many (p ∷ ps) [] are = absurd are
prepared_many (p ∷ ps) (x ∷ ss) are = ap suc (prepared_many ps ss are.1)

notified_many : (hs : List HandlerNames) (cs : List Step) (ss : List flat.Step) → AreNotified hs cs (map (λ x. x.task) ss) → length cs ≡ length ss
notified_many hs [] [] are = refl
notified_many hs [] (x ∷ ss) are = absurd are
notified_many hs (c ∷ cs) [] are = absurd are
notified_many hs (c ∷ cs) (x ∷ ss) are = ap suc (notified_many hs cs ss are.1)

none_is_some : {A : Type 0} (x : A) (o : Option A) → o ≡ None → o ≡ Some x → ⊥
none_is_some x o e d = absurd (cc)

empty_is_more : {A : Type 0} (x : A) (xs ys : List A) → ys ≡ [] → ys ≡ x ∷ xs → ⊥
empty_is_more x xs ys e d = absurd (cc)

pub end_apart : (n : ℕ) → at_end ≡ at n → ⊥
end_apart n e = absurd (cc)

pub left_apart : (n : ℕ) → left_play ≡ at n → ⊥
left_apart n e = absurd (cc)

module _ (c : RunScene) (k : ℕ) where
  -- where no host is there
  pub missing_task : slice_get c.core.now.hosts.items k ≡ None → HasNoTask c k
  missing_task e = λ reading s scene n.
      none_is_some n.host (host_at k s.hosts) (host_missing reading (size_of s.batches) c.core.now.hosts.items s.hosts k scene.kept.core.hosts e) n.there

  -- where its position is none of a node
  pub nowhere_task : (x : HostState (Vec Pass Global)) (l : code.Location) → slice_get c.core.now.hosts.items k ≡ Some x → ((h : FlatHost) → IsAt x.position h → h.stage ≡ stands (location_view l))
      → ((n : ℕ) → location_view l ≡ at n → ⊥) → HasNoTask c k
  nowhere_task x l e told apart = λ reading s scene n. apart n.node (node_is reading c.core.now s scene.kept.core k n x l e told)

  -- where no play runs
  pub unplayed_task : play_of c.core.now c.core.now.current ≡ None → HasNoTask c k
  unplayed_task e = λ reading s scene n.
      let core = c.core.now in
      empty_is_more n.batch n.later s.batches (play_none reading.name (scheduled_plays core) (scheduled_batches core) core.current s.batches scene.kept.core.batches e) n.batches

  -- where its place is past the play's tasks, or past its steps
  module _ (index : ℕ) (play : RunPlay) (node : IsNodeOf c k index) (runs : play_of c.core.now c.core.now.current ≡ Some play) where
    pub untold_task : length play.tasks.items ≤ index → HasNoTask c k
    untold_task past = λ reading s scene n.
        let here = play_here reading c.core.now s scene.kept.core k n play runs in
        let many = prepared_many play.tasks.items (plan_steps n.batch) here.tasks in
        omega (arith, past, many, (node reading s scene n).1)

    pub unplanned_task : length play.plan.steps.items ≤ index → HasNoTask c k
    unplanned_task past = λ reading s scene n.
        let here = play_here reading c.core.now s scene.kept.core k n play runs in
        let many = notified_many n.batch.play.handlers play.plan.steps.items (plan_steps n.batch) here.notified in
        omega (arith, past, many, (node reading s scene n).1)

    -- else it is the task there
    pub task_is : (t : Prepared) → index < length play.tasks.items → t ≡ get_or play.tasks.items index t → IsTaskOf c k t
    task_is t within is = λ reading s scene n.
        let here = play_here reading c.core.now s scene.kept.core k n play runs in
        let at = node reading s scene n in
        let found : Prepares t (step_along (plan_steps n.batch) 1 (1 + index)).task = prepared_at play.tasks.items (plan_steps n.batch) 1 index t here.tasks within is in
        subst (λ m. Prepares t (step_at (plan_steps n.batch) m).task) (omega (arith, at.0)) found

    -- and its step
    pub step_is : (x : Step) → index < length play.plan.steps.items → x ≡ get_or play.plan.steps.items index x → IsStepOf c k x
    step_is x within is = λ reading s scene n is' told.
        let here = play_here reading c.core.now s scene.kept.core k n play runs in
        let at = node reading s scene n in
        let same : n.node ≡ 1 + index = omega (arith, at.0) in
        notified_at n.batch.play.handlers play.plan.steps.items (plan_steps n.batch) 1 index x here.notified within is is'
        (ap (λ m. all_notified n.batch.play.handlers (step_at (plan_steps n.batch) m).task.notifies) (sym same) ∙ told)

  -- its name, where one is told
  abbrev Names : Option Name → Type 0
  Names o = (i : program.Inventory) (h : HostVariables) → AreConstants i c.world.constants.now → slice_get i.hosts k ≡ Some h → o ≡ Some h.name

  pub unnamed_task : Names None → HasNoTask c k
  unnamed_task told = λ reading s scene n.
      let given = given_there (kept_by c) reading s scene.kept k n.host n.there in
      none_is_some given.0.name None refl (told (inventory_view c.world.variables.inventory.now) given.0 scene.kept.constants given.1)

  pub name_is : (name : Name) → Names (Some name) → IsNameOf c k name
  name_is name told = λ reading s scene h there.
      let given = given_there (kept_by c) reading s scene.kept k h there in
      ap (λ o. unwrap_or o name) (told (inventory_view c.world.variables.inventory.now) given.0 scene.kept.constants given.1) ∙ given.2

  -- at no task no job is out
  pub not_out : HasNoTask c k → IsNotOut c k
  not_out none = λ reading s scene w. none reading s scene (at_work w)

  -- nor where the host waits
  pub waits_not_out : (x : HostState (Vec Pass Global)) → slice_get c.core.now.hosts.items k ≡ Some x → x.stage ≡ Waits → IsNotOut c k
  waits_not_out x e waits = λ reading s scene w.
      let host = host_is reading c.core.now s scene.kept.core k (at_work w) x e in
      subst (λ g. IsStage reading Waits g) w.stage (subst (λ g. IsStage reading g w.host.stage) waits host.stage)

-- the world of the task, where its failure is known
pub world_there : (c : RunScene) (k : ℕ) (p : Prepared) (v : Option Value) (o : Option (Bor Value)) (w : HostWorld) → IsTaskOf c k p → HasFailure c k p.depth v → option_map (λ x. x.now) o ≡ v
    → ((s : FlatState) (b : program.Batch) (h : FlatHost) (t : Task) → ShowsRun c.world s b → host_at k s.hosts ≡ Some h → option_map (λ x. view x.now) o ≡ failure_value t.depth (innermost (outermost t.depth h.rescues)) → world_shown w ≡ world_of s b h t)
    → (reading : Reading (Vec Pass Global)) (s : FlatState) → IsScene c reading s → (n : IsAtNode s k) → world_shown w ≡ world_of s n.batch n.host (step_at (plan_steps n.batch) n.node).task
world_there c k p v o w task failure seen shown reading s scene n =
    let t = (step_at (plan_steps n.batch) n.node).task in
    let prepares = task reading s scene n in
    let told = failure reading s scene n.host n.there in
    let deeper : failure_value p.depth (innermost (outermost p.depth n.host.rescues)) ≡ failure_value t.depth (innermost (outermost t.depth n.host.rescues)) =
    ap (λ d. failure_value d (innermost (outermost d n.host.rescues))) (sym prepares.depth) in
    shown s n.batch n.host t (runs_shown c reading s n.batch n.later scene n.batches) n.there (seen_through o ∙ ap (option_map view) seen ∙ told ∙ deeper)
