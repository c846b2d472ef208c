-- The task where a host stands.
use Rattle.std.proofs.Common.{◌≡◌, ◌<◌, ◌≤◌, ℕ, zero, suc, ◌+◌, List, [], ◌∷◌, length, map, Vec, true, false, nat_lt, cond, Some, slice_get, get_or, sym, ap, subst, ◌∙◌, arith}
use Rattle.std.proofs.lemmas.Bool.{le-ltb, lt-ltb}
use Rattle.std.specs.declared.alloc.Global.{Global}
use Rattle.pb_language.specs.Notify.{HandlerNames, all_notified, handlers_are}
use Rattle.pb_language.specs.Program as program
use Rattle.pb_machine.specs.Hosts.{FlatHost, FlatStage, Location, at_end, left_play, at, stands, works}
use Rattle.pb_machine.specs.Run.{FlatState, plan_steps}
use Rattle.pb_machine.specs.Steps as flat
use Rattle.pb_machine.specs.Ways.{step_along}
use Rattle.pb_history.specs.Happens.{MayStart, Works}
use Rattle.pb_language.specs.Start as started
use Rattle.pb_position.specs.declared.position.Location as code
use Rattle.pb_position.specs.Positions.{IsAt, location_view}
use Rattle.pb_start.specs.Prepared.{Prepares}
use Rattle.pb_start.specs.declared.passes.Pass.{Pass}
use Rattle.pb_start.specs.declared.prepared.Prepared.{Prepared}
use Rattle.pb_steps.specs.Words.{ArePrepared}
use Rattle.pb_steps.specs.declared.step.Step.{Step}
use Rattle.pb_core.specs.Cores.{AreNotified, IsCore, IsPlay, play_of, scheduled_batches, scheduled_plays, size_of}
use Rattle.pb_core.specs.Hosts.{Fits, IsHost, IsStage, PlaySize, location_in}
use Rattle.pb_core.specs.declared.host.Stage.{Stage}
use Rattle.pb_core.specs.declared.host.Stage.TheVariants.{Runs}
use Rattle.pb_core.specs.Readings.{Reading}
use Rattle.pb_core.specs.declared.batch.RunPlay.{RunPlay}
use Rattle.pb_core.specs.declared.host.HostState.{HostState}
use Rattle.pb_core.specs.declared.run.RunCore.{RunCore}
use Rattle.pb_core.proofs.Cores.{play_is}
use Rattle.pb_core.proofs.Hosts.{host_in}
use Rattle.pb_jobs.specs.Scenes.{IsAtNode}

abbrev first_or : List program.Batch → program.Batch → program.Batch
first_or [] d = d
first_or (b ∷ bs) d = b

abbrev pub node_or : Location → ℕ → ℕ
node_or at_end d = d
node_or left_play d = d
node_or (at n) d = n

abbrev place_or : FlatStage → Location → Location
place_or (stands l) d = l
place_or (works n i ps) d = d

-- where a host stands that may start, or whose job is out
abbrev pub at_start : {s : FlatState} → {k : ℕ} → MayStart s k → IsAtNode s k
at_start m = record {
  batch = m.batch;
  later = m.later;
  host = m.host;
  node = m.node;
  batches = m.batches;
  there = m.there;
  stage = ap location_in m.stage;
}

abbrev pub at_work : {s : FlatState} → {k : ℕ} → Works s k → IsAtNode s k
at_work w = record {
  batch = w.batch;
  later = w.later;
  host = w.host;
  node = w.node;
  batches = w.batches;
  there = w.there;
  stage = ap location_in w.stage;
}

-- a host at a node is at one of the play's
node_fits : (z : PlaySize) (handlers n : ℕ) (g : FlatStage) → location_in g ≡ at n → Fits z handlers g → (0 < n) × (n ≤ z.nodes)
node_fits z handlers n (stands at_end) e f = cc
node_fits z handlers n (stands left_play) e f = cc
node_fits z handlers n (stands (at m)) e f = let same : m ≡ n = ap (λ l. node_or l m) e in (omega (arith, same, f.1), omega (arith, same, f.2))
node_fits z handlers n (works m i ps) e f = let same : m ≡ n = ap (λ l. node_or l m) e in (omega (arith, same, f.1), omega (arith, same, f.2))

module _ (reading : Reading (Vec Pass Global)) (core : RunCore (Vec Pass Global)) (s : FlatState) (is : IsCore reading core s) (k : ℕ) (n : IsAtNode s k) where
  pub host_is : (x : HostState (Vec Pass Global)) → slice_get core.hosts.items k ≡ Some x → IsHost reading (size_of s.batches) k x n.host
  host_is x e = host_in reading (size_of s.batches) core.hosts.items s.hosts k x n.host is.hosts e n.there

  pub node_within : (x : HostState (Vec Pass Global)) → slice_get core.hosts.items k ≡ Some x → (0 < n.node) × (n.node ≤ length (plan_steps n.batch))
  node_within x e =
      node_fits (size_of (n.batch ∷ n.later)) x.handlers n.node n.host.stage n.stage (subst (λ bs. Fits (size_of bs) x.handlers n.host.stage) n.batches (host_is x e).fits)

  -- where its position is
  pub node_is : (x : HostState (Vec Pass Global)) (l : code.Location) → slice_get core.hosts.items k ≡ Some x → ((h : FlatHost) → IsAt x.position h → h.stage ≡ stands (location_view l)) → location_view l ≡ at n.node
  node_is x l e told =
      let here = host_is x e in
      let there : stands (location_in n.host.stage) ≡ stands (location_view l) = told (record n.host { stage = stands (location_in n.host.stage) }) here.position in
      sym (ap (λ g. place_or g at_end) there) ∙ n.stage

  -- the play that runs
  pub play_here : (play : RunPlay) → play_of core core.current ≡ Some play → IsPlay play n.batch.play
  play_here play e =
      let found = play_is reading.name (scheduled_plays core) (scheduled_batches core) core.current play s.batches is.batches e in
      let same : found.0 ≡ n.batch = ap (λ (bs : List program.Batch). first_or bs n.batch) (sym found.3 ∙ n.batches) in
      subst (λ (b : program.Batch). IsPlay play b.play) same found.6

-- the task of a step
pub prepared_at : (ps : List Prepared) (ss : List flat.Step) (o i : ℕ) (p : Prepared) → ArePrepared ps (map (λ x. x.task) ss) → i < length ps → p ≡ get_or ps i p → Prepares p (step_along ss o (o + i)).task
prepared_at [] ss o i p are l e = absurd (omega (arith, l))
prepared_at (q ∷ ps) [] o i p are l e = absurd are
prepared_at (q ∷ ps) (x ∷ ss) o zero p are l e =
    let here : nat_lt o (o + 0) ≡ false = le-ltb o (o + 0) (omega arith) in
    subst (λ (y : flat.Step). Prepares p y.task) (sym (ap (λ b. cond b (step_along ss (suc o) (o + 0)) x) here)) (subst (λ r. Prepares r x.task) (sym e) are.0)
prepared_at (q ∷ ps) (x ∷ ss) o (suc i) p are l e =
    let behind : nat_lt o (o + suc i) ≡ true = lt-ltb o (o + suc i) (omega arith) in
    let rest : Prepares p (step_along ss (suc o) (suc o + i)).task = prepared_at ps ss (suc o) i p are.1 (omega (arith, l)) e in
    subst (λ (y : flat.Step). Prepares p y.task) (sym (ap (λ b. cond b (step_along ss (suc o) (o + suc i)) x) behind)) (subst (λ m. Prepares p (step_along ss (suc o) m).task) (omega arith) rest)

-- the handlers that it notifies
pub notified_at : (hs : List HandlerNames) (cs : List Step) (ss : List flat.Step) (o i : ℕ) (c : Step) → AreNotified hs cs (map (λ x. x.task) ss) → i < length cs → c ≡ get_or cs i c
    → (is : List ℕ) → all_notified hs (step_along ss o (o + i)).task.notifies ≡ handlers_are is → c.notifies.items ≡ is
notified_at hs [] ss o i c are l e = absurd (omega (arith, l))
notified_at hs (d ∷ cs) [] o i c are l e = absurd are
notified_at hs (d ∷ cs) (x ∷ ss) o zero c are l e = λ is told.
    let here : nat_lt o (o + 0) ≡ false = le-ltb o (o + 0) (omega arith) in
    ap (λ y. y.notifies.items) e ∙ are.0 is (ap (λ (y : flat.Step). all_notified hs y.task.notifies) (sym (ap (λ b. cond b (step_along ss (suc o) (o + 0)) x) here)) ∙ told)
notified_at hs (d ∷ cs) (x ∷ ss) o (suc i) c are l e = λ is told.
    let behind : nat_lt o (o + suc i) ≡ true = lt-ltb o (o + suc i) (omega arith) in
    let same : suc o + i ≡ o + suc i = omega arith in
    notified_at hs cs ss (suc o) i c are.1 (omega (arith, l)) e is
    (ap (λ m. all_notified hs (step_along ss (suc o) m).task.notifies) same ∙ ap (λ (y : flat.Step). all_notified hs y.task.notifies) (sym (ap (λ b. cond b (step_along ss (suc o) (o + suc i)) x) behind)) ∙ told)

-- the job that is out
pub job_is : (reading : Reading (Vec Pass Global)) (ticket attempts calls : ℕ) (ps : Vec Pass Global) (g : Stage (Vec Pass Global)) (f : FlatStage) (n i : ℕ) (qs : List started.Pass)
    → g ≡ Runs ticket attempts calls ps → f ≡ works n i qs → IsStage reading g f → (i ≡ attempts) × (qs ≡ reading.passes ps)
job_is reading ticket attempts calls ps g f n i qs e d is =
    let both = subst (λ x. IsStage reading (Runs ticket attempts calls ps) x) d (subst (λ x. IsStage reading x f) e is) in
    (both.0, both.1)
