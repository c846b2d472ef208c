-- The machine of a run, when a host's task begins.
use Rattle.std.proofs.Common.{◌≡◌, ℕ, suc, List, [], ◌∷◌, Vec, length, set, ◌+◌, false, Option, Some, IfSome, refl, sym, ap, ap₂, subst, ◌∙◌, arith}
use Rattle.std.specs.declared.alloc.Global.{Global}
use Rattle.std.proofs.lemmas.List.{length-map}
use Rattle.pb_language.specs.Cases.{action_name}
use Rattle.pb_language.specs.Machine.{start}
use Rattle.pb_language.specs.Program as program
use Rattle.pb_language.specs.Start as started
use Rattle.pb_language.specs.Expression.{Name}
use Rattle.pb_language.specs.Start.{call_count, is_call, planned}
use Rattle.pb_machine.specs.Hosts.{works}
use Rattle.pb_machine.specs.Run.{FlatState, is_on_stage, put_host, step}
use Rattle.pb_inventory.specs.Inventory.{inventory_view}
use Rattle.pb_history.specs.Happens.{MayStart, Starts, task_of_start}
use Rattle.pb_history.specs.Jobs.{CallData, entry_calls, pass_calls}
use Rattle.pb_history.proofs.Actives.{still_put}
use Rattle.pb_history.proofs.Starts.{starts_are_planned}
use Rattle.pb_start.specs.declared.passes.Pass.{Pass}
use Rattle.pb_core.specs.Cores.{tickets_of}
use Rattle.pb_core.specs.Events.{Begins, active_in}
use Rattle.pb_core.specs.Readings.{Reading}
use Rattle.pb_core.specs.declared.run.RunCore.{RunCore}
use Rattle.pb_core.proofs.Steps.{steps_start}
use Rattle.pb_core.proofs.Tickets.{hosts_stay}
use Rattle.pb_jobs.specs.Active.{IsActiveBatch}
use Rattle.pb_jobs.specs.Calls.{call_data}
use Rattle.pb_jobs.specs.Machines.{HasBegun, IsSceneOf, kept_in}
use Rattle.pb_jobs.specs.Scenes.{IsKept, Kept}
use Rattle.pb_jobs.specs.Tasks.{StartsAs, handed_at}
use Rattle.pb_jobs.specs.declared.active.ActiveBatch.{ActiveBatch}
use Rattle.pb_jobs.specs.declared.machine.Machine.{Machine}
use Rattle.pb_jobs.specs.declared.scene.RunScene.{RunScene}
use Rattle.pb_jobs.specs.declared.start.Begun.{Begun}
use Rattle.pb_jobs.proofs.Seen.{kept_stepped, scene_is, with_core}

-- a host that may start begins: the active hosts are the same
pub active_begun : (reading : Reading (Vec Pass Global)) (i : program.Inventory) (s : FlatState) (k : ℕ) (ps : List started.Pass) (b : ActiveBatch) → Starts s k ps → IsActiveBatch reading i s b → IsActiveBatch reading i (step s (start k)) b
active_begun reading i s k ps b w active = record {
  hosts = active.hosts ∙ ap (active_in s.hosts) w.batches ∙ sym (still_put k w.host (record w.host { stage = works w.node 0 ps }) s.hosts w.batch.members w.there refl (ap is_on_stage (sym w.stage)))
      ∙ sym (ap (λ (t : FlatState). active_in t.hosts t.batches) (steps_start s k ps w) ∙ ap (active_in (put_host k (record w.host { stage = works w.node 0 ps }) s.hosts)) w.batches);
  names = active.names;
}

-- as many calls as are counted
entry_many : (k : ℕ) (host m : Name) (e : started.Entry) (more : ℕ → List CallData) (n c : ℕ) → ((j : ℕ) → length (more j) ≡ c) → length (entry_calls k host m e more n) ≡ is_call e + c
entry_many k host m started.skips more n c many = let rest = many n in omega (arith, rest)
entry_many k host m (started.acts sh fs gs) more n c many = let rest = many n in omega (arith, rest)
entry_many k host m (started.calls d) more n c many = let rest = many (suc n) in omega (arith, rest)

pub calls_many : (k : ℕ) (host m : Name) (ps : List started.Pass) (n : ℕ) → length (pass_calls k host m ps n) ≡ call_count ps
calls_many k host m [] n = refl
calls_many k host m (p ∷ ps) n = entry_many k host m p.entry (pass_calls k host m ps) n (call_count ps) (λ j. calls_many k host m ps j)

-- a host whose task was seen before its Start has begun
pub has_begun : (old new : Machine) (core : RunCore (Vec Pass Global)) (b : ActiveBatch) (c : RunScene) (begun : Begun) (reading : Reading (Vec Pass Global)) (s : FlatState) (k t n before : ℕ)
    → IsKept (with_core (kept_in old) core) reading s → IsActiveBatch reading (inventory_view old.inventory.now) s b → b.hosts.hosts ≡ length (inventory_view old.inventory.now).hosts
    → IsSceneOf old core b c → StartsAs c k begun → handed_at c k ≡ before
    → Begins k begun.passes n core new.core → n ≡ length begun.calls.items → tickets_of new.core ≡ set (tickets_of core) k (Some t)
    → kept_in new ≡ with_core (kept_in old) new.core → new.batch ≡ Some b → (m : MayStart s k) → (step s (start k)).is_stuck ≡ false
    → HasBegun k begun.calls.items before new reading m
has_begun old new core b c begun reading s k t n before kept active many sees does counted begins count tickets same known m fine =
    let (ps, plans) = starts_are_planned s k m fine in
    let is = does reading s (scene_is old core b c reading s kept sees active many) m ps plans in
    let shown : reading.passes begun.passes ≡ ps = kept.reads.passes begun.passes ∙ is.passes in
    let starts : Starts s k (reading.passes begun.passes) = record {
      batch = m.batch;
      later = m.later;
      host = m.host;
      node = m.node;
      batches = m.batches;
      there = m.there;
      stage = m.stage;
      enabled = m.enabled;
      plans = plans ∙ ap planned (sym shown);
    } in
    let calls : n ≡ call_count (reading.passes begun.passes) =
    count ∙ sym (length-map begun.calls.items call_data) ∙ ap length is.calls ∙ calls_many k m.host.name (action_name (task_of_start m).action) ps (handed_at c k) ∙ ap call_count (sym shown) in
    record {
      machine = record {
        kept = subst (λ (k' : Kept). IsKept k' reading (step s (start k))) (sym same) (kept_stepped (with_core (kept_in old) core) old.facts new.core reading reading s (start k) kept kept.reads (begins reading s kept.core starts calls) (hosts_stay core new.core k (Some t) tickets));
        batch = subst (λ (o : Option ActiveBatch). IfSome o (IsActiveBatch reading (inventory_view new.inventory.now) (step s (start k)))) (sym known)
            (subst (λ i. IsActiveBatch reading (inventory_view i) (step s (start k)) b) (sym (ap (λ k'. k'.inventory) same)) (active_begun reading (inventory_view old.inventory.now) s k (reading.passes begun.passes) b starts active));
      };
      passes = reading.passes begun.passes;
      plans = plans ∙ ap planned (sym shown);
      calls = is.calls ∙ ap₂ (pass_calls k m.host.name (action_name (task_of_start m).action)) (sym shown) counted;
    }
