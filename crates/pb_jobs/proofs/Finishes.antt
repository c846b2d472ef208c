-- What the answers make of a host's job, where the machine of a run has looked for its active hosts.
use Rattle.std.proofs.Common.{◌≡◌, ℕ, ◌+◌, List, Vec, map, length, false, Option, Some, IfSome, get_or, set, sym, ap, subst, ◌∙◌, arith}
use Rattle.std.proofs.lemmas.List.{set-get_or}
use Rattle.std.specs.declared.alloc.Global.{Global}
use Rattle.pb_language.specs.Machine.{give}
use Rattle.pb_machine.specs.Run.{FlatState, step}
use Rattle.pb_history.specs.Happens.{Works}
use Rattle.pb_inventory.specs.Inventory.{inventory_view}
use Rattle.pb_start.specs.declared.passes.Pass.{Pass}
use Rattle.pb_finish.specs.Answers.{answer_data}
use Rattle.pb_finish.specs.declared.answer.Answer.{Answer}
use Rattle.pb_core.specs.Readings.{Reading}
use Rattle.pb_jobs.specs.Active.{IsActiveBatch}
use Rattle.pb_jobs.specs.Machines.{CountsMore, CountsNone, IsMachine, IsSameBut, IsSceneOf}
use Rattle.pb_jobs.specs.Tasks.{FinishesAs, IsFinished}
use Rattle.pb_jobs.specs.declared.active.ActiveBatch.{ActiveBatch}
use Rattle.pb_jobs.specs.declared.finish.Finished.{Finished}
use Rattle.pb_jobs.specs.declared.machine.Machine.{Machine}
use Rattle.pb_jobs.specs.declared.scene.RunScene.{RunScene}
use Rattle.pb_jobs.proofs.Seen.{machine_same, scene_is}

pub comes_so : (old now : Machine) (b : ActiveBatch) (c : RunScene) (k : ℕ) (xs : List Answer) (f g : Finished) → IsSameBut old now → now.batch ≡ Some b → IsSceneOf now now.core b c → FinishesAs c k xs f → f ≡ g
    → (reading : Reading (Vec Pass Global)) (s : FlatState) → IsMachine old reading s → (w : Works s k) → (step s (give k (map answer_data xs))).is_stuck ≡ false
    → IsMachine now reading s × IsFinished w (map answer_data xs) g
comes_so old now b c k xs f g same known sees does is reading s machine w fine =
    let after = machine_same old now reading s same machine in
    let active = subst (λ (o : Option ActiveBatch). IfSome o (IsActiveBatch reading (inventory_view now.inventory.now) s)) known after.batch in
    let many = subst (λ (o : Option ActiveBatch). IfSome o (λ b. b.hosts.hosts ≡ length (inventory_view now.inventory.now).hosts)) known now.each_active in
    (after, subst (IsFinished w (map answer_data xs)) is (does reading s (scene_is now now.core b c reading s after.kept sees active many) w fine))

-- nothing more is counted
none_more : (xs : List ℕ) (k : ℕ) → xs ≡ set xs k (get_or xs k 0 + 0)
none_more xs k = let same : get_or xs k 0 + 0 ≡ get_or xs k 0 = omega arith in sym (ap (set xs k) same ∙ set-get_or xs k 0)

-- what is counted once the active hosts have been looked for
module _ (old now new : Machine) (k : ℕ) (same : IsSameBut old now) where
  pub counts_none : CountsNone now new → CountsMore k 0 old new
  counts_none none = record {
    calls = ap (λ (v : Vec ℕ Global). v.items) (none.calls ∙ same.calls) ∙ none_more old.calls.items k;
    slots = none.slots ∙ same.slots;
  }

  pub counts_same : (n : ℕ) → CountsMore k n now new → CountsMore k n old new
  counts_same n more = record {
    calls = more.calls ∙ ap (λ (v : Vec ℕ Global). set v.items k (get_or v.items k 0 + n)) same.calls;
    slots = more.slots ∙ same.slots;
  }
