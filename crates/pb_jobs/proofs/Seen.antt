-- What is seen of the machine of a run, and what it keeps as events happen.
use Rattle.std.proofs.Common.{◌≡◌, [], ◌∷◌, Vec, length, map, true, nat_lt, sym, ap, ap₂, subst, ◌∙◌}
use Rattle.std.specs.List.{list_all}
use Rattle.std.specs.declared.alloc.Global.{Global}
use Rattle.pb_language.specs.Machine.{Event}
use Rattle.pb_machine.specs.Run.{FlatState, step}
use Rattle.pb_inventory.specs.Inventory.{inventory_view}
use Rattle.pb_inventory.specs.declared.inventory.Inventory.{Inventory}
use Rattle.pb_slots.specs.declared.slots.Slots.{Slots}
use Rattle.pb_world.specs.declared.constants.Constants.{Constants}
use Rattle.pb_facts.specs.Facts.{Held}
use Rattle.pb_history.proofs.Histories.{inventory_stays}
use Rattle.pb_start.specs.declared.passes.Pass.{Pass}
use Rattle.pb_value.specs.View.{view}
use Rattle.pb_world.specs.Constants.{names_data}
use Rattle.pb_core.specs.Cores.{IsCore}
use Rattle.pb_core.specs.Readings.{Reading}
use Rattle.pb_core.specs.declared.run.RunCore.{RunCore}
use Rattle.pb_jobs.specs.Active.{IsActiveBatch}
use Rattle.pb_jobs.specs.Machines.{IsMachine, IsSameBut, IsSceneOf, kept_in}
use Rattle.pb_jobs.specs.Scenes.{IsKept, IsReading, IsScene, Kept, kept_by}
use Rattle.pb_jobs.specs.declared.active.ActiveBatch.{ActiveBatch}
use Rattle.pb_jobs.specs.declared.machine.Machine.{Machine}
use Rattle.pb_jobs.specs.declared.scene.RunScene.{RunScene}

-- the same is kept with hosts at another core
abbrev pub with_core : Kept → RunCore (Vec Pass Global) → Kept
with_core k core = record k { core = core }

-- what is seen of a machine is its state
pub scene_is : (m : Machine) (core : RunCore (Vec Pass Global)) (b : ActiveBatch) (c : RunScene) (reading : Reading (Vec Pass Global)) (s : FlatState)
    → IsKept (with_core (kept_in m) core) reading s → IsSceneOf m core b c → IsActiveBatch reading (inventory_view m.inventory.now) s b
    → b.hosts.hosts ≡ length (inventory_view m.inventory.now).hosts → IsScene c reading s
scene_is m core b c reading s kept of active many =
    let same : kept_by c ≡ with_core (kept_in m) core = kept_same c.world.variables.inventory.now m.inventory.now c.world.variables.slots.now m.slots c.world.variables.facts.now m.facts c.world.constants.now m.constants c.core.now core
    of.inventory of.slots of.facts of.constants of.core in
    record {
      kept = subst (λ (k : Kept). IsKept k reading s) (sym same) kept;
      hosts = ap (λ a. map reading.name a.members) of.active ∙ active.hosts;
      names = ap (λ v. view v) of.names ∙ active.names ∙ ap₂ (λ i a. names_data i a.members) (sym kept.inventory) (sym of.active);
      within = subst (λ n. list_all (λ k. nat_lt k n) c.world.active.now.members ≡ true) (many ∙ ap (λ i. length (inventory_view i).hosts) (sym of.inventory))
          (subst (λ a. list_all (λ k. nat_lt k b.hosts.hosts) a.members ≡ true) (sym of.active) b.within);
    } where
      kept_same : (i j : Inventory) (q r : Slots) (f g : Held) (d e : Constants) (x y : RunCore (Vec Pass Global)) → i ≡ j → q ≡ r → f ≡ g → d ≡ e → x ≡ y
          → ◌≡◌ {A = Kept} (record { inventory = i; slots = q; facts = f; constants = d; core = x }) (record { inventory = j; slots = r; facts = g; constants = e; core = y })
      kept_same i j q r f g d e x y a b' c' d' e' n = record { inventory = a n; slots = b' n; facts = c' n; constants = d' n; core = e' n }

-- nothing changed but whether the active hosts are known
pub machine_same : (old new : Machine) (reading : Reading (Vec Pass Global)) (s : FlatState) → IsSameBut old new → IsMachine old reading s → IsMachine new reading s
machine_same old new reading s same is = record {
  kept = rw (same.inventory, same.slots, same.constants, same.facts, same.core) is.kept;
  batch = same.batch reading s is;
}

-- an event happened to the hosts alone, and to what is set in their slots
pub kept_stepped : (k : Kept) (facts : Held) (core : RunCore (Vec Pass Global)) (old new : Reading (Vec Pass Global)) (s : FlatState) (e : Event)
    → IsKept k old s → IsReading (record k { facts = facts }) new → IsCore new core (step s e) → length core.hosts.items ≡ length k.core.hosts.items
    → IsKept (record k { facts = facts; core = core }) new (step s e)
kept_stepped k facts core old new s e kept reads is count = record {
  reads = record { variables = reads.variables; passes = reads.passes; name = reads.name };
  core = is;
  inventory = inventory_stays s (e ∷ []) ∙ kept.inventory;
  constants = kept.constants;
  count = count ∙ kept.count;
}
