-- The machine of a run, after the Turns that happened, and after a Stop.
use Rattle.std.proofs.Common.{◌≡◌, ℕ, zero, suc, Vec, List, [], ◌∷◌, Bool, true, false, cond, Option, None, Some, IfSome, refl, sym, ap₂, ◌∙◌}
use Rattle.std.specs.declared.alloc.Global.{Global}
use Rattle.pb_language.specs.Machine.{stop, turn}
use Rattle.pb_language.specs.Program.{Batch, Inventory}
use Rattle.pb_machine.specs.Run.{FlatState, enabled, happened, step}
use Rattle.pb_history.specs.Happens.{turned}
use Rattle.pb_history.proofs.Histories.{step_kept}
use Rattle.pb_start.specs.declared.passes.Pass.{Pass}
use Rattle.pb_core.specs.Cores.{tickets_of}
use Rattle.pb_core.specs.Events.{Stops, Turns, TurnsTo, active_in}
use Rattle.pb_core.specs.Readings.{Reading}
use Rattle.pb_core.specs.declared.run.RunCore.{RunCore}
use Rattle.pb_core.proofs.Tickets.{hosts_same}
use Rattle.pb_jobs.specs.Active.{IsActiveBatch}
use Rattle.pb_jobs.specs.Scenes.{IsKept, Kept}
use Rattle.pb_jobs.specs.declared.active.ActiveBatch.{ActiveBatch}
use Rattle.pb_jobs.proofs.Seen.{with_core}

inventory_turned : (n : ℕ) (s : FlatState) → (turned n s).inventory ≡ s.inventory
inventory_turned zero s = refl
inventory_turned (suc n) s = step_kept (turned n s) turn ∙ inventory_turned n s

-- after one Turn that may happen
pub kept_turn : (k : Kept) (core : RunCore (Vec Pass Global)) (reading : Reading (Vec Pass Global)) (s : FlatState)
    → IsKept k reading s → Turns k.core core → tickets_of core ≡ tickets_of k.core → enabled s turn ≡ true → IsKept (with_core k core) reading (step s turn)
kept_turn k core reading s kept turns tickets on = record {
  reads = record { variables = kept.reads.variables; passes = kept.reads.passes; name = kept.reads.name };
  core = turns reading s kept.core on;
  inventory = step_kept s turn ∙ kept.inventory;
  constants = kept.constants;
  count = hosts_same k.core core tickets ∙ kept.count;
}

pub kept_turned : (k : Kept) (core : RunCore (Vec Pass Global)) (reading : Reading (Vec Pass Global)) (s : FlatState) (n : ℕ)
    → IsKept k reading s → TurnsTo n k.core core → tickets_of core ≡ tickets_of k.core → IsKept (with_core k core) reading (turned n s)
kept_turned k core reading s n kept turns tickets = record {
  reads = record { variables = kept.reads.variables; passes = kept.reads.passes; name = kept.reads.name };
  core = turns.core reading s kept.core;
  inventory = inventory_turned n s ∙ kept.inventory;
  constants = kept.constants;
  count = hosts_same k.core core tickets ∙ kept.count;
}

-- after a Stop that may happen
pub kept_stopped : (k : Kept) (core : RunCore (Vec Pass Global)) (reading : Reading (Vec Pass Global)) (s : FlatState)
    → IsKept k reading s → Stops k.core core → tickets_of core ≡ tickets_of k.core → enabled s stop ≡ true → IsKept (with_core k core) reading (step s stop)
kept_stopped k core reading s kept stops tickets on = record {
  reads = record { variables = kept.reads.variables; passes = kept.reads.passes; name = kept.reads.name };
  core = (stops reading s kept.core).0 on;
  inventory = step_kept s stop ∙ kept.inventory;
  constants = kept.constants;
  count = hosts_same k.core core tickets ∙ kept.count;
}

stop_keeps : (q : Bool) (bs : List Batch) (s : FlatState) → ((cond q (happened s bs stop) s).hosts ≡ s.hosts) × ((cond q (happened s bs stop) s).batches ≡ s.batches)
stop_keeps true [] s = (refl, refl)
stop_keeps true (b ∷ bs) s = (refl, refl)
stop_keeps false bs s = (refl, refl)

-- the active hosts stay
pub active_stopped : (o : Option ActiveBatch) (reading : Reading (Vec Pass Global)) (i : Inventory) (s : FlatState)
    → IfSome o (IsActiveBatch reading i s) → IfSome o (IsActiveBatch reading i (step s stop))
active_stopped None reading i s h = tt
active_stopped (Some b) reading i s h =
    let keeps = stop_keeps (enabled s stop) s.batches s in
    record { hosts = h.hosts ∙ sym (ap₂ active_in keeps.0 keeps.1); names = h.names }
