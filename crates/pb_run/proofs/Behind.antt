-- What is recorded once Turns have happened in the machine that the history doesn't have yet.
use Rattle.std.proofs.Common.{◌≡◌, ℕ, ◌+◌, List, Vec, set, get_or, Option, None, IfSome, refl, sym, ap, subst, ◌∙◌}
use Rattle.std.specs.declared.alloc.Global.{Global}
use Rattle.pb_history.specs.Happens.{turned}
use Rattle.pb_inventory.specs.Inventory.{inventory_view}
use Rattle.pb_core.specs.Cores.{tickets_of}
use Rattle.pb_core.specs.Formers.{before_turns}
use Rattle.pb_core.specs.declared.turns.Turned.{Turned}
use Rattle.pb_jobs.specs.Active.{IsActiveBatch}
use Rattle.pb_jobs.specs.Machines.{BeginsAfter, BeginsAs, CountsMore, HasBegun, IsBefore, IsSameBut, TurnsAllAs}
use Rattle.pb_jobs.specs.declared.active.ActiveBatch.{ActiveBatch}
use Rattle.pb_jobs.specs.declared.job.Call.{Call}
use Rattle.pb_jobs.specs.declared.machine.Machine.{Machine}

pub same_machine : (m : Machine) → IsSameBut m m
same_machine m = record {
  inventory = refl;
  slots = refl;
  constants = refl;
  facts = refl;
  core = refl;
  calls = refl;
  batch = λ reading s is. is.batch;
}

-- the Turns are taken back
pub machine_back : (t : Turned) (old turned now new : Machine) → IsBefore t turned old → IsSameBut turned now → IsBefore t now new → new.batch ≡ None → IsSameBut old new
machine_back t old turned now new before same back none = record {
  inventory = back.inventory ∙ same.inventory ∙ sym before.inventory;
  slots = back.slots ∙ same.slots ∙ sym before.slots;
  constants = back.constants ∙ same.constants ∙ sym before.constants;
  facts = back.facts ∙ same.facts ∙ sym before.facts;
  core = back.core ∙ ap (before_turns t) same.core ∙ sym before.core;
  calls = back.calls ∙ same.calls ∙ sym before.calls;
  batch = λ reading s is. subst (λ (o : Option ActiveBatch). IfSome o (IsActiveBatch reading (inventory_view new.inventory.now) s)) (sym none) tt;
}

-- a Start after the Turns, seen from before them
module _ (n k : ℕ) (old now new : Machine) (turns : TurnsAllAs n old now) where
  pub begins_after : (cs : List Call) → BeginsAs k cs now new → BeginsAfter n k cs old new
  begins_after cs begins reading s is may fine =
      subst (λ (xs : Vec ℕ Global). HasBegun k cs (get_or xs.items k 0) new reading may) turns.calls (begins reading (turned n s) (turns.machine reading s is) may fine)

  pub tickets_after : (t : Option ℕ) → tickets_of new.core ≡ set (tickets_of now.core) k t → tickets_of new.core ≡ set (tickets_of old.core) k t
  tickets_after t e = e ∙ ap (λ ts. set ts k t) turns.tickets

  pub counts_after : (many : ℕ) → CountsMore k many now new → CountsMore k many old new
  counts_after many e = record {
    calls = e.calls ∙ ap (λ (xs : Vec ℕ Global). set xs.items k (get_or xs.items k 0 + many)) turns.calls;
    slots = e.slots ∙ turns.slots;
  }
