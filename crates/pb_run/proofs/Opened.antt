-- A machine that was opened is recorded: nothing has happened yet.
use Rattle.std.proofs.Common.{◌≡◌, ℕ, zero, suc, List, [], ◌∷◌, Vec, length, map, replicate, get_or, true, false, Some, None, is_some, refl, sym, ap, subst, ◌∙◌, arith}
use Rattle.std.specs.declared.alloc.Global.{Global}
use Rattle.std.proofs.lemmas.List.{length-map}
use Rattle.pb_language.specs.Program as program
use Rattle.pb_language.specs.Program.{all_batches}
use Rattle.pb_language.specs.Theorem.{are_distinct, host_names}
use Rattle.pb_language.specs.World.{HostVariables}
use Rattle.pb_machine.specs.Run as flat
use Rattle.pb_machine.specs.Run.{FlatState}
use Rattle.pb_history.specs.Jobs.{is_out_at}
use Rattle.pb_history.specs.Numbers.{numbered}
use Rattle.pb_history.proofs.Numbers.{name_within, numbers_distinct}
use Rattle.pb_inventory.specs.Inventory.{inventory_view}
use Rattle.pb_inventory.specs.declared.inventory.Inventory.{Inventory}
use Rattle.pb_slots.specs.Words.{names_of_slots}
use Rattle.pb_start.specs.Passes.{pass_view}
use Rattle.pb_start.specs.declared.passes.Pass.{Pass}
use Rattle.pb_world.specs.Hosts.{AreNamed, names_of_hosts}
use Rattle.pb_world.specs.Variables.{host_variables}
use Rattle.pb_core.specs.Cores.{tickets_of}
use Rattle.pb_core.specs.Readings.{Reading}
use Rattle.pb_core.specs.declared.batch.Schedule.{Schedule}
use Rattle.pb_jobs.specs.Machines.{IsMachine, OpensAs, kept_in}
use Rattle.pb_jobs.specs.Scenes.{IsReading}
use Rattle.pb_jobs.specs.declared.machine.Machine.{Machine}
use Rattle.pb_run.specs.Openings.{Opening, state_after}
use Rattle.pb_run.specs.Recorded.{IsScheduled, Stands}
use Rattle.pb_run.proofs.Events.{with_going}
use Rattle.pb_run.proofs.Stories.{out_at}

listed : (hs : List HostVariables) → host_names hs ≡ names_of_hosts hs
listed [] = refl
listed (h ∷ hs) = ap (λ ns. h.name ∷ ns) (listed hs)

none_at : {A : Type 0} → (n k : ℕ) (x : A) → get_or (replicate n x) k x ≡ x
none_at zero k x = refl
none_at (suc n) zero x = refl
none_at (suc n) (suc k) x = none_at n k x

abbrev blank : program.Inventory → ℕ → FlatState
blank inventory forks = record {
  inventory = inventory;
  forks = forks;
  hosts = flat.opening_hosts inventory.hosts;
  batches = [];
  handed = 0;
  is_stuck = false;
  is_stopped = false;
}

module _ (i : Inventory) (schedule : Schedule) (forks : ℕ) (m : Machine) (o : Opening) (is : IsScheduled i schedule forks o) (opens : OpensAs schedule forks m) (inventory : m.inventory.now ≡ i)
    (tickets : tickets_of m.core ≡ replicate (length (inventory_view i).hosts) None) (calls : m.calls.items ≡ replicate (length (inventory_view i).hosts) 0) where
  abbrev hosts : List HostVariables
  hosts = (inventory_view m.inventory.now).hosts

  same : o.inventory ≡ inventory_view m.inventory.now
  same = is.inventory ∙ ap inventory_view (sym inventory)

  distinct : are_distinct (names_of_hosts hosts) ≡ true
  distinct = ap are_distinct (sym (listed hosts)) ∙ ap (λ (x : program.Inventory). are_distinct (host_names x.hosts)) (sym same) ∙ is.distinct

  abbrev reading : Reading (Vec Pass Global)
  reading = record {
    variables = host_variables hosts (names_of_slots m.slots) m.facts;
    passes = λ ps. map pass_view ps.items;
    name = numbered (names_of_hosts hosts);
    distinct = numbers_distinct (names_of_hosts hosts) distinct;
  }

  reads : IsReading (kept_in m) reading
  reads = record {
    variables = λ k. refl;
    passes = λ ps. refl;
    name = λ k l. name_within (names_of_hosts hosts) k (omega (arith, l, length-map hosts (λ (h : HostVariables). h.name)));
  }

  named : AreNamed reading.name o.inventory.hosts
  named = subst (λ (x : program.Inventory). AreNamed reading.name x.hosts) (sym same) reads.name

  opened : IsMachine m reading (flat.opening o.program o.inventory o.forks)
  opened =
      subst (λ n. IsMachine m reading (flat.opening o.program o.inventory n)) (sym is.forks_are)
      (subst (λ x. IsMachine m reading (flat.opening o.program x forks)) (sym same) (opens reading o.program reads (is.batches reading.name named)))

  pub is_opened : Stands o [] m false
  is_opened = record {
    reading = reading;
    machine = opened;
    enabled = refl;
    is_stopped = with_going (blank o.inventory o.forks) (all_batches o.program);
    tickets = λ k p e. let no : None ≡ Some p = sym (ap (λ ts. get_or ts k None) tickets ∙ none_at (length (inventory_view i).hosts) k None) ∙ e in cc;
    counts = λ k l. ap (λ cs. get_or cs k 0) calls ∙ none_at (length (inventory_view i).hosts) k 0;
  }

  pub none_out : (k : ℕ) → is_out_at k (state_after o []) ≡ false
  none_out k = out_at o [] m false is_opened k ∙ ap (λ ts. is_some (get_or ts k None)) tickets ∙ ap is_some (none_at (length (inventory_view i).hosts) k None)
