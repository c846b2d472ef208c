-- The machine of a run goes on as pb_machine's, and what a host's task sees of it.
use Rattle.std.proofs.Common.{◌≡◌, ℕ, zero, suc, ◌+◌, Bool, List, [], ◌∷◌, Vec, length, map, true, false, not, ◌&&◌, nat_eq, cond, Option, Some, None, IfSome, refl, sym, ap, ◌∙◌, arith}
use Rattle.std.proofs.lemmas.List.{length-map}
use Rattle.std.specs.declared.alloc.Global.{Global}
use Rattle.pb_semantics.specs.Data.{Fields}
use Rattle.pb_language.specs.Cases.{action_name}
use Rattle.pb_language.specs.Give.{Answer, Ended, any_changed, any_failed, asks_again, last_attempts}
use Rattle.pb_language.specs.Machine.{Event, give, notified_by}
use Rattle.pb_language.specs.Notify.{handlers_are}
use Rattle.pb_language.specs.Program.{Batch, Inventory}
use Rattle.pb_machine.specs.Hosts.{FlatHost, arrived, left_play, stands, works}
use Rattle.pb_machine.specs.Run.{FlatState, after_task, host_at, is_on, is_on_stage, plan_steps, put_host, step, target_on}
use Rattle.pb_history.specs.Happens.{Comes, Works, answered, left_by, step_in}
use Rattle.pb_history.proofs.Actives.{still_put}
use Rattle.pb_facts.specs.Facts.{Held}
use Rattle.pb_slots.specs.Words.{names_of_slots}
use Rattle.pb_start.specs.declared.passes.Pass.{Pass}
use Rattle.pb_world.specs.Variables.{host_variables}
use Rattle.pb_core.specs.Readings.{Reading, with_variables}
use Rattle.pb_core.specs.Entries.{on_at}
use Rattle.pb_core.specs.Hosts.{left_recap}
use Rattle.pb_core.specs.Events.{active_in}
use Rattle.pb_core.proofs.Hosts.{arrived_kept}
use Rattle.pb_core.specs.declared.outcome.TaskOutcome.{TaskOutcome}
use Rattle.pb_core.proofs.Steps.{steps_again, steps_left, steps_settled}
use Rattle.pb_jobs.specs.Active.{IsActiveBatch}
use Rattle.pb_jobs.specs.Scenes.{IsReading, Kept, hosts_of}
use Rattle.pb_jobs.specs.Calls.{call_data}
use Rattle.pb_jobs.specs.Machines.{AreCallsOf}
use Rattle.pb_jobs.specs.Tasks.{EndsSo, Repeats}
use Rattle.pb_jobs.specs.declared.active.ActiveBatch.{ActiveBatch}
use Rattle.pb_jobs.specs.declared.job.Call.{Call}
use Rattle.pb_jobs.proofs.Begins.{calls_many}

-- a host gave way to one that is active where it was
active_put : (k : ℕ) (h g : FlatHost) (hs : List FlatHost) (bs : List Batch) → host_at k hs ≡ Some h → g.name ≡ h.name → is_on g ≡ is_on h → active_in (put_host k g hs) bs ≡ active_in hs bs
active_put k h g hs [] there name on = refl
active_put k h g hs (b ∷ bs) there name on = still_put k h g hs b.members there name on

put_here : (k : ℕ) (h g : FlatHost) (hs : List FlatHost) → host_at k hs ≡ Some h → host_at k (put_host k g hs) ≡ Some g
put_here k h g [] e = cc
put_here zero h g (x ∷ hs) e = refl
put_here (suc k) h g (x ∷ hs) e = put_here k h g hs e

-- so the active hosts stay as they are known
pub active_stays : (old new : Reading (Vec Pass Global)) (i : Inventory) (s t : FlatState) → new.name ≡ old.name → active_in t.hosts t.batches ≡ active_in s.hosts s.batches
    → (b : ActiveBatch) → IsActiveBatch old i s b → IsActiveBatch new i t b
active_stays old new i s t name same b is = record {
  hosts = ap (λ f. map f b.hosts.members) name ∙ is.hosts ∙ sym same;
  names = is.names;
}

-- what is known stays known, and nothing is known of hosts that are to be looked for
pub known_if : (q : Bool) (A B : ActiveBatch → Type 0) (o : Option ActiveBatch) → (q ≡ false → (b : ActiveBatch) → A b → B b) → IfSome o A → IfSome (cond q None o) B
known_if true A B o stays is = tt
known_if false A B None stays is = tt
known_if false A B (Some b) stays is = stays refl b is

module _ (s : FlatState) (k : ℕ) (w : Works s k) (xs : List Answer) (es : List Ended) (comes : Comes w xs es) where
  -- where the calls are made again
  pub active_again : asks_again (step_in w).task w.attempts es ≡ true → active_in (step s (give k xs)).hosts (step s (give k xs)).batches ≡ active_in s.hosts s.batches
  active_again again =
      ap (λ t. active_in t.hosts t.batches) (steps_again s k w xs es comes again)
      ∙ active_put k w.host (record w.host { stage = works w.node (suc w.attempts) w.passes }) s.hosts s.batches w.there refl (sym (ap is_on_stage w.stage))

  -- and where the task ended, and the host didn't leave
  pub active_settled : (ms : List ℕ) → asks_again (step_in w).task w.attempts es ≡ false → notified_by w.batch.play (step_in w).task (any_changed (last_attempts es) && not (any_failed (last_attempts es))) ≡ handlers_are ms
      → true ≡ on_at (host_at k (step s (give k xs)).hosts) → active_in (step s (give k xs)).hosts (step s (give k xs)).batches ≡ active_in s.hosts s.batches
  active_settled ms last notified here =
      let h = after_task w.host (step_in w).task (last_attempts es) ms in
      let to = target_on (step_in w) (last_attempts es) in
      let g = arrived (plan_steps w.batch) to h in
      let goes = steps_settled s k w xs es ms comes last notified in
      let on : true ≡ is_on g = here ∙ ap (λ t. on_at (host_at k t.hosts)) goes ∙ ap on_at (put_here k w.host g s.hosts w.there) in
      ap (λ t. active_in t.hosts t.batches) goes
      ∙ active_put k w.host g s.hosts s.batches w.there (arrived_kept (plan_steps w.batch) to h).name (sym on ∙ sym (ap is_on_stage w.stage))

-- the variables that a host's task set are read
pub reads_written : (k : Kept) (facts : Held) (reading : Reading (Vec Pass Global)) (n : ℕ) (fs : Fields) → IsReading k reading
    → ((i : ℕ) → host_variables (hosts_of k) (names_of_slots k.slots) facts i ≡ cond (nat_eq i n) fs (host_variables (hosts_of k) (names_of_slots k.slots) k.facts i))
    → IsReading (record k { facts = facts }) (with_variables n fs reading)
reads_written k facts reading n fs reads written = record {
  variables = λ i. ap (cond (nat_eq i n) fs) (reads.variables i) ∙ sym (written i);
  passes = reads.passes;
  name = reads.name;
}

-- what a Give changes: the hosts, and where the calls are made again the count of calls
pub record Changes (s : FlatState) (e : Event) (n : ℕ) : Type 0 where
  pub hosts : List FlatHost
  pub steps : step s e ≡ record s { hosts = hosts; handed = s.handed + n }

no_more : (s : FlatState) (hs : List FlatHost) → record s { hosts = hs } ≡ record s { hosts = hs; handed = s.handed + 0 }
no_more s hs = let same : s.handed ≡ s.handed + 0 = omega arith in ap (λ n. record s { hosts = hs; handed = n }) same

pub changes_left : (s : FlatState) (k : ℕ) (w : Works s k) (xs : List Answer) (is_reached : Bool) → answered w xs ≡ left_by is_reached → Changes s (give k xs) 0
changes_left s k w xs is_reached e =
    let hs = put_host k (record w.host { stage = stands left_play; recap = left_recap is_reached w.host.recap }) s.hosts in
    record { hosts = hs; steps = steps_left s k w xs is_reached e ∙ no_more s hs }

pub changes_settled : (s : FlatState) (k : ℕ) (w : Works s k) (xs : List Answer) (o : TaskOutcome) (ws : Fields) → EndsSo w xs o ws → Changes s (give k xs) 0
changes_settled s k w xs o ws e =
    let es = last_attempts e.results in
    let hs = put_host k (arrived (plan_steps w.batch) (target_on (step_in w) es) (after_task w.host (step_in w).task es o.notified.items)) s.hosts in
    record { hosts = hs; steps = steps_settled s k w xs e.results o.notified.items e.comes e.last e.notified ∙ no_more s hs }

pub changes_again : (s : FlatState) (k : ℕ) (w : Works s k) (xs : List Answer) (before : ℕ) (cs : List Call) → Repeats w xs → AreCallsOf w before cs → Changes s (give k xs) (length cs)
changes_again s k w xs before cs again calls =
    let hs = put_host k (record w.host { stage = works w.node (suc w.attempts) w.passes }) s.hosts in
    record {
      hosts = hs;
      steps = steps_again s k w xs again.0 again.1 again.2
          ∙ ap (λ n. record s { hosts = hs; handed = s.handed + n })
          (sym (calls_many k w.host.name (action_name (step_in w).task.action) w.passes before) ∙ ap length (sym calls) ∙ length-map cs call_data);
    }
