-- The machine of a run, as it is opened: nothing is set in any slot.
use Rattle.std.proofs.Common.{◌≡◌, ℕ, zero, suc, List, [], ◌∷◌, Vec, length, map, replicate, Option, Some, None, IfSome, option_map, slice_get, unwrap_or, refl, sym, ap, ◌∙◌}
use Rattle.std.specs.declared.alloc.Global.{Global}
use Rattle.pb_semantics.specs.Data.{Fields, no_fields}
use Rattle.pb_language.specs.Expression.{Name}
use Rattle.pb_language.specs.World.{HostVariables}
use Rattle.pb_slots.specs.Words.{names_of_slots}
use Rattle.pb_value.specs.View.{view}
use Rattle.pb_facts.specs.Facts.{empty_held, row_of}
use Rattle.pb_facts.specs.Variables.{variables_over}
use Rattle.pb_start.specs.declared.passes.Pass.{Pass}
use Rattle.pb_world.specs.Variables.{given_variables, host_variables}
use Rattle.pb_core.specs.Readings.{AreGiven, Reading}
use Rattle.pb_jobs.specs.Scenes.{IsReading, Kept, hosts_of}
use Rattle.pb_core.specs.Cores.{AreOfNoProgram}
use Rattle.pb_core.specs.declared.batch.Schedule.{Schedule}
use Rattle.pb_core.specs.declared.fault.CoreFault.{CoreFault}
use Rattle.pb_core.specs.declared.fault.CoreFault.TheVariants.{Full, Memory, NotThere}
use Rattle.pb_jobs.specs.Faults.{OpensNot}
use Rattle.pb_jobs.proofs.Worlds.{name_there}

unset : (base : Fields) (names : List Name) (n : ℕ) → variables_over base names (map (option_map view) (replicate n None)) ≡ base
unset base [] n = refl
unset base (name ∷ names) zero = refl
unset base (name ∷ names) (suc n) = unset base names n

unset_row : (base : Fields) (names : List Name) (hosts n k : ℕ) → variables_over base names (map (option_map view) (row_of (empty_held hosts n) k)) ≡ base
unset_row base names zero n k = unset base names zero
unset_row base names (suc hosts) n zero = unset base names n
unset_row base names (suc hosts) n (suc k) = unset_row base names hosts n k

-- the hosts are those of the inventory
pub are_given : (k : Kept) (reading : Reading (Vec Pass Global)) (hosts slots : ℕ) → IsReading k reading → k.facts ≡ empty_held hosts slots → hosts ≡ length (hosts_of k) → AreGiven reading hosts (hosts_of k)
are_given k reading hosts slots reads facts count = record {
  count = sym count;
  each = λ i. by i (slice_get (hosts_of k) i) refl;
} where
  by : (i : ℕ) (o : Option HostVariables) → slice_get (hosts_of k) i ≡ o → IfSome o (λ h. (h.name ≡ reading.name i) × (h.variables ≡ reading.variables i))
  by i None e = tt
  by i (Some h) e =
      let there = name_there (hosts_of k) i h e in (
        sym (reads.name i there.0 ∙ there.1),
        sym (reads.variables i ∙ ap (λ held. host_variables (hosts_of k) (names_of_slots k.slots) held i) facts
            ∙ unset_row (given_variables (hosts_of k) i) (names_of_slots k.slots) hosts slots i ∙ ap (λ o. unwrap_or (option_map (λ (x : HostVariables). x.variables) o) no_fields) e),
      )

-- what a fault says as the machine is opened
pub opens_not : (schedule : Schedule) (e : CoreFault) → (e ≡ NotThere → AreOfNoProgram schedule.plays.items schedule.batches.items) → (e ≡ Full → ⊥) → OpensNot schedule e
opens_not schedule (Memory m) none full = tt
opens_not schedule NotThere none full = none refl
opens_not schedule Full none full = full refl
