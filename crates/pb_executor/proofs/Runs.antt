-- What holds of every run of what was accepted.
use Rattle.std.proofs.Common.{◌≡◌, ◌<◌, ◌≤◌, ℕ, List, length, true, refl, sym, ap, ◌∙◌, arith}
use Rattle.std.proofs.lemmas.List.{length-map}
use Rattle.pb_language.specs.Judged.{judged}
use Rattle.pb_language.specs.Machine.{Event}
use Rattle.pb_language.specs.Verdict.{accepted}
use Rattle.pb_language.proofs.After.{after_claim}
use Rattle.pb_language.proofs.Given.{give_claim}
use Rattle.pb_language.proofs.Least.{progress}
use Rattle.pb_language.proofs.Short.{short_history_from}
use Rattle.pb_language.proofs.Sound.{never_stuck_from, within_budget_from}
use Rattle.pb_language.proofs.Started.{start_claim}
use Rattle.pb_sig.specs.Modules.{modules_of}
use Rattle.pb_inventory.specs.Inventory.{inventory_view}
use Rattle.pb_book.specs.Books.{book_view}
use Rattle.pb_hosts.proofs.Distinct.{distinct_hosts}
use Rattle.pb_history.specs.Jobs.{is_out_at}
use Rattle.pb_verify.specs.Judges.{is_accepted}
use Rattle.pb_verify.specs.declared.checked.Accepted.{Accepted}
use Rattle.pb_verify.proofs.Verdicts.{accepts-accepted}
use Rattle.pb_run.specs.Calls.{IsWaiting}
use Rattle.pb_run.specs.Openings.{AllEnabled, IsNeverStuck, state_after}
use Rattle.pb_run.specs.Recorded.{data_of, event_data, is_none}
use Rattle.pb_executor.specs.Sound.{IsSound}
use Rattle.pb_executor.specs.States.{RunState, opening_of, state_of}
use Rattle.pb_executor.proofs.Waiting.{cannot_go_on, some_out}

module _ (r : RunState) (h : is_accepted r.accepted ≡ true) where
  abbrev a : Accepted
  a = r.accepted

  judged_accepted : judged (modules_of a.registry) (inventory_view a.inventory) (book_view a.book) ≡ accepted a.budget
  judged_accepted = accepts-accepted a.budget (judged (modules_of a.registry) (inventory_view a.inventory) (book_view a.book)) h

  never : IsNeverStuck (opening_of r)
  never es = never_stuck_from after_claim start_claim give_claim (modules_of a.registry) (inventory_view a.inventory) (book_view a.book) a.budget r.forks es (distinct_hosts a.inventory) judged_accepted

  pub never_stuck : IsNeverStuck (opening_of r)
  never_stuck = never

  pub within : (es : List Event) → (state_after (opening_of r) es).handed ≤ a.budget
  within es = within_budget_from after_claim start_claim give_claim (modules_of a.registry) (inventory_view a.inventory) (book_view a.book) a.budget r.forks es (distinct_hosts a.inventory) judged_accepted

  pub is_sound : AllEnabled (opening_of r) (data_of r.history) → IsSound r
  is_sound enabled =
      let few = short_history_from (never_stuck_from after_claim start_claim give_claim) (modules_of a.registry) (inventory_view a.inventory) (book_view a.book) a.budget r.forks (data_of r.history) (distinct_hosts a.inventory) judged_accepted in
      record {
        enabled = enabled;
        never_stuck = never (data_of r.history);
        within = within (data_of r.history);
        short = omega (arith, few, ap length enabled, length-map r.history event_data);
      }

  -- a run waits only while a job is out
  pub waits_out : 0 < r.forks → IsWaiting (state_of r) → (k : ℕ) × (is_out_at k (state_of r) ≡ true)
  waits_out forks w =
      let s = state_of r in
      some_out s.hosts
      (λ none. cannot_go_on s w.none w.busy
      (progress (modules_of a.registry) (inventory_view a.inventory) (book_view a.book) r.forks (data_of r.history) (omega (arith, forks)) s refl w.going (λ e. sym w.left ∙ ap is_none e) none))
