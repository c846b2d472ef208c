-- A run of what was accepted is never stuck, and stays within the budget.
use Rattle.std.proofs.Common.{◌≡◌, ◌≤◌, ℕ, List, true, false}
use Rattle.pb_language.specs.Judged.{judged}
use Rattle.pb_language.specs.Machine.{Event}
use Rattle.pb_language.specs.Verdict.{accepted}
use Rattle.pb_language.proofs.After.{after_claim}
use Rattle.pb_language.proofs.Given.{give_claim}
use Rattle.pb_language.proofs.Sound.{never_stuck_from, within_budget_from}
use Rattle.pb_language.proofs.Started.{start_claim}
use Rattle.pb_sig.specs.Modules.{modules_of}
use Rattle.pb_inventory.specs.Inventory.{inventory_view}
use Rattle.pb_book.specs.Books.{book_view}
use Rattle.pb_hosts.proofs.Distinct.{distinct_hosts}
use Rattle.pb_verify.specs.Judges.{is_accepted, run_of_accepted}
use Rattle.pb_verify.specs.declared.checked.Accepted.{Accepted}
use Rattle.pb_verify.proofs.Verdicts.{accepts-accepted}

module _ (a : Accepted) (h : is_accepted a ≡ true) where
  judged-accepted : judged (modules_of a.registry) (inventory_view a.inventory) (book_view a.book) ≡ accepted a.budget
  judged-accepted = accepts-accepted a.budget (judged (modules_of a.registry) (inventory_view a.inventory) (book_view a.book)) h

  module _ (forks : ℕ) (es : List Event) where
    pub is_stuck-accepted : (run_of_accepted a forks es).is_stuck ≡ false
    is_stuck-accepted = never_stuck_from after_claim start_claim give_claim (modules_of a.registry) (inventory_view a.inventory) (book_view a.book) a.budget forks es (distinct_hosts a.inventory) judged-accepted

    pub handed-accepted : (run_of_accepted a forks es).handed ≤ a.budget
    handed-accepted = within_budget_from after_claim start_claim give_claim (modules_of a.registry) (inventory_view a.inventory) (book_view a.book) a.budget forks es (distinct_hosts a.inventory) judged-accepted
