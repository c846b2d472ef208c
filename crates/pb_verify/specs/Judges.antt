-- What it is to judge: what a refusal says of the verdict, and what is so of what was accepted.
use Rattle.std.specs.Prelude.{◌≡◌, ℕ, List, true, Option, Some, None, Bool}
use Rattle.pb_language.specs.Judged.{judged}
use Rattle.pb_language.specs.Machine.{Event, State}
use Rattle.pb_language.specs.Theorem.{run_of}
use Rattle.pb_language.specs.Verdict.{Verdict, refused}
use Rattle.pb_sig.specs.Modules.{modules_of}
use Rattle.pb_inventory.specs.Inventory.{inventory_view}
use Rattle.pb_play.specs.Sound.{AreSound, all_tasks}
use Rattle.pb_book.specs.Books.{book_view, plays_of}
use Rattle.pb_verify.specs.Known.{HasTable}
use Rattle.pb_verify.specs.Meaning.{accepts, refusal_of}
use Rattle.pb_verify.specs.declared.checked.Accepted.{Accepted}
use Rattle.pb_verify.specs.declared.verify.VerifyFault.{VerifyFault}
use Rattle.pb_verify.specs.declared.verify.VerifyFault.TheVariants.{Refused, NoMemory}

-- what was handed in is accepted, with that budget
abbrev pub is_accepted : Accepted → Bool
is_accepted a = accepts a.budget
    (judged (modules_of a.registry) (inventory_view a.inventory) (book_view a.book))

-- the run of what was accepted, after these events
abbrev pub run_of_accepted : Accepted → ℕ → List Event → State
run_of_accepted a forks es =
    run_of (modules_of a.registry) (inventory_view a.inventory) (book_view a.book) forks es

-- it is accepted, each module that it names is in the registry, and what is known of hosts'
-- variables is what the verdict's table says
pub record IsChecked (a : Accepted) : Type 0 where
  pub accepted : is_accepted a ≡ true
  pub sound : AreSound (modules_of a.registry) (all_tasks (plays_of a.book))
  pub table : HasTable a

-- the verdict that refuses so, none for want of memory
abbrev pub refused_verdict : VerifyFault → Option Verdict
refused_verdict (Refused r) = Some (refused (refusal_of r))
refused_verdict NoMemory = None
