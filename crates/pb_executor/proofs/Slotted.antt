-- In every run of what was accepted each variable that a task sets or registers has a slot.
use Rattle.std.proofs.Common.{◌≡◌, ◌<◌, inl, inr, ℕ, suc, ◌+◌, List, [], ◌∷◌, ◌++◌, length, map, Bool, true, false, not, ◌||◌, bytes_eq, nat_lt, cond, Some, None, String, Global, string_bytes, refl, ap, subst, arith}
use Rattle.std.specs.List.{AllByRecursion, position_or_len}
use Rattle.std.specs.Option.{is_some}
use Rattle.std.proofs.lemmas.Bool.{lt-ltb}
use Rattle.pb_semantics.specs.Data.{no_fields}
use Rattle.pb_semantics.specs.Keeps.{is_among}
use Rattle.pb_semantics.proofs.Bools.{and-both, or-left, or-right, untrue}
use Rattle.pb_semantics.proofs.Names.{own_name}
use Rattle.pb_language.specs.Book.{Book, PlayData, Registry}
use Rattle.pb_language.specs.Expression.{Name}
use Rattle.pb_language.specs.Give.{Answer}
use Rattle.pb_language.specs.Machine.{Event}
use Rattle.pb_language.specs.Plays.{pattern_hosts, play_row, play_with, program_of}
use Rattle.pb_language.specs.Program.{Batch, Inventory, all_batches, batches_of}
use Rattle.pb_language.specs.TaskForm.{keys_of}
use Rattle.pb_machine.specs.Run as flat
use Rattle.pb_machine.specs.Run.{plan_steps}
use Rattle.pb_machine.specs.Steps.{Step, play_steps}
use Rattle.pb_machine.specs.Ways.{step_along, step_at}
use Rattle.pb_history.specs.Happens.{Works, step_in}
use Rattle.pb_value.specs.View.{fields_view}
use Rattle.pb_value.specs.declared.value.Value.{Value}
use Rattle.pb_sig.specs.Modules.{modules_of}
use Rattle.pb_inventory.specs.Inventory.{inventory_view}
use Rattle.pb_book.specs.Books.{book_view}
use Rattle.pb_slots.specs.Slots.{slot_in}
use Rattle.pb_written.proofs.Names.{all_there}
use Rattle.pb_written.proofs.Runs.{batch_among, writes_its_own}
use Rattle.pb_steps.specs.Uses.{Among, SomeUses, Writes}
use Rattle.pb_verify.specs.declared.checked.Accepted.{Accepted}
use Rattle.pb_plan.specs.Plays.{SomePlayUses}
use Rattle.pb_core.specs.declared.outcome.TaskOutcome.{TaskOutcome}
use Rattle.pb_world.specs.Writes.{have_slots}
use Rattle.pb_jobs.specs.Tasks.{EndsSo}
use Rattle.pb_run.specs.Openings.{flat_after}
use Rattle.pb_executor.specs.States.{opening_for}

-- a name that is among others has a place there
first_below : (n : Name) (ns : List Name) → is_among n ns ≡ true → position_or_len (bytes_eq n) ns < length ns
first_below n [] h = untrue h
first_below n (m ∷ ns) h = by (bytes_eq n m) (first_below n ns) h where
  by : (q : Bool) → (is_among n ns ≡ true → position_or_len (bytes_eq n) ns < length ns) → q || is_among n ns ≡ true → cond (not q) (1 + position_or_len (bytes_eq n) ns) 0 < suc (length ns)
  by true rest i = omega arith
  by false rest i = omega (arith, rest i)

found : (k n : ℕ) → k < n → is_some (cond (nat_lt k n) (Some k) None) ≡ true
found k n l = ap (λ q. is_some (cond q (Some k) None)) (lt-ltb k n l)

has_slot : (names : List Name) (n : Name) → Among names n → is_some (slot_in names n) ≡ true
has_slot names n h = found (position_or_len (bytes_eq n) names) (length names) (first_below n names h)

all_slotted : (names : List Name) (ws : List (String Global × Value)) → ((n : Name) → Among (keys_of (fields_view ws)) n → Among names n) → have_slots names ws ≡ true
all_slotted names [] all = refl
all_slotted names (w ∷ ws) all =
    let n = string_bytes w.0 in
    let rest = keys_of (fields_view ws) in
    and-both (is_some (slot_in names n)) (have_slots names ws) (has_slot names n (all n (or-left (bytes_eq n n) (is_among n rest) (own_name n))))
    (all_slotted names ws (λ m h. all m (or-right (bytes_eq m n) (is_among m rest) h)))

-- what the task of a node writes some task of the plan does; what is found at no node's number writes nothing
along_uses : (ss : List Step) (o n : ℕ) (x : Name) → Writes (step_along ss o n).task x → SomeUses (map (λ s. s.task) ss) x
along_uses [] o n x h = untrue h
along_uses (s ∷ ss) o n x h = by (nat_lt o n) (along_uses ss (suc o) n x) h where
  by : (q : Bool) → (Writes (step_along ss (suc o) n).task x → SomeUses (map (λ s. s.task) ss) x) → Writes (cond q (step_along ss (suc o) n) s).task x → SomeUses (map (λ s. s.task) (s ∷ ss)) x
  by true rest i = inr (rest i)
  by false rest i = inl (inr i)

-- what the tasks of a batch write some task of these plays does
abbrev Used : Registry → List PlayData → Batch → Type 0
Used ms ps b = (n : ℕ) (x : Name) → Writes (step_at (plan_steps b) n).task x → SomePlayUses ms ps x

both_used : (P : Batch → Type 0) (bs cs : List Batch) → AllByRecursion P bs → AllByRecursion P cs → AllByRecursion P (bs ++ cs)
both_used P [] cs all more = more
both_used P (b ∷ bs) cs all more = (all.0, both_used P bs cs all.1 more)

later_used : (ms : Registry) (p : PlayData) (ps : List PlayData) (bs : List Batch) → AllByRecursion (Used ms ps) bs → AllByRecursion (Used ms (p ∷ ps)) bs
later_used ms p ps [] all = tt
later_used ms p ps (b ∷ bs) all = (λ n x h. inr (all.0 n x h), later_used ms p ps bs all.1)

play_used : (ms : Registry) (p : PlayData) (ps : List PlayData) (hosts : List Name) (bs : List (List Name)) → AllByRecursion (Used ms (p ∷ ps)) (batches_of (play_with ms p hosts) bs)
play_used ms p ps hosts [] = tt
play_used ms p ps hosts (b ∷ bs) = (λ n x h. inl (along_uses (play_steps (play_row ms p)) 1 n x h), play_used ms p ps hosts bs)

book_used : (ms : Registry) (inventory : Inventory) (ps : List PlayData) → AllByRecursion (Used ms ps) (all_batches (program_of ms inventory ps))
book_used ms inventory [] = tt
book_used ms inventory (p ∷ ps) =
    let hosts = pattern_hosts inventory [] p.pattern in
    both_used (Used ms (p ∷ ps)) (batches_of (play_with ms p hosts) (play_with ms p hosts).batches) (all_batches (program_of ms inventory ps)) (play_used ms p ps hosts (play_with ms p hosts).batches)
    (later_used ms p ps (all_batches (program_of ms inventory ps)) (book_used ms inventory ps))

module _ (ms : Registry) (inventory : Inventory) (book : Book) (forks : ℕ) (es : List Event) (k : ℕ) (w : Works (flat.run (program_of ms inventory book) inventory forks es) k) where
  -- what the task of a host at work writes some task of the book does
  pub writes_used : (n : Name) → Writes (step_in w).task n → SomePlayUses ms book n
  writes_used n h = batch_among (Used ms book) (program_of ms inventory book) inventory forks es k w (book_used ms inventory book) w.node n h

  pub slotted_in : (names : List Name) → ((n : Name) → SomePlayUses ms book n → Among names n) → (xs : List Answer) (t : TaskOutcome) (ws : List (String Global × Value)) → EndsSo w xs t (fields_view ws) → have_slots names ws ≡ true
  slotted_in names whole xs t ws so =
      all_slotted names ws
      (λ n h. whole n
      (writes_used n
      (writes_its_own (program_of ms inventory book) inventory forks es k w xs so.results so.comes n (subst (λ fs. is_among n (keys_of fs) ≡ true) (so.writes no_fields) (all_there n (fields_view ws) no_fields h)))))

-- of a book that was accepted
pub slotted : (a : Accepted) (forks : ℕ) (names : List Name) → ((n : Name) → SomePlayUses (modules_of a.registry) (book_view a.book) n → Among names n) → (es : List Event) (k : ℕ) (w : Works (flat_after (opening_for a forks) es) k)
    (xs : List Answer) (t : TaskOutcome) (ws : List (String Global × Value)) → EndsSo w xs t (fields_view ws) → have_slots names ws ≡ true
slotted a forks names whole es k w xs t ws so = slotted_in (modules_of a.registry) (inventory_view a.inventory) (book_view a.book) forks es k w names whole xs t ws so
