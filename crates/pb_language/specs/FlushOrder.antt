-- What V12 is for: a flush asks its handlers one after the other, each once; where no handler
-- notifies itself or an earlier one, this is the first notified handler, then the same flush
-- (Ansible's page on handlers).
use Rattle.std.specs.Prelude.{◌≡◌, ℕ, suc, nat_eq, List, [], ◌∷◌, ◌++◌, Bool, true, false}
use Rattle.std.specs.Prelude.{not, ◌&&◌, cond, Option, Some, None}
use Rattle.pb_language.specs.Book.{HandlerData, Book, Registry}
use Rattle.pb_language.specs.Expression.{Name}
use Rattle.pb_language.specs.Judged.{judged}
use Rattle.pb_language.specs.Machine.{Host, begins, waits, is_marked, unmarked, settled}
use Rattle.pb_language.specs.Machine.{notified_by}
use Rattle.pb_language.specs.Notify.{HandlerNames, handlers_are, all_notified}
use Rattle.pb_language.specs.Plays.{Surroundings, handlers_at, program_of}
use Rattle.pb_language.specs.Program.{Inventory, Play, Program}
use Rattle.pb_language.specs.Rest.{Rest, left, flush_rest}
use Rattle.pb_language.specs.Rules.{any_up_to, any_notifies_up_to}
use Rattle.pb_language.specs.Task.{Task, Handlers, no_handlers, handler, Row, end, task, flush}
use Rattle.pb_language.specs.Task.{section, block}
use Rattle.pb_language.specs.Verdict.{accepted}

-- a handler that ran, and the numbers of those that it notified
pub record Ran : Type 0 where
  pub number : ℕ
  pub notifies : List ℕ

-- the questions one after the other, from these marks to those
pub data Asks : Handlers → List ℕ → List Ran → List ℕ → Type 0 where
  all_asked : {ms : List ℕ} → Asks no_handlers ms [] ms
  not_notified : {n : ℕ} {t : Task} {hs : Handlers} {ms ks : List ℕ} {rs : List Ran}
      → is_marked n ms ≡ false → Asks hs ms rs ks → Asks (handler n t hs) ms rs ks
  it_runs : {n : ℕ} {t : Task} {hs : Handlers} {ms ks xs : List ℕ} {rs : List Ran}
      → is_marked n ms ≡ true → Asks hs (xs ++ unmarked n ms) rs ks
      → Asks (handler n t hs) ms (record { number = n; notifies = xs } ∷ rs) ks

abbrev pub first_marked : Handlers → List ℕ → Option ℕ
first_marked no_handlers ms = None
first_marked (handler n t hs) ms = cond (is_marked n ms) (Some n) (first_marked hs ms)

-- the first notified handler, then the same flush
pub data Repeats (hs : Handlers) : List ℕ → List Ran → List ℕ → Type 0 where
  nobody_notified : {ms : List ℕ} → first_marked hs ms ≡ None → Repeats hs ms [] ms
  first_runs : {n : ℕ} {ms ks xs : List ℕ} {rs : List Ran} → first_marked hs ms ≡ Some n
      → Repeats hs (xs ++ unmarked n ms) rs ks
      → Repeats hs ms (record { number = n; notifies = xs } ∷ rs) ks

-- none of them notified itself or an earlier one
abbrev pub notify_later : List Ran → Bool
notify_later [] = true
notify_later (r ∷ rs) = not (any_up_to r.number r.notifies) && notify_later rs

abbrev pub are_numbered : ℕ → Handlers → Bool
are_numbered k no_handlers = true
are_numbered k (handler n t hs) = nat_eq n k && are_numbered (suc k) hs

-- so both come to the same
abbrev pub AskingRepeats : Type 0
AskingRepeats = (hs : Handlers) (ms ks : List ℕ) (rs : List Ran) → are_numbered 0 hs ≡ true
    → notify_later rs ≡ true → Asks hs ms rs ks → Repeats hs ms rs ks

abbrev pub RepeatingAsks : Type 0
RepeatingAsks = (hs : Handlers) (ms ks : List ℕ) (rs : List Ran) → are_numbered 0 hs ≡ true
    → notify_later rs ≡ true → Repeats hs ms rs ks → Asks hs ms rs ks

-- a play's handlers are numbered in their order
abbrev pub HandlersAreNumbered : Type 0
HandlersAreNumbered = (s : Surroundings) (p : ℕ) (hs : List HandlerData)
    → are_numbered 0 (handlers_at s 0 p hs) ≡ true

-- and what V12 lets pass notifies later ones alone
abbrev pub OrderNotifiesLater : Type 0
OrderNotifiesLater = (i : ℕ) (hs : List HandlerNames) (ns : List Name) (ms : List ℕ)
    → any_notifies_up_to i hs ns ≡ false → all_notified hs ns ≡ handlers_are ms
    → any_up_to i ms ≡ false

-- the machine's questions are these: it goes past a handler that isn't notified, and starts one
-- that is, whose mark is cleared
abbrev pub FlushAsks : Type 0
FlushAsks = (h : Host) (n : ℕ) (t : Task) (hs : Handlers) (well : Rest)
    → settled h (flush_rest (handler n t hs) well)
    ≡ cond (is_marked n h.marks)
    (record h {
      marks = unmarked n h.marks;
      stage = waits (begins t (flush_rest hs well) left);
    })
    (settled h (flush_rest hs well))

-- what can run at a flush of a play: each a handler of it, which notifies what its task notifies,
-- or nothing where it isn't changed
abbrev pub handler_numbered : ℕ → Handlers → Option Task
handler_numbered k no_handlers = None
handler_numbered k (handler n t hs) = cond (nat_eq n k) (Some t) (handler_numbered k hs)

pub data CanRun (p : Play) (hs : Handlers) : List Ran → Type 0 where
  none_ran : CanRun p hs []
  ran_then : {n : ℕ} {xs : List ℕ} {rs : List Ran} (t : Task) (changed : Bool)
      → handler_numbered n hs ≡ Some t → notified_by p t changed ≡ handlers_are xs
      → CanRun p hs rs → CanRun p hs (record { number = n; notifies = xs } ∷ rs)

-- whoever is notified and whatever runs, the questions are the first notified handler, then the
-- same flush
pub record FlushRepeats (p : Play) (hs : Handlers) : Type 0 where
  pub repeats : (ms ks : List ℕ) (rs : List Ran) → CanRun p hs rs → Asks hs ms rs ks
      → Repeats hs ms rs ks
  pub asks : (ms ks : List ℕ) (rs : List Ran) → CanRun p hs rs → Repeats hs ms rs ks
      → Asks hs ms rs ks

-- so it is at every flush
abbrev pub FlushesRepeat : Play → Row → Type 0
FlushesRepeat p end = Unit {0}
FlushesRepeat p (task t row) = FlushesRepeat p row
FlushesRepeat p (flush hs row) = FlushRepeats p hs × FlushesRepeat p row
FlushesRepeat p (section body hs row) =
    FlushesRepeat p body × (FlushRepeats p hs × FlushesRepeat p row)
FlushesRepeat p (block d body saves rescued always row) =
    FlushesRepeat p body × (FlushesRepeat p rescued
    × (FlushesRepeat p always × FlushesRepeat p row))

abbrev pub ProgramRepeats : Program → Type 0
ProgramRepeats [] = Unit {0}
ProgramRepeats (p ∷ ps) = FlushesRepeat p p.row × ProgramRepeats ps

-- of an accepted book
abbrev pub AcceptedRepeats : Type 0
AcceptedRepeats = (ms : Registry) (inventory : Inventory) (book : Book) (n : ℕ)
    → judged ms inventory book ≡ accepted n → ProgramRepeats (program_of ms inventory book)
