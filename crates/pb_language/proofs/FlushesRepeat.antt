-- At each flush of an accepted book asking each handler once is the first notified one, then the same flush.
use Rattle.std.proofs.Common.{◌≡◌, ℕ, nat_eq, List, [], ◌∷◌, Bool, true, false, not, ◌&&◌, cond, Some, refl, sym, ap, ◌∙◌, true≢false}
use Rattle.pb_semantics.proofs.Bools.{and-left, and-right, and-both, not-true}
use Rattle.pb_language.specs.FlushOrder.{Ran, notify_later, are_numbered, handler_numbered, CanRun, none_ran, ran_then, FlushRepeats, FlushesRepeat, ProgramRepeats, AcceptedRepeats}
use Rattle.pb_language.specs.Machine.{notified_by}
use Rattle.pb_language.specs.Notify.{HandlerNames, handlers_are}
use Rattle.pb_language.specs.Plays.{program_of}
use Rattle.pb_language.specs.Program.{Play, Program}
use Rattle.pb_language.specs.Rules.{any_up_to, any_notifies_up_to}
use Rattle.pb_language.specs.Task.{Task, Handlers, no_handlers, handler, Row, end, task, flush, section, block}
use Rattle.pb_language.proofs.FlushOrder.{asking_repeats, repeating_asks, order_notifies_later}
use Rattle.pb_language.proofs.Ruled.{row_has, program_has, notify_on, in_order, program_in_order}
use Rattle.pb_language.proofs.Same.{same_number}

one_notifies_on : (q : Bool) (names : List HandlerNames) (m n : ℕ) (u t : Task) (hs : Handlers) → nat_eq m n ≡ q → not (any_notifies_up_to m names u.notifies) ≡ true
    → (handler_numbered n hs ≡ Some t → any_notifies_up_to n names t.notifies ≡ false) → cond q (Some u) (handler_numbered n hs) ≡ Some t → any_notifies_up_to n names t.notifies ≡ false
one_notifies_on true names m n u t hs e h go i =
    let same : u ≡ t = cc in
    let number : m ≡ n = same_number m n e in
    ap (λ x. any_notifies_up_to n names x.notifies) (sym same) ∙ (ap (λ x. any_notifies_up_to x names u.notifies) (sym number) ∙ not-true (any_notifies_up_to m names u.notifies) h)
one_notifies_on false names m n u t hs e h go i = go i

notifies_on : (names : List HandlerNames) (n : ℕ) (t : Task) (hs : Handlers) → notify_on names hs ≡ true → handler_numbered n hs ≡ Some t → any_notifies_up_to n names t.notifies ≡ false
notifies_on names n t no_handlers h i = absurd (true≢false (cc))
notifies_on names n t (handler m u hs) h i =
    let here = not (any_notifies_up_to m names u.notifies) in
    one_notifies_on (nat_eq m n) names m n u t hs refl (and-left here (notify_on names hs) h) (λ j. notifies_on names n t hs (and-right here (notify_on names hs) h) j) i

runs_later : (p : Play) (n : ℕ) (t : Task) (changed : Bool) (xs : List ℕ) → any_notifies_up_to n p.handlers t.notifies ≡ false → notified_by p t changed ≡ handlers_are xs → any_up_to n xs ≡ false
runs_later p n t true xs h e = order_notifies_later n p.handlers t.notifies xs h e
runs_later p n t false xs h e = let none : [] ≡ xs = cc in ap (any_up_to n) (sym none)

all_later : (p : Play) (hs : Handlers) (rs : List Ran) → notify_on p.handlers hs ≡ true → CanRun p hs rs → notify_later rs ≡ true
all_later p hs [] h none_ran = refl
all_later p hs rs h (ran_then {n = n} {xs = xs} {rs = later} t changed i e r) =
    and-both (not (any_up_to n xs)) (notify_later later) (ap not (runs_later p n t changed xs (notifies_on p.handlers n t hs h i) e)) (all_later p hs later h r)

flush_repeats : (p : Play) (hs : Handlers) → in_order p.handlers hs ≡ true → FlushRepeats p hs
flush_repeats p hs h =
    let numbered = and-left (are_numbered 0 hs) (notify_on p.handlers hs) h in
    let later = and-right (are_numbered 0 hs) (notify_on p.handlers hs) h in
    record {
      repeats = λ ms ks rs r a. asking_repeats hs ms ks rs numbered (all_later p hs rs later r) a;
      asks = λ ms ks rs r a. repeating_asks hs ms ks rs numbered (all_later p hs rs later r) a;
    }

row_repeats : (p : Play) (row : Row) → row_has (λ t. true) (in_order p.handlers) row ≡ true → FlushesRepeat p row
row_repeats p end h = tt
row_repeats p (task t row) h = row_repeats p row h
row_repeats p (flush hs row) h =
    let rest = row_has (λ t. true) (in_order p.handlers) row in
    (flush_repeats p hs (and-left (in_order p.handlers hs) rest h), row_repeats p row (and-right (in_order p.handlers hs) rest h))
row_repeats p (section body hs row) h =
    let has = row_has (λ t. true) (in_order p.handlers) in
    let rest = and-right (has body) (in_order p.handlers hs && has row) h in (
      row_repeats p body (and-left (has body) (in_order p.handlers hs && has row) h),
      (flush_repeats p hs (and-left (in_order p.handlers hs) (has row) rest), row_repeats p row (and-right (in_order p.handlers hs) (has row) rest)),
    )
row_repeats p (block d body saves rescued always row) h =
    let has = row_has (λ t. true) (in_order p.handlers) in
    let first = and-right (has body) (has rescued && (has always && has row)) h in
    let second = and-right (has rescued) (has always && has row) first in (
      row_repeats p body (and-left (has body) (has rescued && (has always && has row)) h),
      (
        row_repeats p rescued (and-left (has rescued) (has always && has row) first),
        (row_repeats p always (and-left (has always) (has row) second), row_repeats p row (and-right (has always) (has row) second)),
      ),
    )

program_repeats : (ps : Program) → program_has (λ t. true) (λ p. in_order p.handlers) ps ≡ true → ProgramRepeats ps
program_repeats [] h = tt
program_repeats (p ∷ ps) h =
    let here = row_has (λ t. true) (in_order p.handlers) p.row in
    let rest = program_has (λ t. true) (λ p. in_order p.handlers) ps in
    (row_repeats p p.row (and-left here rest h), program_repeats ps (and-right here rest h))

pub accepted_repeats : AcceptedRepeats
accepted_repeats ms inventory book n h = program_repeats (program_of ms inventory book) (program_in_order ms inventory book n h)
