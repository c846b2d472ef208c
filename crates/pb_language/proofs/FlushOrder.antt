-- Where handlers notify later ones alone, asking each once is the first notified one, then the same flush.
use Rattle.std.proofs.Common.{◌≡◌, ◌<◌, ◌≤◌, ℕ, suc, nat_eq, nat_le, List, [], ◌∷◌, ◌++◌, Bool, true, false, not, cond, Some, None, refl, sym, ap, subst, ◌∙◌, arith}
use Rattle.std.proofs.lemmas.Bool.{leb-false, leb-true, ne_eqb}
use Rattle.std.proofs.lemmas.Option.{none-some}
use Rattle.pb_semantics.proofs.Bools.{untrue, and-left, and-right, and-both, neither-left, neither-right, neither-both}
use Rattle.pb_language.specs.Book.{HandlerData}
use Rattle.pb_language.specs.FlushOrder.{Ran, Asks, all_asked, not_notified, it_runs, first_marked, Repeats, nobody_notified, first_runs, notify_later, are_numbered, AskingRepeats, RepeatingAsks, HandlersAreNumbered, OrderNotifiesLater, FlushAsks}
use Rattle.pb_language.specs.Machine.{is_marked, unmarked}
use Rattle.pb_language.specs.Notify.{Notified, handlers_are, names_nothing, notified, with_numbers, all_notified}
use Rattle.pb_language.specs.Plays.{Surroundings, handlers_at}
use Rattle.pb_language.specs.Rules.{any_up_to, any_notifies_up_to}
use Rattle.pb_language.specs.Task.{Task, Handlers, no_handlers, handler}
use Rattle.pb_language.proofs.Accepted.{same_place}
use Rattle.pb_language.proofs.Same.{same_number}

turned : (a : Bool) → not a ≡ true → a ≡ false
turned true h = untrue h
turned false h = refl

-- marks
marked-append : (i : ℕ) (xs ys : List ℕ) → is_marked i xs ≡ false → is_marked i ys ≡ false → is_marked i (xs ++ ys) ≡ false
marked-append i [] ys h j = j
marked-append i (x ∷ xs) ys h j = neither-both (nat_eq i x) (is_marked i (xs ++ ys)) (neither-left (nat_eq i x) (is_marked i xs) h) (marked-append i xs ys (neither-right (nat_eq i x) (is_marked i xs) h) j)

still-step : (q : Bool) (i m : ℕ) (ms : List ℕ) → nat_eq i m ≡ false → is_marked i ms ≡ false → is_marked i (cond q ms (m ∷ ms)) ≡ false
still-step true i m ms h j = j
still-step false i m ms h j = neither-both (nat_eq i m) (is_marked i ms) h j

unmarked_still : (i n : ℕ) (ms : List ℕ) → is_marked i ms ≡ false → is_marked i (unmarked n ms) ≡ false
unmarked_still i n [] h = refl
unmarked_still i n (m ∷ ms) h =
    still-step (nat_eq n m) i m (unmarked n ms) (neither-left (nat_eq i m) (is_marked i ms) h) (unmarked_still i n ms (neither-right (nat_eq i m) (is_marked i ms) h))

off-step : (q : Bool) (n m : ℕ) (ms : List ℕ) → nat_eq n m ≡ q → is_marked n ms ≡ false → is_marked n (cond q ms (m ∷ ms)) ≡ false
off-step true n m ms e h = h
off-step false n m ms e h = neither-both (nat_eq n m) (is_marked n ms) e h

unmarked_off : (n : ℕ) (ms : List ℕ) → is_marked n (unmarked n ms) ≡ false
unmarked_off n [] = refl
unmarked_off n (m ∷ ms) = off-step (nat_eq n m) n m (unmarked n ms) refl (unmarked_off n ms)

later_unmarked : (i k : ℕ) (xs : List ℕ) → i ≤ k → any_up_to k xs ≡ false → is_marked i xs ≡ false
later_unmarked i k [] l h = refl
later_unmarked i k (x ∷ xs) l h =
    let past : k < x = leb-false x k (neither-left (nat_le x k) (any_up_to k xs) h) in
    neither-both (nat_eq i x) (is_marked i xs) (ne_eqb i x (λ e. omega (arith, e, past, l))) (later_unmarked i k xs l (neither-right (nat_le x k) (any_up_to k xs) h))

-- the handlers that are still to be asked
data Tail (all : Handlers) : Handlers → ℕ → Type 0 where
  whole : Tail all all 0
  behind : {t : Task} {hs : Handlers} {k : ℕ} → Tail all (handler k t hs) k → Tail all hs (suc k)

abbrev NoneBelow : ℕ → List ℕ → Type 0
NoneBelow k ms = (i : ℕ) → i < k → is_marked i ms ≡ false

first_left : (all hs : Handlers) (k : ℕ) (ms : List ℕ) → Tail all hs k → NoneBelow k ms → first_marked all ms ≡ first_marked hs ms
first_left all hs k ms whole none = refl
first_left all hs k ms (behind {t = t} {k = j} tail) none =
    first_left all (handler j t hs) j ms tail (λ i l. none i (omega (arith, l))) ∙ ap (λ q. cond q (Some j) (first_marked hs ms)) (none j (omega arith))

-- one more was asked
more-step : (q : Bool) (i k : ℕ) (ms : List ℕ) → nat_le k i ≡ q → NoneBelow k ms → is_marked k ms ≡ false → i < suc k → is_marked i ms ≡ false
more-step true i k ms e none h l =
    let past : k ≤ i = leb-true k i e in
    let same : i ≡ k = omega (arith, past, l) in
    ap (λ x. is_marked x ms) same ∙ h
more-step false i k ms e none h l = none i (leb-false k i e)

one_more : (k : ℕ) (ms : List ℕ) → NoneBelow k ms → is_marked k ms ≡ false → NoneBelow (suc k) ms
one_more k ms none h i l = more-step (nat_le k i) i k ms refl none h l

-- the marks once the handler ran
ran_below : (k : ℕ) (xs ms : List ℕ) → NoneBelow k ms → any_up_to k xs ≡ false → NoneBelow (suc k) (xs ++ unmarked k ms)
ran_below k xs ms none h i l =
    marked-append i xs (unmarked k ms) (later_unmarked i k xs (omega (arith, l)) h) (more-step (nat_le k i) i k (unmarked k ms) refl (λ j m. unmarked_still j k ms (none j m)) (unmarked_off k ms) l)

first_here : (k : ℕ) (t : Task) (hs : Handlers) (ms : List ℕ) (q : Bool) → is_marked k ms ≡ q → first_marked (handler k t hs) ms ≡ cond q (Some k) (first_marked hs ms)
first_here k t hs ms q e = ap (λ r. cond r (Some k) (first_marked hs ms)) e

asks_repeats : (all hs : Handlers) (k : ℕ) (ms ks : List ℕ) (rs : List Ran) → Tail all hs k → are_numbered k hs ≡ true → NoneBelow k ms → notify_later rs ≡ true → Asks hs ms rs ks → Repeats all ms rs ks
asks_repeats all hs k ms ks rs tail numbered none later all_asked = nobody_notified (first_left all hs k ms tail none)
asks_repeats all hs k ms ks rs tail numbered none later (not_notified {n = n} {t = t} {hs = more} h asks) =
    let same : n ≡ k = same_number n k (and-left (nat_eq n k) (are_numbered (suc k) more) numbered) in
    let rest = and-right (nat_eq n k) (are_numbered (suc k) more) numbered in
    asks_repeats all more (suc k) ms ks rs (behind (subst (λ x. Tail all (handler x t more) k) same tail)) rest (one_more k ms none (ap (λ x. is_marked x ms) (sym same) ∙ h)) later asks
asks_repeats all hs k ms ks rs tail numbered none later (it_runs {n = n} {t = t} {hs = more} {xs = xs} {rs = ran} h asks) =
    let same : n ≡ k = same_number n k (and-left (nat_eq n k) (are_numbered (suc k) more) numbered) in
    let rest = and-right (nat_eq n k) (are_numbered (suc k) more) numbered in
    let past : any_up_to n xs ≡ false = turned (any_up_to n xs) (and-left (not (any_up_to n xs)) (notify_later ran) later) in
    let first : first_marked all ms ≡ Some n = first_left all (handler n t more) k ms tail none ∙ first_here n t more ms true h in
    first_runs first
    (asks_repeats all more (suc k) (xs ++ unmarked n ms) ks ran (behind (subst (λ x. Tail all (handler x t more) k) same tail)) rest
    (subst (λ x. NoneBelow (suc k) (xs ++ unmarked x ms)) (sym same) (ran_below k xs ms none (ap (λ x. any_up_to x xs) (sym same) ∙ past)))
    (and-right (not (any_up_to n xs)) (notify_later ran) later) asks)

nothing_below : (ms : List ℕ) → NoneBelow 0 ms
nothing_below ms i l = absurd (omega (arith, l))

pub asking_repeats : AskingRepeats
asking_repeats hs ms ks rs numbered later asks = asks_repeats hs hs 0 ms ks rs whole numbered (nothing_below ms) later asks

no-number : (A : Type 0) (n : ℕ) → None ≡ Some n → A
no-number A n e = absurd (none-some n e)

-- and the other way round
repeats_rest : (q : Bool) (all : Handlers) (k : ℕ) (t : Task) (hs : Handlers) (ms ks : List ℕ) (rs : List Ran) → is_marked k ms ≡ q → Tail all (handler k t hs) k → NoneBelow k ms → notify_later rs ≡ true
    → ((vs : List ℕ) (ran : List Ran) → NoneBelow (suc k) vs → notify_later ran ≡ true → Repeats all vs ran ks → Asks hs vs ran ks) → Repeats all ms rs ks → Asks (handler k t hs) ms rs ks
repeats_rest false all k t hs ms ks rs e tail none later go r = not_notified e (go ms rs (one_more k ms none e) later r)
repeats_rest true all k t hs ms ks rs e tail none later go (nobody_notified h) =
    no-number (Asks (handler k t hs) ms rs ks) k (sym h ∙ first_left all (handler k t hs) k ms tail none ∙ first_here k t hs ms true e)
repeats_rest true all k t hs ms ks rs e tail none later go (first_runs {n = n} {xs = xs} {rs = ran} h r) =
    let first : Some n ≡ Some k = sym h ∙ first_left all (handler k t hs) k ms tail none ∙ first_here k t hs ms true e in
    let same : n ≡ k = cc in
    let past : any_up_to n xs ≡ false = turned (any_up_to n xs) (and-left (not (any_up_to n xs)) (notify_later ran) later) in
    let below : NoneBelow (suc k) (xs ++ unmarked n ms) = subst (λ x. NoneBelow (suc k) (xs ++ unmarked x ms)) (sym same) (ran_below k xs ms none (ap (λ x. any_up_to x xs) (sym same) ∙ past)) in
    let asked : Asks hs (xs ++ unmarked n ms) ran ks = go (xs ++ unmarked n ms) ran below (and-right (not (any_up_to n xs)) (notify_later ran) later) r in
    subst (λ x. Asks (handler x t hs) ms (record { number = n; notifies = xs } ∷ ran) ks) same (it_runs (ap (λ x. is_marked x ms) same ∙ e) asked)

repeats_ask : (all hs : Handlers) (k : ℕ) (ms ks : List ℕ) (rs : List Ran) → Tail all hs k → are_numbered k hs ≡ true → NoneBelow k ms → notify_later rs ≡ true → Repeats all ms rs ks → Asks hs ms rs ks
repeats_ask all no_handlers k ms ks rs tail numbered none later (nobody_notified h) = all_asked
repeats_ask all no_handlers k ms ks rs tail numbered none later (first_runs {n = n} h r) = no-number (Asks no_handlers ms rs ks) n (sym (first_left all no_handlers k ms tail none) ∙ h)
repeats_ask all (handler n t hs) k ms ks rs tail numbered none later r =
    let same : n ≡ k = same_number n k (and-left (nat_eq n k) (are_numbered (suc k) hs) numbered) in
    let rest = and-right (nat_eq n k) (are_numbered (suc k) hs) numbered in
    let here : Tail all (handler k t hs) k = subst (λ x. Tail all (handler x t hs) k) same tail in
    subst (λ x. Asks (handler x t hs) ms rs ks) (sym same)
    (repeats_rest (is_marked k ms) all k t hs ms ks rs refl here none later (λ vs ran below after again. repeats_ask all hs (suc k) vs ks ran (behind here) rest below after again) r)

pub repeating_asks : RepeatingAsks
repeating_asks hs ms ks rs numbered later r = repeats_ask hs hs 0 ms ks rs whole numbered (nothing_below ms) later r

-- the numbers of a play's handlers, and what V12 says of them
pub numbered_from : (s : Surroundings) (i p : ℕ) (hs : List HandlerData) → are_numbered i (handlers_at s i p hs) ≡ true
numbered_from s i p [] = refl
numbered_from s i p (h ∷ hs) = and-both (nat_eq i i) (are_numbered (suc i) (handlers_at s (suc i) (suc p) hs)) (same_place i) (numbered_from s (suc i) (suc p) hs)

pub handlers_are_numbered : HandlersAreNumbered
handlers_are_numbered s p hs = numbered_from s 0 p hs

up_to-append : (i : ℕ) (xs ys : List ℕ) → any_up_to i xs ≡ false → any_up_to i ys ≡ false → any_up_to i (xs ++ ys) ≡ false
up_to-append i [] ys h j = j
up_to-append i (x ∷ xs) ys h j = neither-both (nat_le x i) (any_up_to i (xs ++ ys)) (neither-left (nat_le x i) (any_up_to i xs) h) (up_to-append i xs ys (neither-right (nat_le x i) (any_up_to i xs) h) j)

texts_later : (i : ℕ) (xs : List ℕ) (r : Notified) (ms : List ℕ) → any_up_to i xs ≡ false → ((ks : List ℕ) → r ≡ handlers_are ks → any_up_to i ks ≡ false) → with_numbers xs r ≡ handlers_are ms → any_up_to i ms ≡ false
texts_later i [] r ms h f e = absurd (cc)
texts_later i (x ∷ xs) names_nothing ms h f e = absurd (cc)
texts_later i (x ∷ xs) (handlers_are ks) ms h f e =
    let same : x ∷ xs ++ ks ≡ ms = cc in
    ap (any_up_to i) (sym same) ∙ up_to-append i (x ∷ xs) ks h (f ks refl)

pub order_notifies_later : OrderNotifiesLater
order_notifies_later i hs [] ms h e = let same : [] ≡ ms = cc in ap (any_up_to i) (sym same)
order_notifies_later i hs (n ∷ ns) ms h e =
    texts_later i (notified 0 n hs) (all_notified hs ns) ms (neither-left (any_up_to i (notified 0 n hs)) (any_notifies_up_to i hs ns) h)
    (λ ks j. order_notifies_later i hs ns ks (neither-right (any_up_to i (notified 0 n hs)) (any_notifies_up_to i hs ns) h) j) e

pub flush_asks : FlushAsks
flush_asks h n t hs well = refl
