-- What a Give comes to is derived by the rules, and nothing else is; and a step of the machine does just that.
use Rattle.std.proofs.Common.{◌≡◌, ◌≤◌, ◌<◌, ℕ, nat_lt, arith, List, [], ◌∷◌, Bool, true, false, not, ◌&&◌, cond, Option, Some, None, codes, refl, sym, ap, ◌∙◌, true≢false}
use Rattle.std.proofs.lemmas.Bool.{lt-ltb}
use Rattle.std.proofs.lemmas.Bool.Decides.{nat_tests}
use Rattle.pb_semantics.specs.Data.{boolean, field_value}
use Rattle.pb_semantics.specs.Keeps.{flag_is}
use Rattle.pb_semantics.specs.Kind.{is_skipped}
use Rattle.pb_semantics.proofs.Bools.{untrue, and-left, and-right, and-both}
use Rattle.pb_language.specs.Expression.{Name, Expressions}
use Rattle.pb_language.specs.World.{World}
use Rattle.pb_language.specs.Evaluation.{Outcome, value, stuck}
use Rattle.pb_language.specs.Give.{Answer, Own, Ended, Results, results_are, no_results, with_statuses, ended_with, keyword_of, own_world, judged_world, until_of, all_hold, retries_of, asks_again, last_attempts, with_status, with_ended, end_own, end_all, any_changed, any_failed}
use Rattle.pb_language.specs.GiveRules.{AskedOnce, Holds, nothing_to_hold, by_until, Untils, until_stuck, Decided, held, exhausted, not_yet, GiveAsksAgain, Decides, not_given, by_its_conditions, Changes, Fails, Ends, no_result, skipped_then, result_then, stuck_behind_skipped, stuck_behind_result, changes_stuck, fails_stuck, Notifies, no_text, text_then, names_none, later_names_none, notifying, without_notifying, keyword_stuck, unknown_handler, ResultsAreDerived, DerivedAreResults, NotifiedAreDerived, DerivedAreNotified, CanGive, StuckGiveMarks, GiveSettles}
use Rattle.pb_language.specs.Machine.{give, Host, State, happened, on_host, on_give, on_admitted, on_results, on_again, on_ended, on_notified, notified_by, step, world_of}
use Rattle.pb_language.specs.Notify.{HandlerNames, Notified, handlers_are, names_nothing, notified, with_numbers, all_notified}
use Rattle.pb_language.specs.Program.{Batch}
use Rattle.pb_language.specs.Rest.{Rest}
use Rattle.pb_language.specs.Start.{Pass}
use Rattle.pb_language.specs.Task.{Attempts, Task}
use Rattle.pb_language.proofs.Evaluated.{all_derived}
use Rattle.pb_language.proofs.Determined.{all_determined}
use Rattle.pb_language.proofs.Planned.{is_truth_outcome, all_is_truth}

-- what the keywords say
decides : (w : World) (o : Option Expressions) (b : Bool) → Decides w o b (keyword_of w o b)
decides w None b = not_given
decides w (Some es) b = by_its_conditions (all_derived w es)

decided_truth : (w : World) (o : Option Expressions) (b : Bool) → is_truth_outcome (keyword_of w o b) ≡ true
decided_truth w None b = refl
decided_truth w (Some es) b = all_is_truth w es

decided_is : (w : World) (o : Option Expressions) (b : Bool) (p : Outcome) → Decides w o b p → keyword_of w o b ≡ p
decided_is w o b p not_given = refl
decided_is w o b p (by_its_conditions {es = es} h) = all_determined w es p h

holds : (w : World) (o : Option Attempts) → Holds w o (until_of w o)
holds w None = nothing_to_hold
holds w (Some a) = by_until (all_derived w a.until)

holds_truth : (w : World) (o : Option Attempts) → is_truth_outcome (until_of w o) ≡ true
holds_truth w None = refl
holds_truth w (Some a) = all_is_truth w a.until

holds_is : (w : World) (o : Option Attempts) (p : Outcome) → Holds w o p → until_of w o ≡ p
holds_is w o p nothing_to_hold = refl
holds_is w o p (by_until {a = a} h) = all_determined w a.until p h

-- one result, then those behind it
result_behind : (w : World) (t : Task) (o : Own) (os : List Own) (c f u : Bool) (r : Results) → is_skipped o.shape ≡ false → Changes w t o (value (boolean c)) → Fails w t o (value (boolean f)) → Untils w t o c f (value (boolean u)) → Ends w t os r
    → Ends w t (o ∷ os) (with_ended (ended_with o c f u) r)
result_behind w t o os c f u (results_are es) n h i k j = result_then n h i k j
result_behind w t o os c f u (no_results y) n h i k j = stuck_behind_result n h i k j

until_then : (w : World) (t : Task) (o : Own) (os : List Own) (c f : Bool) (p : Outcome) (r : Results) → is_skipped o.shape ≡ false → Changes w t o (value (boolean c)) → Fails w t o (value (boolean f)) → Untils w t o c f p → is_truth_outcome p ≡ true → Ends w t os r
    → Ends w t (o ∷ os) (with_status p (λ u. with_ended (ended_with o c f u) r))
until_then w t o os c f (value (boolean u)) r n h i k s j = result_behind w t o os c f u r n h i k j
until_then w t o os c f (value d) r n h i k s j = untrue s
until_then w t o os c f (stuck y) r n h i k s j = until_stuck n h i k

fails_then : (w : World) (t : Task) (o : Own) (os : List Own) (c : Bool) (p : Outcome) (r : Results) → is_skipped o.shape ≡ false → Changes w t o (value (boolean c)) → Fails w t o p → is_truth_outcome p ≡ true → Ends w t os r
    → Ends w t (o ∷ os) (with_status p (λ f. with_status (until_of (judged_world w t o c f) t.attempts) (λ u. with_ended (ended_with o c f u) r)))
fails_then w t o os c (value (boolean f)) r n h i s j =
    let until = judged_world w t o c f in
    until_then w t o os c f (until_of until t.attempts) r n h i (holds until t.attempts) (holds_truth until t.attempts) j
fails_then w t o os c (value d) r n h i s j = untrue s
fails_then w t o os c (stuck y) r n h i s j = fails_stuck n h i

changes_then : (w : World) (t : Task) (o : Own) (os : List Own) (p : Outcome) (r : Results) → is_skipped o.shape ≡ false → Changes w t o p → is_truth_outcome p ≡ true → Ends w t os r
    → Ends w t (o ∷ os) (with_status p (λ c. with_status (keyword_of (own_world w t o) t.failed_when (flag_is true (field_value (codes "failed") o.fields))) (λ f. with_status (until_of (judged_world w t o c f) t.attempts) (λ u. with_ended (ended_with o c f u) r))))
changes_then w t o os (value (boolean c)) r n h s j =
    let flag = flag_is true (field_value (codes "failed") o.fields) in
    fails_then w t o os c (keyword_of (own_world w t o) t.failed_when flag) r n h (decides (own_world w t o) t.failed_when flag) (decided_truth (own_world w t o) t.failed_when flag) j
changes_then w t o os (value d) r n h s j = untrue s
changes_then w t o os (stuck y) r n h s j = changes_stuck n h

skipped_behind : (w : World) (t : Task) (o : Own) (os : List Own) (r : Results) → is_skipped o.shape ≡ true → Ends w t os r → Ends w t (o ∷ os) (with_ended (ended_with o false false true) r)
skipped_behind w t o os (results_are es) n j = skipped_then n j
skipped_behind w t o os (no_results y) n j = stuck_behind_skipped n j

ends_then : (w : World) (t : Task) (o : Own) (os : List Own) (q : Bool) (r : Results) → is_skipped o.shape ≡ q → Ends w t os r
    → Ends w t (o ∷ os) (cond q (with_ended (ended_with o false false true) r) (with_status (keyword_of (own_world w t o) t.changed_when (flag_is true (field_value (codes "changed") o.fields)))
    (λ c. with_status (keyword_of (own_world w t o) t.failed_when (flag_is true (field_value (codes "failed") o.fields))) (λ f. with_status (until_of (judged_world w t o c f) t.attempts) (λ u. with_ended (ended_with o c f u) r)))))
ends_then w t o os true r n j = skipped_behind w t o os r n j
ends_then w t o os false r n j =
    let flag = flag_is true (field_value (codes "changed") o.fields) in
    changes_then w t o os (keyword_of (own_world w t o) t.changed_when flag) r n (decides (own_world w t o) t.changed_when flag) (decided_truth (own_world w t o) t.changed_when flag) j

pub results_are_derived : ResultsAreDerived
results_are_derived w t [] = no_result
results_are_derived w t (o ∷ os) = ends_then w t o os (is_skipped o.shape) (end_all w t os) refl (results_are_derived w t os)

-- and in no other way
skipped_own_is : (w : World) (t : Task) (o : Own) (r : Results) → is_skipped o.shape ≡ true → end_own w t o r ≡ with_ended (ended_with o false false true) r
skipped_own_is w t o r n = rw n refl

module _ (w : World) (t : Task) (o : Own) (r : Results) (n : is_skipped o.shape ≡ false) where
  abbrev rest : Outcome → Results
  rest p = with_status p (λ c. with_status (keyword_of (own_world w t o) t.failed_when (flag_is true (field_value (codes "failed") o.fields))) (λ f. with_status (until_of (judged_world w t o c f) t.attempts) (λ u. with_ended (ended_with o c f u) r)))

  own_is : (p : Outcome) → Changes w t o p → end_own w t o r ≡ rest p
  own_is p h = rw (n, decided_is (own_world w t o) t.changed_when (flag_is true (field_value (codes "changed") o.fields)) p h) refl

  result_is : (c : Bool) (p : Outcome) → Changes w t o (value (boolean c)) → Fails w t o p → end_own w t o r ≡ with_status p (λ f. with_status (until_of (judged_world w t o c f) t.attempts) (λ u. with_ended (ended_with o c f u) r))
  result_is c p h i =
      own_is (value (boolean c)) h ∙ ap (λ x. with_status x (λ f. with_status (until_of (judged_world w t o c f) t.attempts) (λ u. with_ended (ended_with o c f u) r))) (decided_is (own_world w t o) t.failed_when (flag_is true (field_value (codes "failed") o.fields)) p i)

  judged_is : (c f : Bool) (p : Outcome) → Changes w t o (value (boolean c)) → Fails w t o (value (boolean f)) → Untils w t o c f p → end_own w t o r ≡ with_status p (λ u. with_ended (ended_with o c f u) r)
  judged_is c f p h i k = result_is c (value (boolean f)) h i ∙ ap (λ x. with_status x (λ u. with_ended (ended_with o c f u) r)) (holds_is (judged_world w t o c f) t.attempts p k)

pub derived_are_results : DerivedAreResults
derived_are_results w t os r no_result = refl
derived_are_results w t os r (skipped_then {o = o} {os = later} {es = es} n j) =
    skipped_own_is w t o (end_all w t later) n ∙ ap (with_ended (ended_with o false false true)) (derived_are_results w t later (results_are es) j)
derived_are_results w t os r (result_then {o = o} {os = later} {es = es} {c = c} {f = f} {u = u} n h i k j) =
    judged_is w t o (end_all w t later) n c f (value (boolean u)) h i k ∙ ap (with_ended (ended_with o c f u)) (derived_are_results w t later (results_are es) j)
derived_are_results w t os r (stuck_behind_skipped {o = o} {os = later} {y = y} n j) =
    skipped_own_is w t o (end_all w t later) n ∙ ap (with_ended (ended_with o false false true)) (derived_are_results w t later (no_results y) j)
derived_are_results w t os r (stuck_behind_result {o = o} {os = later} {c = c} {f = f} {u = u} {y = y} n h i k j) =
    judged_is w t o (end_all w t later) n c f (value (boolean u)) h i k ∙ ap (with_ended (ended_with o c f u)) (derived_are_results w t later (no_results y) j)
derived_are_results w t os r (changes_stuck {o = o} {os = later} {y = y} n h) = own_is w t o (end_all w t later) n (stuck y) h
derived_are_results w t os r (fails_stuck {o = o} {os = later} {c = c} {y = y} n h i) = result_is w t o (end_all w t later) n c (stuck y) h i
derived_are_results w t os r (until_stuck {o = o} {os = later} {c = c} {f = f} {y = y} n h i k) = judged_is w t o (end_all w t later) n c f (stuck y) h i k

-- the handlers
text_derived : (hs : List HandlerNames) (n : Name) (ns : List Name) (is : List ℕ) (r : Notified) → notified 0 n hs ≡ is → Notifies hs ns r → Notifies hs (n ∷ ns) (with_numbers is r)
text_derived hs n ns [] r e h = names_none e
text_derived hs n ns (i ∷ is) names_nothing e h = later_names_none h
text_derived hs n ns (i ∷ is) (handlers_are js) e h = text_then e h

pub notified_are_derived : NotifiedAreDerived
notified_are_derived hs [] = no_text
notified_are_derived hs (n ∷ ns) = text_derived hs n ns (notified 0 n hs) (all_notified hs ns) refl (notified_are_derived hs ns)

none_behind : (is : List ℕ) → with_numbers is names_nothing ≡ names_nothing
none_behind [] = refl
none_behind (i ∷ is) = refl

pub derived_are_notified : DerivedAreNotified
derived_are_notified hs ns r no_text = refl
derived_are_notified hs ns r (text_then {n = n} {ns = later} {i = i} {is = is} {js = js} e h) =
    ap (λ xs. with_numbers xs (all_notified hs later)) e ∙ ap (with_numbers (i ∷ is)) (derived_are_notified hs later (handlers_are js) h)
derived_are_notified hs ns r (names_none {ns = later} e) = ap (λ xs. with_numbers xs (all_notified hs later)) e
derived_are_notified hs ns r (later_names_none {n = n} {ns = later} h) =
    ap (with_numbers (notified 0 n hs)) (derived_are_notified hs later names_nothing h) ∙ none_behind (notified 0 n hs)

-- a step of the machine
given_back : (s : State) (b : Batch) (bs : List Batch) (k : ℕ) (xs : List Answer) (h : Host) (t : Task) (n : ℕ) (ps : List Pass) (going failing : Rest) (os : List Own) (r : Results) → CanGive s b bs k xs h t n ps going failing os → Ends (world_of s b h t) t os r
    → step s (give k xs) ≡ on_results s b k h t n ps going failing r
given_back s b bs k xs h t n ps going failing os r c d =
    ap (λ q. cond q (happened s s.batches (give k xs)) s) c.enabled
    ∙ ap (λ ys. happened s ys (give k xs)) c.batch
    ∙ ap (λ o. on_host s o (λ x. on_give s b k x xs x.stage)) c.host
    ∙ ap (on_give s b k h xs) c.out
    ∙ ap (on_admitted s b k h t n ps going failing) c.admitted
    ∙ ap (on_results s b k h t n ps going failing) (derived_are_results (world_of s b h t) t os r d)

-- where `until` holds nothing is changed
held_last : (es : List Ended) → all_hold es ≡ true → last_attempts es ≡ es
held_last [] h = refl
held_last (e ∷ es) h = held_at e.holds e es (and-left e.holds (all_hold es) h) (held_last es (and-right e.holds (all_hold es) h)) where
  held_at : (q : Bool) (e : Ended) (es : List Ended) → q ≡ true → last_attempts es ≡ es → cond q e (record e { fields = with_statuses e.changed true e.fields; failed = true }) ∷ last_attempts es ≡ e ∷ es
  held_at true e es i j = ap (λ us. e ∷ us) j
  held_at false e es i j = untrue i

module _ (s : State) (b : Batch) (k : ℕ) (h : Host) (t : Task) (n : ℕ) (ps : List Pass) (going failing : Rest) where
  abbrev decision : Bool → List Ended → State
  decision q es = cond q (on_again s k h t n ps going failing) (on_ended s b k h t going failing (last_attempts es))

  asks_no_more : (es : List Ended) → retries_of t.attempts ≤ n → asks_again t n es ≡ false
  asks_no_more es l = go (not (all_hold es)) (nat_lt n (retries_of t.attempts)) (grind (arith, nat_tests)) where
    go : (p q : Bool) → q ≡ false → p && q ≡ false
    go true q e = e
    go false q e = refl

  asks_held : (es : List Ended) → all_hold es ≡ true → asks_again t n es ≡ false
  asks_held es e = ap (λ q. not q && nat_lt n (retries_of t.attempts)) e

  asks_on : (es : List Ended) → all_hold es ≡ false → n < retries_of t.attempts → asks_again t n es ≡ true
  asks_on es e l = ap (λ q. not q && nat_lt n (retries_of t.attempts)) e ∙ lt-ltb n (retries_of t.attempts) l

  decided_ends : (w : World) (os : List Own) (es : List Ended) → Decided w t n os es → (us : List Ended) × (Ends w t os (results_are us)) × (decision (asks_again t n us) us ≡ on_ended s b k h t going failing es)
  decided_ends w os es (held {es = us} d e) = (us, d, ap (λ q. decision q us) (asks_held us e) ∙ ap (on_ended s b k h t going failing) (held_last us e))
  decided_ends w os es (exhausted {es = us} d e l) = (us, d, ap (λ q. decision q us) (asks_no_more us l))

  gives_notifying : (es : List Ended) (q : Bool) (r : Notified) → any_changed es && not (any_failed es) ≡ q → notified_by b.play t q ≡ r → on_ended s b k h t going failing es ≡ on_notified s k h t going failing es r
  gives_notifying es q r e f = ap (on_notified s k h t going failing es) (ap (notified_by b.play t) e ∙ f)

pub stuck_give_marks : StuckGiveMarks
stuck_give_marks s b bs k xs h t n ps going failing os y c (keyword_stuck d) = given_back s b bs k xs h t n ps going failing os (no_results y) c d
stuck_give_marks s b bs k xs h t n ps going failing os y c (unknown_handler {es = es} d e f) =
    let x = decided_ends s b k h t n ps going failing (world_of s b h t) os es d in
    given_back s b bs k xs h t n ps going failing os (results_are x.0) c x.1 ∙ x.2 ∙ gives_notifying s b k h t n ps going failing es true names_nothing e (derived_are_notified b.play.handlers t.notifies names_nothing f)

pub give_asks_again : GiveAsksAgain
give_asks_again s b bs k xs h t n ps going failing os c (not_yet {es = es} d e l) =
    given_back s b bs k xs h t n ps going failing os (results_are es) c d ∙ ap (λ q. decision s b k h t n ps going failing q es) (asks_on s b k h t n ps going failing es e l)

pub give_settles : GiveSettles
give_settles s b bs k xs h t n ps going failing os es ms c (notifying d e f) =
    let x = decided_ends s b k h t n ps going failing (world_of s b h t) os es d in
    given_back s b bs k xs h t n ps going failing os (results_are x.0) c x.1 ∙ x.2 ∙ gives_notifying s b k h t n ps going failing es true (handlers_are ms) e (derived_are_notified b.play.handlers t.notifies (handlers_are ms) f)
give_settles s b bs k xs h t n ps going failing os es ms c (without_notifying d e) =
    let x = decided_ends s b k h t n ps going failing (world_of s b h t) os es d in
    given_back s b bs k xs h t n ps going failing os (results_are x.0) c x.1 ∙ x.2 ∙ gives_notifying s b k h t n ps going failing es false (handlers_are []) e refl

-- a task without `until`
none_holds : (w : World) (a : Option Attempts) (p : Outcome) → a ≡ None → Holds w a p → p ≡ value (boolean true)
none_holds w None p e h = sym (holds_is w None p h)
none_holds w (Some a) p e h = absurd (true≢false (cc))

abbrev results_hold : Results → Bool
results_hold (results_are es) = all_hold es
results_hold (no_results y) = true

ends_hold : (w : World) (t : Task) (os : List Own) (r : Results) → t.attempts ≡ None → Ends w t os r → results_hold r ≡ true
ends_hold w t os r e no_result = refl
ends_hold w t os r e (skipped_then {os = later} {es = es} n j) = ends_hold w t later (results_are es) e j
ends_hold w t os r e (result_then {o = o} {os = later} {es = es} {c = c} {f = f} {u = u} n h i k j) =
    let holds : u ≡ true = let same = none_holds (judged_world w t o c f) t.attempts (value (boolean u)) e k in cc in
    and-both u (all_hold es) holds (ends_hold w t later (results_are es) e j)
ends_hold w t os r e (stuck_behind_skipped n j) = refl
ends_hold w t os r e (stuck_behind_result n h i k j) = refl
ends_hold w t os r e (changes_stuck n h) = refl
ends_hold w t os r e (fails_stuck n h i) = refl
ends_hold w t os r e (until_stuck n h i k) = refl

last_same : (es : List Ended) → all_hold es ≡ true → last_attempts es ≡ es
last_same [] h = refl
last_same (e ∷ es) h =
    ap (λ q. cond q e (record e { fields = with_statuses e.changed true e.fields; failed = true }) ∷ last_attempts es) (and-left e.holds (all_hold es) h) ∙ ap (λ xs. e ∷ xs) (last_same es (and-right e.holds (all_hold es) h))

pub asked_once : AskedOnce
asked_once w t n os es e h =
    let held = ends_hold w t os (results_are es) e h in
    (ap (λ q. not q && nat_lt n (retries_of t.attempts)) held, last_same es held)
