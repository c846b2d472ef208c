-- What the answers to a task's calls come to by rules, or why their Give is stuck; and the laws
-- that the definitions are what they say, and that a step of the machine does just that.
use Rattle.std.specs.Prelude.{◌≡◌, ◌≤◌, ◌<◌, ℕ, suc, ◌+◌, List, [], ◌∷◌, ◌++◌, Bool, true, false}
use Rattle.std.specs.Prelude.{not, ◌&&◌, Option}
use Rattle.std.specs.Prelude.{Some, None, codes}
use Rattle.pb_semantics.specs.Data.{boolean, field_value}
use Rattle.pb_semantics.specs.Keeps.{flag_is}
use Rattle.pb_semantics.specs.Kind.{is_skipped}
use Rattle.pb_language.specs.Expression.{Name, Expressions}
use Rattle.pb_language.specs.World.{World}
use Rattle.pb_language.specs.Evaluation.{Stuck, no_handler, Outcome, value, stuck}
use Rattle.pb_language.specs.Evaluates.{All}
use Rattle.pb_language.specs.Give.{Answer, admitted, admit_passes, Own, Ended, Results, results_are}
use Rattle.pb_language.specs.Give.{no_results, ended_with, own_world, judged_world, end_all}
use Rattle.pb_language.specs.Give.{all_hold, retries_of, asks_again, last_attempts, any_changed}
use Rattle.pb_language.specs.Give.{any_failed}
use Rattle.pb_language.specs.Machine.{give, runs, Host, State, enabled, host_at, put_host, settled}
use Rattle.pb_language.specs.Machine.{after_task, step, way_on, world_of}
use Rattle.pb_language.specs.Notify.{HandlerNames, Notified, handlers_are, names_nothing, notified}
use Rattle.pb_language.specs.Notify.{all_notified}
use Rattle.pb_language.specs.Program.{Batch}
use Rattle.pb_language.specs.Rest.{Rest}
use Rattle.pb_language.specs.Start.{Pass, call_count}
use Rattle.pb_language.specs.Task.{Attempts, Task}

-- what a keyword says, or without it the result's field
pub data Decides (w : World) : Option Expressions → Bool → Outcome → Type 0 where
  not_given : {b : Bool} → Decides w None b (value (boolean b))
  by_its_conditions : {es : Expressions} {b : Bool} {o : Outcome} → All w es o
      → Decides w (Some es) b o

-- `changed_when` and `failed_when` of a result
abbrev pub Changes : World → Task → Own → Outcome → Type 0
Changes w t o = Decides (own_world w t o) t.changed_when
    (flag_is true (field_value (codes "changed") o.fields))

abbrev pub Fails : World → Task → Own → Outcome → Type 0
Fails w t o = Decides (own_world w t o) t.failed_when
    (flag_is true (field_value (codes "failed") o.fields))

-- `until` of a result with its statuses; without it nothing is to hold
pub data Holds (w : World) : Option Attempts → Outcome → Type 0 where
  nothing_to_hold : Holds w None (value (boolean true))
  by_until : {a : Attempts} {o : Outcome} → All w a.until o → Holds w (Some a) o

abbrev pub Untils : World → Task → Own → Bool → Bool → Outcome → Type 0
Untils w t o c f = Holds (judged_world w t o c f) t.attempts

-- the results in their order; a skipped item is asked nothing, and the first that is stuck ends it
pub data Ends (w : World) (t : Task) : List Own → Results → Type 0 where
  no_result : Ends w t [] (results_are [])
  skipped_then : {o : Own} {os : List Own} {es : List Ended} → is_skipped o.shape ≡ true
      → Ends w t os (results_are es)
      → Ends w t (o ∷ os) (results_are (ended_with o false false true ∷ es))
  result_then : {o : Own} {os : List Own} {es : List Ended} {c f u : Bool}
      → is_skipped o.shape ≡ false → Changes w t o (value (boolean c))
      → Fails w t o (value (boolean f)) → Untils w t o c f (value (boolean u))
      → Ends w t os (results_are es)
      → Ends w t (o ∷ os) (results_are (ended_with o c f u ∷ es))
  stuck_behind_skipped : {o : Own} {os : List Own} {y : Stuck} → is_skipped o.shape ≡ true
      → Ends w t os (no_results y) → Ends w t (o ∷ os) (no_results y)
  stuck_behind_result : {o : Own} {os : List Own} {c f u : Bool} {y : Stuck}
      → is_skipped o.shape ≡ false → Changes w t o (value (boolean c))
      → Fails w t o (value (boolean f)) → Untils w t o c f (value (boolean u))
      → Ends w t os (no_results y)
      → Ends w t (o ∷ os) (no_results y)
  changes_stuck : {o : Own} {os : List Own} {y : Stuck} → is_skipped o.shape ≡ false
      → Changes w t o (stuck y) → Ends w t (o ∷ os) (no_results y)
  fails_stuck : {o : Own} {os : List Own} {c : Bool} {y : Stuck} → is_skipped o.shape ≡ false
      → Changes w t o (value (boolean c)) → Fails w t o (stuck y)
      → Ends w t (o ∷ os) (no_results y)
  until_stuck : {o : Own} {os : List Own} {c f : Bool} {y : Stuck} → is_skipped o.shape ≡ false
      → Changes w t o (value (boolean c)) → Fails w t o (value (boolean f))
      → Untils w t o c f (stuck y) → Ends w t (o ∷ os) (no_results y)

-- the handlers that the texts notify; a text that names none is an error
pub data Notifies (hs : List HandlerNames) : List Name → Notified → Type 0 where
  no_text : Notifies hs [] (handlers_are [])
  text_then : {n : Name} {ns : List Name} {i : ℕ} {is js : List ℕ} → notified 0 n hs ≡ i ∷ is
      → Notifies hs ns (handlers_are js) → Notifies hs (n ∷ ns) (handlers_are (i ∷ is ++ js))
  names_none : {n : Name} {ns : List Name} → notified 0 n hs ≡ []
      → Notifies hs (n ∷ ns) names_nothing
  later_names_none : {n : Name} {ns : List Name} → Notifies hs ns names_nothing
      → Notifies hs (n ∷ ns) names_nothing

-- what a Give comes to: the same calls again, or the results and the numbers of the handlers that
-- are notified
pub data GiveOutcome : Type 0 where
  again : GiveOutcome
  ended : List Ended → List ℕ → GiveOutcome
  stuck_at : Stuck → GiveOutcome

-- the results of the attempt with this number: where `until` doesn't hold, it is the last
pub data Decided (w : World) (t : Task) (n : ℕ) (os : List Own) : List Ended → Type 0 where
  held : {es : List Ended} → Ends w t os (results_are es) → all_hold es ≡ true
      → Decided w t n os es
  exhausted : {es : List Ended} → Ends w t os (results_are es) → all_hold es ≡ false
      → retries_of t.attempts ≤ n → Decided w t n os (last_attempts es)

-- a task notifies where it is changed and not failed
pub data Comes (w : World) (hs : List HandlerNames) (t : Task) (n : ℕ) (os : List Own)
    : GiveOutcome → Type 0 where
  not_yet : {es : List Ended} → Ends w t os (results_are es) → all_hold es ≡ false
      → n < retries_of t.attempts → Comes w hs t n os again
  notifying : {es : List Ended} {ms : List ℕ} → Decided w t n os es
      → any_changed es && not (any_failed es) ≡ true → Notifies hs t.notifies (handlers_are ms)
      → Comes w hs t n os (ended es ms)
  without_notifying : {es : List Ended} → Decided w t n os es
      → any_changed es && not (any_failed es) ≡ false → Comes w hs t n os (ended es [])
  keyword_stuck : {y : Stuck} → Ends w t os (no_results y) → Comes w hs t n os (stuck_at y)
  unknown_handler : {es : List Ended} → Decided w t n os es
      → any_changed es && not (any_failed es) ≡ true → Notifies hs t.notifies names_nothing
      → Comes w hs t n os (stuck_at no_handler)

-- the results are what the rules say, and in no other way; so are the handlers
abbrev pub ResultsAreDerived : Type 0
ResultsAreDerived = (w : World) (t : Task) (os : List Own) → Ends w t os (end_all w t os)

abbrev pub DerivedAreResults : Type 0
DerivedAreResults = (w : World) (t : Task) (os : List Own) (r : Results) → Ends w t os r
    → end_all w t os ≡ r

abbrev pub NotifiedAreDerived : Type 0
NotifiedAreDerived = (hs : List HandlerNames) (ns : List Name) → Notifies hs ns (all_notified hs ns)

abbrev pub DerivedAreNotified : Type 0
DerivedAreNotified = (hs : List HandlerNames) (ns : List Name) (r : Notified) → Notifies hs ns r
    → all_notified hs ns ≡ r

-- a job of the host is out, and the answers are admitted
pub record CanGive (s : State) (b : Batch) (bs : List Batch) (k : ℕ) (xs : List Answer) (h : Host)
    (t : Task) (n : ℕ) (ps : List Pass) (going failing : Rest) (os : List Own) : Type 0 where
  pub batch : s.batches ≡ b ∷ bs
  pub host : host_at k s.hosts ≡ Some h
  pub out : h.stage ≡ runs t n ps going failing
  pub admitted : admit_passes t.action ps xs ≡ admitted os
  pub enabled : enabled s (give k xs) ≡ true

-- a Give that is stuck marks the state and changes nothing else
abbrev pub StuckGiveMarks : Type 0
StuckGiveMarks = (s : State) (b : Batch) (bs : List Batch) (k : ℕ) (xs : List Answer) (h : Host)
    (t : Task) (n : ℕ) (ps : List Pass) (going failing : Rest) (os : List Own) (y : Stuck)
    → CanGive s b bs k xs h t n ps going failing os
    → Comes (world_of s b h t) b.play.handlers t n os (stuck_at y)
    → step s (give k xs) ≡ record s { is_stuck = true }

-- one that asks again hands out the same calls, and changes nothing else
abbrev pub GiveAsksAgain : Type 0
GiveAsksAgain = (s : State) (b : Batch) (bs : List Batch) (k : ℕ) (xs : List Answer) (h : Host)
    (t : Task) (n : ℕ) (ps : List Pass) (going failing : Rest) (os : List Own)
    → CanGive s b bs k xs h t n ps going failing os
    → Comes (world_of s b h t) b.play.handlers t n os again
    → step s (give k xs) ≡ record s {
      hosts = put_host k (record h { stage = runs t (suc n) ps going failing }) s.hosts;
      handed = s.handed + call_count ps;
    }

-- any other ends the task, and the host goes on
abbrev pub GiveSettles : Type 0
GiveSettles = (s : State) (b : Batch) (bs : List Batch) (k : ℕ) (xs : List Answer) (h : Host)
    (t : Task) (n : ℕ) (ps : List Pass) (going failing : Rest) (os : List Own) (es : List Ended)
    (ms : List ℕ) → CanGive s b bs k xs h t n ps going failing os
    → Comes (world_of s b h t) b.play.handlers t n os (ended es ms)
    → step s (give k xs) ≡ record s
    { hosts = put_host k (settled (after_task h t es ms) (way_on t es going failing)) s.hosts }

-- a task without `until` never asks again, and its results are those of its keywords
abbrev pub AskedOnce : Type 0
AskedOnce = (w : World) (t : Task) (n : ℕ) (os : List Own) (es : List Ended) → t.attempts ≡ None
    → Ends w t os (results_are es) → (asks_again t n es ≡ false) × (last_attempts es ≡ es)
