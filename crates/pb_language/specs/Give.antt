-- What is made of the answers to a task's calls (Ansible's pages on return values and on error
-- handling; admission is this project's own).
use Rattle.std.specs.Prelude.{ℕ, nat_lt, List, [], ◌∷◌, Bool, true, false, not, ◌&&◌, ◌||◌, cond}
use Rattle.std.specs.Prelude.{Option, Some, None, codes}
use Rattle.pb_semantics.specs.Data.{Data, Items, Fields, boolean, text, list, rec, no_items, item}
use Rattle.pb_semantics.specs.Data.{no_fields, field, field_value, put_field}
use Rattle.pb_semantics.specs.Kind.{Slots, Spot, recs, no_slots, slot, spot, slot_at, Shape}
use Rattle.pb_semantics.specs.Kind.{ok_shape, failure_shape, skipped_shape, is_skipped}
use Rattle.pb_semantics.specs.Keeps.{flag_is}
use Rattle.pb_semantics.specs.Admission.{AdmissionData, taken, failed, admission}
use Rattle.pb_semantics.specs.Signature.{ModuleData}
use Rattle.pb_language.specs.Expression.{Name, Expression, Expressions}
use Rattle.pb_language.specs.World.{World}
use Rattle.pb_language.specs.Evaluation.{Stuck, wrong_sort, Outcome, value, stuck, eval_all}
use Rattle.pb_language.specs.Task.{Action, call_of, Attempts, Task}
use Rattle.pb_language.specs.Cases.{after_prefix, fact_prefix, is_setup, shape_slots}
use Rattle.pb_language.specs.Setting.{with_local}
use Rattle.pb_language.specs.Start.{Changes, no_changes, change, Entry, skips, calls, acts, Pass}

pub data Answer : Type 0 where
  object : Data → Answer
  unreachable : Answer
  broken : Answer

-- the result of an item that wasn't skipped, as it was admitted, and what it sets
pub record Own : Type 0 where
  pub item : Option Data
  pub shape : Shape
  pub fields : Fields
  pub sets : Changes

pub data Admitted : Type 0 where
  admitted : List Own → Admitted
  breached : Admitted
  unreached : Admitted

abbrev pub with_own : Own → Admitted → Admitted
with_own o (admitted os) = admitted (o ∷ os)
with_own o breached = breached
with_own o unreached = unreached

abbrev pub stripped_with : Option Name → Option Data → Fields → Fields
stripped_with (Some n) (Some d) fs = field n d fs
stripped_with o p fs = fs

-- the facts that the shape names, by their names without the prefix
abbrev pub stripped : Slots → Fields → Fields
stripped no_slots fs = no_fields
stripped (slot n a k ss) fs =
    stripped_with (after_prefix fact_prefix n) (field_value n fs) (stripped ss fs)

-- the facts that the shape names; one that the answer doesn't have stays as it was
abbrev pub facts_changed : Slots → Fields → Changes
facts_changed no_slots fs = no_changes
facts_changed (slot n a k ss) fs = change n (field_value n fs) (facts_changed ss fs)

abbrev pub facts_of : Spot → Option Data → Changes
facts_of (spot a (recs ss)) (Some (rec fs)) =
    change (codes "ansible_facts") (Some (rec (stripped ss fs))) (facts_changed ss fs)
facts_of s o = no_changes

-- what an ok answer of `setup` sets
abbrev pub set_by_answer : ModuleData → Fields → Changes
set_by_answer m fs = cond (is_setup m)
    (facts_of (slot_at (codes "ansible_facts") (shape_slots m.ok))
    (field_value (codes "ansible_facts") fs)) no_changes

abbrev pub own_of : Option Data → ModuleData → AdmissionData → (Own → Admitted) → Admitted
own_of o m (taken (rec fs)) go =
    go (record { item = o; shape = ok_shape; fields = fs; sets = set_by_answer m fs })
own_of o m (failed (rec fs)) go =
    go (record { item = o; shape = failure_shape; fields = fs; sets = no_changes })
own_of o m a go = breached

-- the first breach or unreachable answer decides; a missing answer is a breach
abbrev pub admit_answer : Option Data → Action → List Answer → (Own → List Answer → Admitted)
    → Admitted
admit_answer o a [] go = breached
admit_answer o (call_of m ps) (object d ∷ xs) go =
    own_of o m (admission m.ok m.failure d) (λ own. go own xs)
admit_answer o a (unreachable ∷ xs) go = unreached
admit_answer o a (x ∷ xs) go = breached

abbrev pub skip_fields : Fields
skip_fields = field (codes "changed") (boolean false)
    (field (codes "failed") (boolean false)
    (field (codes "skip_reason") (text (codes "Conditional result was False"))
    (field (codes "skipped") (boolean true) no_fields)))

abbrev pub is_failure : Shape → Bool
is_failure ok_shape = false
is_failure failure_shape = true
is_failure skipped_shape = false

abbrev pub acted : Option Data → Shape → Fields → Changes → Own
acted o sh fs gs = record {
  item = o;
  shape = sh;
  fields = put_field (codes "failed")
      (boolean (is_failure sh)) fs;
  sets = gs;
}

abbrev pub skipped_own : Option Data → Own
skipped_own o = record { item = o; shape = skipped_shape; fields = skip_fields; sets = no_changes }

abbrev pub admit_entry : Action → Option Data → Entry → (List Answer → Admitted) → List Answer
    → Admitted
admit_entry a o skips go xs = with_own (skipped_own o) (go xs)
admit_entry a o (acts sh fs gs) go xs = with_own (acted o sh fs gs) (go xs)
admit_entry a o (calls d) go xs = admit_answer o a xs (λ own ys. with_own own (go ys))

-- the answers in the order of the calls; those past the calls are never looked at
abbrev pub admit_passes : Action → List Pass → List Answer → Admitted
admit_passes a [] xs = admitted []
admit_passes a (p ∷ ps) xs = admit_entry a p.item p.entry (admit_passes a ps) xs

-- the result of an item with its final statuses
pub record Ended : Type 0 where
  pub shape : Shape
  pub fields : Fields
  pub sets : Changes
  pub changed : Bool
  pub failed : Bool
  -- what `until` says of it
  pub holds : Bool

pub data Results : Type 0 where
  results_are : List Ended → Results
  no_results : Stuck → Results

abbrev pub with_statuses : Bool → Bool → Fields → Fields
with_statuses c f fs =
    put_field (codes "failed") (boolean f) (put_field (codes "changed") (boolean c) fs)

abbrev pub ended_with : Own → Bool → Bool → Bool → Ended
ended_with o c f u = record {
  shape = o.shape;
  fields = with_statuses c f o.fields;
  sets = o.sets;
  changed = c;
  failed = f;
  holds = u;
}

-- what a keyword says, or without it the field
abbrev pub keyword_of : World → Option Expressions → Bool → Outcome
keyword_of w None b = value (boolean b)
keyword_of w (Some es) b = eval_all w es

abbrev pub with_own_field : Option Name → Data → Fields → Fields
with_own_field None d fs = fs
with_own_field (Some n) d fs = field n d fs

abbrev pub result_world : World → Task → Option Data → Fields → World
result_world w t i fs =
    record w { mine = with_own_field t.register (rec fs) (with_local (codes "item") i w.mine) }

abbrev pub own_world : World → Task → Own → World
own_world w t o = result_world w t o.item o.fields

-- `until` sees the result with its statuses
abbrev pub judged_world : World → Task → Own → Bool → Bool → World
judged_world w t o c f = result_world w t o.item (with_statuses c f o.fields)

abbrev pub until_of : World → Option Attempts → Outcome
until_of w None = value (boolean true)
until_of w (Some a) = eval_all w a.until

abbrev pub with_status : Outcome → (Bool → Results) → Results
with_status (value (boolean b)) go = go b
with_status (value d) go = no_results wrong_sort
with_status (stuck s) go = no_results s

abbrev pub with_ended : Ended → Results → Results
with_ended e (results_are es) = results_are (e ∷ es)
with_ended e (no_results s) = no_results s

-- `changed_when`, `failed_when` and `until` are evaluated for each item that wasn't skipped
abbrev pub end_own : World → Task → Own → Results → Results
end_own w t o rs =
    cond (is_skipped o.shape) (with_ended (ended_with o false false true) rs)
    (with_status (keyword_of (own_world w t o) t.changed_when
    (flag_is true (field_value (codes "changed") o.fields))) (λ c.
    with_status (keyword_of (own_world w t o) t.failed_when
    (flag_is true (field_value (codes "failed") o.fields))) (λ f.
    with_status (until_of (judged_world w t o c f) t.attempts) (λ u.
    with_ended (ended_with o c f u) rs))))

abbrev pub end_all : World → Task → List Own → Results
end_all w t [] = results_are []
end_all w t (o ∷ os) = end_own w t o (end_all w t os)

abbrev pub all_hold : List Ended → Bool
all_hold [] = true
all_hold (e ∷ es) = e.holds && all_hold es

-- how often the calls are repeated at most
abbrev pub retries_of : Option Attempts → ℕ
retries_of None = 0
retries_of (Some a) = a.retries

-- after so many attempts before this one: where `until` doesn't hold, the calls are made again as
-- long as they may be
abbrev pub asks_again : Task → ℕ → List Ended → Bool
asks_again t n es = not (all_hold es) && nat_lt n (retries_of t.attempts)

-- a last attempt of which it doesn't hold is failed
abbrev pub last_attempt : Ended → Ended
last_attempt e =
    cond e.holds e (record e { fields = with_statuses e.changed true e.fields; failed = true })

abbrev pub last_attempts : List Ended → List Ended
last_attempts [] = []
last_attempts (e ∷ es) = last_attempt e ∷ last_attempts es

abbrev pub any_changed : List Ended → Bool
any_changed [] = false
any_changed (e ∷ es) = e.changed || any_changed es

abbrev pub any_failed : List Ended → Bool
any_failed [] = false
any_failed (e ∷ es) = e.failed || any_failed es

abbrev pub all_skipped : List Ended → Bool
all_skipped [] = true
all_skipped (e ∷ es) = is_skipped e.shape && all_skipped es

abbrev pub result_items : List Ended → Items
result_items [] = no_items
result_items (e ∷ es) = item (rec e.fields) (result_items es)

abbrev pub looped_fields : List Ended → Fields
looped_fields es =
    field (codes "changed") (boolean (any_changed es))
    (field (codes "failed") (boolean (any_failed es))
    (field (codes "results") (list (result_items es))
    (field (codes "skipped") (boolean (all_skipped es)) no_fields)))

abbrev pub first_fields : List Ended → Fields
first_fields [] = no_fields
first_fields (e ∷ es) = e.fields

-- what the task registers
abbrev pub registered_fields : Option Expression → List Ended → Fields
registered_fields None es = first_fields es
registered_fields (Some l) es = looped_fields es

abbrev pub failure_text : Bool → Option Data → List ℕ
failure_text u (Some (text s)) = s
failure_text u o =
    cond u (codes "failed_when condition was true") (codes "until condition was not met")

-- the text of the failure
abbrev pub message_of : Option Expression → List Ended → List ℕ
message_of None es = failure_text (all_hold es) (field_value (codes "msg") (first_fields es))
message_of (Some l) es = codes "One or more items failed"

abbrev pub with_change : Name → Option Data → Fields → Fields
with_change n None vars = vars
with_change n (Some d) vars = put_field n d vars

-- the variables with these changes one after the other
abbrev pub with_changes : Changes → Fields → Fields
with_changes no_changes vars = vars
with_changes (change n o r) vars = with_changes r (with_change n o vars)

abbrev pub with_all_sets : List Ended → Fields → Fields
with_all_sets [] vars = vars
with_all_sets (e ∷ es) vars = with_all_sets es (with_changes e.sets vars)

abbrev pub register_field : Option Name → Data → Fields → Fields
register_field None d vars = vars
register_field (Some n) d vars = put_field n d vars

-- the result is registered; what is set is set where the task isn't failed, or is ignored
abbrev pub written_variables : Task → List Ended → Fields → Fields
written_variables t es vars =
    cond (any_failed es && not t.ignores)
    (register_field t.register (rec (registered_fields t.loop es)) vars)
    (with_all_sets es (register_field t.register (rec (registered_fields t.loop es)) vars))
