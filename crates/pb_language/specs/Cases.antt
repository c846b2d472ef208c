-- What a task registers and sets, and of which kind (Ansible's pages on return values and on error
-- handling).
use Rattle.std.specs.Prelude.{ℕ, [], ◌∷◌, Bool, true, false, not, ◌&&◌, ◌||◌, cond, Option, Some}
use Rattle.std.specs.Prelude.{None, is_some, codes}
use Rattle.std.specs.Str.{bytes_eq}
use Rattle.pb_semantics.specs.Kind.{KindData, Slots, Cases, Spot, never, booleans, texts, lists}
use Rattle.pb_semantics.specs.Kind.{recs, results, anything, no_slots, slot, no_cases, one, spot}
use Rattle.pb_semantics.specs.Kind.{slot_at, is_listed, ok_shape, failure_shape, skipped_shape}
use Rattle.pb_semantics.specs.Join.{append_cases, join_spot}
use Rattle.pb_semantics.specs.Signature.{ModuleData, is_certain_boolean}
use Rattle.pb_language.specs.Expression.{Name, Expressions, no_expressions, expression, Parts}
use Rattle.pb_language.specs.Expression.{no_parts, part}
use Rattle.pb_language.specs.Scope.{Scope, with_slot, with_spot}
use Rattle.pb_language.specs.Kinds.{kind_of}
use Rattle.pb_language.specs.Narrow.{results_of, cases_with}
use Rattle.pb_language.specs.Task.{Action, call_of, debug, set_fact, assertion, failure_of}
use Rattle.pb_language.specs.Task.{Attempts, Task}

abbrev pub action_name : Action → Name
action_name (call_of m ps) = m.name
action_name (debug e) = codes "debug"
action_name (set_fact ps) = codes "set_fact"
action_name (assertion es o) = codes "assert"
action_name (failure_of o) = codes "fail"

abbrev pub slots_of : KindData → Slots
slots_of (recs ss) = ss
slots_of k = no_slots

-- no result at any depth, and each name of a record once
abbrev mutual
  pub is_plain : KindData → Bool
  is_plain (lists k n) = is_plain k
  is_plain (recs ss) = are_plain ss
  is_plain (results cs r) = false
  is_plain k = true

  pub are_plain : Slots → Bool
  are_plain no_slots = true
  are_plain (slot n a k ss) = not (is_listed n ss) && (is_plain k && are_plain ss)

-- a shape of a module: a record that holds no result, with `changed`, and none of the fields that
-- every result has
abbrev pub is_lawful_shape : KindData → Bool
is_lawful_shape (recs ss) = is_plain (recs ss)
    && (is_certain_boolean (slot_at (codes "changed") ss)
    && (not (is_listed (codes "failed") ss) && not (is_listed (codes "skipped") ss)))
is_lawful_shape k = false

-- the fields of a lawful shape; a module that keeps no law is refused
abbrev pub shape_slots : KindData → Slots
shape_slots k = cond (is_lawful_shape k) (slots_of k) no_slots

-- a shape with the final status
abbrev pub ended_kind : Slots → KindData
ended_kind ss = recs (with_slot (codes "failed") true booleans ss)

abbrev pub changed_slots : Slots
changed_slots = slot (codes "changed") true booleans no_slots

abbrev pub message_slots : Slots
message_slots = slot (codes "changed") true booleans (slot (codes "msg") true texts no_slots)

abbrev pub ok_case : Name → Slots → Cases
ok_case n ss = one n ok_shape false (ended_kind ss) no_cases

abbrev pub failure_case : Name → Slots → Cases
failure_case n ss = one n failure_shape true (ended_kind ss) no_cases

-- what a module or an action answers: ok and not failed, or a failure
abbrev pub answered_cases : Action → Cases
answered_cases (call_of m ps) =
    append_cases (ok_case m.name (shape_slots m.ok)) (failure_case m.name (shape_slots m.failure))
answered_cases (debug e) = ok_case (codes "debug") changed_slots
answered_cases (set_fact ps) = ok_case (codes "set_fact") changed_slots
answered_cases (assertion es o) = append_cases (ok_case (codes "assert") message_slots)
    (failure_case (codes "assert") message_slots)
answered_cases (failure_of o) = failure_case (codes "fail") message_slots

-- each shape with either status
abbrev pub either_status : Cases → Cases
either_status no_cases = no_cases
either_status (one n sh fl k cs) = one n sh false k (one n sh true k (either_status cs))

-- `failed_when` may give each shape either status
abbrev pub judged_cases : Action → Option Expressions → Cases
judged_cases a None = answered_cases a
judged_cases a (Some es) = either_status (answered_cases a)

-- each result may be that of a last attempt, which is failed
abbrev pub perhaps_failed : Cases → Cases
perhaps_failed no_cases = no_cases
perhaps_failed (one n sh true k cs) = one n sh true k (perhaps_failed cs)
perhaps_failed (one n sh false k cs) = one n sh false k (one n sh true k (perhaps_failed cs))

abbrev pub ended_cases : Option Attempts → Cases → Cases
ended_cases None cs = cs
ended_cases (Some a) cs = perhaps_failed cs

abbrev pub skipped_slots : Slots
skipped_slots = slot (codes "changed") true booleans
    (slot (codes "failed") true booleans
    (slot (codes "skip_reason") true texts (slot (codes "skipped") true booleans no_slots)))

abbrev pub is_conditional : Expressions → Bool
is_conditional no_expressions = false
is_conditional (expression e es) = true

-- a task under a condition may be skipped
abbrev pub skipped_cases : Task → Cases
skipped_cases t = cond (is_conditional t.conditions)
    (one (action_name t.action) skipped_shape false (recs skipped_slots) no_cases) no_cases

-- every result that the task, or one item of it, can have
abbrev pub all_results : Task → Cases
all_results t =
    append_cases (skipped_cases t) (ended_cases t.attempts (judged_cases t.action t.failed_when))

-- those with which it goes on, and those with which it fails
abbrev pub going_cases : Task → Cases
going_cases t = cond t.ignores (all_results t) (cases_with (λ sh fl k. not fl) (all_results t))

abbrev pub failing_cases : Task → Cases
failing_cases t = cond t.ignores no_cases (cases_with (λ sh fl k. fl) (all_results t))

-- what a task with a `loop` registers
abbrev pub looped_kind : KindData → KindData
looped_kind k = recs (slot (codes "changed") true booleans
    (slot (codes "failed") true booleans
    (slot (codes "results") true k
    (slot (codes "skipped") true booleans no_slots))))

-- the kind of the items, and the greatest number of them
abbrev pub item_kind : KindData → KindData
item_kind (lists k n) = k
item_kind anything = anything
item_kind k = never

abbrev pub length_bound : KindData → ℕ
length_bound (lists k n) = n
length_bound k = 0

-- the kind of the list of results, given that of one and of the loop
abbrev pub listed_kind : KindData → KindData → KindData
listed_kind r anything = anything
listed_kind r k = lists r (length_bound k)

-- the kind of the result, given the kind of the loop
abbrev pub registered_kind : Task → Option KindData → Cases → KindData
registered_kind t None cs = results_of cs
registered_kind t (Some l) cs = looped_kind (listed_kind (results_of (all_results t)) l)

-- names that are set, for certain or not, each with a kind
pub data Sets : Type 0 where
  no_sets : Sets
  sets : Name → Bool → KindData → Sets → Sets

abbrev pub append_sets : Sets → Sets → Sets
append_sets no_sets s = s
append_sets (sets n a k r) s = sets n a k (append_sets r s)

abbrev pub parts_set : Scope → Bool → Parts → Sets
parts_set c a no_parts = no_sets
parts_set c a (part n e ps) = sets n a (kind_of c e) (parts_set c a ps)

abbrev pub fact_prefix : Name
fact_prefix = codes "ansible_"

-- what follows the prefix of a name that has it
abbrev pub after_prefix : Name → Name → Option Name
after_prefix [] n = Some n
after_prefix (a ∷ p) [] = None
after_prefix (a ∷ p) (b ∷ n) = cond (bytes_eq (a ∷ []) (b ∷ [])) (after_prefix p n) None

abbrev pub with_stripped : Option Name → Bool → KindData → Slots → Slots
with_stripped None a k ss = ss
with_stripped (Some n) a k ss = with_slot n a k ss

-- the facts by their names without the prefix
abbrev pub stripped_slots : Slots → Slots
stripped_slots no_slots = no_slots
stripped_slots (slot n a k ss) = with_stripped (after_prefix fact_prefix n) a k (stripped_slots ss)

abbrev pub facts_set : Bool → Slots → Sets
facts_set a no_slots = no_sets
facts_set a (slot n b k ss) = sets n (a && b) k (facts_set a ss)

abbrev pub gathered : Bool → Spot → Sets
gathered a (spot b (recs ss)) =
    sets (codes "ansible_facts") (a && b) (recs (stripped_slots ss)) (facts_set (a && b) ss)
gathered a s = no_sets

abbrev pub is_setup : ModuleData → Bool
is_setup m = bytes_eq m.name (codes "setup")

-- it can go on with its failure
abbrev pub may_go_on_failed : Task → Bool
may_go_on_failed t = t.ignores || is_some t.failed_when

-- nothing keeps the task from running once
abbrev pub is_certain_to_run : Task → Bool
is_certain_to_run t = not (is_conditional t.conditions) && not (is_some t.loop)

abbrev pub action_sets : Scope → Task → Action → Sets
action_sets c t (call_of m ps) = cond (is_setup m)
    (gathered (is_certain_to_run t && not (may_go_on_failed t))
    (slot_at (codes "ansible_facts") (shape_slots m.ok))) no_sets
action_sets c t (debug e) = no_sets
action_sets c t (set_fact ps) = parts_set c (is_certain_to_run t) ps
action_sets c t (assertion es o) = no_sets
action_sets c t (failure_of o) = no_sets

-- a name that may not be set stays what it may have been
abbrev pub set_spot : Bool → Spot → KindData → Spot
set_spot true s k = spot true k
set_spot false s k = join_spot s (spot true k)

abbrev pub with_sets : Sets → Slots → Slots
with_sets no_sets env = env
with_sets (sets n a k r) env = with_sets r (with_spot n (set_spot a (slot_at n env) k) env)

abbrev pub with_register : Option Name → KindData → Slots → Slots
with_register None k env = env
with_register (Some n) k env = with_slot n true k env
