-- The modules that a file of signatures declares, or why it is refused (this project's own).
use Rattle.std.specs.Prelude.{ℕ, zero, suc, pos, List, [], ◌∷◌, ◌++◌, length, map, Bool, true}
use Rattle.std.specs.Prelude.{false, not, ◌&&◌, ◌||◌, ◌==◌, nat_le, nat_lt, cond, Option, Some}
use Rattle.std.specs.Prelude.{None, codes, Result, Ok, Err}
use Rattle.std.specs.List.{starts_with}
use Rattle.std.specs.Str.{bytes_eq}
use Rattle.pb_semantics.specs.Data.{Data, Items, Fields, int, text, list, rec, no_items}
use Rattle.pb_semantics.specs.Data.{item, no_fields, field, field_value}
use Rattle.pb_semantics.specs.Keeps.{is_among}
use Rattle.pb_semantics.specs.Kind.{KindData, Slots, Spot, booleans, ints, texts, lists, recs}
use Rattle.pb_semantics.specs.Kind.{no_slots, slot, nowhere, spot, slot_at, is_listed}
use Rattle.pb_semantics.specs.Signature.{ParameterData, ModuleData, is_certain_boolean}
use Rattle.pb_semantics.specs.Signature.{is_certain_text}
use Rattle.pb_language.specs.Evaluation.{field_count}
use Rattle.pb_language.specs.Expression.{Name}
use Rattle.pb_language.specs.Rules.{is_variable_name}
use Rattle.pb_value.specs.FromJson.{json_data}
use Rattle.pb_value.specs.View.{truth}

-- the limits: of the file in bytes, of its modules, of the parameters of one, of the fields of a
-- record, of the lists and records of a kind inside one another, and of the items of a list
abbrev pub most_signature_bytes : ℕ
most_signature_bytes = 1048576

abbrev pub most_modules : ℕ
most_modules = 256

abbrev pub most_parameters : ℕ
most_parameters = 64

abbrev pub most_fields : ℕ
most_fields = 64

abbrev pub most_kind_nesting : ℕ
most_kind_nesting = 8

abbrev pub most_list_items : ℕ
most_list_items = 65536

-- the bytes of a module's name
abbrev pub most_module_name_bytes : ℕ
most_module_name_bytes = 64

-- why a file is refused
pub data Offence : Type 0 where
  not_json : Offence
  wrong_form : Offence
  broken_law : Offence
  taken_name : Offence
  over_limit : Offence

-- kind := "bool" | "int" | "text" | {"list": kind, "max": bound} | {"rec": fields}
abbrev pub kind_named : Name → Option KindData
kind_named n =
    cond (bytes_eq n (codes "bool")) (Some booleans)
    (cond (bytes_eq n (codes "int")) (Some ints)
    (cond (bytes_eq n (codes "text")) (Some texts) None))

-- a whole number from 0 on
abbrev pub bound_in : Data → Option ℕ
bound_in (int (pos n)) = Some n
bound_in d = None

abbrev pub list_kind : Name → Name → Option KindData → Option ℕ → Option KindData
list_kind n m (Some k) (Some most) =
    cond (bytes_eq n (codes "list") && bytes_eq m (codes "max")) (Some (lists k most)) None
list_kind n m k most = None

abbrev pub record_kind : Name → Option Slots → Option KindData
record_kind n (Some ss) = cond (bytes_eq n (codes "rec")) (Some (recs ss)) None
record_kind n None = None

-- a field := {"always": truth value, "kind": kind}
abbrev pub field_spot : Name → Name → Option Bool → Option KindData → Spot
field_spot n m (Some b) (Some k) =
    cond (bytes_eq n (codes "always") && bytes_eq m (codes "kind")) (spot b k) nowhere
field_spot n m b k = nowhere

-- the name of a variable, each once
abbrev pub slot_before : Name → Spot → Option Slots → Option Slots
slot_before n (spot a k) (Some ss) =
    cond (is_variable_name n && not (is_listed n ss)) (Some (slot n a k ss)) None
slot_before n s ss = None

-- the fields of a JSON object stand in the order of their names' bytes
abbrev mutual
  pub kind_in : Data → Option KindData
  kind_in (text s) = kind_named s
  kind_in (rec fs) = kind_form fs
  kind_in d = None

  pub kind_form : Fields → Option KindData
  kind_form (field n d no_fields) = record_kind n (shape_in d)
  kind_form (field n d (field m e no_fields)) = list_kind n m (kind_in d) (bound_in e)
  kind_form fs = None

  -- fields := {name: field, ..}
  pub shape_in : Data → Option Slots
  shape_in (rec fs) = slots_in fs
  shape_in d = None

  pub slots_in : Fields → Option Slots
  slots_in no_fields = Some no_slots
  slots_in (field n d fs) = slot_before n (spot_in d) (slots_in fs)

  pub spot_in : Data → Spot
  spot_in (rec fs) = spot_form fs
  spot_in d = nowhere

  pub spot_form : Fields → Spot
  spot_form (field n d (field m e no_fields)) = field_spot n m (truth d) (kind_in e)
  spot_form fs = nowhere

-- a kind but those that are named
abbrev pub inner_kind : Data → Option KindData
inner_kind (rec fs) = kind_form fs
inner_kind d = None

-- the value of an object with just that name, and the values of one with just these two
abbrev pub lone_in : Name → Data → Option Data
lone_in n (rec (field m d no_fields)) = cond (bytes_eq m n) (Some d) None
lone_in n d = None

abbrev pub pair_in : Name → Name → Data → Option (Data × Data)
pair_in n m (rec (field a d (field b e no_fields))) =
    cond (bytes_eq a n && bytes_eq b m) (Some (d, e)) None
pair_in n m d = None

-- a parameter := {"kind": kind, "required": truth value}
abbrev pub parameter_form : Name → Option KindData → Option Bool → Option ParameterData
parameter_form n (Some k) (Some b) =
    cond (is_variable_name n) (Some (record { name = n; kind = k; required = b })) None
parameter_form n k b = None

abbrev pub parameter_of : Name → Option (Data × Data) → Option ParameterData
parameter_of n None = None
parameter_of n (Some p) = parameter_form n (kind_in p.0) (truth p.1)

abbrev pub parameter_in : Name → Data → Option ParameterData
parameter_in n d = parameter_of n (pair_in (codes "kind") (codes "required") d)

-- parameters := {name: parameter, ..}
abbrev pub parameter_before : Option ParameterData → Option (List ParameterData)
    → Option (List ParameterData)
parameter_before (Some p) (Some ps) = Some (p ∷ ps)
parameter_before p ps = None

abbrev pub parameters_in : Fields → Option (List ParameterData)
parameters_in no_fields = Some []
parameters_in (field n d fs) = parameter_before (parameter_in n d) (parameters_in fs)

abbrev pub parameters_of : Option Data → Option (List ParameterData)
parameters_of (Some (rec fs)) = parameters_in fs
parameters_of d = None

-- a module's name: a letter from `a` to `z`, then such letters, digits, `_` and `.`
abbrev pub is_small_letter : ℕ → Bool
is_small_letter b = nat_le 97 b && nat_le b 122

abbrev pub is_module_byte : ℕ → Bool
is_module_byte b =
    is_small_letter b || ((nat_le 48 b && nat_le b 57) || ((b == 95) || (b == 46)))

abbrev pub are_module_bytes : List ℕ → Bool
are_module_bytes [] = true
are_module_bytes (b ∷ bs) = is_module_byte b && are_module_bytes bs

abbrev pub begins_small : List ℕ → Bool
begins_small [] = false
begins_small (b ∷ bs) = is_small_letter b

abbrev pub is_module_name : List ℕ → Bool
is_module_name n =
    begins_small n && (nat_le (length n) most_module_name_bytes && are_module_bytes n)

abbrev pub module_name : Option Data → Option Name
module_name (Some (text s)) = cond (is_module_name s) (Some s) None
module_name d = None

abbrev pub shape_of : Option Data → Option Slots
shape_of (Some d) = shape_in d
shape_of None = None

abbrev pub declared : Option Name → Option (List ParameterData) → Option Slots → Option Slots
    → Option ModuleData
declared (Some n) (Some ps) (Some ok) (Some failure) = Some (record {
  name = n;
  params = ps;
  ok = recs ok;
  failure = recs failure;
  free = None;
})
declared n ps ok failure = None

-- a module := {"failure": fields, "name": text, "ok": fields, "params": parameters}
abbrev pub module_form : Fields → Option ModuleData
module_form fs = cond (field_count fs == 4)
    (declared (module_name (field_value (codes "name") fs))
    (parameters_of (field_value (codes "params") fs)) (shape_of (field_value (codes "ok") fs))
    (shape_of (field_value (codes "failure") fs))) None

abbrev pub module_in : Data → Option ModuleData
module_in (rec fs) = module_form fs
module_in d = None

-- the laws: `changed` is always there, in a failure `msg` too, and no field is one that the run
-- gives to results
abbrev pub result_fields : List Name
result_fields = codes "failed" ∷ codes "skipped" ∷ codes "skip_reason" ∷ codes "results"
    ∷ codes "unreachable" ∷ []

abbrev pub lists_any : List Name → Slots → Bool
lists_any [] ss = false
lists_any (n ∷ ns) ss = is_listed n ss || lists_any ns ss

abbrev pub are_lawful : Slots → Bool
are_lawful ss =
    is_certain_boolean (slot_at (codes "changed") ss) && not (lists_any result_fields ss)

abbrev pub is_lawful_ok : KindData → Bool
is_lawful_ok (recs ss) = are_lawful ss
is_lawful_ok k = false

abbrev pub is_lawful_failure : KindData → Bool
is_lawful_failure (recs ss) = are_lawful ss && is_certain_text (slot_at (codes "msg") ss)
is_lawful_failure k = false

abbrev pub keeps_laws : ModuleData → Bool
keeps_laws m = is_lawful_ok m.ok && is_lawful_failure m.failure

-- the limits of kinds
abbrev pub slot_count : Slots → ℕ
slot_count no_slots = 0
slot_count (slot n a k ss) = suc (slot_count ss)

abbrev mutual
  pub is_within : ℕ → KindData → Bool
  is_within zero (lists k n) = false
  is_within (suc levels) (lists k n) = nat_le n most_list_items && is_within levels k
  is_within zero (recs ss) = false
  is_within (suc levels) (recs ss) = nat_le (slot_count ss) most_fields && are_within levels ss
  is_within levels k = true

  pub are_within : ℕ → Slots → Bool
  are_within levels no_slots = true
  are_within levels (slot n a k ss) = is_within levels k && are_within levels ss

abbrev pub are_parameters_within : List ParameterData → Bool
are_parameters_within [] = true
are_parameters_within (p ∷ ps) = is_within most_kind_nesting p.kind && are_parameters_within ps

-- the record of a shape isn't one of the records inside its fields
abbrev pub keeps_limits : ModuleData → Bool
keeps_limits m = nat_le (length m.params) most_parameters
    && (are_parameters_within m.params
    && (is_within (suc most_kind_nesting) m.ok && is_within (suc most_kind_nesting) m.failure))

-- names that no module can have: those of the built-in modules and the actions, `meta`, and what a
-- play, a block, a task or a handler can have as a key, built or left out
abbrev pub taken_names : List Name
taken_names =
    codes "ping" ∷ codes "command" ∷ codes "shell" ∷ codes "stat" ∷ codes "copy" ∷ codes "file"
    ∷ codes "service" ∷ codes "setup"
    ∷ codes "debug" ∷ codes "set_fact" ∷ codes "assert" ∷ codes "fail" ∷ codes "meta"
    ∷ codes "hosts" ∷ codes "name" ∷ codes "gather_facts" ∷ codes "vars" ∷ codes "strategy"
    ∷ codes "serial" ∷ codes "pre_tasks" ∷ codes "tasks" ∷ codes "post_tasks" ∷ codes "handlers"
    ∷ codes "force_handlers"
    ∷ codes "block" ∷ codes "rescue" ∷ codes "always" ∷ codes "when" ∷ codes "ignore_errors"
    ∷ codes "loop" ∷ codes "register" ∷ codes "notify" ∷ codes "changed_when"
    ∷ codes "failed_when" ∷ codes "until" ∷ codes "retries" ∷ codes "listen"
    ∷ codes "action" ∷ codes "any_errors_fatal" ∷ codes "args" ∷ codes "async" ∷ codes "become"
    ∷ codes "become_exe" ∷ codes "become_flags" ∷ codes "become_method" ∷ codes "become_user"
    ∷ codes "check_mode" ∷ codes "collections" ∷ codes "connection" ∷ codes "debugger"
    ∷ codes "delay" ∷ codes "delegate_facts" ∷ codes "delegate_to" ∷ codes "diff"
    ∷ codes "environment" ∷ codes "ignore_unreachable" ∷ codes "local_action"
    ∷ codes "loop_control" ∷ codes "module_defaults" ∷ codes "no_log" ∷ codes "poll"
    ∷ codes "port" ∷ codes "remote_user" ∷ codes "run_once" ∷ codes "tags" ∷ codes "throttle"
    ∷ codes "timeout" ∷ []

abbrev pub has_taken_prefix : Name → Bool
has_taken_prefix n = starts_with (λ a b. a == b) n (codes "ansible.")
    || starts_with (λ a b. a == b) n (codes "with_")

abbrev pub names_of : List ModuleData → List Name
names_of ms = map (λ m. m.name) ms

-- an earlier module has the name, or none can have it
abbrev pub is_taken : List ModuleData → Name → Bool
is_taken ms n = is_among n (names_of ms)
    || (is_among n taken_names || has_taken_prefix n)

-- the module that a value declares after those modules
abbrev pub judged_module : List ModuleData → Option ModuleData → Result ModuleData Offence
judged_module ms None = Err wrong_form
judged_module ms (Some m) =
    cond (not (keeps_laws m)) (Err broken_law)
    (cond (is_taken ms m.name) (Err taken_name)
    (cond (keeps_limits m && nat_lt (length ms) most_modules) (Ok m) (Err over_limit)))

abbrev pub then_more : Result ModuleData Offence → (ModuleData → Result (List ModuleData) Offence)
    → Result (List ModuleData) Offence
then_more (Err o) more = Err o
then_more (Ok m) more = more m

-- the modules before, and those that the items declare after them
abbrev pub modules_after : List ModuleData → Items → Result (List ModuleData) Offence
modules_after ms no_items = Ok ms
modules_after ms (item d ds) =
    then_more (judged_module ms (module_in d)) (λ m. modules_after (ms ++ m ∷ []) ds)

abbrev pub signatures_in : Option Data → Result (List ModuleData) Offence
signatures_in None = Err not_json
signatures_in (Some (list ds)) = modules_after [] ds
signatures_in (Some d) = Err wrong_form

-- the modules that a text declares; of one that is too long nothing else is asked
abbrev pub signatures_of : List ℕ → Result (List ModuleData) Offence
signatures_of bs =
    cond (nat_lt most_signature_bytes (length bs)) (Err over_limit) (signatures_in (json_data bs))
