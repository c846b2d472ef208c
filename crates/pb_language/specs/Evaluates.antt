-- The value of an expression by rules: one for each form and each outcome, a value or why there is
-- none, in no order of reading; and the law that `eval` is what they say (Ansible's pages on
-- templating, tests, filters and conditionals).
use Rattle.std.specs.Prelude.{◌≡◌, ℕ, ℤ, pos, List, [], ◌∷◌, ◌++◌, Bool, true, false, not}
use Rattle.std.specs.Prelude.{◌&&◌, ◌||◌, Option, Some, None, is_some, int_le, int_lt, codes}
use Rattle.pb_semantics.specs.Data.{Data, Items, Fields, boolean, int, text, list, rec, opaque}
use Rattle.pb_semantics.specs.Data.{no_items, item, no_fields, field, field_value, count_of}
use Rattle.pb_semantics.specs.Equal.{data_eq, is_item, is_part}
use Rattle.pb_semantics.specs.Keeps.{is_among, flag_is}
use Rattle.pb_semantics.specs.Render.{is_plain, rendered}
use Rattle.pb_language.specs.Expression.{Name, Comparison, equal, less, at_most, more, at_least}
use Rattle.pb_language.specs.Expression.{Status, Term, named_host, this_host, item_host}
use Rattle.pb_language.specs.Expression.{group_member, Expression, literal, path, hostvars_alone}
use Rattle.pb_language.specs.Expression.{negation, conjunction, disjunction, comparison, membership}
use Rattle.pb_language.specs.Expression.{in_batch, defined, undefinable, path_status, value_status}
use Rattle.pb_language.specs.Expression.{path_or, value_or, length_of, joined_by, concatenation}
use Rattle.pb_language.specs.Expression.{list_of, record_of, Root, variable, alias, other, member}
use Rattle.pb_language.specs.Expression.{Expressions, no_expressions, expression, Parts, no_parts}
use Rattle.pb_language.specs.Expression.{part}
use Rattle.pb_language.specs.World.{World, variables_of, member_of}
use Rattle.pb_language.specs.Evaluation.{Stuck, undefined, no_field, wrong_sort, Outcome, value}
use Rattle.pb_language.specs.Evaluation.{stuck, Look, there, absent, failing, Named, host_named}
use Rattle.pb_language.specs.Evaluation.{no_host, not_a_host, holds_opaque, any_item_opaque}
use Rattle.pb_language.specs.Evaluation.{has_statuses, status_name, character_count, field_count}
use Rattle.pb_language.specs.Evaluation.{eval}

-- the sorts of values
abbrev pub is_truth_value : Data → Bool
is_truth_value (boolean b) = true
is_truth_value d = false

abbrev pub is_number : Data → Bool
is_number (int z) = true
is_number d = false

abbrev pub is_text : Data → Bool
is_text (text s) = true
is_text d = false

abbrev pub is_list : Data → Bool
is_list (list ds) = true
is_list d = false

abbrev pub is_record : Data → Bool
is_record (rec fs) = true
is_record d = false

abbrev pub is_unreadable : Data → Bool
is_unreadable opaque = true
is_unreadable d = false

-- `.name` and `['name']`, one after the other
pub data Leads : List Name → Data → Outcome → Type 0 where
  at_the_end : {d : Data} → Leads [] d (value d)
  into_the_field : {n : Name} {ns : List Name} {fs : Fields} {d : Data} {o : Outcome}
      → field_value n fs ≡ Some d → Leads ns d o → Leads (n ∷ ns) (rec fs) o
  no_such_field : {n : Name} {ns : List Name} {fs : Fields} → field_value n fs ≡ None
      → Leads (n ∷ ns) (rec fs) (stuck no_field)
  into_no_record : {n : Name} {ns : List Name} {d : Data} → is_record d ≡ false
      → Leads (n ∷ ns) d (stuck wrong_sort)

-- which host a term names
pub data Names (w : World) : Term → Named → Type 0 where
  by_its_name : {n : Name} → Names w (named_host n) (host_named n)
  the_host_itself : Names w this_host (host_named w.this)
  the_item : {n : Name} → field_value (codes "item") w.mine ≡ Some (text n)
      → Names w item_host (host_named n)
  no_item_there : field_value (codes "item") w.mine ≡ None → Names w item_host no_host
  item_is_no_text : {d : Data} → field_value (codes "item") w.mine ≡ Some d → is_text d ≡ false
      → Names w item_host not_a_host
  in_the_group : {g n : Name} {p : ℕ} → member_of g p w.groups ≡ Some n
      → Names w (group_member g p) (host_named n)
  past_the_group : {g : Name} {p : ℕ} → member_of g p w.groups ≡ None
      → Names w (group_member g p) no_host

-- `==` of what may be read, at any depth; the others of whole numbers
pub data Compares : Comparison → Data → Data → Outcome → Type 0 where
  alike : {d e : Data} → holds_opaque d || holds_opaque e ≡ false
      → Compares equal d e (value (boolean (data_eq d e)))
  not_readable : {d e : Data} → holds_opaque d || holds_opaque e ≡ true
      → Compares equal d e (stuck wrong_sort)
  is_less : {y z : ℤ} → Compares less (int y) (int z) (value (boolean (int_lt y z)))
  is_at_most : {y z : ℤ} → Compares at_most (int y) (int z) (value (boolean (int_le y z)))
  is_more : {y z : ℤ} → Compares more (int y) (int z) (value (boolean (int_lt z y)))
  is_at_least : {y z : ℤ} → Compares at_least (int y) (int z) (value (boolean (int_le z y)))
  less_of_no_numbers : {d e : Data} → is_number d && is_number e ≡ false
      → Compares less d e (stuck wrong_sort)
  at_most_of_no_numbers : {d e : Data} → is_number d && is_number e ≡ false
      → Compares at_most d e (stuck wrong_sort)
  more_of_no_numbers : {d e : Data} → is_number d && is_number e ≡ false
      → Compares more d e (stuck wrong_sort)
  at_least_of_no_numbers : {d e : Data} → is_number d && is_number e ≡ false
      → Compares at_least d e (stuck wrong_sort)

-- an equal item, a part of a text, a field of a record
pub data IsIn : Data → Data → Outcome → Type 0 where
  among_items : {d : Data} {es : Items} → holds_opaque d || any_item_opaque es ≡ false
      → IsIn d (list es) (value (boolean (is_item d es)))
  items_not_readable : {d : Data} {es : Items} → holds_opaque d || any_item_opaque es ≡ true
      → IsIn d (list es) (stuck wrong_sort)
  part_of_the_text : {s t : List ℕ} → IsIn (text s) (text t) (value (boolean (is_part s t)))
  a_field_of_it : {s : List ℕ} {fs : Fields}
      → IsIn (text s) (rec fs) (value (boolean (is_some (field_value s fs))))
  in_no_collection : {d e : Data} → is_list e ≡ false → is_text e ≡ false → is_record e ≡ false
      → IsIn d e (stuck wrong_sort)
  no_text_in_it : {d e : Data} → is_list e ≡ false → is_text d ≡ false
      → IsIn d e (stuck wrong_sort)

-- a test of a status asks a result
pub data HasStatus : Status → Data → Outcome → Type 0 where
  of_a_result : {s : Status} {fs : Fields} → has_statuses fs ≡ true
      → HasStatus s (rec fs) (value (boolean (flag_is true (field_value (status_name s) fs))))
  of_no_result : {s : Status} {fs : Fields} → has_statuses fs ≡ false
      → HasStatus s (rec fs) (stuck wrong_sort)
  of_no_record : {s : Status} {d : Data} → is_record d ≡ false → HasStatus s d (stuck wrong_sort)

-- `length`
pub data HasLength : Data → Outcome → Type 0 where
  so_many_items : {ds : Items} → HasLength (list ds) (value (int (pos (count_of ds))))
  so_many_characters : {s : List ℕ} → HasLength (text s) (value (int (pos (character_count s))))
  so_many_fields : {fs : Fields} → HasLength (rec fs) (value (int (pos (field_count fs))))
  no_length : {d : Data} → is_list d ≡ false → is_text d ≡ false → is_record d ≡ false
      → HasLength d (stuck wrong_sort)

-- `join`: rendered items, with a text between
pub data JoinsItems (s : List ℕ) : Items → Outcome → Type 0 where
  no_items_joined : JoinsItems s no_items (value (text []))
  one_item : {d : Data} → is_plain d ≡ true
      → JoinsItems s (item d no_items) (value (text (rendered d)))
  more_items : {d e : Data} {ds : Items} {t : List ℕ} → is_plain d ≡ true
      → JoinsItems s (item e ds) (value (text t))
      → JoinsItems s (item d (item e ds)) (value (text ((rendered d ++ s) ++ t)))
  later_item_stuck : {d e : Data} {ds : Items} {y : Stuck} → is_plain d ≡ true
      → JoinsItems s (item e ds) (stuck y) → JoinsItems s (item d (item e ds)) (stuck y)
  item_not_plain : {d : Data} {ds : Items} → is_plain d ≡ false
      → JoinsItems s (item d ds) (stuck wrong_sort)

pub data Joins : Data → Data → Outcome → Type 0 where
  joins_items : {ds : Items} {s : List ℕ} {o : Outcome} → JoinsItems s ds o
      → Joins (list ds) (text s) o
  joins_no_list : {d e : Data} → is_list d && is_text e ≡ false → Joins d e (stuck wrong_sort)

-- the rules; an operand that is stuck comes before what is asked of its sort, and the first of two
-- before the second
mutual
  pub data Evaluates (w : World) : Expression → Outcome → Type 0 where
    literally : {d : Data} → Evaluates w (literal d) (value d)
    at_the_path : {r : Root} {ns : List Name} {d : Data} {o : Outcome} → Stands w r (there d)
        → Leads ns d o → Evaluates w (path r ns) o
    no_path : {r : Root} {ns : List Name} → Stands w r absent
        → Evaluates w (path r ns) (stuck undefined)
    stuck_path : {r : Root} {ns : List Name} {y : Stuck} → Stands w r (failing y)
        → Evaluates w (path r ns) (stuck y)
    hostvars_is_no_value : {o : Option Term} → Evaluates w (hostvars_alone o) (stuck wrong_sort)
    turned : {e : Expression} {b : Bool} → Evaluates w e (value (boolean b))
        → Evaluates w (negation e) (value (boolean (not b)))
    not_of_no_truth : {e : Expression} {d : Data} → Evaluates w e (value d)
        → is_truth_value d ≡ false → Evaluates w (negation e) (stuck wrong_sort)
    not_of_stuck : {e : Expression} {y : Stuck} → Evaluates w e (stuck y)
        → Evaluates w (negation e) (stuck y)
    all_of_them : {es : Expressions} {o : Outcome} → All w es o → Evaluates w (conjunction es) o
    any_of_them : {es : Expressions} {o : Outcome} → Any w es o → Evaluates w (disjunction es) o
    both_compared : {c : Comparison} {a b : Expression} {d e : Data} {o : Outcome}
        → Evaluates w a (value d) → Evaluates w b (value e) → Compares c d e o
        → Evaluates w (comparison c a b) o
    left_stuck : {c : Comparison} {a b : Expression} {y : Stuck} → Evaluates w a (stuck y)
        → Evaluates w (comparison c a b) (stuck y)
    right_stuck : {c : Comparison} {a b : Expression} {d : Data} {y : Stuck}
        → Evaluates w a (value d) → Evaluates w b (stuck y)
        → Evaluates w (comparison c a b) (stuck y)
    one_in_other : {a b : Expression} {d e : Data} {o : Outcome} → Evaluates w a (value d)
        → Evaluates w b (value e) → IsIn d e o → Evaluates w (membership a b) o
    sought_stuck : {a b : Expression} {y : Stuck} → Evaluates w a (stuck y)
        → Evaluates w (membership a b) (stuck y)
    searched_stuck : {a b : Expression} {d : Data} {y : Stuck} → Evaluates w a (value d)
        → Evaluates w b (stuck y) → Evaluates w (membership a b) (stuck y)
    among_the_active : {t : Term} {n : Name} → Names w t (host_named n)
        → Evaluates w (in_batch t) (value (boolean (is_among n w.batch)))
    no_host_active : {t : Term} → Names w t no_host → Evaluates w (in_batch t) (stuck undefined)
    item_not_active : {d : Data} → field_value (codes "item") w.mine ≡ Some d → is_text d ≡ false
        → holds_opaque d ≡ false → Evaluates w (in_batch item_host) (value (boolean false))
    item_not_readable : {d : Data} → field_value (codes "item") w.mine ≡ Some d
        → holds_opaque d ≡ true → Evaluates w (in_batch item_host) (stuck wrong_sort)
    each_step_there : {r : Root} {ns : List Name} {d e : Data} → Stands w r (there d)
        → Leads ns d (value e) → Evaluates w (defined r ns) (value (boolean true))
    step_missing : {r : Root} {ns : List Name} {d : Data} {y : Stuck} → Stands w r (there d)
        → Leads ns d (stuck y) → Evaluates w (defined r ns) (value (boolean false))
    root_missing : {r : Root} {ns : List Name} → Stands w r absent
        → Evaluates w (defined r ns) (value (boolean false))
    defined_stuck : {r : Root} {ns : List Name} {y : Stuck} → Stands w r (failing y)
        → Evaluates w (defined r ns) (stuck y)
    defined_of_no_path : {e : Expression} {d : Data} → Evaluates w e (value d)
        → Evaluates w (undefinable e) (stuck wrong_sort)
    defined_of_stuck : {e : Expression} {y : Stuck} → Evaluates w e (stuck y)
        → Evaluates w (undefinable e) (stuck y)
    status_of_path : {s : Status} {r : Root} {ns : List Name} {d : Data} {o : Outcome}
        → Evaluates w (path r ns) (value d) → HasStatus s d o → Evaluates w (path_status s r ns) o
    status_of_stuck_path : {s : Status} {r : Root} {ns : List Name} {y : Stuck}
        → Evaluates w (path r ns) (stuck y) → Evaluates w (path_status s r ns) (stuck y)
    status_of_value : {s : Status} {e : Expression} {d : Data} {o : Outcome}
        → Evaluates w e (value d) → HasStatus s d o → Evaluates w (value_status s e) o
    status_of_stuck : {s : Status} {e : Expression} {y : Stuck} → Evaluates w e (stuck y)
        → Evaluates w (value_status s e) (stuck y)
    no_default_needed : {r : Root} {ns : List Name} {e : Expression} {d x : Data}
        → Stands w r (there d) → Leads ns d (value x) → Evaluates w (path_or r ns e) (value x)
    default_for_step : {r : Root} {ns : List Name} {e : Expression} {d : Data} {y : Stuck}
        {o : Outcome} → Stands w r (there d) → Leads ns d (stuck y) → Chooses w e o
        → Evaluates w (path_or r ns e) o
    default_for_root : {r : Root} {ns : List Name} {e : Expression} {o : Outcome}
        → Stands w r absent → Chooses w e o → Evaluates w (path_or r ns e) o
    default_stuck : {r : Root} {ns : List Name} {e : Expression} {y : Stuck}
        → Stands w r (failing y) → Evaluates w (path_or r ns e) (stuck y)
    default_of_no_path : {a e : Expression} {o : Outcome} → Evaluates w a o
        → Evaluates w (value_or a e) o
    has_length : {e : Expression} {d : Data} {o : Outcome} → Evaluates w e (value d)
        → HasLength d o → Evaluates w (length_of e) o
    length_stuck : {e : Expression} {y : Stuck} → Evaluates w e (stuck y)
        → Evaluates w (length_of e) (stuck y)
    items_joined : {e s : Expression} {d x : Data} {o : Outcome} → Evaluates w e (value d)
        → Evaluates w s (value x) → Joins d x o → Evaluates w (joined_by e s) o
    joined_stuck : {e s : Expression} {y : Stuck} → Evaluates w e (stuck y)
        → Evaluates w (joined_by e s) (stuck y)
    between_stuck : {e s : Expression} {d : Data} {y : Stuck} → Evaluates w e (value d)
        → Evaluates w s (stuck y) → Evaluates w (joined_by e s) (stuck y)
    parts_written : {es : Expressions} {o : Outcome} → Writes w es o
        → Evaluates w (concatenation es) o
    items_listed : {es : Expressions} {o : Outcome} → Lists w es o → Evaluates w (list_of es) o
    fields_recorded : {ps : Parts} {o : Outcome} → Records w ps o → Evaluates w (record_of ps) o

  -- what stands where a path begins
  pub data Stands (w : World) : Root → Look → Type 0 where
    variable_there : {n : Name} {d : Data} → field_value n w.mine ≡ Some d
        → Stands w (variable n) (there d)
    no_variable : {n : Name} → field_value n w.mine ≡ None → Stands w (variable n) absent
    alias_there : {n : Name} {e : Expression} {d : Data} → Evaluates w e (value d)
        → is_unreadable d ≡ false → Stands w (alias n e) (there d)
    alias_not_readable : {n : Name} {e : Expression} → Evaluates w e (value opaque)
        → Stands w (alias n e) (failing wrong_sort)
    alias_stuck : {n : Name} {e : Expression} {y : Stuck} → Evaluates w e (stuck y)
        → Stands w (alias n e) (failing y)
    other_there : {t : Term} {g x : Name} {d : Data} → Names w t (host_named g)
        → field_value x (variables_of g w.hosts) ≡ Some d → Stands w (other t x) (there d)
    other_has_none : {t : Term} {g x : Name} → Names w t (host_named g)
        → field_value x (variables_of g w.hosts) ≡ None → Stands w (other t x) absent
    nobody_has_it : {t : Term} {x : Name} → Names w t no_host → Stands w (other t x) absent
    of_no_host : {t : Term} {x : Name} → Names w t not_a_host
        → Stands w (other t x) (failing wrong_sort)
    member_there : {g n : Name} {p : ℕ} → member_of g p w.groups ≡ Some n
        → Stands w (member g p) (there (text n))
    no_member : {g : Name} {p : ℕ} → member_of g p w.groups ≡ None → Stands w (member g p) absent

  -- `and`: nothing behind what is false is looked at
  pub data All (w : World) : Expressions → Outcome → Type 0 where
    nothing_false : All w no_expressions (value (boolean true))
    true_then : {e : Expression} {es : Expressions} {o : Outcome}
        → Evaluates w e (value (boolean true)) → All w es o → All w (expression e es) o
    false_ends : {e : Expression} {es : Expressions} → Evaluates w e (value (boolean false))
        → All w (expression e es) (value (boolean false))
    and_of_no_truth : {e : Expression} {es : Expressions} {d : Data} → Evaluates w e (value d)
        → is_truth_value d ≡ false → All w (expression e es) (stuck wrong_sort)
    and_stuck : {e : Expression} {es : Expressions} {y : Stuck} → Evaluates w e (stuck y)
        → All w (expression e es) (stuck y)

  -- `or`: nothing behind what is true is looked at
  pub data Any (w : World) : Expressions → Outcome → Type 0 where
    nothing_true : Any w no_expressions (value (boolean false))
    false_then : {e : Expression} {es : Expressions} {o : Outcome}
        → Evaluates w e (value (boolean false)) → Any w es o → Any w (expression e es) o
    true_ends : {e : Expression} {es : Expressions} → Evaluates w e (value (boolean true))
        → Any w (expression e es) (value (boolean true))
    or_of_no_truth : {e : Expression} {es : Expressions} {d : Data} → Evaluates w e (value d)
        → is_truth_value d ≡ false → Any w (expression e es) (stuck wrong_sort)
    or_stuck : {e : Expression} {es : Expressions} {y : Stuck} → Evaluates w e (stuck y)
        → Any w (expression e es) (stuck y)

  -- a value that may be read
  pub data Chooses (w : World) : Expression → Outcome → Type 0 where
    readable_value : {e : Expression} {d : Data} → Evaluates w e (value d)
        → is_unreadable d ≡ false → Chooses w e (value d)
    chosen_not_readable : {e : Expression} → Evaluates w e (value opaque)
        → Chooses w e (stuck wrong_sort)
    chosen_stuck : {e : Expression} {y : Stuck} → Evaluates w e (stuck y) → Chooses w e (stuck y)

  -- a text with templates: its parts rendered
  pub data Writes (w : World) : Expressions → Outcome → Type 0 where
    nothing_written : Writes w no_expressions (value (text []))
    part_then : {e : Expression} {es : Expressions} {d : Data} {t : List ℕ}
        → Evaluates w e (value d) → is_plain d ≡ true → Writes w es (value (text t))
        → Writes w (expression e es) (value (text (rendered d ++ t)))
    later_part_stuck : {e : Expression} {es : Expressions} {d : Data} {y : Stuck}
        → Evaluates w e (value d) → is_plain d ≡ true → Writes w es (stuck y)
        → Writes w (expression e es) (stuck y)
    part_not_plain : {e : Expression} {es : Expressions} {d : Data} → Evaluates w e (value d)
        → is_plain d ≡ false → Writes w (expression e es) (stuck wrong_sort)
    part_stuck : {e : Expression} {es : Expressions} {y : Stuck} → Evaluates w e (stuck y)
        → Writes w (expression e es) (stuck y)

  -- a list of what may be read
  pub data Lists (w : World) : Expressions → Outcome → Type 0 where
    nothing_listed : Lists w no_expressions (value (list no_items))
    item_then : {e : Expression} {es : Expressions} {d : Data} {ds : Items}
        → Evaluates w e (value d) → is_unreadable d ≡ false → Lists w es (value (list ds))
        → Lists w (expression e es) (value (list (item d ds)))
    later_listed_stuck : {e : Expression} {es : Expressions} {d : Data} {y : Stuck}
        → Evaluates w e (value d) → is_unreadable d ≡ false → Lists w es (stuck y)
        → Lists w (expression e es) (stuck y)
    listed_not_readable : {e : Expression} {es : Expressions} → Evaluates w e (value opaque)
        → Lists w (expression e es) (stuck wrong_sort)
    listed_stuck : {e : Expression} {es : Expressions} {y : Stuck} → Evaluates w e (stuck y)
        → Lists w (expression e es) (stuck y)

  -- a record of what may be read
  pub data Records (w : World) : Parts → Outcome → Type 0 where
    nothing_recorded : Records w no_parts (value (rec no_fields))
    field_then : {n : Name} {e : Expression} {ps : Parts} {d : Data} {fs : Fields}
        → Evaluates w e (value d) → is_unreadable d ≡ false → Records w ps (value (rec fs))
        → Records w (part n e ps) (value (rec (field n d fs)))
    later_field_stuck : {n : Name} {e : Expression} {ps : Parts} {d : Data} {y : Stuck}
        → Evaluates w e (value d) → is_unreadable d ≡ false → Records w ps (stuck y)
        → Records w (part n e ps) (stuck y)
    field_not_readable : {n : Name} {e : Expression} {ps : Parts} → Evaluates w e (value opaque)
        → Records w (part n e ps) (stuck wrong_sort)
    field_stuck : {n : Name} {e : Expression} {ps : Parts} {y : Stuck} → Evaluates w e (stuck y)
        → Records w (part n e ps) (stuck y)

-- an expression has a value, or is stuck, as the rules say
abbrev pub OutcomesAreDerived : Type 0
OutcomesAreDerived = (w : World) (e : Expression) → Evaluates w e (eval w e)

-- and in no other way
abbrev pub DerivedAreOutcomes : Type 0
DerivedAreOutcomes = (w : World) (e : Expression) (o : Outcome) → Evaluates w e o → eval w e ≡ o
