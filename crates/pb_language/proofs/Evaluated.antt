-- What an expression comes to is derived by the rules, and nothing else is.
use Rattle.std.proofs.Common.{◌≡◌, ℕ, List, [], ◌∷◌, ◌++◌, Bool, true, false, ◌||◌, cond, Option, Some, None, codes, refl, sym}
use Rattle.pb_semantics.specs.Data.{Data, Items, Fields, null, boolean, int, text, list, rec, opaque, no_items, item, field_value}
use Rattle.pb_semantics.specs.Keeps.{flag_is}
use Rattle.pb_semantics.specs.Equal.{data_eq, is_item}
use Rattle.pb_semantics.specs.Render.{is_plain, rendered}
use Rattle.pb_semantics.proofs.Bools.{untrue}
use Rattle.pb_language.specs.Expression.{Name, Comparison, equal, less, at_most, more, at_least, Status, Term, named_host, this_host, item_host, group_member, Expression, literal, path, hostvars_alone, negation, conjunction, disjunction, comparison, membership, in_batch, defined, undefinable, path_status, value_status, path_or, value_or, length_of, joined_by, concatenation, list_of, record_of, Root, variable, alias, other, member, Expressions, no_expressions, expression, Parts, no_parts, part}
use Rattle.pb_language.specs.World.{World, variables_of, member_of}
use Rattle.pb_language.specs.Evaluation.{undefined, no_field, wrong_sort, Outcome, value, stuck, Look, there, absent, failing, Named, host_named, no_host, not_a_host, then_go, or_stuck as else_stuck, value_below, is_value, found, readable, name_in, member_named, member_text, host_of, look_there, read, is_there, value_else, or_else, only_boolean, negated, and_then, or_then, holds_opaque, any_item_opaque, compared, found_in, is_text_among, member_among, is_active, has_statuses, status_name, status_of, counted, plain_text, with_text, joined_items, joined, put_item, put_part, given, eval, look, eval_all, eval_any, eval_text, eval_items, eval_parts}
use Rattle.pb_language.specs.Evaluates.{is_text, is_list, is_record, is_unreadable, Leads, at_the_end, into_the_field, no_such_field, into_no_record, Names, by_its_name, the_host_itself, the_item, no_item_there, item_is_no_text, in_the_group, past_the_group, Compares, alike, not_readable, is_less, is_at_most, is_more, is_at_least, less_of_no_numbers, at_most_of_no_numbers, more_of_no_numbers, at_least_of_no_numbers, IsIn, among_items, items_not_readable, part_of_the_text, a_field_of_it, in_no_collection, no_text_in_it, HasStatus, of_a_result, of_no_result, of_no_record, HasLength, so_many_items, so_many_characters, so_many_fields, no_length, JoinsItems, no_items_joined, one_item, more_items, later_item_stuck, item_not_plain, Joins, joins_items, joins_no_list, Evaluates, Stands, All, Any, Chooses, Writes, Lists, Records, literally, at_the_path, no_path, stuck_path, hostvars_is_no_value, turned, not_of_no_truth, not_of_stuck, all_of_them, any_of_them, both_compared, left_stuck, right_stuck, one_in_other, sought_stuck, searched_stuck, among_the_active, no_host_active, item_not_active, item_not_readable, each_step_there, step_missing, root_missing, defined_stuck, defined_of_no_path, defined_of_stuck, status_of_path, status_of_stuck_path, status_of_value, status_of_stuck, no_default_needed, default_for_step, default_for_root, default_stuck, default_of_no_path, has_length, length_stuck, items_joined, joined_stuck, between_stuck, parts_written, items_listed, fields_recorded, variable_there, no_variable, alias_there, alias_not_readable, alias_stuck, other_there, other_has_none, nobody_has_it, of_no_host, member_there, no_member, nothing_false, true_then, false_ends, and_of_no_truth, and_stuck, nothing_true, false_then, true_ends, or_of_no_truth, or_stuck, readable_value, chosen_not_readable, chosen_stuck, nothing_written, part_then, later_part_stuck, part_not_plain, part_stuck, nothing_listed, item_then, later_listed_stuck, listed_not_readable, listed_stuck, nothing_recorded, field_then, later_field_stuck, field_not_readable, field_stuck, OutcomesAreDerived}

-- what the operations on values come to
leads_field : (n : Name) (ns : List Name) (fs : Fields) (o : Option Data) → field_value n fs ≡ o → ((d : Data) → Leads ns d (value_below ns d)) → Leads (n ∷ ns) (rec fs) (else_stuck no_field (value_below ns) o)
leads_field n ns fs None e f = no_such_field e
leads_field n ns fs (Some d) e f = into_the_field e (f d)

leads : (ns : List Name) (d : Data) → Leads ns d (value_below ns d)
leads [] d = at_the_end
leads (n ∷ ns) (rec fs) = leads_field n ns fs (field_value n fs) refl (λ d. leads ns d)
leads (n ∷ ns) d = into_no_record refl

names_item : (w : World) (o : Option Data) → field_value (codes "item") w.mine ≡ o → Names w item_host (name_in o)
names_item w None e = no_item_there e
names_item w (Some (text n)) e = the_item e
names_item w (Some d) e = item_is_no_text e refl

names_member : (w : World) (g : Name) (p : ℕ) (o : Option Name) → member_of g p w.groups ≡ o → Names w (group_member g p) (member_named o)
names_member w g p None e = past_the_group e
names_member w g p (Some n) e = in_the_group e

names : (w : World) (t : Term) → Names w t (host_of w t)
names w (named_host n) = by_its_name
names w this_host = the_host_itself
names w item_host = names_item w (field_value (codes "item") w.mine) refl
names w (group_member g p) = names_member w g p (member_of g p w.groups) refl

compares_alike : (d e : Data) (q : Bool) → holds_opaque d || holds_opaque e ≡ q → Compares equal d e (cond q (stuck wrong_sort) (value (boolean (data_eq d e))))
compares_alike d e true h = not_readable h
compares_alike d e false h = alike h

compares : (c : Comparison) (d e : Data) → Compares c d e (compared c d e)
compares equal d e = compares_alike d e (holds_opaque d || holds_opaque e) refl
compares less (int y) (int z) = is_less
compares less (int y) e = less_of_no_numbers refl
compares less d e = less_of_no_numbers refl
compares at_most (int y) (int z) = is_at_most
compares at_most (int y) e = at_most_of_no_numbers refl
compares at_most d e = at_most_of_no_numbers refl
compares more (int y) (int z) = is_more
compares more (int y) e = more_of_no_numbers refl
compares more d e = more_of_no_numbers refl
compares at_least (int y) (int z) = is_at_least
compares at_least (int y) e = at_least_of_no_numbers refl
compares at_least d e = at_least_of_no_numbers refl

in_items : (d : Data) (es : Items) (q : Bool) → holds_opaque d || any_item_opaque es ≡ q → IsIn d (list es) (cond q (stuck wrong_sort) (value (boolean (is_item d es))))
in_items d es true h = items_not_readable h
in_items d es false h = among_items h

is_in : (d e : Data) → IsIn d e (found_in d e)
is_in d (list es) = in_items d es (holds_opaque d || any_item_opaque es) refl
is_in (text s) (text t) = part_of_the_text
is_in (text s) (rec fs) = a_field_of_it
is_in d (text t) = no_text_in_it refl refl
is_in d (rec fs) = no_text_in_it refl refl
is_in d e = in_no_collection refl refl refl

status_asked : (s : Status) (fs : Fields) (q : Bool) → has_statuses fs ≡ q → HasStatus s (rec fs) (cond q (value (boolean (flag_is true (field_value (status_name s) fs)))) (stuck wrong_sort))
status_asked s fs true h = of_a_result h
status_asked s fs false h = of_no_result h

has_status : (s : Status) (d : Data) → HasStatus s d (status_of s d)
has_status s (rec fs) = status_asked s fs (has_statuses fs) refl
has_status s d = of_no_record refl

length_is : (d : Data) → HasLength d (counted d)
length_is (list ds) = so_many_items
length_is (text s) = so_many_characters
length_is (rec fs) = so_many_fields
length_is d = no_length refl refl refl

-- what is joined or written is a text
abbrev is_text_outcome : Outcome → Bool
is_text_outcome (value d) = is_text d
is_text_outcome (stuck y) = true

text_behind : (s : List ℕ) (o : Outcome) → is_text_outcome (then_go o (with_text s)) ≡ true
text_behind s (value (text t)) = refl
text_behind s (value d) = refl
text_behind s (stuck y) = refl

plain_is_text : (q : Bool) (o : Outcome) → is_text_outcome o ≡ true → is_text_outcome (cond q o (stuck wrong_sort)) ≡ true
plain_is_text true o h = h
plain_is_text false o h = refl

joined_is_text : (s : List ℕ) (ds : Items) → is_text_outcome (joined_items s ds) ≡ true
joined_is_text s no_items = refl
joined_is_text s (item d no_items) = plain_is_text (is_plain d) (value (text (rendered d))) refl
joined_is_text s (item d (item e ds)) = plain_is_text (is_plain d) (then_go (joined_items s (item e ds)) (with_text (rendered d ++ s))) (text_behind (rendered d ++ s) (joined_items s (item e ds)))

written_is_text : (w : World) (es : Expressions) → is_text_outcome (eval_text w es) ≡ true
written_is_text w no_expressions = refl
written_is_text w (expression e es) = first (eval w e) where
  first : (o : Outcome) → is_text_outcome (then_go o (λ d. plain_text d (λ s. then_go (eval_text w es) (with_text s)))) ≡ true
  first (value d) = plain_is_text (is_plain d) (then_go (eval_text w es) (with_text (rendered d))) (text_behind (rendered d) (eval_text w es))
  first (stuck y) = refl

joins_one : (s : List ℕ) (d : Data) (q : Bool) → is_plain d ≡ q → JoinsItems s (item d no_items) (cond q (value (text (rendered d))) (stuck wrong_sort))
joins_one s d true h = one_item h
joins_one s d false h = item_not_plain h

joins_rest : (s : List ℕ) (d e : Data) (ds : Items) (o : Outcome) → is_plain d ≡ true → JoinsItems s (item e ds) o → is_text_outcome o ≡ true → JoinsItems s (item d (item e ds)) (then_go o (with_text (rendered d ++ s)))
joins_rest s d e ds (value (text t)) h j i = more_items h j
joins_rest s d e ds (value x) h j i = untrue i
joins_rest s d e ds (stuck y) h j i = later_item_stuck h j

joins_more : (s : List ℕ) (d e : Data) (ds : Items) (q : Bool) → is_plain d ≡ q → JoinsItems s (item e ds) (joined_items s (item e ds))
    → JoinsItems s (item d (item e ds)) (cond q (then_go (joined_items s (item e ds)) (with_text (rendered d ++ s))) (stuck wrong_sort))
joins_more s d e ds true h j = joins_rest s d e ds (joined_items s (item e ds)) h j (joined_is_text s (item e ds))
joins_more s d e ds false h j = item_not_plain h

joins_them : (s : List ℕ) (ds : Items) → JoinsItems s ds (joined_items s ds)
joins_them s no_items = no_items_joined
joins_them s (item d no_items) = joins_one s d (is_plain d) refl
joins_them s (item d (item e ds)) = joins_more s d e ds (is_plain d) refl (joins_them s (item e ds))

joins : (d e : Data) → Joins d e (joined d e)
joins (list ds) (text s) = joins_items (joins_them s ds)
joins (list ds) e = joins_no_list refl
joins d e = joins_no_list refl

-- what is chosen among `and` and `or` is a truth value
pub only_all : (w : World) (es : Expressions) → then_go (eval_all w es) only_boolean ≡ eval_all w es
only_all w no_expressions = refl
only_all w (expression e es) = first (eval w e) where
  again : (o : Outcome) → then_go (then_go o only_boolean) only_boolean ≡ then_go o only_boolean
  again (value (boolean b)) = refl
  again (value d) = refl
  again (stuck y) = refl

  first : (o : Outcome) → then_go (then_go o (λ d. and_then d (eval_all w es))) only_boolean ≡ then_go o (λ d. and_then d (eval_all w es))
  first (value (boolean true)) = again (eval_all w es)
  first (value (boolean false)) = refl
  first (value d) = refl
  first (stuck y) = refl

pub only_any : (w : World) (es : Expressions) → then_go (eval_any w es) only_boolean ≡ eval_any w es
only_any w no_expressions = refl
only_any w (expression e es) = first (eval w e) where
  again : (o : Outcome) → then_go (then_go o only_boolean) only_boolean ≡ then_go o only_boolean
  again (value (boolean b)) = refl
  again (value d) = refl
  again (stuck y) = refl

  first : (o : Outcome) → then_go (then_go o (λ d. or_then d (eval_any w es))) only_boolean ≡ then_go o (λ d. or_then d (eval_any w es))
  first (value (boolean true)) = refl
  first (value (boolean false)) = again (eval_any w es)
  first (value d) = refl
  first (stuck y) = refl

-- each form, from what its operands come to
path_derived : (w : World) (r : Root) (ns : List Name) (l : Look) → Stands w r l → Evaluates w (path r ns) (read ns l)
path_derived w r ns (there d) h = at_the_path h (leads ns d)
path_derived w r ns absent h = no_path h
path_derived w r ns (failing y) h = stuck_path h

not_derived : (w : World) (e : Expression) (o : Outcome) → Evaluates w e o → Evaluates w (negation e) (then_go o negated)
not_derived w e (value (boolean b)) h = turned h
not_derived w e (value d) h = not_of_no_truth h refl
not_derived w e (stuck y) h = not_of_stuck h

compared_derived : (w : World) (c : Comparison) (a b : Expression) (o p : Outcome) → Evaluates w a o → Evaluates w b p → Evaluates w (comparison c a b) (then_go o (λ d. then_go p (compared c d)))
compared_derived w c a b (value d) (value e) h i = both_compared h i (compares c d e)
compared_derived w c a b (value d) (stuck y) h i = right_stuck h i
compared_derived w c a b (stuck y) p h i = left_stuck h

in_derived : (w : World) (a b : Expression) (o p : Outcome) → Evaluates w a o → Evaluates w b p → Evaluates w (membership a b) (then_go o (λ d. then_go p (found_in d)))
in_derived w a b (value d) (value e) h i = one_in_other h i (is_in d e)
in_derived w a b (value d) (stuck y) h i = searched_stuck h i
in_derived w a b (stuck y) p h i = sought_stuck h

item_active : (w : World) (d : Data) (q : Bool) → field_value (codes "item") w.mine ≡ Some d → is_text d ≡ false → holds_opaque d ≡ q → Evaluates w (in_batch item_host) (cond q (stuck wrong_sort) (value (boolean false)))
item_active w d true e i h = item_not_readable e h
item_active w d false e i h = item_not_active e i h

item_active_derived : (w : World) (o : Option Data) → field_value (codes "item") w.mine ≡ o → Evaluates w (in_batch item_host) (else_stuck undefined (λ d. is_text_among d w.batch) o)
item_active_derived w None e = no_host_active (no_item_there e)
item_active_derived w (Some (text n)) e = among_the_active (the_item e)
item_active_derived w (Some d) e = item_active w d (holds_opaque d) e refl refl

member_active_derived : (w : World) (g : Name) (p : ℕ) (o : Option Name) → member_of g p w.groups ≡ o → Evaluates w (in_batch (group_member g p)) (member_among o w.batch)
member_active_derived w g p None e = no_host_active (past_the_group e)
member_active_derived w g p (Some n) e = among_the_active (in_the_group e)

active_derived : (w : World) (t : Term) → Evaluates w (in_batch t) (is_active w t)
active_derived w (named_host n) = among_the_active by_its_name
active_derived w this_host = among_the_active the_host_itself
active_derived w item_host = item_active_derived w (field_value (codes "item") w.mine) refl
active_derived w (group_member g p) = member_active_derived w g p (member_of g p w.groups) refl

below_defined : (w : World) (r : Root) (ns : List Name) (d : Data) (o : Outcome) → Stands w r (there d) → Leads ns d o → Evaluates w (defined r ns) (value (boolean (is_value o)))
below_defined w r ns d (value e) h l = each_step_there h l
below_defined w r ns d (stuck y) h l = step_missing h l

defined_derived : (w : World) (r : Root) (ns : List Name) (l : Look) → Stands w r l → Evaluates w (defined r ns) (is_there ns l)
defined_derived w r ns (there d) h = below_defined w r ns d (value_below ns d) h (leads ns d)
defined_derived w r ns absent h = root_missing h
defined_derived w r ns (failing y) h = defined_stuck h

undefinable_derived : (w : World) (e : Expression) (o : Outcome) → Evaluates w e o → Evaluates w (undefinable e) (then_go o (λ d. stuck wrong_sort))
undefinable_derived w e (value d) h = defined_of_no_path h
undefinable_derived w e (stuck y) h = defined_of_stuck h

path_status_derived : (w : World) (s : Status) (r : Root) (ns : List Name) (o : Outcome) → Evaluates w (path r ns) o → Evaluates w (path_status s r ns) (then_go o (status_of s))
path_status_derived w s r ns (value d) h = status_of_path h (has_status s d)
path_status_derived w s r ns (stuck y) h = status_of_stuck_path h

status_derived : (w : World) (s : Status) (e : Expression) (o : Outcome) → Evaluates w e o → Evaluates w (value_status s e) (then_go o (status_of s))
status_derived w s e (value d) h = status_of_value h (has_status s d)
status_derived w s e (stuck y) h = status_of_stuck h

pub chosen_derived : (w : World) (e : Expression) (o : Outcome) → Evaluates w e o → Chooses w e (then_go o given)
chosen_derived w e (value opaque) h = chosen_not_readable h
chosen_derived w e (value d) h = readable_value h refl
chosen_derived w e (stuck y) h = chosen_stuck h

below_or : (w : World) (r : Root) (ns : List Name) (e : Expression) (d : Data) (o p : Outcome) → Stands w r (there d) → Leads ns d o → Chooses w e p → Evaluates w (path_or r ns e) (value_else o p)
below_or w r ns e d (value x) p h l c = no_default_needed h l
below_or w r ns e d (stuck y) p h l c = default_for_step h l c

or_derived : (w : World) (r : Root) (ns : List Name) (e : Expression) (l : Look) (p : Outcome) → Stands w r l → Chooses w e p → Evaluates w (path_or r ns e) (or_else ns l p)
or_derived w r ns e (there d) p h c = below_or w r ns e d (value_below ns d) p h (leads ns d) c
or_derived w r ns e absent p h c = default_for_root h c
or_derived w r ns e (failing y) p h c = default_stuck h

length_derived : (w : World) (e : Expression) (o : Outcome) → Evaluates w e o → Evaluates w (length_of e) (then_go o counted)
length_derived w e (value d) h = has_length h (length_is d)
length_derived w e (stuck y) h = length_stuck h

joined_derived : (w : World) (e s : Expression) (o p : Outcome) → Evaluates w e o → Evaluates w s p → Evaluates w (joined_by e s) (then_go o (λ d. then_go p (joined d)))
joined_derived w e s (value d) (value x) h i = items_joined h i (joins d x)
joined_derived w e s (value d) (stuck y) h i = between_stuck h i
joined_derived w e s (stuck y) p h i = joined_stuck h

variable_stands : (w : World) (n : Name) (o : Option Data) → field_value n w.mine ≡ o → Stands w (variable n) (found o)
variable_stands w n None e = no_variable e
variable_stands w n (Some d) e = variable_there e

alias_stands : (w : World) (n : Name) (e : Expression) (o : Outcome) → Evaluates w e o → Stands w (alias n e) (readable o)
alias_stands w n e (value opaque) h = alias_not_readable h
alias_stands w n e (value d) h = alias_there h refl
alias_stands w n e (stuck y) h = alias_stuck h

host_stands : (w : World) (t : Term) (g x : Name) (o : Option Data) → Names w t (host_named g) → field_value x (variables_of g w.hosts) ≡ o → Stands w (other t x) (found o)
host_stands w t g x None h e = other_has_none h e
host_stands w t g x (Some d) h e = other_there h e

other_stands : (w : World) (t : Term) (x : Name) (g : Named) → Names w t g → Stands w (other t x) (look_there w x g)
other_stands w t x (host_named g) h = host_stands w t g x (field_value x (variables_of g w.hosts)) h refl
other_stands w t x no_host h = nobody_has_it h
other_stands w t x not_a_host h = of_no_host h

member_stands : (w : World) (g : Name) (p : ℕ) (o : Option Name) → member_of g p w.groups ≡ o → Stands w (member g p) (found (member_text o))
member_stands w g p None e = no_member e
member_stands w g p (Some n) e = member_there e

all_step : (w : World) (e : Expression) (es : Expressions) (o p : Outcome) → Evaluates w e o → All w es p → then_go p only_boolean ≡ p → All w (expression e es) (then_go o (λ d. and_then d p))
all_step w e es (value (boolean true)) p h i s = rw s (true_then h i)
all_step w e es (value (boolean false)) p h i s = false_ends h
all_step w e es (value d) p h i s = and_of_no_truth h refl
all_step w e es (stuck y) p h i s = and_stuck h

any_step : (w : World) (e : Expression) (es : Expressions) (o p : Outcome) → Evaluates w e o → Any w es p → then_go p only_boolean ≡ p → Any w (expression e es) (then_go o (λ d. or_then d p))
any_step w e es (value (boolean false)) p h i s = rw s (false_then h i)
any_step w e es (value (boolean true)) p h i s = true_ends h
any_step w e es (value d) p h i s = or_of_no_truth h refl
any_step w e es (stuck y) p h i s = or_stuck h

text_rest : (w : World) (e : Expression) (es : Expressions) (d : Data) (q : Bool) (p : Outcome) → Evaluates w e (value d) → is_plain d ≡ q → Writes w es p → is_text_outcome p ≡ true
    → Writes w (expression e es) (cond q (then_go p (with_text (rendered d))) (stuck wrong_sort))
text_rest w e es d true (value (text t)) h q i s = part_then h q i
text_rest w e es d true (value x) h q i s = untrue s
text_rest w e es d true (stuck y) h q i s = later_part_stuck h q i
text_rest w e es d false p h q i s = part_not_plain h q

text_step : (w : World) (e : Expression) (es : Expressions) (o p : Outcome) → Evaluates w e o → Writes w es p → is_text_outcome p ≡ true
    → Writes w (expression e es) (then_go o (λ d. plain_text d (λ s. then_go p (with_text s))))
text_step w e es (value d) p h i s = text_rest w e es d (is_plain d) p h refl i s
text_step w e es (stuck y) p h i s = part_stuck h

abbrev is_list_outcome : Outcome → Bool
is_list_outcome (value d) = is_list d
is_list_outcome (stuck y) = true

abbrev pub is_record_outcome : Outcome → Bool
is_record_outcome (value d) = is_record d
is_record_outcome (stuck y) = true

item_put : (w : World) (e : Expression) (es : Expressions) (d : Data) (p : Outcome) → Evaluates w e (value d) → is_unreadable d ≡ false → Lists w es p → is_list_outcome p ≡ true → Lists w (expression e es) (put_item d p)
item_put w e es opaque p h r i s = untrue (sym r)
item_put w e es null (value (list ds)) h r i s = item_then h r i
item_put w e es (boolean b) (value (list ds)) h r i s = item_then h r i
item_put w e es (int z) (value (list ds)) h r i s = item_then h r i
item_put w e es (text t) (value (list ds)) h r i s = item_then h r i
item_put w e es (list xs) (value (list ds)) h r i s = item_then h r i
item_put w e es (rec fs) (value (list ds)) h r i s = item_then h r i
item_put w e es d (value x) h r i s = untrue s
item_put w e es null (stuck y) h r i s = later_listed_stuck h r i
item_put w e es (boolean b) (stuck y) h r i s = later_listed_stuck h r i
item_put w e es (int z) (stuck y) h r i s = later_listed_stuck h r i
item_put w e es (text t) (stuck y) h r i s = later_listed_stuck h r i
item_put w e es (list xs) (stuck y) h r i s = later_listed_stuck h r i
item_put w e es (rec fs) (stuck y) h r i s = later_listed_stuck h r i

item_step : (w : World) (e : Expression) (es : Expressions) (o p : Outcome) → Evaluates w e o → Lists w es p → is_list_outcome p ≡ true → Lists w (expression e es) (then_go o (λ d. put_item d p))
item_step w e es (value opaque) p h i s = listed_not_readable h
item_step w e es (value d) p h i s = item_put w e es d p h refl i s
item_step w e es (stuck y) p h i s = listed_stuck h

field_put : (w : World) (n : Name) (e : Expression) (ps : Parts) (d : Data) (p : Outcome) → Evaluates w e (value d) → is_unreadable d ≡ false → Records w ps p → is_record_outcome p ≡ true → Records w (part n e ps) (put_part n d p)
field_put w n e ps opaque p h r i s = untrue (sym r)
field_put w n e ps null (value (rec fs)) h r i s = field_then h r i
field_put w n e ps (boolean b) (value (rec fs)) h r i s = field_then h r i
field_put w n e ps (int z) (value (rec fs)) h r i s = field_then h r i
field_put w n e ps (text t) (value (rec fs)) h r i s = field_then h r i
field_put w n e ps (list xs) (value (rec fs)) h r i s = field_then h r i
field_put w n e ps (rec gs) (value (rec fs)) h r i s = field_then h r i
field_put w n e ps d (value x) h r i s = untrue s
field_put w n e ps null (stuck y) h r i s = later_field_stuck h r i
field_put w n e ps (boolean b) (stuck y) h r i s = later_field_stuck h r i
field_put w n e ps (int z) (stuck y) h r i s = later_field_stuck h r i
field_put w n e ps (text t) (stuck y) h r i s = later_field_stuck h r i
field_put w n e ps (list xs) (stuck y) h r i s = later_field_stuck h r i
field_put w n e ps (rec gs) (stuck y) h r i s = later_field_stuck h r i

field_step : (w : World) (n : Name) (e : Expression) (ps : Parts) (o p : Outcome) → Evaluates w e o → Records w ps p → is_record_outcome p ≡ true → Records w (part n e ps) (then_go o (λ d. put_part n d p))
field_step w n e ps (value opaque) p h i s = field_not_readable h
field_step w n e ps (value d) p h i s = field_put w n e ps d p h refl i s
field_step w n e ps (stuck y) p h i s = field_stuck h

-- what is listed is a list, and what is recorded a record
put_is_list : (d : Data) (o : Outcome) → is_list_outcome (put_item d o) ≡ true
put_is_list opaque o = refl
put_is_list d (value (list ds)) = refl
put_is_list d (value e) = refl
put_is_list d (stuck y) = refl

listed_is_list : (w : World) (es : Expressions) → is_list_outcome (eval_items w es) ≡ true
listed_is_list w no_expressions = refl
listed_is_list w (expression e es) = first (eval w e) where
  first : (o : Outcome) → is_list_outcome (then_go o (λ d. put_item d (eval_items w es))) ≡ true
  first (value d) = put_is_list d (eval_items w es)
  first (stuck y) = refl

pub put_is_record : (n : Name) (d : Data) (o : Outcome) → is_record_outcome (put_part n d o) ≡ true
put_is_record n opaque o = refl
put_is_record n d (value (rec fs)) = refl
put_is_record n d (value e) = refl
put_is_record n d (stuck y) = refl

pub recorded_is_record : (w : World) (ps : Parts) → is_record_outcome (eval_parts w ps) ≡ true
recorded_is_record w no_parts = refl
recorded_is_record w (part n e ps) = first (eval w e) where
  first : (o : Outcome) → is_record_outcome (then_go o (λ d. put_part n d (eval_parts w ps))) ≡ true
  first (value d) = put_is_record n d (eval_parts w ps)
  first (stuck y) = refl

-- each outcome is derived
module _ (w : World) where
  mutual
    pub derived : (e : Expression) → Evaluates w e (eval w e)
    derived (literal d) = literally
    derived (path r ns) = path_derived w r ns (look w r) (stands r)
    derived (hostvars_alone o) = hostvars_is_no_value
    derived (negation e) = not_derived w e (eval w e) (derived e)
    derived (conjunction es) = all_of_them (all_derived es)
    derived (disjunction es) = any_of_them (any_derived es)
    derived (comparison c a b) = compared_derived w c a b (eval w a) (eval w b) (derived a) (derived b)
    derived (membership a b) = in_derived w a b (eval w a) (eval w b) (derived a) (derived b)
    derived (in_batch t) = active_derived w t
    derived (defined r ns) = defined_derived w r ns (look w r) (stands r)
    derived (undefinable e) = undefinable_derived w e (eval w e) (derived e)
    derived (path_status s r ns) = path_status_derived w s r ns (read ns (look w r)) (path_derived w r ns (look w r) (stands r))
    derived (value_status s e) = status_derived w s e (eval w e) (derived e)
    derived (path_or r ns e) = or_derived w r ns e (look w r) (then_go (eval w e) given) (stands r) (chosen_derived w e (eval w e) (derived e))
    derived (value_or a e) = default_of_no_path (derived a)
    derived (length_of e) = length_derived w e (eval w e) (derived e)
    derived (joined_by e s) = joined_derived w e s (eval w e) (eval w s) (derived e) (derived s)
    derived (concatenation es) = parts_written (text_derived es)
    derived (list_of es) = items_listed (items_derived es)
    derived (record_of ps) = fields_recorded (parts_derived ps)

    stands : (r : Root) → Stands w r (look w r)
    stands (variable n) = variable_stands w n (field_value n w.mine) refl
    stands (alias n e) = alias_stands w n e (eval w e) (derived e)
    stands (other t x) = other_stands w t x (host_of w t) (names w t)
    stands (member g p) = member_stands w g p (member_of g p w.groups) refl

    pub all_derived : (es : Expressions) → All w es (eval_all w es)
    all_derived no_expressions = nothing_false
    all_derived (expression e es) = all_step w e es (eval w e) (eval_all w es) (derived e) (all_derived es) (only_all w es)

    any_derived : (es : Expressions) → Any w es (eval_any w es)
    any_derived no_expressions = nothing_true
    any_derived (expression e es) = any_step w e es (eval w e) (eval_any w es) (derived e) (any_derived es) (only_any w es)

    text_derived : (es : Expressions) → Writes w es (eval_text w es)
    text_derived no_expressions = nothing_written
    text_derived (expression e es) = text_step w e es (eval w e) (eval_text w es) (derived e) (text_derived es) (written_is_text w es)

    items_derived : (es : Expressions) → Lists w es (eval_items w es)
    items_derived no_expressions = nothing_listed
    items_derived (expression e es) = item_step w e es (eval w e) (eval_items w es) (derived e) (items_derived es) (listed_is_list w es)

    pub parts_derived : (ps : Parts) → Records w ps (eval_parts w ps)
    parts_derived no_parts = nothing_recorded
    parts_derived (part n e ps) = field_step w n e ps (eval w e) (eval_parts w ps) (derived e) (parts_derived ps) (recorded_is_record w ps)

pub outcomes_are_derived : OutcomesAreDerived
outcomes_are_derived w e = derived w e
