-- The rules that need no flow (this project's own).
use Rattle.std.specs.Prelude.{ℕ, ◌+◌, List, [], ◌∷◌, ◌++◌, Bool, true, false, not, ◌&&◌, ◌||◌}
use Rattle.std.specs.Prelude.{nat_le, nat_lt, cond, Option, Some, None, is_some, codes, length}
use Rattle.std.specs.Str.{bytes_eq}
use Rattle.pb_semantics.specs.Keeps.{is_among}
use Rattle.pb_semantics.specs.Limits.{most_name_bytes, most_play_steps}
use Rattle.pb_semantics.specs.Signature.{ParameterData, ModuleData}
use Rattle.pb_language.specs.Expression.{Name, Term, named_host, this_host, item_host, group_member}
use Rattle.pb_language.specs.Expression.{Expression, literal, path, hostvars_alone, negation}
use Rattle.pb_language.specs.Expression.{conjunction, disjunction, comparison, membership, in_batch}
use Rattle.pb_language.specs.Expression.{defined, undefinable, path_status, value_status, path_or}
use Rattle.pb_language.specs.Expression.{value_or, length_of, joined_by, concatenation, list_of}
use Rattle.pb_language.specs.Expression.{record_of, Root, variable, alias, other, member}
use Rattle.pb_language.specs.Expression.{Expressions, no_expressions, expression, Parts, no_parts}
use Rattle.pb_language.specs.Expression.{part}
use Rattle.pb_language.specs.Expansion.{expanded, part_named, trees, chain_length}
use Rattle.pb_language.specs.World.{Group, member_of}
use Rattle.pb_language.specs.Notify.{HandlerNames, notified, all_notified, names_something}
use Rattle.pb_language.specs.Book.{Asserted, not_given, not_well_formed, conditions_are, Work}
use Rattle.pb_language.specs.Book.{module_work, debug_work, set_fact_work, assert_work, fail_work}
use Rattle.pb_language.specs.Book.{TaskData, Book, Registry}
use Rattle.pb_language.specs.Task.{Attempts}
use Rattle.pb_language.specs.Plays.{append_expressions, module_named, group_named, word_hosts}
use Rattle.pb_language.specs.Plays.{is_host, names_of_handlers}
use Rattle.pb_language.specs.Program.{Inventory}
use Rattle.pb_language.specs.Sites.{Thing, a_play, a_block, a_flush, the_gathering, a_task}
use Rattle.pb_language.specs.Sites.{a_handler, Site, sites_of, steps_of}
use Rattle.pb_language.specs.Verdict.{Refusal, earlier}

-- the task or handler at a line
abbrev pub task_at_site : Thing → Option TaskData
task_at_site (a_task t) = Some t
task_at_site (a_handler i t) = Some t
task_at_site x = None

abbrev pub of_task : Option TaskData → (TaskData → Bool) → Bool
of_task None f = false
of_task (Some t) f = f t

-- V07: an unknown, missing or malformed parameter
abbrev pub has_part : Name → Parts → Bool
has_part n ps = is_some (part_named n ps)

abbrev pub are_known : List Name → Parts → Bool
are_known ns no_parts = true
are_known ns (part n e ps) = is_among n ns && are_known ns ps

abbrev pub is_parameter : Name → List ParameterData → Bool
is_parameter n [] = false
is_parameter n (p ∷ ps) = bytes_eq n p.name || is_parameter n ps

abbrev pub are_parameters : List ParameterData → Parts → Bool
are_parameters ps no_parts = true
are_parameters ps (part n e qs) = is_parameter n ps && are_parameters ps qs

abbrev pub has_required : List ParameterData → Parts → Bool
has_required [] qs = true
has_required (p ∷ ps) qs = (not p.required || has_part p.name qs) && has_required ps qs

-- a letter or `_`, then letters, digits and `_`
abbrev pub is_letter : ℕ → Bool
is_letter b =
    (nat_le 65 b && nat_le b 90) || ((nat_le 97 b && nat_le b 122) || (nat_le 95 b && nat_le b 95))

abbrev pub is_digit : ℕ → Bool
is_digit b = nat_le 48 b && nat_le b 57

abbrev pub are_name_bytes : Name → Bool
are_name_bytes [] = true
are_name_bytes (b ∷ bs) = (is_letter b || is_digit b) && are_name_bytes bs

abbrev pub is_variable_name : Name → Bool
is_variable_name [] = false
is_variable_name (b ∷ bs) = is_letter b && (are_name_bytes bs && nat_lt (length bs) most_name_bytes)

abbrev pub can_be_set : Parts → Bool
can_be_set no_parts = true
can_be_set (part n e ps) =
    (is_variable_name n && not (bytes_eq n (codes "cacheable"))) && can_be_set ps

abbrev pub is_well_asserted : Asserted → Bool
is_well_asserted not_given = false
is_well_asserted not_well_formed = false
is_well_asserted (conditions_are es) = true

abbrev pub is_well_given : ModuleData → Parts → Bool
is_well_given m ps = are_parameters m.params ps && has_required m.params ps

abbrev pub is_well_formed : Registry → Work → Bool
is_well_formed ms (module_work n ps) = is_well_given (module_named n ms) ps
is_well_formed ms (debug_work ps) = has_part (codes "msg") ps && are_known (codes "msg" ∷ []) ps
is_well_formed ms (set_fact_work no_parts) = false
is_well_formed ms (set_fact_work (part n e ps)) = can_be_set (part n e ps)
is_well_formed ms (assert_work a ps) = is_well_asserted a && are_known (codes "fail_msg" ∷ []) ps
is_well_formed ms (fail_work ps) = are_known (codes "msg" ∷ []) ps

abbrev pub breaks_parameters : Registry → Site → Bool
breaks_parameters ms s = of_task (task_at_site s.thing) (λ t. not (is_well_formed ms t.work))

-- V08: a name clash or a reserved name
abbrev pub reserved_names : List Name
reserved_names =
    codes "inventory_hostname" ∷ codes "groups" ∷ codes "group_names" ∷ codes "hostvars"
    ∷ codes "ansible_play_batch" ∷ codes "item" ∷ codes "ansible_failed_result"
    ∷ codes "ansible_facts"
    ∷ codes "ansible_hostname" ∷ codes "ansible_system" ∷ codes "ansible_os_family"
    ∷ codes "ansible_distribution" ∷ codes "ansible_processor_vcpus"
    ∷ codes "ansible_memtotal_mb"
    ∷ codes "and" ∷ codes "or" ∷ codes "not" ∷ codes "in" ∷ codes "is" ∷ codes "true"
    ∷ codes "false" ∷ codes "True" ∷ codes "False" ∷ codes "none" ∷ codes "None" ∷ codes "if"
    ∷ codes "else" ∷ []

abbrev pub part_names : Parts → List Name
part_names no_parts = []
part_names (part n e ps) = n ∷ part_names ps

abbrev pub vars_names : List Site → List Name
vars_names [] = []
vars_names (s ∷ ss) = part_names s.vars ++ vars_names ss

abbrev pub option_names : Option Name → List Name
option_names None = []
option_names (Some n) = n ∷ []

abbrev pub set_names : Work → List Name
set_names (set_fact_work ps) = part_names ps
set_names w = []

abbrev pub written_names : Option TaskData → List Name
written_names None = []
written_names (Some t) = option_names t.register ++ set_names t.work

abbrev pub any_among : List Name → List Name → Bool
any_among [] ms = false
any_among (n ∷ ns) ms = is_among n ms || any_among ns ms

-- a name that is registered or set is neither reserved nor given by any `vars`, and no `vars` gives
-- a reserved name
abbrev pub breaks_names : List Name → Site → Bool
breaks_names given s = any_among (written_names (task_at_site s.thing)) (reserved_names ++ given)
    || any_among (part_names s.vars) reserved_names

-- V10: a chain of `vars` that is too long or has a cycle, asked of every name in scope at a task
abbrev pub any_too_long : Parts → Parts → Bool
any_too_long scope no_parts = false
any_too_long scope (part n e ps) = nat_lt 8 (chain_length 9 scope n) || any_too_long scope ps

abbrev pub is_task_line : Thing → Bool
is_task_line a_play = false
is_task_line a_block = false
is_task_line a_flush = true
is_task_line the_gathering = true
is_task_line (a_task t) = true
is_task_line (a_handler i t) = true

abbrev pub breaks_chains : Site → Bool
breaks_chains s = is_task_line s.thing && any_too_long s.scope s.scope

-- the expressions that a task reads, with the values of `vars`
abbrev pub option_expressions : Option Expression → Expressions
option_expressions None = no_expressions
option_expressions (Some e) = expression e no_expressions

abbrev pub list_expressions : Option Expressions → Expressions
list_expressions None = no_expressions
list_expressions (Some es) = es

abbrev pub part_expressions : Parts → Expressions
part_expressions no_parts = no_expressions
part_expressions (part n e ps) = expression e (part_expressions ps)

abbrev pub asserted_expressions : Asserted → Expressions
asserted_expressions (conditions_are es) = es
asserted_expressions a = no_expressions

abbrev pub work_expressions : Work → Expressions
work_expressions (module_work n ps) = part_expressions ps
work_expressions (debug_work ps) = part_expressions ps
work_expressions (set_fact_work ps) = part_expressions ps
work_expressions (assert_work a ps) =
    append_expressions (part_expressions ps) (asserted_expressions a)
work_expressions (fail_work ps) = part_expressions ps

abbrev pub until_expressions : Option Attempts → Expressions
until_expressions None = no_expressions
until_expressions (Some a) = a.until

-- what `changed_when`, `failed_when` and `until` read
abbrev pub give_expressions : TaskData → Expressions
give_expressions t = append_expressions (list_expressions t.changed_when)
    (append_expressions (list_expressions t.failed_when) (until_expressions t.attempts))

abbrev pub task_expressions : Expressions → TaskData → Expressions
task_expressions cs t = append_expressions (option_expressions t.loop)
    (append_expressions cs (append_expressions (work_expressions t.work) (give_expressions t)))

-- V06: an unknown host or group
abbrev pub is_group : Name → List Group → Bool
is_group n gs = is_some (group_named n gs)

abbrev pub is_known_term : Inventory → Term → Bool
is_known_term v (named_host n) = is_host n v.hosts
is_known_term v this_host = true
is_known_term v item_host = true
is_known_term v (group_member g n) = is_some (member_of g n v.groups)

abbrev pub is_known_option : Inventory → Option Term → Bool
is_known_option v None = true
is_known_option v (Some t) = is_known_term v t

-- a literal that is only looked for names nothing
abbrev pub is_known_member : Inventory → Term → Bool
is_known_member v (named_host n) = true
is_known_member v this_host = true
is_known_member v item_host = true
is_known_member v (group_member g n) = is_some (member_of g n v.groups)

-- `groups.g` names a group
abbrev pub is_known_variable : Inventory → Name → List Name → Bool
is_known_variable v n [] = true
is_known_variable v n (g ∷ ns) = not (bytes_eq n (codes "groups")) || is_group g v.groups

-- what is tested names nothing, but a value of `vars` in it is a part of the expression all the
-- same
abbrev mutual
  pub names_known : Inventory → Expression → Bool
  names_known v (literal d) = true
  names_known v (path r ns) = root_known v r ns
  names_known v (hostvars_alone o) = is_known_option v o
  names_known v (negation e) = names_known v e
  names_known v (conjunction es) = all_names_known v es
  names_known v (disjunction es) = all_names_known v es
  names_known v (comparison c a b) = names_known v a && names_known v b
  names_known v (membership a b) = names_known v a && names_known v b
  names_known v (in_batch t) = is_known_member v t
  names_known v (defined r ns) = tested_known v r
  names_known v (undefinable e) = names_known v e
  names_known v (path_status s r ns) = root_known v r ns
  names_known v (value_status s e) = names_known v e
  names_known v (path_or r ns e) = tested_known v r && names_known v e
  names_known v (value_or a e) = names_known v a && names_known v e
  names_known v (length_of e) = names_known v e
  names_known v (joined_by e s) = names_known v e && names_known v s
  names_known v (concatenation es) = all_names_known v es
  names_known v (list_of es) = all_names_known v es
  names_known v (record_of ps) = parts_names_known v ps

  pub root_known : Inventory → Root → List Name → Bool
  root_known v (variable n) ns = is_known_variable v n ns
  root_known v (alias n e) ns = names_known v e
  root_known v (other t x) ns = is_known_term v t
  root_known v (member g n) ns = is_some (member_of g n v.groups)

  pub tested_known : Inventory → Root → Bool
  tested_known v (variable n) = true
  tested_known v (alias n e) = names_known v e
  tested_known v (other t x) = true
  tested_known v (member g n) = true

  pub all_names_known : Inventory → Expressions → Bool
  all_names_known v no_expressions = true
  all_names_known v (expression e es) = names_known v e && all_names_known v es

  pub parts_names_known : Inventory → Parts → Bool
  parts_names_known v no_parts = true
  parts_names_known v (part n e ps) = names_known v e && parts_names_known v ps

abbrev pub expanded_known : Inventory → (Name → Option Expression) → Expressions → Bool
expanded_known v f no_expressions = true
expanded_known v f (expression e es) = names_known v (expanded f e) && expanded_known v f es

abbrev pub words_known : Inventory → List Name → Bool
words_known v [] = true
words_known v (w ∷ ws) = is_some (word_hosts v w (group_named w v.groups)) && words_known v ws

abbrev pub task_known : Inventory → Site → TaskData → Bool
task_known v s t = expanded_known v (trees s.scope) (task_expressions s.conditions t)

abbrev pub breaks_known : Inventory → Site → Thing → Bool
breaks_known v s a_play = not (words_known v s.play.pattern)
breaks_known v s (a_task t) = not (task_known v s t)
breaks_known v s (a_handler i t) = not (task_known v s t)
breaks_known v s x = false

-- V05: a notify text that names no handler or topic of the play
abbrev pub breaks_notify : Site → Bool
breaks_notify s = of_task (task_at_site s.thing)
    (λ t. not (names_something (all_notified (names_of_handlers s.play.handlers) t.notify)))

-- V12: a handler that notifies itself or an earlier one
abbrev pub any_up_to : ℕ → List ℕ → Bool
any_up_to i [] = false
any_up_to i (j ∷ js) = nat_le j i || any_up_to i js

abbrev pub any_notifies_up_to : ℕ → List HandlerNames → List Name → Bool
any_notifies_up_to i hs [] = false
any_notifies_up_to i hs (n ∷ ns) = any_up_to i (notified 0 n hs) || any_notifies_up_to i hs ns

abbrev pub breaks_order : Site → Thing → Bool
breaks_order s (a_handler i t) = any_notifies_up_to i (names_of_handlers s.play.handlers) t.notify
breaks_order s x = false

-- V09: `changed_when`, `failed_when` or `until` reads `hostvars` or `ansible_play_batch`
abbrev mutual
  pub reads_others : Expression → Bool
  reads_others (literal d) = false
  reads_others (path r ns) = root_reads_others r
  reads_others (hostvars_alone o) = true
  reads_others (negation e) = reads_others e
  reads_others (conjunction es) = any_reads_others es
  reads_others (disjunction es) = any_reads_others es
  reads_others (comparison c a b) = reads_others a || reads_others b
  reads_others (membership a b) = reads_others a || reads_others b
  reads_others (in_batch t) = true
  reads_others (defined r ns) = root_reads_others r
  reads_others (undefinable e) = reads_others e
  reads_others (path_status s r ns) = root_reads_others r
  reads_others (value_status s e) = reads_others e
  reads_others (path_or r ns e) = root_reads_others r || reads_others e
  reads_others (value_or a e) = reads_others a || reads_others e
  reads_others (length_of e) = reads_others e
  reads_others (joined_by e s) = reads_others e || reads_others s
  reads_others (concatenation es) = any_reads_others es
  reads_others (list_of es) = any_reads_others es
  reads_others (record_of ps) = part_reads_others ps

  pub root_reads_others : Root → Bool
  root_reads_others (variable n) = bytes_eq n (codes "ansible_play_batch")
  root_reads_others (alias n e) = reads_others e
  root_reads_others (other t x) = true
  root_reads_others (member g n) = false

  pub any_reads_others : Expressions → Bool
  any_reads_others no_expressions = false
  any_reads_others (expression e es) = reads_others e || any_reads_others es

  pub part_reads_others : Parts → Bool
  part_reads_others no_parts = false
  part_reads_others (part n e ps) = reads_others e || part_reads_others ps

abbrev pub expanded_reads : (Name → Option Expression) → Expressions → Bool
expanded_reads f no_expressions = false
expanded_reads f (expression e es) = reads_others (expanded f e) || expanded_reads f es

abbrev pub breaks_give : Site → Bool
breaks_give s =
    of_task (task_at_site s.thing) (λ t. expanded_reads (trees s.scope) (give_expressions t))

-- the first line at which a rule is broken
abbrev pub first_line : ℕ → (Site → Bool) → List Site → Option Refusal
first_line c f [] = None
first_line c f (s ∷ ss) = earlier
    (cond (f s) (Some (record { code = c; line = s.line; host = None })) None) (first_line c f ss)

-- V13: more than 8,192 steps in the plays so far
abbrev pub too_many_steps : ℕ → Book → Option Refusal
too_many_steps n [] = None
too_many_steps n (p ∷ ps) = cond (nat_lt most_play_steps (n + steps_of p))
    (Some (record { code = 13; line = p.line; host = None })) (too_many_steps (n + steps_of p) ps)

-- the least line; on one line the rules in this order
abbrev pub sites_offence : Registry → Inventory → Book → List Site → Option Refusal
sites_offence ms v b ss =
    earlier (too_many_steps 0 b)
    (earlier (first_line 7 (breaks_parameters ms) ss)
    (earlier (first_line 8 (breaks_names (vars_names ss)) ss)
    (earlier (first_line 10 breaks_chains ss)
    (earlier (first_line 6 (λ s. breaks_known v s s.thing) ss)
    (earlier (first_line 5 breaks_notify ss)
    (earlier (first_line 12 (λ s. breaks_order s s.thing) ss)
    (first_line 9 breaks_give ss)))))))

abbrev pub rules_offence : Registry → Inventory → Book → Option Refusal
rules_offence ms v b = sites_offence ms v b (sites_of b)
