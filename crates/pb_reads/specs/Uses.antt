-- The variables that a task reads, and those that it registers or sets.
use Rattle.std.specs.Prelude.{List, [], ◌∷◌, ◌++◌, codes, cond, true}
use Rattle.pb_semantics.specs.Kind.{slot_at}
use Rattle.pb_semantics.specs.Signature.{ModuleData}
use Rattle.pb_language.specs.Cases.{Sets, no_sets, sets, gathered, is_setup, shape_slots}
use Rattle.pb_language.specs.Expression.{Name, Expressions, no_expressions, expression, no_parts}
use Rattle.pb_language.specs.Plays.{append_expressions}
use Rattle.pb_language.specs.Rules.{list_expressions, option_expressions, option_names}
use Rattle.pb_language.specs.Rules.{part_expressions, part_names, until_expressions}
use Rattle.pb_language.specs.Task.{Action, Task, assertion, call_of, debug, failure_of, set_fact}
use Rattle.pb_reads.specs.Reads.{IsRead}
use Rattle.pb_reads.specs.Roots.{all_roots}

abbrev pub action_expressions : Action → Expressions
action_expressions (call_of m ps) = part_expressions ps
action_expressions (debug e) = expression e no_expressions
action_expressions (set_fact ps) = part_expressions ps
action_expressions (assertion es m) = append_expressions es (option_expressions m)
action_expressions (failure_of m) = option_expressions m

-- all that a task evaluates
abbrev pub expressions_of : Task → Expressions
expressions_of t = append_expressions (option_expressions t.loop)
    (append_expressions t.conditions
    (append_expressions (action_expressions t.action)
    (append_expressions (list_expressions t.changed_when)
    (append_expressions (list_expressions t.failed_when) (until_expressions t.attempts)))))

-- it reads the variable, of the host or of another, also through the trees of names of `vars`
abbrev pub Reads : Task → Name → Type 0
Reads t n = IsRead no_parts (all_roots (expressions_of t)) n

abbrev pub names_set : Sets → List Name
names_set no_sets = []
names_set (sets n a k r) = n ∷ names_set r

-- what a module's answer sets by itself
abbrev pub facts_named : ModuleData → List Name
facts_named m = cond (is_setup m)
    (names_set (gathered true (slot_at (codes "ansible_facts") (shape_slots m.ok)))) []

abbrev pub action_names : Action → List Name
action_names (call_of m ps) = facts_named m
action_names (set_fact ps) = part_names ps
action_names a = []

-- what it registers or sets
abbrev pub written_by : Task → List Name
written_by t = option_names t.register ++ action_names t.action
