-- The order of what an action evaluates by names.
use Rattle.std.specs.Prelude.{Bool, true}
use Rattle.pb_language.specs.Rules.{part_names}
use Rattle.pb_language.specs.Task.{Action, assertion, call_of, debug, failure_of, set_fact}
use Rattle.pb_template.specs.Entries.{are_ascending}

-- its arguments, or what it sets, stand in the order of their names' bytes, each name once
abbrev pub has_order : Action → Bool
has_order (call_of m ps) = are_ascending (part_names ps)
has_order (set_fact ps) = are_ascending (part_names ps)
has_order (debug e) = true
has_order (assertion es o) = true
has_order (failure_of o) = true
