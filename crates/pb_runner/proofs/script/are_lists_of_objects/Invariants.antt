use Rattle.std.proofs.Common.{◌≡◌}
use Rattle.pb_value.specs.View.{fields_view}
use Rattle.pb_runner.specs.Scripts.{are_lists_of_objects}
use Rattle.pb_runner.proofs.script.are_lists_of_objects.Given as goal

-- what is left decides
abbrev pub invariant-loop-list : goal.invariant-loop-list
invariant-loop-list l = are_lists_of_objects (fields_view l.answers.entries) ≡ are_lists_of_objects (fields_view l.list-iterator)
