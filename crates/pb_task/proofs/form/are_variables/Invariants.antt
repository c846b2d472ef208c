use Rattle.std.proofs.Common.{◌≡◌}
use Rattle.std.specs.List.{list_all}
use Rattle.pb_language.specs.Rules.{is_variable_name}
use Rattle.pb_language.specs.TaskForm.{keys_of}
use Rattle.pb_value.specs.View.{fields_view}
use Rattle.pb_task.proofs.form.are_variables.Given as goal

abbrev pub invariant-loop-key : goal.invariant-loop-key
invariant-loop-key l = list_all is_variable_name (keys_of (fields_view l.fields.entries)) ≡ list_all is_variable_name (keys_of (fields_view l.key-iterator))
