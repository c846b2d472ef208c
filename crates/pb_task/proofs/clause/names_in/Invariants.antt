use Rattle.std.proofs.Common.{◌≡◌, ◌++◌, drop}
use Rattle.pb_language.specs.TaskForm.{names_in}
use Rattle.pb_task.specs.Tasks.{names_view}
use Rattle.pb_value.specs.View.{items_view}
use Rattle.pb_task.proofs.clause.names_in.Given as goal

abbrev pub invariant-loop-item : goal.invariant-loop-item
invariant-loop-item l = names_in (items_view l.items) ≡ names_view l.names.items ++ names_in (items_view (drop l.item-index l.items))
