use Rattle.std.proofs.Common.{◌≡◌, drop}
use Rattle.pb_value.specs.View.{items_view}
use Rattle.pb_runner.specs.Scripts.{are_objects}
use Rattle.pb_runner.proofs.script.are_objects.Given as goal

-- what is left decides
abbrev pub invariant-loop-item : goal.invariant-loop-item
invariant-loop-item l = are_objects (items_view l.items) ≡ are_objects (items_view (drop l.item-index l.items))
