use Rattle.std.proofs.Common.{◌≡◌}
use Rattle.pb_value.specs.View.{fields_view}
use Rattle.pb_inventory.specs.Views.{laid}
use Rattle.pb_probe.proofs.records.lay.Given as goal

abbrev pub invariant-loop-name : goal.invariant-loop-name
invariant-loop-name l = laid (fields_view l.fields.entries) (fields_view l.name-iterator) ≡ laid (fields_view l.fn.fields.entries) (fields_view l.others.entries)
