use Rattle.std.proofs.Common.{◌≡◌, map, take, option_map}
use Rattle.pb_value.specs.View.{view}
use Rattle.pb_facts.specs.Facts.{row_of}
use Rattle.pb_facts.proofs.facts.Facts.snapshot_of.Given as goal

abbrev pub invariant-loop-slot : goal.invariant-loop-slot
invariant-loop-slot l = map (option_map view) l.values.items ≡ map (option_map view) (take l.slot (row_of l.self l.host))
