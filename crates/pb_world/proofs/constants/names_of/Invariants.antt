use Rattle.std.proofs.Common.{◌≡◌, List, map, take}
use Rattle.pb_language.specs.Expression.{Name}
use Rattle.pb_inventory.specs.Numbered.{named}
use Rattle.pb_semantics.specs.Data.{text}
use Rattle.pb_value.specs.View.{view}
use Rattle.pb_world.specs.Constants.{host_names}
use Rattle.pb_world.proofs.constants.names_of.Given as goal

abbrev pub invariant-loop-member : goal.invariant-loop-member
invariant-loop-member l = (ns : List Name) → host_names l.hosts ≡ map text ns
    → map view l.names.items ≡ map text (named ns (take l.member-index l.members))
