use Rattle.std.proofs.Common.{◌≡◌, map, take, string_bytes}
use Rattle.pb_semantics.specs.Data.{text}
use Rattle.pb_value.specs.View.{view}
use Rattle.pb_world.proofs.constants.texts_of.Given as goal

abbrev pub invariant-loop-text : goal.invariant-loop-text
invariant-loop-text l = map view l.items.items ≡ map text (map (λ t. string_bytes t.value) (take l.text-index l.texts))
