use Rattle.std.proofs.Common.{◌≡◌, map, take}
use Rattle.pb_position.specs.Texts.{text_of}
use Rattle.pb_position.proofs.texts.all_copied.Given as goal

abbrev pub invariant-loop-text : goal.invariant-loop-text
invariant-loop-text l = map text_of l.copies.items ≡ map text_of (take l.text-index l.texts.items)
