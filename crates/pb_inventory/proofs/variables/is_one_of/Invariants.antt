use Rattle.std.proofs.Common.{◌≡◌, drop, map}
use Rattle.pb_semantics.specs.Keeps.{is_among}
use Rattle.pb_inventory.proofs.variables.is_one_of.Given as goal

abbrev pub invariant-loop-word : goal.invariant-loop-word
invariant-loop-word l = is_among l.name (map (λ w. w.now) (drop l.word-index l.words)) ≡ is_among l.name (map (λ w. w.now) l.words)
