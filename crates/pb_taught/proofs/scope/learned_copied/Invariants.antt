use Rattle.std.proofs.Common.{◌≡◌, drop}
use Rattle.pb_syntax.specs.Aliases.{Trees}
use Rattle.pb_taught.specs.TaughtView.{learned_view}
use Rattle.pb_taught.proofs.NamedRoots.{append_learned}
use Rattle.pb_taught.proofs.scope.learned_copied.Given as goal

abbrev pub invariant-loop-taught : goal.invariant-loop-taught
invariant-loop-taught l = (f : Trees) → learned_view f l.learned ≡ append_learned (learned_view f l.all.items) (learned_view f (drop l.taught-index l.learned))
