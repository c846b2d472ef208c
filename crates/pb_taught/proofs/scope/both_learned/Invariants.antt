use Rattle.std.proofs.Common.{◌≡◌, drop}
use Rattle.pb_language.specs.Scope.{both_learned}
use Rattle.pb_syntax.specs.Aliases.{Trees}
use Rattle.pb_taught.specs.TaughtView.{learned_view}
use Rattle.pb_taught.proofs.NamedRoots.{append_learned}
use Rattle.pb_taught.proofs.scope.both_learned.Given as goal

abbrev pub invariant-loop-taught : goal.invariant-loop-taught
invariant-loop-taught l = (f : Trees) →
    both_learned (learned_view f l.few) (learned_view f l.many) ≡ append_learned (learned_view f l.all.items) (both_learned (learned_view f (drop l.taught-index l.few)) (learned_view f l.many))
