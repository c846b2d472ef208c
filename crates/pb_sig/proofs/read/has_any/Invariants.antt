use Rattle.std.proofs.Common.{◌≡◌, drop, map}
use Rattle.pb_kind.specs.KindView.{slots_view}
use Rattle.pb_sig.specs.Signatures.{lists_any}
use Rattle.pb_sig.proofs.read.has_any.Given as goal

abbrev pub invariant-loop-name : goal.invariant-loop-name
invariant-loop-name l = lists_any (map (λ n. n.now) (drop l.name-index l.names)) (slots_view l.shape.entries) ≡ lists_any (map (λ n. n.now) l.names) (slots_view l.shape.entries)
