use Rattle.std.proofs.Common.{◌≡◌, drop, map}
use Rattle.pb_semantics.specs.Keeps.{is_among}
use Rattle.pb_sig.specs.ModuleView.{shared_view}
use Rattle.pb_sig.specs.Signatures.{names_of}
use Rattle.pb_sig.proofs.read.is_declared.Given as goal

abbrev pub invariant-loop-module : goal.invariant-loop-module
invariant-loop-module l = is_among l.name (names_of (map shared_view (drop l.module-index l.earlier))) ≡ is_among l.name (names_of (map shared_view l.earlier))
