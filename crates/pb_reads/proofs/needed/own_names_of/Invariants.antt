use Rattle.std.proofs.Common.{◌≡◌, ◌++◌, drop}
use Rattle.pb_semantics.specs.Keeps.{is_among}
use Rattle.pb_language.specs.Expression.{Name}
use Rattle.pb_reads.specs.Reached.{names_in, own_names}
use Rattle.pb_reads.specs.RootsView.{roots_view}
use Rattle.pb_reads.proofs.needed.own_names_of.Given as goal

abbrev pub invariant-loop-root : goal.invariant-loop-root
invariant-loop-root l = (n : Name) → is_among n (own_names (roots_view (drop l.root-index l.roots)) ++ names_in l.names) ≡ is_among n (own_names (roots_view l.roots))
