use Rattle.std.proofs.Common.{◌≡◌, drop}
use Rattle.pb_semantics.specs.Keeps.{is_among}
use Rattle.pb_language.specs.Expression.{Name}
use Rattle.pb_vars.specs.Borrowed.{borrowed_view}
use Rattle.pb_vars.specs.InScope.{in_scope}
use Rattle.pb_reads.specs.Reached.{names_in, own_names, reached}
use Rattle.pb_reads.specs.RootsView.{roots_view}
use Rattle.pb_reads.proofs.names.reached_roots.Given as goal

abbrev pub invariant-loop-index : goal.invariant-loop-index
invariant-loop-index l = (roots_view l.all.items ≡ reached (in_scope l.scope) (borrowed_view (drop l.index l.order)) (roots_view l.roots))
    × ((n : Name) → is_among n (names_in l.own) ≡ is_among n (own_names (roots_view l.all.items)))
