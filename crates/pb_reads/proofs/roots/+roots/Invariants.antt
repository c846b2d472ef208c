use Rattle.std.proofs.Common.{◌≡◌, ◌++◌, drop}
use Rattle.pb_syntax.specs.ExprView.{exprs_view, parts_view}
use Rattle.pb_reads.specs.Roots.{all_roots, part_roots}
use Rattle.pb_reads.specs.RootsView.{roots_view}
use Rattle.pb_reads.proofs.roots.+roots.Given as goal

abbrev pub invariant-put_all_roots-loop-part : goal.invariant-put_all_roots-loop-part
invariant-put_all_roots-loop-part l = roots_view l.initial.roots.items ++ all_roots (exprs_view l.parts) ≡ roots_view l.roots.items ++ all_roots (exprs_view (drop l.part-index l.parts))

abbrev pub invariant-put_field_roots-loop-field : goal.invariant-put_field_roots-loop-field
invariant-put_field_roots-loop-field l = roots_view l.initial.roots.items ++ part_roots (parts_view l.fields.entries) ≡ roots_view l.roots.items ++ part_roots (parts_view l.field-iterator)
