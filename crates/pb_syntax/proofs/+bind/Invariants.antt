use Rattle.std.proofs.Common.{◌≡◌, ◌++◌, List, map, drop, String, Global}
use Rattle.pb_syntax.specs.ExprView.{expr_view, parts_view}
use Rattle.pb_syntax.specs.Slots.{slots_given, slots_read}
use Rattle.pb_syntax.specs.declared.expr.Expr.{Expr}
use Rattle.pb_syntax.proofs.Bound.{names_in}
use Rattle.pb_syntax.proofs.+bind.Given as goal

abbrev pub invariant-bind::all_bound-loop-expr : goal.invariant-bind::all_bound-loop-expr
invariant-bind::all_bound-loop-expr g l = record {
  same : map expr_view l.exprs ≡ map expr_view l.all.items ++ map expr_view (drop l.expr-index l.exprs);
  slots : map (slots_given (g.N.SlotNames.slots l.names)) l.exprs ≡ map slots_read l.all.items ++ map (slots_given (g.N.SlotNames.slots l.names)) (drop l.expr-index l.exprs);
}

abbrev pub invariant-bind::fields_bound-loop-name : goal.invariant-bind::fields_bound-loop-name
invariant-bind::fields_bound-loop-name g l =
    (done : List (String Global × Expr)) × (l.fn.fields.entries ≡ done ++ l.name-iterator) × (names_in l.all.entries ≡ names_in done)
    × (parts_view l.all.entries ≡ parts_view done) × (map (λ f. slots_read f.1) l.all.entries ≡ map (λ f. slots_given (g.N.SlotNames.slots l.names) f.1) done)
