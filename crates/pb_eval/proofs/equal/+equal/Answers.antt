use Rattle.std.proofs.Common.{refl, sym, ◌∙◌, arith}
use Rattle.pb_value.proofs.Views.{view-Rec}
use Rattle.pb_eval.proofs.Equality.{items_eq-lengths}
use Rattle.pb_eval.proofs.equal.+equal.Goals as goal

pub equal-returns-in-Rec-right : goal.equal-returns-in-Rec-right
equal-returns-in-Rec-right t c =
    let ones = c.in-Rec.ones in
    let others = c.in-Rec-right.others in
    c.fields_equal.ensures ∙ rw (c.in-Rec.is, c.in-Rec-right.is, view-Rec ones, view-Rec others, c.deref-in-Rec-right-2.ensures, c.deref-in-Rec-right.ensures, c.deref-in-Rec-right-4.ensures, c.deref-in-Rec-right-3.ensures) refl

pub items_equal-returns-then-left-right : goal.items_equal-returns-then-left-right
items_equal-returns-then-left-right t c = sym (items_eq-lengths c.args.left.now c.args.right.now (λ e. omega arith))
