use Rattle.std.proofs.Common.{◌≡◌, [], ◌∷◌, ◌++◌, map, String, Global, string_bytes, sym, ap, ◌∙◌, subst, append_assoc}
use Rattle.pb_syntax.specs.ExprView.{parts_view, root_view}
use Rattle.pb_syntax.specs.Slots.{slot_of, slots_given, slots_read}
use Rattle.pb_syntax.specs.declared.expr.Expr.{Expr}
use Rattle.pb_syntax.proofs.Ascending.{Ascending}
use Rattle.pb_syntax.proofs.Bound.{inserted-last, map-pushed, names_in, parts-pushed, records-bound}
use Rattle.pb_syntax.proofs.+bind.Goals as goal

pub bind::fields_bound-loop-name-preserved : goal.bind::fields_bound-loop-name-preserved
bind::fields_bound-loop-name-preserved g t c =
    let inv = c.loop-name.invariant in
    let done = inv.0 in
    let built = c.loop-name.all.entries in
    let e : String Global × Expr = (c.in-Some.name.now, c.in-Some.value.now) in
    let left = c.next.new.self in
    let m : String Global × Expr = (c.in_ok-name.name, c.in_ok-bound.bound) in
    let given = slots_given (g.N.SlotNames.slots c.args.names.now) in
    let whole : c.args.fields.now.entries ≡ done ++ e ∷ left = inv.1 ∙ ap (λ es. done ++ es) c.in-Some.ensures.steps in
    let name : string_bytes m.0 ≡ string_bytes e.0 = c.in_ok-name.ensures.cases in
    let all : c.insert.new.self.entries ≡ built ++ m ∷ [] = c.in_ok-insert.ensures.entries ∙ inserted-last built done m.0 m.1 e left inv.2 name (subst Ascending whole c.iter-name-items.ensures.ordered) in (
      done ++ e ∷ [],
      whole ∙ sym (append_assoc done (e ∷ []) left),
      ap names_in all ∙ map-pushed (λ f. string_bytes f.0) (λ f. string_bytes f.0) built done m e inv.2 name,
      ap (λ es. parts_view es) all ∙ parts-pushed built done m e inv.3 name c.in_ok-bound.ensures.same,
      ap (map (λ f. slots_read f.1)) all ∙ map-pushed (λ f. slots_read f.1) (λ f. given f.1) built done m e inv.4 c.in_ok-bound.ensures.slots,
    )

pub expr::Expr::bind-returns-in_ok-fields_bound-in-Record-clause-slots : goal.expr::Expr::bind-returns-in_ok-fields_bound-in-Record-clause-slots
expr::Expr::bind-returns-in_ok-fields_bound-in-Record-clause-slots g t c =
    let bound = c.in_ok-fields_bound-in-Record in
    let given = g.N.SlotNames.slots c.args.names.now in
    rw c.in-Record.is (records-bound (λ p. p.slot) (λ p. slot_of given (root_view p.root)) bound.field-0 c.in-Record.fields bound.ensures.slots)
