use Rattle.std.proofs.Common.{◌≡◌, ◌++◌, ◌∷◌, [], true, false, Some, option_map, BTreeMap, String, Global, string_bytes, arith, codes, sym, ap, subst, append_assoc, ◌∙◌}
use Rattle.pb_semantics.specs.Kind.{put_slot, spot}
use Rattle.pb_language.specs.Rules.{is_variable_name}
use Rattle.pb_value.specs.View.{view, fields_view}
use Rattle.pb_kind.specs.KindView.{is_always, kind_view, slots_view}
use Rattle.pb_kind.specs.declared.kind.Kind.{Kind}
use Rattle.pb_kind.specs.declared.kind.Slot.{Slot}
use Rattle.pb_value.proofs.Fields.{Entry}
use Rattle.pb_value.proofs.Views.{view-fields}
use Rattle.pb_sig.specs.Drafts.{slot_spot}
use Rattle.pb_sig.specs.Signatures.{bound_in, inner_kind, kind_in, lone_in, slots_in, spot_in}
use Rattle.pb_sig.proofs.Fieldwise.{Ascending, slots_in-last, slots_in-nowhere, slots_in-unnamed}
use Rattle.pb_sig.proofs.Forms.{inner_by, inner_kind-by, list_or, lone_in-small, pair_in-small, size, sizes, sizes-middle, spot_by, spot_in-by, spot_or}
use Rattle.pb_sig.proofs.Refused.{Gives-none, Gives-nowhere, Gives-unsaid}
use Rattle.pb_sig.proofs.form.+kind_in.Goals as goal

pub inner_kind-kind_in-requires : goal.inner_kind-kind_in-requires
inner_kind-kind_in-requires t c =
    let small = pair_in-small (codes "list") (codes "max") (view c.args.value.now) (view c.in-Some.item.now, view c.in-Some.most.now) (sym c.in-Some.ensures) in
    (omega (arith, small.0), tt)

pub inner_kind-returns-in_err-item : goal.inner_kind-returns-in_err-item
inner_kind-returns-in_err-item t c =
    let d = view c.args.value.now in
    Gives-none kind_view _ _ (kind_in (view c.in-Some.item.now)) (inner_kind d) c.from_residual.ensures.1 c.in_err-item.ensures
    (λ none. inner_kind-by d ∙ ap (λ p. inner_by p (lone_in (codes "rec") d)) (sym c.in-Some.ensures) ∙ ap (λ k. list_or k (bound_in (view c.in-Some.most.now))) none)

pub inner_kind-returns-in-Some : goal.inner_kind-returns-in-Some
inner_kind-returns-in-Some t c =
    let d = view c.args.value.now in
    inner_kind-by d ∙ ap (λ p. inner_by p (lone_in (codes "rec") d)) (sym c.in-Some.ensures)
    ∙ ap (λ k. list_or k (bound_in (view c.in-Some.most.now))) c.in_ok-item.ensures
    ∙ ap (list_or (Some (kind_view c.in_ok-item.item))) (sym c.bound_of.ensures ∙ c.in-Some-bound_of.is) ∙ ap Some (sym c.in_ok-of_item.ensures)

pub inner_kind-shape_in-requires : goal.inner_kind-shape_in-requires
inner_kind-shape_in-requires t c =
    let smaller = lone_in-small (codes "rec") (view c.args.value.now) (view c.in-Some-lone_of.fields.now) (sym c.in-Some-lone_of.ensures) in
    (omega (arith, smaller), tt)

pub shape_in-slots_in-requires : goal.shape_in-slots_in-requires
shape_in-slots_in-requires t c =
    let known = view-fields c.args.value.now _ _ c.in-Rec.is (c.deref-in-Rec.ensures ∙ ap (λ w. w.parts) c.deref.ensures) in
    (omega (arith, ap size known), tt)

pub shape_in-returns-in-Rec : goal.shape_in-returns-in-Rec
shape_in-returns-in-Rec t c =
    let known = view-fields c.args.value.now _ _ c.in-Rec.is (c.deref-in-Rec.ensures ∙ ap (λ w. w.parts) c.deref.ensures) in
    rw known c.slots_in.ensures

pub slot_in-kind_in-requires : goal.slot_in-kind_in-requires
slot_in-kind_in-requires t c =
    let small = pair_in-small (codes "always") (codes "kind") (view c.args.value.now) (view c.in-Some.always.now, view c.in-Some.kind.now) (sym c.in-Some.ensures) in
    (omega (arith, small.1), tt)

pub slot_in-returns-in_err-kind : goal.slot_in-returns-in_err-kind
slot_in-returns-in_err-kind t c =
    let d = view c.args.value.now in
    let kind = kind_in (view c.in-Some.kind.now) in
    Gives-nowhere slot_spot _ _ kind (spot_in d) c.from_residual.ensures.1 c.in_err-kind.ensures
    (λ none. spot_in-by d ∙ ap spot_by (sym c.in-Some.ensures) ∙ ap (λ b. spot_or b kind) (sym c.as_bool.ensures ∙ c.in-Some-as_bool.is) ∙ ap (spot_or (Some c.in-Some-as_bool.always)) none)

pub slot_in-returns : goal.slot_in-returns
slot_in-returns t c =
    let d = view c.args.value.now in
    let kind = kind_in (view c.in-Some.kind.now) in
    spot_in-by d ∙ ap spot_by (sym c.in-Some.ensures) ∙ ap (λ b. spot_or b kind) (sym c.as_bool.ensures ∙ c.in-Some-as_bool.is)
    ∙ ap (spot_or (Some c.in-Some-as_bool.always)) c.in_ok-kind.ensures ∙ ap (λ a. spot a (kind_view c.in_ok-kind.kind)) (sym c.presence_of.ensures)

pub slots_in-returns-then-not-is_variable : goal.slots_in-returns-then-not-is_variable
slots_in-returns-then-not-is_variable t c =
    let inv = c.loop-name.invariant in
    let e : Entry = (c.in-Some.name.now, c.in-Some.value.now) in
    let all = inv.1 ∙ ap (λ es. inv.0 ++ es) c.in-Some.ensures.steps in
    let other : is_variable_name (string_bytes e.0) ≡ false = ap is_variable_name (sym c.as_str.ensures.value) ∙ sym c.is_variable.ensures ∙ c.if-not-is_variable.true in
    ap (λ es. slots_in (fields_view es)) all ∙ slots_in-unnamed inv.0 e c.next.new.self other

pub slots_in-slot_in-requires : goal.slots_in-slot_in-requires
slots_in-slot_in-requires t c =
    let inv = c.loop-name.invariant in
    let e : Entry = (c.in-Some.name.now, c.in-Some.value.now) in
    let all = inv.1 ∙ ap (λ es. inv.0 ++ es) c.in-Some.ensures.steps in
    (omega (arith, sizes-middle inv.0 e c.next.new.self, ap (λ es. sizes (fields_view es)) all), tt)

pub slots_in-returns-in_err-slot : goal.slots_in-returns-in_err-slot
slots_in-returns-in_err-slot t c =
    let inv = c.loop-name.invariant in
    let e : Entry = (c.in-Some.name.now, c.in-Some.value.now) in
    let all = inv.1 ∙ ap (λ es. inv.0 ++ es) c.in-Some.ensures.steps in
    Gives-unsaid (λ (m : BTreeMap (String Global) (Slot Kind)). slots_view m.entries) _ _ (spot_in (view e.1)) (slots_in (fields_view c.args.fields.now.entries)) c.from_residual.ensures.1 c.in_err-slot.ensures
    (λ no. ap (λ es. slots_in (fields_view es)) all ∙ slots_in-nowhere inv.0 e c.next.new.self no)

pub slots_in-loop-name-preserved : goal.slots_in-loop-name-preserved
slots_in-loop-name-preserved t c =
    let inv = c.loop-name.invariant in
    let done = inv.0 in
    let e : Entry = (c.in-Some.name.now, c.in-Some.value.now) in
    let left = c.next.new.self in
    let all = inv.1 ∙ ap (λ es. done ++ es) c.in-Some.ensures.steps in
    let named : is_variable_name (string_bytes e.0) ≡ true = ap is_variable_name (sym c.as_str.ensures.value) ∙ sym c.is_variable.ensures ∙ c.if-not-is_variable.false in
    let a = is_always c.in_ok-slot.slot.presence in
    let k = kind_view c.in_ok-slot.slot.kind in
    let ordered = subst (λ es. Ascending es) all c.iter-name-items.ensures.ordered in (
      done ++ e ∷ [],
      all ∙ sym (append_assoc done (e ∷ []) left),
      slots_in-last done e left a k ordered c.in_ok-slot.ensures named ∙ ap (option_map (put_slot (string_bytes e.0) a k)) inv.2
          ∙ ap Some (sym (c.in_ok-put_slot.ensures ∙ ap (λ n. put_slot n a k (slots_view c.loop-name.slots.entries)) c.in_ok-clone.ensures.cases)),
    )
