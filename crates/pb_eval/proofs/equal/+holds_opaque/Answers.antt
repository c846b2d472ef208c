use Rattle.std.proofs.Common.{List, [], ◌∷◌, ◌||◌, refl, sym, ap, ◌∙◌, subst}
use Rattle.pb_language.specs.Evaluation.{any_field_opaque}
use Rattle.pb_value.specs.View.{fields_view}
use Rattle.pb_value.proofs.Fields.{Entry}
use Rattle.pb_value.proofs.Views.{view-Rec}
use Rattle.pb_syntax.proofs.Ascending.{Ascending, ascending-rest}
use Rattle.pb_eval.proofs.Counted.{field-counts}
use Rattle.pb_eval.proofs.equal.+holds_opaque.Goals as goal

pub holds_opaque-returns-in-Rec : goal.holds_opaque-returns-in-Rec
holds_opaque-returns-in-Rec t c = c.fields_hold_opaque.ensures ∙ rw (c.in-Rec.is, view-Rec, c.deref-in-Rec-2.ensures, c.deref-in-Rec.ensures) refl

pub fields_hold_opaque-loop-value-preserved : goal.fields_hold_opaque-loop-value-preserved
fields_hold_opaque-loop-value-preserved t c =
    let e : Entry = (c.in-Some.field-0-0.now, c.in-Some.value.now) in
    let left = c.next.new.self in
    let ordered : Ascending (e ∷ left) = subst (λ (es : List Entry). Ascending es) c.in-Some.ensures.steps c.loop-value.invariant.ascending in
    record {
      same = c.loop-value.invariant.same ∙ ap (λ es. any_field_opaque [] (fields_view es)) c.in-Some.ensures.steps ∙ field-counts e left ordered
          ∙ ap (λ b. b || any_field_opaque [] (fields_view left)) (sym c.holds_opaque.ensures ∙ c.if-holds_opaque.false);
      ascending = ascending-rest e left ordered;
    }

pub fields_hold_opaque-returns-then-holds_opaque : goal.fields_hold_opaque-returns-then-holds_opaque
fields_hold_opaque-returns-then-holds_opaque t c =
    let e : Entry = (c.in-Some.field-0-0.now, c.in-Some.value.now) in
    let left = c.next.new.self in
    sym (c.loop-value.invariant.same ∙ ap (λ es. any_field_opaque [] (fields_view es)) c.in-Some.ensures.steps
    ∙ field-counts e left (subst (λ (es : List Entry). Ascending es) c.in-Some.ensures.steps c.loop-value.invariant.ascending)
    ∙ ap (λ b. b || any_field_opaque [] (fields_view left)) (sym c.holds_opaque.ensures ∙ c.if-holds_opaque.true))
