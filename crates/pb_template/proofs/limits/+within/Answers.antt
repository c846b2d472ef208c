use Rattle.std.proofs.Common.{◌∙◌, ap}
use Rattle.pb_template.proofs.Levels.{list_is_within, record_is_within}
use Rattle.pb_template.proofs.limits.+within.Goals as goal

pub is_within-returns-then-levels-gt0 : goal.is_within-returns-then-levels-gt0
is_within-returns-then-levels-gt0 t c =
    c.are_items_within.ensures
    ∙ list_is_within c.args.value.now c.in-List.items c.deref-then-levels-gt0-3.result.now c.args.levels c.in-List.is
    (c.deref-then-levels-gt0-3.ensures.value ∙ ap (λ v. v.items) (c.deref-then-levels-gt0-2.ensures ∙ ap (λ w. w.parts) c.deref-then-levels-gt0.ensures)) c.if-levels-gt0.true

pub is_within-returns-then-levels-gt0-2 : goal.is_within-returns-then-levels-gt0-2
is_within-returns-then-levels-gt0-2 t c =
    c.are_fields_within.ensures
    ∙ record_is_within c.args.value.now c.in-Rec.fields c.deref-then-levels-gt0-2-3.result.now c.args.levels c.in-Rec.is (c.deref-then-levels-gt0-2-3.ensures ∙ ap (λ w. w.parts) c.deref-then-levels-gt0-2-2.ensures) c.if-levels-gt0-2.true
