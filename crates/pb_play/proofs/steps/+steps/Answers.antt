use Rattle.std.proofs.Common.{◌≡◌, ◌∙◌, ◌+◌, ◌≤◌, ◌++◌, ◌∷◌, [], List, length, arith, Ok, codes, drop, map, ap, sym, subst}
use Rattle.std.proofs.lemmas.List.{at_drop_all, map-append}
use Rattle.pb_semantics.specs.Data.{field_value}
use Rattle.pb_semantics.specs.Gives.{Gives}
use Rattle.pb_language.specs.BookForm.{Before, changed, step_in, steps_in}
use Rattle.pb_sig.specs.Modules.{modules_of}
use Rattle.pb_template.proofs.Built.{values-next}
use Rattle.pb_value.proofs.Views.{view-fields}
use Rattle.pb_value.specs.View.{view, fields_view, items_view}
use Rattle.pb_value.specs.declared.value.Value.{Value}
use Rattle.pb_play.specs.Faults.{offence_of}
use Rattle.pb_play.specs.Sound.{step_tasks}
use Rattle.pb_play.specs.Plays.{head_view, step_view, steps_view}
use Rattle.pb_play.specs.declared.play.Step.{Step}
use Rattle.pb_play.proofs.Blocks.{always-refused, block-read, block-there, body-refused, head-refused, onto, onto-all, onto-nothing, onto-push, part-first, part-next, rescue-refused, step-first, view-block}
use Rattle.pb_play.proofs.Refusals.{passed-on}
use Rattle.pb_play.proofs.Sounds.{block-sound, one-more}
use Rattle.pb_play.proofs.steps.+steps.Goals as goal

pub block_in-returns-in_err-head-clause-given : goal.block_in-returns-in_err-head-clause-given
block_in-returns-in_err-head-clause-given t c =
    passed-on (λ (r : Step × _). (step_view r.0, r.1)) c.from_residual.result c.in_err-head.field-0.0 _ _ c.from_residual.ensures.1 c.in_err-head.ensures.given
    (λ o h. head-refused (modules_of c.args.registry.now) c.args.depth c.args.line (fields_view c.args.fields.now.entries) o h)

pub block_in-returns-in_err-body-clause-given : goal.block_in-returns-in_err-body-clause-given
block_in-returns-in_err-body-clause-given t c =
    let ms = modules_of c.args.registry.now in
    let k = c.args.depth in
    let l = c.args.line in
    let fs = fields_view c.args.fields.now.entries in
    passed-on (λ (r : Step × _). (step_view r.0, r.1)) c.from_residual-in_err-body.result c.in_err-body.field-0.0 _ _ c.from_residual-in_err-body.ensures.1 c.in_err-body.ensures.given
    (λ o h. body-refused ms k l fs (head_view c.in_ok-head.head) o c.in_ok-head.ensures.given (part-first ms k l _ (field_value (codes "block") fs) c.field_of.ensures ∙ h))

pub block_in-returns-in_err-rescue-clause-given : goal.block_in-returns-in_err-rescue-clause-given
block_in-returns-in_err-rescue-clause-given t c =
    let ms = modules_of c.args.registry.now in
    let k = c.args.depth in
    let l = c.args.line in
    let fs = fields_view c.args.fields.now.entries in
    passed-on (λ (r : Step × _). (step_view r.0, r.1)) c.from_residual-in_err-rescue.result c.in_err-rescue.field-0.0 _ _ c.from_residual-in_err-rescue.ensures.1 c.in_err-rescue.ensures.given
    (λ o h. rescue-refused ms k l c.in_ok-body.next fs (head_view c.in_ok-head.head) (steps_view c.in_ok-body.body.items) o c.in_ok-head.ensures.given
    (part-first ms k l _ (field_value (codes "block") fs) c.field_of.ensures ∙ c.in_ok-body.ensures.given)
    (part-next ms k c.in_ok-body.next _ (field_value (codes "rescue") fs) c.field_of-2.ensures ∙ h))

pub block_in-returns-in_err-always-clause-given : goal.block_in-returns-in_err-always-clause-given
block_in-returns-in_err-always-clause-given t c =
    let ms = modules_of c.args.registry.now in
    let k = c.args.depth in
    let l = c.args.line in
    let fs = fields_view c.args.fields.now.entries in
    passed-on (λ (r : Step × _). (step_view r.0, r.1)) c.from_residual-in_err-always.result c.in_err-always.field-0.0 _ _ c.from_residual-in_err-always.ensures.1 c.in_err-always.ensures.given
    (λ o h. always-refused ms k l c.in_ok-body.next c.in_ok-rescue.next fs (head_view c.in_ok-head.head) (steps_view c.in_ok-body.body.items) (steps_view c.in_ok-rescue.rescue.items) o c.in_ok-head.ensures.given
    (part-first ms k l _ (field_value (codes "block") fs) c.field_of.ensures ∙ c.in_ok-body.ensures.given)
    (part-next ms k c.in_ok-body.next _ (field_value (codes "rescue") fs) c.field_of-2.ensures ∙ c.in_ok-rescue.ensures.given)
    (part-next ms k c.in_ok-rescue.next _ (field_value (codes "always") fs) c.field_of-3.ensures ∙ h))

pub block_in-returns-clause-given : goal.block_in-returns-clause-given
block_in-returns-clause-given t c =
    let ms = modules_of c.args.registry.now in
    let k = c.args.depth in
    let l = c.args.line in
    let fs = fields_view c.args.fields.now.entries in
    block-read ms k l c.in_ok-body.next c.in_ok-rescue.next c.in_ok-always.next fs (head_view c.in_ok-head.head) (steps_view c.in_ok-body.body.items) (steps_view c.in_ok-rescue.rescue.items) (steps_view c.in_ok-always.always.items)
    c.in_ok-head.ensures.given
    (part-first ms k l _ (field_value (codes "block") fs) c.field_of.ensures ∙ c.in_ok-body.ensures.given)
    (part-next ms k c.in_ok-body.next _ (field_value (codes "rescue") fs) c.field_of-2.ensures ∙ c.in_ok-rescue.ensures.given)
    (part-next ms k c.in_ok-rescue.next _ (field_value (codes "always") fs) c.field_of-3.ensures ∙ c.in_ok-always.ensures.given)
    ∙ ap (λ (f : Before). Ok (f, c.in_ok-always.next)) (sym (view-block (record { head = c.in_ok-head.head; body = c.in_ok-body.body; rescue = c.in_ok-rescue.rescue; always = c.in_ok-always.always })))

pub step_in-returns-in-Rec-clause-given : goal.step_in-returns-in-Rec-clause-given
step_in-returns-in-Rec-clause-given t c =
    let known = view-fields c.args.item.now c.in-Rec.fields c.deref-in-Rec.result.now c.in-Rec.is (c.deref-in-Rec.ensures ∙ ap (λ w. w.parts) c.deref.ensures) in
    subst (λ d. Gives (λ (r : Step × _). Ok (step_view r.0, r.1)) offence_of c.step_of.result (step_in (modules_of c.args.registry.now) c.args.depth c.args.line d)) (sym known) c.step_of.ensures.given

pub step_of-returns-then-has_key-clause-given : goal.step_of-returns-then-has_key-clause-given
step_of-returns-then-has_key-clause-given t c =
    let there = block-there (modules_of c.args.registry.now) c.args.depth c.args.line (fields_view c.args.fields.now.entries) (sym c.has_key.ensures ∙ c.if-has_key.true) in
    subst (λ x. Gives (λ (r : Step × _). Ok (step_view r.0, r.1)) offence_of c.block_in.result x) (sym there) c.block_in.ensures.given

pub steps_in-loop-item-preserved : goal.steps_in-loop-item-preserved
steps_in-loop-item-preserved t c =
    let l = c.loop-item in
    let ms = modules_of c.args.registry.now in
    let k = c.args.depth in
    let vs = c.args.items.now in
    let v = c.item-item.result in
    let rest = items_view (drop (l.item-index + 1) vs) in
    let f = step_view c.in_ok-step.step in
    let done = map step_view l.steps.items in
    let next = ap (λ xs. steps_in ms k l.next (items_view xs)) (values-next vs l.item-index v c.loop-item-test.true c.item-item.is) in
    let all : c.push.new.self.items ≡ l.steps.items ++ c.in_ok-step.step ∷ [] = c.in_ok-push.ensures.items in record {
      given = l.invariant.given ∙ ap (changed (onto done)) (next ∙ step-first ms k l.next (view v) rest f c.in_ok-step.after c.in_ok-step.ensures.given) ∙ onto-push done f (steps_in ms k c.in_ok-step.after rest)
          ∙ ap (λ (fs : List Before). changed (onto fs) (steps_in ms k c.in_ok-step.after rest)) (sym (ap (map step_view) all ∙ map-append step_view l.steps.items (c.in_ok-step.step ∷ [])));
      sound = one-more ms step_tasks l.steps.items c.push.new.self.items c.in_ok-step.step all l.invariant.sound c.in_ok-step.ensures.sound;
    }

pub steps_in-returns-clause-given : goal.steps_in-returns-clause-given
steps_in-returns-clause-given t c =
    let l = c.loop-item in
    let vs = c.args.items.now in
    let over : length vs ≤ l.item-index = omega arith in
    l.invariant.given ∙ ap (changed (onto (map step_view l.steps.items))) (at_drop_all (λ (xs : List Value). steps_in (modules_of c.args.registry.now) c.args.depth l.next (items_view xs)) vs l.item-index over) ∙ onto-all (map step_view l.steps.items) l.next

pub steps_in-loop-item-init : goal.steps_in-loop-item-init
steps_in-loop-item-init t c =
    let none : c.new-steps.result.items ≡ [] = c.new-steps.ensures.items in
    rw none (record { given = onto-nothing (steps_in (modules_of c.args.registry.now) c.args.depth c.args.line (items_view c.args.items.now)); sound = tt })

pub block_in-returns-clause-sound : goal.block_in-returns-clause-sound
block_in-returns-clause-sound t c =
    block-sound (modules_of c.args.registry.now) (record { head = c.in_ok-head.head; body = c.in_ok-body.body; rescue = c.in_ok-rescue.rescue; always = c.in_ok-always.always }) c.in_ok-body.ensures.sound c.in_ok-rescue.ensures.sound c.in_ok-always.ensures.sound
