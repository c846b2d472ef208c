use Rattle.std.proofs.Common.{◌≡◌, codes, option_map, string_bytes, ap, ◌∙◌}
use Rattle.pb_semantics.specs.Data.{rec}
use Rattle.pb_language.specs.Evaluation.{eval_all}
use Rattle.pb_language.specs.Expansion.{all_expanded}
use Rattle.pb_language.specs.Give.{result_world}
use Rattle.pb_syntax.specs.ExprView.{exprs_view}
use Rattle.pb_value.specs.View.{view, fields_view, truth}
use Rattle.pb_value.proofs.Fields.{view_of_ref}
use Rattle.pb_value.proofs.Views.{view-Rec}
use Rattle.pb_value.specs.declared.value.Value.TheVariants.{Rec}
use Rattle.pb_eval.specs.OwnWorld.{shown}
use Rattle.pb_start.specs.Blocks.{block_fields}
use Rattle.pb_start.specs.Prepared.{trees_of}
use Rattle.pb_start.specs.Locals.{world_with}
use Rattle.pb_finish.proofs.Statused.{flag-by, own-world}
use Rattle.pb_finish.proofs.statuses.conditions_hold.Goals as goal

pub returns : goal.returns
returns g c = λ t d x is.
    let w = g.V.Vars.world c.args.vars.now in
    let own = c.with_register-own.result in
    let fs = block_fields c.args.fields.now in
    let i = option_map view c.args.item.now in
    let es = all_expanded (trees_of c.args.prepared.now) (exprs_view c.args.conditions.now) in
    let own-value = option_map (λ v. view v.now) own.value in
    let same-item : option_map (λ v. view v.now) c.as_ref.result ≡ i = view_of_ref c.as_ref.result ∙ ap (option_map view) c.as_ref.ensures.value in
    let first = rw c.in_ok-known.ensures at c.in_ok-found.ensures in
    let known : c.in_ok-found.found ≡ truth (shown (eval_all (world_with own.name.now own-value (world_with (codes "item") (option_map (λ v. view v.now) c.as_ref.result) w)) es)) = rw (c.with_register-own.ensures.world, c.deref.ensures.value) at first in
    let named : view (Rec c.in_ok-clone.field-0) ≡ rec fs = view-Rec c.in_ok-clone.field-0 ∙ ap (λ m. rec (fields_view m.parts.entries)) c.in_ok-clone.ensures.cases in
    let seen : world_with own.name.now own-value (world_with (codes "item") i w) ≡ result_world w t i fs =
    own-world w t i fs (option_map (λ n. string_bytes n.value) c.args.prepared.now.register) (view (Rec c.in_ok-clone.field-0)) own.name.now own-value d.register named c.with_register-own.ensures.value in
    let told : c.in_ok-found.found ≡ truth (shown (eval_all (result_world w t i fs) es)) =
    known ∙ ap (λ u. truth (shown (eval_all u es))) (ap (λ j. world_with own.name.now own-value (world_with (codes "item") j w)) same-item ∙ seen) in
    c.is_so.ensures ∙ flag-by (eval_all (result_world w t i fs) es) c.in_ok-found.found told x is
