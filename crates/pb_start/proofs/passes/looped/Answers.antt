use Rattle.std.proofs.Common.{◌≡◌, refl, sym, ap, ◌∙◌}
use Rattle.std.proofs.lemmas.Result.{IfOk-weaker}
use Rattle.pb_semantics.specs.Data.{list}
use Rattle.pb_value.proofs.Views.{view-List}
use Rattle.pb_value.specs.View.{view, items_view}
use Rattle.pb_start.proofs.passes.looped.Goals as goal

pub returns-in-List : goal.returns-in-List
returns-in-List g c =
    let same : items_view c.deref-in-List-2.result.now ≡ items_view c.in-List.items.value.parts.items = rw (c.deref-in-List-2.ensures.value, c.deref-in-List.ensures, c.deref.ensures) refl in
    let seen : view c.args.items ≡ list (items_view c.deref-in-List-2.result.now) = ap view c.in-List.is ∙ view-List c.in-List.items ∙ sym (ap list same) in
    IfOk-weaker c.passes_of.result _ _ (λ ps h t d. rw seen (h t d)) c.passes_of.ensures
