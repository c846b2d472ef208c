use Rattle.std.proofs.Common.{◌∙◌, sym, ap}
use Rattle.pb_language.specs.Nesting.{holds}
use Rattle.pb_language.specs.Texts.{opens}
use Rattle.pb_value.proofs.Views.{view-fields}
use Rattle.pb_inventory.proofs.variables.+opening.Goals as goal

pub holds_opening-returns-in-Rec : goal.holds_opening-returns-in-Rec
holds_opening-returns-in-Rec t c =
    c.some_field_holds.ensures ∙ ap (holds opens) (sym (view-fields c.args.value.now c.in-Rec.fields c.deref-in-Rec-2.result.now c.in-Rec.is (c.deref-in-Rec-2.ensures ∙ ap (λ w. w.parts) c.deref-in-Rec.ensures)))
