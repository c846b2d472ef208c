use Rattle.std.proofs.Common.{◌≡◌, ◌∙◌, false, ◌||◌, ap, sym}
use Rattle.pb_semantics.specs.Data.{rec}
use Rattle.pb_language.specs.Nesting.{holds, some_field_holds}
use Rattle.pb_value.proofs.Views.{view-fields}
use Rattle.pb_value.specs.View.{fields_view}
use Rattle.pb_template.proofs.nesting.+holding.Goals as goal

pub holds-returns-else-passes-2 : goal.holds-returns-else-passes-2
holds-returns-else-passes-2 g t c =
    let f = g.T.Test.meaning in
    let fs = fields_view c.deref-else-passes-2-3.result.now.entries in
    let known = view-fields c.args.value.now c.in-Rec.fields c.deref-else-passes-2-3.result.now c.in-Rec.is (c.deref-else-passes-2-3.ensures ∙ ap (λ w. w.parts) c.deref-else-passes-2-2.ensures) in
    let not_itself : f (rec fs) ≡ false = ap f (sym known) ∙ sym c.passes-in-Rec.ensures ∙ c.if-passes-2.false in
    c.some_field_holds.ensures ∙ ap (λ q. q || some_field_holds f fs) (sym not_itself) ∙ ap (holds f) (sym known)
