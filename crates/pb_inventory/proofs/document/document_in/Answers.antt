use Rattle.std.proofs.Common.{ap, ◌∙◌}
use Rattle.pb_value.proofs.Views.{view-fields}
use Rattle.pb_inventory.proofs.document.document_in.Goals as goal

pub returns-in-Rec : goal.returns-in-Rec
returns-in-Rec c =
    let known = view-fields c.args.value.now _ _ c.in-Rec.is (c.deref-in-Rec.ensures ∙ ap (λ w. w.parts) c.deref.ensures) in
    rw known c.document_of.ensures
