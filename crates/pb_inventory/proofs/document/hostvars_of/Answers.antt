use Rattle.std.proofs.Common.{ap, ◌∙◌}
use Rattle.pb_value.proofs.Views.{view-fields}
use Rattle.pb_inventory.proofs.document.hostvars_of.Goals as goal

pub returns-in-Rec : goal.returns-in-Rec
returns-in-Rec c =
    let known = view-fields c.args.meta.now _ _ c.in-Rec.is (c.deref-in-Rec.ensures ∙ ap (λ w. w.parts) c.deref.ensures) in
    rw (known, ← c.field_of.ensures) c.fields_of.ensures
