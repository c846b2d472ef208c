use Rattle.pb_inventory.proofs.Named.{formed-fields}
use Rattle.pb_inventory.proofs.document.fields_in.Goals as goal

pub returns-in_ok-clone-in-Rec : goal.returns-in_ok-clone-in-Rec
returns-in_ok-clone-in-Rec c = formed-fields c.args.value.now c.in-Rec.fields c.in_ok-clone-in-Rec.field-0 c.in-Rec.is c.in_ok-clone-in-Rec.ensures.cases
