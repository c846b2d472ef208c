use Rattle.std.proofs.Common.{◌∙◌, ap}
use Rattle.std.proofs.lemmas.Result.{MatchResult-weaker}
use Rattle.pb_value.specs.View.{fields_view}
use Rattle.pb_inventory.specs.Words.{inventory_in, offence_of}
use Rattle.pb_probe.specs.Told.{told_of}
use Rattle.pb_probe.proofs.Tellings.{fault-told}
use Rattle.pb_probe.proofs.inventory.told_of.Goals as goal

pub returns-in-Err : goal.returns-in-Err
returns-in-Err c =
    MatchResult-weaker c.fault_told.result c.fault_told.ensures
    (λ fs e. fault-told (offence_of c.in-Err.fault) (inventory_in c.as_bytes.result.now) (fields_view fs.entries) c.in-Err.ensures.verdict e ∙ ap (λ bs. told_of (inventory_in bs)) c.as_bytes.ensures.value)
    (λ y e. tt)
