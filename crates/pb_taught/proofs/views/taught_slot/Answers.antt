use Rattle.std.proofs.Common.{ap, ◌∙◌}
use Rattle.pb_semantics.specs.Kind.{slot_at}
use Rattle.pb_taught.proofs.Seen.{found-view, slots_in}
use Rattle.pb_taught.proofs.views.taught_slot.Goals as goal

pub returns-in-Some : goal.returns-in-Some
returns-in-Some c =
    let g = c.args.host.now in
    c.find.ensures ∙ ap (slot_at c.args.name.now) (ap slots_in c.in-Some.ensures.value ∙ found-view g c.args.views.now.entries)

pub returns-in-None : goal.returns-in-None
returns-in-None c =
    let g = c.args.host.now in
    ap (slot_at c.args.name.now) (ap slots_in c.in-None.ensures.value ∙ found-view g c.args.views.now.entries)
