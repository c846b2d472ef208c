use Rattle.std.proofs.Common.{true, ap, ◌∙◌, codes}
use Rattle.pb_semantics.specs.Kind.{booleans, put_slot}
use Rattle.pb_sig.proofs.Copies.{slots_view-copy}
use Rattle.pb_sig.proofs.ResultKinds.{kind_view-Bool}
use Rattle.pb_sig.proofs.results.ended_slots.Goals as goal

pub returns : goal.returns
returns c =
    c.in_ok-put_slot.ensures ∙ rw (c.in_ok-name.ensures.ok, c.always.ensures.presence, c.always.ensures.kind, kind_view-Bool)
    (ap (put_slot (codes "failed") true booleans) (slots_view-copy c.args.shape.now.entries c.in_ok-slots.slots.entries c.in_ok-slots.ensures.cases))
