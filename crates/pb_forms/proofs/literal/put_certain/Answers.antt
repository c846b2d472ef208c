use Rattle.pb_forms.proofs.literal.put_certain.Goals as goal

pub returns : goal.returns
returns c = rw (c.in_ok-clone.ensures.cases, c.always.ensures.presence, c.always.ensures.kind) at c.put_slot.ensures
