use Rattle.pb_flow.proofs.scene.Part.always.Goals as goal

pub returns-clause-around : goal.returns-clause-around
returns-clause-around c = rw (c.deref.ensures, c.deref-2.ensures) at c.in_ok-part.ensures.around
