use Rattle.pb_flow.proofs.scene.Part.body.Goals as goal

pub returns-clause-around : goal.returns-clause-around
returns-clause-around c = rw (c.is_rescued-rescued.ensures, c.deref.ensures) at c.inside.ensures.around
