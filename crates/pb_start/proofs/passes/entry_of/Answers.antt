use Rattle.pb_start.proofs.passes.entry_of.Goals as goal

pub returns : goal.returns
returns g c = rw c.in_ok-known.ensures at c.entry_in.ensures
