use Rattle.pb_play.proofs.Batches.{made-sizes}
use Rattle.pb_play.proofs.play.Play.cuts.Goals as goal

pub returns : goal.returns
returns c = made-sizes c.as_slice.result.now c.args.self.now.serial.items c.args.hosts c.cuts_of.result c.as_slice.ensures.value c.cuts_of.ensures
