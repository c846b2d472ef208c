use Rattle.pb_finish.specs.Results.{acted_fields}
use Rattle.pb_start.specs.Blocks.{block_fields}
use Rattle.pb_finish.proofs.SameFields.{same-fields}
use Rattle.pb_finish.proofs.fixed.Fixed.acted.Goals as goal

pub returns : goal.returns
returns c = same-fields (block_fields c.args.self.now.acted) acted_fields c.args.self.now.acts
