use Rattle.pb_language.specs.Give.{skip_fields}
use Rattle.pb_start.specs.Blocks.{block_fields}
use Rattle.pb_finish.proofs.SameFields.{same-fields}
use Rattle.pb_finish.proofs.fixed.Fixed.skipped.Goals as goal

pub returns : goal.returns
returns c = same-fields (block_fields c.args.self.now.skipped) skip_fields c.args.self.now.skips
