use Rattle.std.proofs.Common.{ap, sym}
use Rattle.pb_sig.specs.Results.{result_kind}
use Rattle.pb_sig.proofs.results.Results.kind.Goals as goal

pub returns-then-may_skip : goal.returns-then-may_skip
returns-then-may_skip c = ap (result_kind c.args.self.now) (sym c.if-may_skip.true)
