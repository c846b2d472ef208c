use Rattle.pb_expr.proofs.AskedTrees.{find-right}
use Rattle.pb_expr.proofs.asked.Asked.find.Goals as goal

pub returns : goal.returns
returns c = λ s f h. find-right s f c.args.name.now c.args.self.now.found.entries c.get.result c.get.ensures.value h
