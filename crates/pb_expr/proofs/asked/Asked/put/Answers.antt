use Rattle.std.proofs.Common.{string_bytes, sym, subst}
use Rattle.pb_expr.specs.Found.{AreRight, IsFoundOf}
use Rattle.pb_expr.proofs.AskedTrees.{put-right}
use Rattle.pb_expr.proofs.FoundParts.{found-same}
use Rattle.pb_expr.proofs.asked.Asked.put.Goals as goal

pub returns : goal.returns
returns c = λ s f h i.
    let copy = c.in_ok-copy.copy in
    let name = string_bytes c.args.name.now in
    subst (λ es. AreRight s f es) (sym c.in_ok-insert.ensures.entries)
    (put-right s f c.args.self.now.found.entries c.in_ok-clone.field-0 copy h
    (subst (λ n. IsFoundOf s (f n) copy) (sym c.in_ok-clone.ensures.cases) (found-same s (f name) c.args.found.now copy c.in_ok-copy.ensures.kind c.in_ok-copy.ensures.unfit i)))
