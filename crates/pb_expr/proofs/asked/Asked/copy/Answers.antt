use Rattle.std.proofs.Common.{◌∷◌, string_bytes, sym, subst}
use Rattle.pb_expr.specs.Found.{AreRight, IsFoundOf}
use Rattle.pb_expr.proofs.AskedTrees.{Entry, put-right}
use Rattle.pb_expr.proofs.FoundParts.{found-same}
use Rattle.pb_expr.proofs.asked.Asked.copy.Goals as goal

pub loop-name-preserved : goal.loop-name-preserved
loop-name-preserved c = λ s f h.
    let l = c.loop-name in
    let inv = l.invariant s f h in
    let e : Entry = (c.in-Some.name.now, c.in-Some.inferred.now) in
    let name = string_bytes e.0 in
    let copy = c.in_ok-copy.copy in
    let here : AreRight s f (e ∷ c.next.new.self) = subst (λ es. AreRight s f es) c.in-Some.ensures.steps inv.1 in (
      subst (λ es. AreRight s f es) (sym c.in_ok-insert.ensures.entries)
          (put-right s f l.found.entries c.in_ok-clone.field-0 copy inv.0
          (subst (λ n. IsFoundOf s (f n) copy) (sym c.in_ok-clone.ensures.cases) (found-same s (f name) e.1 copy c.in_ok-copy.ensures.kind c.in_ok-copy.ensures.unfit here.0))),
      here.1,
    )

pub returns : goal.returns
returns c = λ s f h. (c.loop-name.invariant s f h).0
