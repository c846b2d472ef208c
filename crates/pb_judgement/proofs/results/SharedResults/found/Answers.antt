use Rattle.std.proofs.Common.{All, sym, subst, true}
use Rattle.std.proofs.lemmas.List.Elements.{All-get_or}
use Rattle.pb_judgement.specs.Results.{AreResults, IsMade}
use Rattle.pb_judgement.specs.declared.ends.Manner.{Manner}
use Rattle.pb_judgement.proofs.Sharing.{of_the_same, same_manner}
use Rattle.pb_judgement.proofs.results.SharedResults.found.Goals as goal

pub returns-then-do_the_same : goal.returns-then-do_the_same
returns-then-do_the_same c =
    let w = c.args.work.now in
    let x = c.made-item.result in
    let each = subst (All IsMade) (sym c.deref-made-items.ensures.value) c.self.invariant in
    let kept : IsMade x = subst IsMade (sym c.made-item.is) (All-get_or IsMade c.deref-made-items.result.now c.loop-made.made-index x c.loop-made-test.true each) in
    let alike = subst (λ (m : Manner). AreResults x.work.now m x.results) (same_manner x.manner c.args.manner c.if-eq.ensures) kept in
    of_the_same x.work.now w c.args.manner x.results (c.do_the_same.ensures c.if-do_the_same.true) alike
