use Rattle.std.proofs.Common.{◌≡◌, [], drop, drop_of_length-le, sym, ap, ◌∙◌}
use Rattle.pb_semantics.specs.Join.{append_cases}
use Rattle.pb_kind.specs.KindView.{cases_view}
use Rattle.pb_kind.proofs.JoinLemmas.{copied_step, append_none}
use Rattle.pb_kind.proofs.join.copies.Goals as goal

pub loop-case-preserved : goal.loop-case-preserved
loop-case-preserved c =
    let l = c.loop-case in
    l.invariant ∙ copied_step l.all.items c.push.new.self.items c.args.cases.now l.case-index c.in_ok-copy.field-0 c.case-item.result c.loop-case-test.true c.case-item.is c.in_ok-copy.ensures c.in_ok-push.ensures.items

pub returns : goal.returns
returns c =
    let l = c.loop-case in
    let none : drop l.case-index c.args.cases.now ≡ [] = drop_of_length-le c.args.cases.now c.loop-case-test.false in
    sym (l.invariant ∙ ap (λ cs. append_cases (cases_view l.all.items) (cases_view cs)) none ∙ append_none (cases_view l.all.items))
