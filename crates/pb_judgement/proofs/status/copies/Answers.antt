use Rattle.std.proofs.Common.{◌≡◌, [], drop, drop_of_length-le, refl, sym, ap, ◌∙◌}
use Rattle.pb_semantics.specs.Join.{append_cases}
use Rattle.pb_kind.specs.KindView.{cases_view}
use Rattle.pb_kind.proofs.JoinLemmas.{append_none}
use Rattle.pb_judgement.proofs.CaseSteps.{made_step}
use Rattle.pb_judgement.proofs.status.copies.Goals as goal

pub loop-case-preserved : goal.loop-case-preserved
loop-case-preserved c =
    let l = c.loop-case in
    l.invariant ∙ made_step (λ cs. cs) l.all.items c.add.new.all.items c.args.cases.now l.case-index c.case-item.result (λ cs. refl) c.loop-case-test.true c.case-item.is c.in_ok-add.ensures

pub returns : goal.returns
returns c =
    let l = c.loop-case in
    let none : drop l.case-index c.args.cases.now ≡ [] = drop_of_length-le c.args.cases.now c.loop-case-test.false in
    sym (l.invariant ∙ ap (λ cs. append_cases (cases_view l.all.items) (cases_view cs)) none ∙ append_none (cases_view l.all.items))
