use Rattle.std.proofs.Common.{◌≡◌, [], drop, drop_of_length-le, sym, ap, ◌∙◌}
use Rattle.pb_semantics.specs.Join.{append_cases}
use Rattle.pb_language.specs.Cases.{perhaps_failed}
use Rattle.pb_kind.specs.KindView.{cases_view}
use Rattle.pb_kind.proofs.JoinLemmas.{append_none}
use Rattle.pb_judgement.proofs.CaseSteps.{made_step, perhaps_through}
use Rattle.pb_judgement.proofs.status.perhaps_failed.Goals as goal

pub loop-case-preserved : goal.loop-case-preserved
loop-case-preserved c =
    let l = c.loop-case in
    let case = c.case-item.result in
    l.invariant ∙ made_step perhaps_failed l.all.items c.add_perhaps.new.all.items c.args.cases.now l.case-index case (perhaps_through case) c.loop-case-test.true c.case-item.is c.in_ok-add_perhaps.ensures

pub returns : goal.returns
returns c =
    let l = c.loop-case in
    let none : drop l.case-index c.args.cases.now ≡ [] = drop_of_length-le c.args.cases.now c.loop-case-test.false in
    sym (l.invariant ∙ ap (λ cs. append_cases (cases_view l.all.items) (perhaps_failed (cases_view cs))) none ∙ append_none (cases_view l.all.items))
