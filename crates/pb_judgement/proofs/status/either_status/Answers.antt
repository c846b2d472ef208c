use Rattle.std.proofs.Common.{◌≡◌, [], drop, drop_of_length-le, sym, ap, ◌∙◌}
use Rattle.pb_semantics.specs.Join.{append_cases}
use Rattle.pb_language.specs.Cases.{either_status}
use Rattle.pb_kind.specs.KindView.{cases_view}
use Rattle.pb_kind.proofs.JoinLemmas.{append_none}
use Rattle.pb_judgement.proofs.CaseSteps.{made_step, either_through}
use Rattle.pb_judgement.proofs.status.either_status.Goals as goal

pub loop-case-preserved : goal.loop-case-preserved
loop-case-preserved c =
    let l = c.loop-case in
    let case = c.case-item.result in
    l.invariant ∙ made_step either_status l.all.items c.add_either.new.all.items c.args.cases.now l.case-index case (either_through case) c.loop-case-test.true c.case-item.is c.in_ok-add_either.ensures

pub returns : goal.returns
returns c =
    let l = c.loop-case in
    let none : drop l.case-index c.args.cases.now ≡ [] = drop_of_length-le c.args.cases.now c.loop-case-test.false in
    sym (l.invariant ∙ ap (λ cs. append_cases (cases_view l.all.items) (either_status (cases_view cs))) none ∙ append_none (cases_view l.all.items))
