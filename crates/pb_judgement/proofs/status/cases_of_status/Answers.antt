use Rattle.std.proofs.Common.{◌≡◌, [], Bool, cond, drop, drop_of_length-le, not, sym, ap, ◌∙◌}
use Rattle.pb_semantics.specs.Join.{append_cases}
use Rattle.pb_semantics.specs.Kind.{KindData, Shape}
use Rattle.pb_language.specs.Narrow.{cases_with}
use Rattle.pb_kind.specs.KindView.{cases_view}
use Rattle.pb_kind.proofs.JoinLemmas.{append_none}
use Rattle.pb_judgement.proofs.CaseSteps.{made_step, with_through}
use Rattle.pb_judgement.proofs.status.cases_of_status.Goals as goal

pub loop-case-preserved : goal.loop-case-preserved
loop-case-preserved c =
    let l = c.loop-case in
    let case = c.case-item.result in
    let f : Shape → Bool → KindData → Bool = λ sh fl k. cond c.args.failed fl (not fl) in
    l.invariant ∙ made_step (cases_with f) l.all.items c.add_of_status.new.all.items c.args.cases.now l.case-index case (with_through f case) c.loop-case-test.true c.case-item.is c.in_ok-add_of_status.ensures

pub returns : goal.returns
returns c =
    let l = c.loop-case in
    let f : Shape → Bool → KindData → Bool = λ sh fl k. cond c.args.failed fl (not fl) in
    let none : drop l.case-index c.args.cases.now ≡ [] = drop_of_length-le c.args.cases.now c.loop-case-test.false in
    sym (l.invariant ∙ ap (λ cs. append_cases (cases_view l.all.items) (cases_with f (cases_view cs))) none ∙ append_none (cases_view l.all.items))
