use Rattle.std.proofs.Common.{◌≡◌, [], drop, drop_of_length-le, sym, ap, ◌∙◌}
use Rattle.pb_semantics.specs.Join.{append_cases, new_cases}
use Rattle.pb_kind.specs.KindView.{cases_view}
use Rattle.pb_kind.proofs.JoinLemmas.{added_step, append_none}
use Rattle.pb_kind.proofs.join.add_cases.Goals as goal

pub loop-other-preserved : goal.loop-other-preserved
loop-other-preserved c =
    let l = c.loop-other in
    l.invariant ∙ added_step l.all.items c.add_case.new.all.items c.args.others.now l.other-index c.other-item.result (cases_view c.args.cases.now) c.loop-other-test.true c.other-item.is c.in_ok-add_case.ensures

pub returns : goal.returns
returns c =
    let l = c.loop-other in
    let first = cases_view c.args.cases.now in
    let none : drop l.other-index c.args.others.now ≡ [] = drop_of_length-le c.args.others.now c.loop-other-test.false in
    sym (append_none (cases_view l.all.items))
    ∙ sym (l.invariant ∙ ap (λ cs. append_cases (cases_view l.all.items) (new_cases (cases_view cs) first)) none)
