use Rattle.std.proofs.Common.{◌≡◌, ◌+◌, [], drop, drop_of_length-le, Vec, Global, sym, ap, ◌∙◌}
use Rattle.pb_semantics.specs.Join.{append_cases}
use Rattle.pb_language.specs.Narrow.{answers, cases_with}
use Rattle.pb_kind.specs.KindView.{cases_view}
use Rattle.pb_kind.specs.declared.kind.Case.{Case}
use Rattle.pb_kind.specs.declared.kind.Kind.{Kind}
use Rattle.pb_kind.proofs.JoinLemmas.{append_none}
use Rattle.pb_syntax.specs.ExprView.{status_view}
use Rattle.pb_forms.proofs.AnsweredCases.{kept-turn, left-turn}
use Rattle.pb_forms.proofs.teach.cases_answered.Goals as goal
use Rattle.pb_forms.proofs.teach.cases_answered.Goals.{then-may_answer+in_ok-copy+in_ok-push, else-may_answer}

pub loop-case-preserved : goal.loop-case-preserved
loop-case-preserved c =
    let l = c.loop-case in
    let cases = c.args.cases.now in
    let kept = l.kept.items in
    let f = answers (status_view c.args.status) c.args.answer in
    let after = λ (v : Vec (Case Kind) Global). append_cases (cases_view v.items) (cases_with f (cases_view (drop (l.case-index + 1) cases))) in
    elim c.if-may_answer.branch [
      | then-may_answer+in_ok-copy+in_ok-push w ↦ l.invariant
          ∙ kept-turn f kept w.push.new.self.items cases l.case-index w.in_ok-copy.copy c.case-item.result c.loop-case-test.true c.case-item.is
          (sym c.may_answer.ensures ∙ w.if-may_answer.true) w.in_ok-copy.ensures w.in_ok-push.ensures.items
          ∙ ap after (sym w.kept-is)
      | else-may_answer w ↦ l.invariant
          ∙ left-turn f kept cases l.case-index c.case-item.result c.loop-case-test.true c.case-item.is (sym c.may_answer.ensures ∙ w.if-may_answer.false)
          ∙ ap after (sym w.kept-is)
    ]

pub returns : goal.returns
returns c =
    let l = c.loop-case in
    let f = answers (status_view c.args.status) c.args.answer in
    let none : drop l.case-index c.args.cases.now ≡ [] = drop_of_length-le c.args.cases.now c.loop-case-test.false in
    sym (l.invariant ∙ ap (λ cs. append_cases (cases_view l.kept.items) (cases_with f (cases_view cs))) none ∙ append_none (cases_view l.kept.items))
