use Rattle.std.proofs.Common.{◌≡◌, ◌+◌, [], ◌∷◌, drop, drop_of_length-le, string_bytes, Vec, Global, sym, ap, ◌∙◌}
use Rattle.std.proofs.lemmas.Result.{IfOk-weaker}
use Rattle.pb_semantics.specs.Join.{append_cases}
use Rattle.pb_semantics.specs.Kind.{recs}
use Rattle.pb_language.specs.Narrow.{can_have, cases_stepped, defined_at, with_step}
use Rattle.pb_kind.specs.KindView.{cases_view, kind_view, slots_view}
use Rattle.pb_kind.specs.declared.kind.Case.{Case}
use Rattle.pb_kind.specs.declared.kind.Kind.{Kind}
use Rattle.pb_kind.proofs.JoinLemmas.{append_none}
use Rattle.pb_kind.proofs.Views.{kind_view-Rec}
use Rattle.pb_syntax.specs.ExprView.{names_of}
use Rattle.pb_forms.proofs.NewCases.{stepped-turn, stepped-out, stepped-record}
use Rattle.pb_forms.proofs.defined.+defined_at.Goals as goal
use Rattle.pb_forms.proofs.defined.+defined_at.Goals.{cases_defined-then-can_have_below+in_ok-fields+in_ok-defined+in_ok-push, cases_defined-else-can_have_below}

pub cases_defined-loop-case-preserved : goal.cases_defined-loop-case-preserved
cases_defined-loop-case-preserved t c =
    let l = c.loop-case in
    let cases = c.args.cases.now in
    let kept = l.kept.items in
    let p = can_have (string_bytes c.args.name.now ∷ names_of c.args.steps.now) in
    let f = with_step (string_bytes c.args.name.now) (defined_at (names_of c.args.steps.now)) in
    let after = λ (v : Vec (Case Kind) Global). append_cases (cases_view v.items) (cases_stepped p f (cases_view (drop (l.case-index + 1) cases))) in
    elim c.if-can_have_below.branch [
      | cases_defined-then-can_have_below+in_ok-fields+in_ok-defined+in_ok-push w ↦ l.invariant
          ∙ stepped-turn p f kept w.push.new.self.items cases l.case-index w.in_ok-defined.defined c.case-item.result (kind_view w.in_ok-fields.fields) c.loop-case-test.true c.case-item.is
          (sym c.can_have_below.ensures ∙ w.if-can_have_below.true) w.in_ok-defined.ensures w.in_ok-fields.ensures w.in_ok-push.ensures.items
          ∙ ap after (sym w.kept-is)
      | cases_defined-else-can_have_below w ↦ l.invariant
          ∙ stepped-out p f kept cases l.case-index c.case-item.result c.loop-case-test.true c.case-item.is (sym c.can_have_below.ensures ∙ w.if-can_have_below.false)
          ∙ ap after (sym w.kept-is)
    ]

pub cases_defined-returns : goal.cases_defined-returns
cases_defined-returns t c =
    let l = c.loop-case in
    let p = can_have (string_bytes c.args.name.now ∷ names_of c.args.steps.now) in
    let f = with_step (string_bytes c.args.name.now) (defined_at (names_of c.args.steps.now)) in
    let none : drop l.case-index c.args.cases.now ≡ [] = drop_of_length-le c.args.cases.now c.loop-case-test.false in
    sym (l.invariant ∙ ap (λ cs. append_cases (cases_view l.kept.items) (cases_stepped p f (cases_view cs))) none ∙ append_none (cases_view l.kept.items))

pub defined_below-returns : goal.defined_below-returns
defined_below-returns t c =
    let n = string_bytes c.args.name.now in
    let f = defined_at (names_of c.args.steps.now) in
    let ss = slots_view c.in-Rec.slots.value.parts.entries in
    let known : kind_view c.args.kind.now ≡ recs ss = ap kind_view c.in-Rec.is ∙ kind_view-Rec c.in-Rec.slots in
    let there = rw (c.deref-2.ensures, c.deref.ensures) at c.in_ok-inner.ensures in
    IfOk-weaker c.record_with.result _ _ (λ k h. h ∙ stepped-record n f ss (kind_view c.in_ok-inner.inner) there ∙ ap (with_step n f) (sym known))
    (rw (c.deref-4.ensures, c.deref-3.ensures, c.always.ensures.presence, c.always.ensures.kind) at c.record_with.ensures)
