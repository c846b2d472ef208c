use Rattle.std.proofs.Common.{◌≡◌, [], drop, drop_of_length-le, string_bytes, rules, sym, ap, ◌∙◌}
use Rattle.std.proofs.lemmas.Result.{IfOk-weaker}
use Rattle.pb_semantics.specs.Join.{append_cases}
use Rattle.pb_semantics.specs.Kind.{recs}
use Rattle.pb_language.specs.Narrow.{answers, cases_changed, cases_with, changed_at, on_results, with_change}
use Rattle.pb_kind.specs.KindView.{cases_view, is_always, kind_view, slots_view}
use Rattle.pb_kind.proofs.JoinLemmas.{append_none}
use Rattle.pb_kind.proofs.Views.{kind_view-Rec}
use Rattle.pb_syntax.specs.ExprView.{names_of, status_view}
use Rattle.pb_forms.proofs.NewCases.{changed-turn, changed-record, same-record}
use Rattle.pb_forms.proofs.teach.+answered_at.Goals as goal

pub cases_answered_below-loop-case-preserved : goal.cases_answered_below-loop-case-preserved
cases_answered_below-loop-case-preserved t c =
    let l = c.loop-case in
    let f = with_change (string_bytes c.args.name.now) (changed_at (names_of c.args.steps.now) (on_results (cases_with (answers (status_view c.args.status) c.args.answer)))) in
    l.invariant
    ∙ changed-turn f l.all.items c.push.new.self.items c.args.cases.now l.case-index c.in_ok-changed.changed c.case-item.result (kind_view c.in_ok-fields.fields)
    c.loop-case-test.true c.case-item.is c.in_ok-changed.ensures c.in_ok-fields.ensures c.in_ok-push.ensures.items

pub cases_answered_below-returns : goal.cases_answered_below-returns
cases_answered_below-returns t c =
    let l = c.loop-case in
    let f = with_change (string_bytes c.args.name.now) (changed_at (names_of c.args.steps.now) (on_results (cases_with (answers (status_view c.args.status) c.args.answer)))) in
    let none : drop l.case-index c.args.cases.now ≡ [] = drop_of_length-le c.args.cases.now c.loop-case-test.false in
    sym (l.invariant ∙ ap (λ cs. append_cases (cases_view l.all.items) (cases_changed f (cases_view cs))) none ∙ append_none (cases_view l.all.items))

pub answered_below-returns-in_default-find : goal.answered_below-returns-in_default-find
answered_below-returns-in_default-find t c =
    let n = string_bytes c.args.name.now in
    let f = changed_at (names_of c.args.steps.now) (on_results (cases_with (answers (status_view c.args.status) c.args.answer))) in
    let ss = slots_view c.in-Rec.slots.value.parts.entries in
    let known : kind_view c.args.kind.now ≡ recs ss = ap kind_view c.in-Rec.is ∙ kind_view-Rec c.in-Rec.slots in
    let at = rw (c.as_str.ensures.value, c.deref-2.ensures, c.deref.ensures) at c.in_default-find.ensures in
    let same : with_change n f (kind_view c.args.kind.now) ≡ kind_view c.args.kind.now = ap (with_change n f) known ∙ sym (same-record n f ss (sym at)) ∙ sym known in
    rw same (search rules)

pub answered_below-returns : goal.answered_below-returns
answered_below-returns t c =
    let n = string_bytes c.args.name.now in
    let f = changed_at (names_of c.args.steps.now) (on_results (cases_with (answers (status_view c.args.status) c.args.answer))) in
    let ss = slots_view c.in-Rec.slots.value.parts.entries in
    let slot = c.in-Some.slot.now in
    let known : kind_view c.args.kind.now ≡ recs ss = ap kind_view c.in-Rec.is ∙ kind_view-Rec c.in-Rec.slots in
    let at = rw (c.as_str.ensures.value, c.deref-2.ensures, c.deref.ensures) at c.in-Some.ensures in
    IfOk-weaker c.record_with.result _ _
    (λ k h. h ∙ changed-record n f ss (is_always slot.presence) (kind_view slot.kind) (kind_view c.in_ok-answered_at.field-0) (sym at) c.in_ok-answered_at.ensures ∙ ap (with_change n f) (sym known))
    (rw (c.deref-4.ensures, c.deref-3.ensures) at c.record_with.ensures)
