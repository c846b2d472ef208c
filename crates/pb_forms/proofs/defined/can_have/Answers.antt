use Rattle.std.proofs.Common.{◌∷◌, ◌+◌, drop, sym, ap, ◌∙◌}
use Rattle.std.proofs.lemmas.List.{drop_all}
use Rattle.pb_language.specs.Narrow.{can_have}
use Rattle.pb_kind.specs.KindView.{kind_view}
use Rattle.pb_syntax.specs.ExprView.{names_of}
use Rattle.pb_syntax.proofs.Left.{drop-at}
use Rattle.pb_forms.proofs.defined.can_have.Goals as goal

pub loop-step-preserved : goal.loop-step-preserved
loop-step-preserved c =
    let l = c.loop-step in
    let here = kind_view l.here.now in
    let left = names_of (drop (l.step-index + 1) c.args.steps.now) in
    l.invariant ∙ ap (λ ns. can_have (names_of ns) here) (drop-at c.args.steps.now l.step-index c.step-item.result c.loop-step-test.true c.step-item.is)
    ∙ ap (λ n. can_have (n ∷ left) here) (sym c.as_str.ensures.value) ∙ c.in-Some.ensures left

pub returns-in-None : goal.returns-in-None
returns-in-None c =
    let l = c.loop-step in
    let here = kind_view l.here.now in
    let left = names_of (drop (l.step-index + 1) c.args.steps.now) in
    sym (l.invariant ∙ ap (λ ns. can_have (names_of ns) here) (drop-at c.args.steps.now l.step-index c.step-item.result c.loop-step-test.true c.step-item.is)
    ∙ ap (λ n. can_have (n ∷ left) here) (sym c.as_str.ensures.value) ∙ c.in-None.ensures left)

pub returns : goal.returns
returns c =
    let l = c.loop-step in
    sym (l.invariant ∙ ap (λ ns. can_have (names_of ns) (kind_view l.here.now)) (drop_all l.step-index c.args.steps.now c.loop-step-test.false))
