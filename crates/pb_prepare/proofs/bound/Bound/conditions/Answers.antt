use denote.Ref.{Bor}
use Rattle.std.proofs.Common.{◌≡◌, ◌∙◌, ◌+◌, ◌≤◌, List, length, take, ap, map, subst, sym}
use Rattle.std.proofs.lemmas.List.{take_all}
use Rattle.pb_language.specs.Plays.{append_expressions}
use Rattle.pb_language.specs.Expression.{Expressions, no_expressions}
use Rattle.pb_flow.specs.Nodes.{conditions_after}
use Rattle.pb_play.specs.declared.play.BlockHead.{BlockHead}
use Rattle.pb_syntax.specs.ExprView.{exprs_view}
use Rattle.pb_prepare.proofs.Lists.{round-next}
use Rattle.pb_prepare.proofs.bound.Bound.conditions.Goals as goal

pub loop-head-preserved : goal.loop-head-preserved
loop-head-preserved c =
    let l = c.loop-head in
    let hs = c.deref-head-items.result.now in
    let same = c.deref-head-items.ensures.value in
    let put = c.in_ok-put_all.ensures ∙ ap (λ es. append_expressions (exprs_view l.all.items) (exprs_view es)) c.deref.ensures.value in
    round-next hs l.head-index c.head-item.result (exprs_view l.all.items) (exprs_view c.put_all.new.all.items) c.loop-head-test.true c.head-item.is put
    (l.invariant ∙ ap (λ (bs : List (Bor BlockHead)). conditions_after no_expressions (map (λ b. b.now) (take l.head-index bs))) (sym same))
    ∙ ap (λ (bs : List (Bor BlockHead)). conditions_after no_expressions (map (λ b. b.now) (take (l.head-index + 1) bs))) same

pub returns : goal.returns
returns c =
    let l = c.loop-head in
    let bs = c.args.around.now.blocks.items in
    let past : length bs ≤ l.head-index = subst (λ (xs : List (Bor BlockHead)). length xs ≤ l.head-index) c.deref-head-items.ensures.value c.loop-head-test.false in
    c.in_ok-put_all-2.ensures ∙ ap (λ es. append_expressions es (exprs_view c.args.when.now)) (l.invariant ∙ ap (λ (xs : List (Bor BlockHead)). conditions_after no_expressions (map (λ b. b.now) xs)) (take_all l.head-index bs past))
