use Rattle.std.proofs.Common.{◌≡◌, ◌∙◌, ◌+◌, ◌<◌, ◌≤◌, Bool, true, false, ◌||◌, not, ap, drop, get_or, length, sym}
use Rattle.std.proofs.lemmas.List.{drop_all}
use Rattle.pb_language.specs.Cases.{is_conditional}
use Rattle.pb_syntax.specs.ExprView.{exprs_view}
use Rattle.pb_syntax.proofs.Left.{drop-at}
use Rattle.pb_route.proofs.Round.{conditional_here, conditional_later, is_conditional_round, given_conditional}
use Rattle.pb_route.proofs.station.is_skippable.Goals as goal

pub returns-then-not-is_empty : goal.returns-then-not-is_empty
returns-then-not-is_empty c = λ ms.
    let bs = c.args.around.now.blocks.items in
    let i = c.loop-block.block-index in
    let x = c.block-item.result in
    let same = c.deref-block-items.ensures.value in
    let lt : i < length bs = rw (← same) c.loop-block-test.true in
    let is : x ≡ get_or bs i x = rw (← same) c.block-item.is in
    let when = x.now.when in
    let own = is_conditional (exprs_view c.args.task.now.when.items) in
    let given : is_conditional (exprs_view when.items) ≡ true = sym (given_conditional when.items when.len when.ok.0) ∙ ap not (sym c.is_empty.ensures ∙ c.if-not-is_empty.true) in
    sym (ap (λ (b : Bool). b || own) (c.loop-block.invariant ∙ ap is_conditional_round (drop-at bs i x lt is) ∙ conditional_here x (drop (i + 1) bs) given))

pub loop-block-preserved : goal.loop-block-preserved
loop-block-preserved c =
    let bs = c.args.around.now.blocks.items in
    let i = c.loop-block.block-index in
    let x = c.block-item.result in
    let same = c.deref-block-items.ensures.value in
    let lt : i < length bs = rw (← same) c.loop-block-test.true in
    let is : x ≡ get_or bs i x = rw (← same) c.block-item.is in
    let when = x.now.when in
    let given : is_conditional (exprs_view when.items) ≡ false = sym (given_conditional when.items when.len when.ok.0) ∙ ap not (sym c.is_empty.ensures ∙ c.if-not-is_empty.false) in
    c.loop-block.invariant ∙ ap is_conditional_round (drop-at bs i x lt is) ∙ conditional_later x (drop (i + 1) bs) given

pub returns : goal.returns
returns c = λ ms.
    let bs = c.args.around.now.blocks.items in
    let i = c.loop-block.block-index in
    let past : length bs ≤ i = rw (← c.deref-block-items.ensures.value) c.loop-block-test.false in
    let when = c.args.task.now.when in
    let none : is_conditional_round bs ≡ false = c.loop-block.invariant ∙ ap is_conditional_round (drop_all i bs past) in
    ap not c.is_empty-2.ensures ∙ given_conditional when.items when.len when.ok.0 ∙ sym (ap (λ (b : Bool). b || is_conditional (exprs_view when.items)) none)
