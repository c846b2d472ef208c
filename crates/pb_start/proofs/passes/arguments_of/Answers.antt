use Rattle.std.proofs.Common.{◌++◌, ◌+◌, map, drop, sym, ap, ◌∙◌, append_assoc}
use Rattle.std.proofs.lemmas.List.{append-nil, drop_all}
use Rattle.pb_syntax.proofs.Left.{drop-at}
use Rattle.pb_value.specs.View.{view}
use Rattle.pb_start.specs.Passes.{call_arguments, entry_arguments, entry_view, pass_view}
use Rattle.pb_start.proofs.passes.arguments_of.Goals as goal

pub loop-pass-preserved : goal.loop-pass-preserved
loop-pass-preserved c =
    let ps = c.args.passes.now in
    let i = c.loop-pass.pass-index in
    let p = c.pass-item.result in
    let done = map view c.loop-pass.all.items in
    let rest = call_arguments (map pass_view (drop (i + 1) ps)) in
    c.loop-pass.invariant
    ∙ ap (λ rs. done ++ call_arguments (map pass_view rs)) (drop-at ps i p c.loop-pass-test.true c.pass-item.is)
    ∙ sym (append_assoc done (entry_arguments (entry_view p.entry)) rest)
    ∙ ap (λ vs. vs ++ rest) (sym c.in_ok-add_call.ensures)

pub returns : goal.returns
returns c =
    sym (c.loop-pass.invariant
    ∙ ap (λ rs. map view c.loop-pass.all.items ++ call_arguments (map pass_view rs)) (drop_all c.loop-pass.pass-index c.args.passes.now c.loop-pass-test.false)
    ∙ append-nil (map view c.loop-pass.all.items))
