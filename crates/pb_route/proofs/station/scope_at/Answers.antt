use Rattle.std.proofs.Common.{ℕ, ◌∙◌, ◌<◌, ◌≤◌, List, length, map, subst}
use Rattle.std.proofs.lemmas.List.{take_all}
use Rattle.std.proofs.lemmas.Result.{IfOk-weaker}
use Rattle.pb_language.specs.Plays.{append_parts}
use Rattle.pb_flow.specs.Nodes.{scope_after}
use Rattle.pb_template.specs.Entries.{entries_view}
use Rattle.pb_template.specs.declared.entry.Entry.{Entry}
use Rattle.pb_vars.specs.InScope.{in_scope}
use Rattle.pb_vars.specs.Same.{HaveSame}
use Rattle.pb_route.proofs.Round.{over-none, same-over, scope-next}
use Rattle.pb_route.proofs.station.scope_at.Goals as goal

pub loop-index-init : goal.loop-index-init
loop-index-init c = over-none (in_scope c.in_ok-scope.scope) (entries_view c.args.play_vars.now) (in_scope c.nothing-nothing.result) c.nothing-nothing.ensures c.in_ok-scope.ensures

pub loop-index-preserved : goal.loop-index-preserved
loop-index-preserved c =
    let l = c.loop-index in
    let bs = c.args.around.now.blocks in
    let next = in_scope c.in_ok-scope-2.scope in
    let lt : l.index < length bs.items = subst (λ (n : ℕ). l.index < n) (c.len-index-end.ensures ∙ bs.ok.0) c.loop-index-test.true in
    scope-next (entries_view c.args.play_vars.now) (in_scope l.scope) next bs.items l.index c.index-head.result.now lt c.index-head.ensures l.invariant
    (subst (λ (es : List Entry). HaveSame next (append_parts (entries_view es) (in_scope l.scope))) c.deref.ensures.value c.in_ok-scope-2.ensures)

pub returns : goal.returns
returns c =
    let l = c.loop-index in
    let bs = c.args.around.now.blocks in
    let play = entries_view c.args.play_vars.now in
    let past : length bs.items ≤ l.index = subst (λ (n : ℕ). n ≤ l.index) (c.len-index-end.ensures ∙ bs.ok.0) c.loop-index-test.false in
    let all : HaveSame (in_scope l.scope) (scope_after play (map (λ b. b.now) bs.items)) = subst (λ xs. HaveSame (in_scope l.scope) (scope_after play (map (λ b. b.now) xs))) (take_all l.index bs.items past) l.invariant in
    IfOk-weaker c.with-2.result _ _
    (λ s is. same-over (in_scope s) (entries_view c.args.task.now.vars.items) (in_scope l.scope) (scope_after play (map (λ b. b.now) bs.items))
    (subst (λ (es : List Entry). HaveSame (in_scope s) (append_parts (entries_view es) (in_scope l.scope))) c.deref-2.ensures.value is) all) c.with-2.ensures
