use Rattle.std.proofs.Common.{ℕ, ◌∙◌, ◌<◌, List, length, subst}
use Rattle.pb_language.specs.Plays.{append_parts}
use Rattle.pb_template.specs.Entries.{entries_view}
use Rattle.pb_template.specs.declared.entry.Entry.{Entry}
use Rattle.pb_vars.specs.InScope.{in_scope}
use Rattle.pb_vars.specs.Same.{HaveSame}
use Rattle.pb_rules.proofs.ScopesRound.{over-none, scope-next}
use Rattle.pb_rules.proofs.site.Around.scope.Goals as goal

pub loop-index-init : goal.loop-index-init
loop-index-init c =
    subst (λ (es : List Entry). HaveSame (in_scope c.in_ok-scope.scope) (entries_view es)) c.deref.ensures.value
    (over-none (in_scope c.in_ok-scope.scope) (entries_view c.deref.result.now) (in_scope c.nothing-nothing.result) c.nothing-nothing.ensures c.in_ok-scope.ensures)

pub loop-index-preserved : goal.loop-index-preserved
loop-index-preserved c =
    let l = c.loop-index in
    let self = c.args.self.now in
    let next = in_scope c.in_ok-scope-2.scope in
    let lt : l.index < length self.blocks.items = subst (λ (n : ℕ). l.index < n) (c.len-index-end.ensures ∙ self.blocks.ok.0) c.loop-index-test.true in
    scope-next (entries_view self.play.now.vars.items) (in_scope l.scope) next self.blocks.items l.index c.index-head.result.now lt c.index-head.ensures l.invariant
    (subst (λ (es : List Entry). HaveSame next (append_parts (entries_view es) (in_scope l.scope))) c.deref-in-loop-index.ensures.value c.in_ok-scope-2.ensures)
