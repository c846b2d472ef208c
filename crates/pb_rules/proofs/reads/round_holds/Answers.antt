use Rattle.std.proofs.Common.{◌∙◌, ◌+◌, ◌&&◌, Bool, ap, drop, map}
use Rattle.pb_language.specs.Expansion.{trees}
use Rattle.pb_language.specs.Expression.{no_expressions}
use Rattle.pb_flow.specs.Nodes.{conditions_after}
use Rattle.pb_vars.specs.InScope.{in_scope}
use Rattle.pb_vars.specs.Reads.{expanded_every_read}
use Rattle.pb_rules.specs.Sites.{conditions_round}
use Rattle.pb_rules.proofs.TaskReads.{round-next}
use Rattle.pb_rules.proofs.reads.round_holds.Goals as goal

pub returns-then-not-all_hold : goal.returns-then-not-all_hold
returns-then-not-all_hold g c =
    let t = trees (in_scope c.args.scope.now) in
    let f = g.Q.Question.holds c.args.question.now in
    let l = c.loop-head in
    let bs = c.args.around.now.blocks.items in
    let rest = expanded_every_read t f (conditions_after no_expressions (map (λ b. b.now) (drop (l.head-index + 1) bs))) in
    ap (λ (b : Bool). b && rest) c.if-not-all_hold.ensures
    ∙ round-next t f bs c.deref-head-items.result.now l.head-index c.head-item.result c.deref.result.now (expanded_every_read t f (conditions_round c.args.around.now)) c.deref-head-items.ensures.value c.loop-head-test.true c.head-item.is
    c.deref.ensures.value l.invariant

pub loop-head-preserved : goal.loop-head-preserved
loop-head-preserved g c =
    let t = trees (in_scope c.args.scope.now) in
    let f = g.Q.Question.holds c.args.question.now in
    let l = c.loop-head in
    let bs = c.args.around.now.blocks.items in
    let rest = expanded_every_read t f (conditions_after no_expressions (map (λ b. b.now) (drop (l.head-index + 1) bs))) in
    ap (λ (b : Bool). b && rest) c.if-not-all_hold.ensures
    ∙ round-next t f bs c.deref-head-items.result.now l.head-index c.head-item.result c.deref.result.now (expanded_every_read t f (conditions_round c.args.around.now)) c.deref-head-items.ensures.value c.loop-head-test.true c.head-item.is
    c.deref.ensures.value l.invariant
