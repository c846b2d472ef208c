use Rattle.std.proofs.Common.{◌≡◌, drop, map}
use Rattle.pb_language.specs.Expansion.{trees}
use Rattle.pb_language.specs.Expression.{no_expressions}
use Rattle.pb_flow.specs.Nodes.{conditions_after}
use Rattle.pb_vars.specs.InScope.{in_scope}
use Rattle.pb_vars.specs.Reads.{expanded_every_read}
use Rattle.pb_rules.specs.Sites.{conditions_round}
use Rattle.pb_rules.proofs.reads.round_holds.Given as goal

abbrev pub invariant-loop-head : goal.invariant-loop-head
invariant-loop-head g l = expanded_every_read (trees (in_scope l.scope)) (g.Q.Question.holds l.question) (conditions_after no_expressions (map (λ b. b.now) (drop l.head-index l.around.blocks.items)))
    ≡ expanded_every_read (trees (in_scope l.scope)) (g.Q.Question.holds l.question) (conditions_round l.around)
