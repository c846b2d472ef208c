use Rattle.std.proofs.Common.{◌≡◌, drop}
use Rattle.pb_language.specs.Expansion.{trees}
use Rattle.pb_language.specs.Rules.{part_expressions}
use Rattle.pb_template.specs.Entries.{entries_view}
use Rattle.pb_vars.specs.InScope.{in_scope}
use Rattle.pb_vars.specs.Reads.{expanded_every_read}
use Rattle.pb_rules.proofs.reads.entries_hold.Given as goal

abbrev pub invariant-loop-entry : goal.invariant-loop-entry
invariant-loop-entry g l = expanded_every_read (trees (in_scope l.scope)) (g.Q.Question.holds l.question) (part_expressions (entries_view (drop l.entry-index l.entries)))
    ≡ expanded_every_read (trees (in_scope l.scope)) (g.Q.Question.holds l.question) (part_expressions (entries_view l.entries))
