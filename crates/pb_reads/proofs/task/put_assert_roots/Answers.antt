use Rattle.std.proofs.Common.{codes}
use Rattle.std.proofs.lemmas.Result.{on_ok_weaker}
use Rattle.pb_language.specs.Expansion.{part_named}
use Rattle.pb_language.specs.Rules.{asserted_expressions, option_expressions}
use Rattle.pb_task.specs.Tasks.{asserted_view}
use Rattle.pb_template.specs.Entries.{entries_view}
use Rattle.pb_reads.specs.RootsView.{roots_view}
use Rattle.pb_reads.proofs.Behind.{put-both}
use Rattle.pb_reads.proofs.task.put_assert_roots.Goals as goal

pub returns : goal.returns
returns c =
    on_ok_weaker c.put_value_roots.result
    (λ put. put-both (roots_view c.args.roots.now.items) (roots_view c.put_asserted_roots.new.roots.items) (roots_view c.put_value_roots.new.roots.items) (asserted_expressions (asserted_view c.args.asserted.now))
    (option_expressions (part_named (codes "fail_msg") (entries_view c.args.arguments.now))) c.in_ok-put_asserted_roots.ensures put)
    c.put_value_roots.ensures
