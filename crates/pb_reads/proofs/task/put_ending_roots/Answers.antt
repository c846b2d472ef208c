use Rattle.std.proofs.lemmas.Result.{on_ok_weaker}
use Rattle.pb_language.specs.Rules.{list_expressions, until_expressions}
use Rattle.pb_task.specs.Tasks.{task_view}
use Rattle.pb_reads.specs.RootsView.{roots_view}
use Rattle.pb_reads.proofs.Behind.{put-both}
use Rattle.pb_reads.proofs.task.put_ending_roots.Goals as goal

pub returns : goal.returns
returns c =
    let k = task_view c.args.task.now in
    on_ok_weaker c.put_until_roots.result
    (λ put. put-both (roots_view c.args.roots.now.items) (roots_view c.put_list_roots.new.roots.items) (roots_view c.put_until_roots.new.roots.items) (list_expressions k.failed_when) (until_expressions k.attempts)
    c.in_ok-put_list_roots.ensures put)
    c.put_until_roots.ensures
