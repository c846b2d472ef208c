use Rattle.std.proofs.Common.{◌∙◌, ◌++◌, ap}
use Rattle.std.proofs.lemmas.Result.{on_ok_weaker}
use Rattle.pb_language.specs.Rules.{give_expressions}
use Rattle.pb_task.specs.Tasks.{task_view, work_view}
use Rattle.pb_template.specs.Entries.{entries_view}
use Rattle.pb_reads.specs.Done.{done_expressions}
use Rattle.pb_reads.specs.Roots.{all_roots}
use Rattle.pb_reads.specs.RootsView.{roots_view}
use Rattle.pb_reads.proofs.Behind.{put-both}
use Rattle.pb_reads.proofs.task.put_done_roots.Goals as goal

pub returns : goal.returns
returns c =
    let k = task_view c.args.task.now in
    let old = roots_view c.args.roots.now.items in
    on_ok_weaker c.put_give_roots.result
    (λ put. put-both old (roots_view c.put_work_roots.new.roots.items) (roots_view c.put_give_roots.new.roots.items) (done_expressions k.work) (give_expressions k)
    (c.in_ok-put_work_roots.ensures ∙ ap (λ es. old ++ all_roots (done_expressions (work_view c.args.task.now.work (entries_view es)))) c.deref.ensures.value) put)
    c.put_give_roots.ensures
