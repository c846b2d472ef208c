use Rattle.std.proofs.Common.{◌∙◌, ◌++◌, ap}
use Rattle.pb_language.specs.Plays.{append_expressions}
use Rattle.pb_language.specs.Rules.{give_expressions, option_expressions}
use Rattle.pb_syntax.specs.ExprView.{exprs_view}
use Rattle.pb_task.specs.Tasks.{task_view}
use Rattle.pb_reads.specs.Done.{done_expressions}
use Rattle.pb_reads.specs.Roots.{all_roots}
use Rattle.pb_reads.specs.RootsView.{roots_view}
use Rattle.pb_reads.specs.Round.{conditions_round}
use Rattle.pb_reads.proofs.Behind.{put-both}
use Rattle.pb_reads.proofs.task.task_roots.Goals as goal

pub returns : goal.returns
returns c ms vars =
    let k = task_view c.args.task.now in
    let conditions = append_expressions (conditions_round c.args.around.now) (exprs_view c.args.task.now.when.items) in
    let done = append_expressions (done_expressions k.work) (give_expressions k) in
    let first = roots_view c.put_option_roots.new.roots.items in
    let second = roots_view c.put_condition_roots.new.roots.items in
    let third = roots_view c.put_done_roots.new.roots.items in
    put-both (roots_view c.new-roots.result.items) first third (option_expressions k.loop) (append_expressions conditions done) c.in_ok-put_option_roots.ensures
    (put-both first second third conditions done c.in_ok-put_condition_roots.ensures c.in_ok-put_done_roots.ensures)
    ∙ ap (λ xs. roots_view xs ++ all_roots (append_expressions (option_expressions k.loop) (append_expressions conditions done))) c.new-roots.ensures.items
