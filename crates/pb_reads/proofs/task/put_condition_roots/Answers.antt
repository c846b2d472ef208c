use Rattle.std.proofs.Common.{◌∙◌, ◌++◌, ap}
use Rattle.std.proofs.lemmas.Result.{on_ok_weaker}
use Rattle.pb_syntax.specs.ExprView.{exprs_view}
use Rattle.pb_reads.specs.Roots.{all_roots}
use Rattle.pb_reads.specs.RootsView.{roots_view}
use Rattle.pb_reads.specs.Round.{conditions_round}
use Rattle.pb_reads.proofs.Behind.{put-both}
use Rattle.pb_reads.proofs.task.put_condition_roots.Goals as goal

pub returns : goal.returns
returns c =
    let mid = roots_view c.put_block_roots.new.roots.items in
    on_ok_weaker c.put_all_roots.result
    (λ put. put-both (roots_view c.args.roots.now.items) mid (roots_view c.put_all_roots.new.roots.items) (conditions_round c.args.around.now) (exprs_view c.args.task.now.when.items) c.in_ok-put_block_roots.ensures
    (put ∙ ap (λ es. mid ++ all_roots (exprs_view es)) c.deref.ensures.value))
    c.put_all_roots.ensures
