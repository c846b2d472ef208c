use Rattle.std.proofs.Common.{sym, ◌∙◌}
use Rattle.std.proofs.lemmas.Result.{IfOk-weaker}
use Rattle.pb_finish.specs.Results.{result_view}
use Rattle.pb_finish.proofs.Statused.{end-judged}
use Rattle.pb_finish.proofs.statuses.end_result.Goals as goal

pub returns : goal.returns
returns g c =
    IfOk-weaker c.ask_until.result _ _ (λ e h t d. end-judged e (g.V.Vars.world c.args.vars.now) t (result_view c.args.item) c.in_ok-changed.changed c.in_ok-failed.failed (sym c.is_skipped.ensures ∙ c.if-is_skipped.false)
    (rw d.changed_when (c.in_ok-changed.ensures t d)) (rw d.failed_when (c.in_ok-failed.ensures t d)) (h t d)) c.ask_until.ensures
