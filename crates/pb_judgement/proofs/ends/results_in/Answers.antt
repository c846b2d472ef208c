use Rattle.std.proofs.Common.{cond, false, ap, ap₂, ◌∙◌}
use Rattle.pb_semantics.specs.Join.{append_cases}
use Rattle.pb_semantics.specs.Kind.{no_cases, one, recs, skipped_shape}
use Rattle.pb_language.specs.Cases.{skipped_slots}
use Rattle.pb_kind.specs.KindView.{cases_view}
use Rattle.pb_kind.proofs.JoinLemmas.{cases_view-append}
use Rattle.pb_judgement.specs.Ends.{ended_in, judged_in}
use Rattle.pb_judgement.proofs.ends.results_in.Goals as goal

pub returns : goal.returns
returns c =
    let m = c.args.manner in
    let skipped = c.in_ok-all.ensures ∙ ap (λ n. cond m.may_skip (one n skipped_shape false (recs skipped_slots) no_cases) no_cases) c.in_ok-action.ensures in
    let ended = c.in_ok-ended.ensures ∙ ap (ended_in m) (c.in_ok-judged.ensures ∙ ap (judged_in m) c.in_ok-answered.ensures) in
    ap cases_view c.in_ok-append.ensures.items ∙ cases_view-append c.in_ok-all.all.items c.in_ok-ended.ended.items ∙ ap₂ append_cases skipped ended
