use Rattle.std.proofs.Common.{ap, ◌∙◌}
use Rattle.pb_language.specs.Narrow.{results_of}
use Rattle.pb_kind.specs.KindView.{cases_view}
use Rattle.pb_judgement.specs.Ends.{case_kind, failing_in, going_in}
use Rattle.pb_judgement.proofs.Judged.{failing_as, going_as, results_as}
use Rattle.pb_judgement.proofs.ends.ends_of.Goals as goal

pub returns-clause-going : goal.returns-clause-going
returns-clause-going c = λ t does judged.
    c.in_ok-going.ensures ∙ ap case_kind (c.in_ok-going_on.ensures ∙ ap (going_in c.args.manner) (ap cases_view c.deref.ensures.value ∙ c.in_ok-cases.ensures) ∙ going_as c.args.work.now c.args.manner t does judged)

pub returns-clause-failing : goal.returns-clause-failing
returns-clause-failing c = λ t does judged.
    c.in_ok-failing.ensures ∙ ap case_kind (c.in_ok-failed.ensures ∙ ap (failing_in c.args.manner) (ap cases_view c.deref-2.ensures.value ∙ c.in_ok-cases.ensures) ∙ failing_as c.args.work.now c.args.manner t does judged)

pub returns-clause-all : goal.returns-clause-all
returns-clause-all c = λ t does judged. c.in_ok-all.ensures ∙ ap results_of (c.in_ok-cases.ensures ∙ results_as c.args.work.now c.args.manner t does judged)
