use Rattle.std.proofs.Common.{◌≡◌, codes, ap, ◌∙◌, rules}
use Rattle.std.proofs.lemmas.Result.{IfOk-weaker}
use Rattle.clap.specs.Words.{app_of, new_app}
use Rattle.pb_options.specs.Options.{IsLocal, with_callings, with_files, with_sources}
use Rattle.pb_options.proofs.options.run_command.Goals as goal

pub returns-clause-app : goal.returns-clause-app
returns-clause-app c =
    let named : app_of c.about-command.result ≡ new_app (codes "run") = search rules in
    IfOk-weaker c.with_calling.result _ _
    (λ r more. more.app ∙ ap with_callings (c.in_ok-with_workers.ensures.app ∙ ap with_sources (c.in_ok-with_subject.ensures.app ∙ ap with_files named))) c.with_calling.ensures

pub returns-clause-local : goal.returns-clause-local
returns-clause-local c =
    let before : IsLocal c.about-command.result = search rules in
    IfOk-weaker c.with_calling.result _ _ (λ r more. more.local (c.in_ok-with_workers.ensures.local (c.in_ok-with_subject.ensures.local before))) c.with_calling.ensures
