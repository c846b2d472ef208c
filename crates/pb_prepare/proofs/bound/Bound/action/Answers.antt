use Rattle.std.proofs.Common.{◌≡◌, ◌∙◌, sym, ap, true}
use Rattle.pb_sig.specs.ModuleView.{known_view}
use Rattle.pb_syntax.specs.ExprView.{parts_view}
use Rattle.pb_template.specs.Entries.{are_ascending, entries_view, entry_names}
use Rattle.pb_prepare.proofs.Arguments.{call-bound, set-bound}
use Rattle.pb_prepare.proofs.bound.Bound.action.Goals as goal

pub returns-in_ok-module-in-Module : goal.returns-in_ok-module-in-Module
returns-in_ok-module-in-Module c = λ f ordered.
    let xs = c.args.task.now.arguments.items in
    let args = parts_view c.in_ok-arguments-in-Module.arguments.entries in
    let same : are_ascending (entry_names xs) ≡ true → args ≡ entries_view xs =
    λ h. c.in_ok-arguments-in-Module.ensures (ap (λ es. are_ascending (entry_names es)) c.deref.ensures.value ∙ h) ∙ ap entries_view c.deref.ensures.value in
    call-bound f xs args same c.args.task.now.work c.in-Module.«module» (known_view c.in_ok-module-in-Module.«module».value) c.in-Module.is (ap known_view c.in_ok-module-in-Module.ensures.cases) ordered

pub returns-in_ok-arguments-in-SetFact : goal.returns-in_ok-arguments-in-SetFact
returns-in_ok-arguments-in-SetFact c = λ f ordered.
    let xs = c.args.task.now.arguments.items in
    let args = parts_view c.in_ok-arguments-in-SetFact.field-0.entries in
    let same : are_ascending (entry_names xs) ≡ true → args ≡ entries_view xs =
    λ h. c.in_ok-arguments-in-SetFact.ensures (ap (λ es. are_ascending (entry_names es)) c.deref-in-SetFact.ensures.value ∙ h) ∙ ap entries_view c.deref-in-SetFact.ensures.value in
    set-bound f xs args same c.args.task.now.work c.in-SetFact.is ordered
