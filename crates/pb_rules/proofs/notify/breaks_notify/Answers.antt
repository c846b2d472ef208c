use Rattle.std.proofs.Common.{◌≡◌, ◌∙◌, Some, not, ap, sym}
use Rattle.pb_language.specs.Notify.{all_notified, names_something}
use Rattle.pb_language.specs.Plays.{names_of_handlers}
use Rattle.pb_language.specs.Rules.{breaks_notify, of_task, task_at_site}
use Rattle.pb_task.specs.Tasks.{names_view, task_view}
use Rattle.pb_task.specs.declared.task.Task.{Task}
use Rattle.pb_rules.specs.Handlers.{handlers_names}
use Rattle.pb_rules.specs.Sites.{site_view}
use Rattle.pb_rules.specs.declared.site.Around.{Around}
use Rattle.pb_rules.specs.declared.site.Site.{Site}
use Rattle.pb_rules.proofs.Put.{line-play}
use Rattle.pb_rules.proofs.notify.breaks_notify.Goals as goal

at-task : (s : Site) (t : Task) → Some (task_view t) ≡ task_at_site (site_view s).thing
    → not (names_something (all_notified (handlers_names s.around.value.play.now.handlers.items) (names_view t.notify.items))) ≡ breaks_notify (site_view s)
at-task s t e =
    ap (λ p. not (names_something (all_notified (names_of_handlers p.handlers) (names_view t.notify.items)))) (sym (line-play s.around.value s.thing))
    ∙ ap (λ o. of_task o (λ u. not (names_something (all_notified (names_of_handlers (site_view s).play.handlers) u.notify)))) e

pub returns-in-Some : goal.returns-in-Some
returns-in-Some c =
    let s = c.args.site.now in
    let t = c.in-Some.task.now in
    let hs : c.deref-in-Some.result.now ≡ s.around.value.play.now.handlers.items = c.deref-in-Some.ensures.value ∙ ap (λ (a : Around). a.play.now.handlers.items) c.deref.ensures in
    ap not (c.all_name_some.ensures ∙ ap (λ xs. names_something (all_notified (handlers_names xs) (names_view c.deref-in-Some-2.result.now))) hs
    ∙ ap (λ xs. names_something (all_notified (handlers_names s.around.value.play.now.handlers.items) (names_view xs))) c.deref-in-Some-2.ensures.value) ∙ at-task s t c.in-Some.ensures.meaning
