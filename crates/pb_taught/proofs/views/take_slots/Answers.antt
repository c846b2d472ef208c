use Rattle.std.proofs.Common.{string_bytes, sym, ap, ◌∙◌}
use Rattle.pb_language.specs.Scope.{put_view}
use Rattle.pb_kind.specs.KindView.{slots_view}
use Rattle.pb_taught.specs.TaughtView.{views_view}
use Rattle.pb_taught.proofs.Seen.{found-view, slots_in, views-insert}
use Rattle.pb_taught.proofs.views.take_slots.Goals as goal

pub returns-in-Some-clause-taken : goal.returns-in-Some-clause-taken
returns-in-Some-clause-taken c =
    ap slots_in (sym c.in-Some.is ∙ c.in_ok-slots.ensures.old) ∙ found-view (string_bytes c.args.host) c.args.views.now.entries

pub returns-in-Some-clause-left : goal.returns-in-Some-clause-left
returns-in-Some-clause-left c =
    let es = c.args.views.now.entries in
    ap views_view c.in_ok-slots.ensures.entries ∙ views-insert es c.args.host c.new.result
    ∙ ap (λ ss. put_view (string_bytes c.args.host) ss (views_view es)) (ap slots_view c.new.ensures.empty)

pub returns-in-None-clause-taken : goal.returns-in-None-clause-taken
returns-in-None-clause-taken c =
    ap slots_view c.new-in-None.ensures.empty ∙ ap slots_in (sym c.in-None.is ∙ c.in_ok-slots.ensures.old)
    ∙ found-view (string_bytes c.args.host) c.args.views.now.entries

pub returns-in-None-clause-left : goal.returns-in-None-clause-left
returns-in-None-clause-left c =
    let es = c.args.views.now.entries in
    ap views_view c.in_ok-slots.ensures.entries ∙ views-insert es c.args.host c.new.result
    ∙ ap (λ ss. put_view (string_bytes c.args.host) ss (views_view es)) (ap slots_view c.new.ensures.empty)
