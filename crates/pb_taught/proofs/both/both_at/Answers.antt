use Rattle.std.proofs.Common.{◌≡◌, IfOk, sym, ap, subst, ◌∙◌}
use Rattle.pb_language.specs.Scope.{both_slots}
use Rattle.pb_kind.specs.KindView.{slots_view}
use Rattle.pb_taught.proofs.Seen.{both-none, found-view, slots_in}
use Rattle.pb_taught.proofs.both.both_at.Goals as goal

pub returns-in-Some : goal.returns-in-Some
returns-in-Some c =
    let found = ap slots_in c.in-Some.ensures.value ∙ found-view c.args.host.now c.args.views.now.entries in
    subst (λ us. IfOk c.both_slots.result (λ s. slots_view s.entries ≡ both_slots (slots_view c.args.slots.now.entries) us)) found c.both_slots.ensures

pub returns-in-None : goal.returns-in-None
returns-in-None c =
    let ss = slots_view c.args.slots.now.entries in
    ap slots_view c.new.ensures.empty ∙ sym (both-none ss) ∙ ap (both_slots ss) (ap slots_in c.in-None.ensures.value ∙ found-view c.args.host.now c.args.views.now.entries)
