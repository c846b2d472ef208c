use Rattle.std.proofs.Common.{option_map}
use Rattle.std.proofs.lemmas.Result.{IfOk-weaker}
use Rattle.pb_language.specs.Setting.{named_slots, with_item}
use Rattle.pb_lattice.specs.Environments.{exit_of}
use Rattle.pb_kind.specs.KindView.{kind_view}
use Rattle.pb_vars.specs.InScope.{in_scope}
use Rattle.pb_forms.specs.FitView.{fault_view}
use Rattle.pb_outlook.specs.Standing.{known_of, own_names}
use Rattle.std.proofs.Common.{None}
use Rattle.pb_visit.proofs.OnGround.{action_at}
use Rattle.pb_visit.proofs.footing.action_found.Goals as goal

pub returns : goal.returns
returns g c =
    let h = c.args.ground.now in
    let st = g.O.Outlook.setting h.outlook.now in
    let e = exit_of h.space.now h.at in
    let named = named_slots st h.depth (known_of e) in
    let t = c.args.task.now in
    IfOk-weaker c.action_unfit.result _ _
    (λ u is. action_at st (in_scope h.vars.now) h.place (own_names st h.depth e c.in_ok-item.item None) (with_item (option_map (λ k. kind_view k.now) c.args.over) named) c.args.taught.now t.work c.deref.result.now t.arguments.items (option_map fault_view u) (c.in_ok-item.ensures named) c.deref.ensures.value is) c.action_unfit.ensures
