use Rattle.std.proofs.Common.{◌≡◌, sym, ap, ◌∙◌}
use Rattle.std.proofs.lemmas.Result.{IfOk-weaker}
use Rattle.pb_value.specs.View.{truth}
use Rattle.pb_eval.specs.OwnWorld.{shown}
use Rattle.pb_start.specs.Conditions.{is_so}
use Rattle.pb_start.specs.Passes.{IsMade}
use Rattle.pb_start.proofs.Passed.{action_made, conditions_worth, item-made, item-skips}
use Rattle.pb_start.proofs.passes.entry_in.Goals as goal

pub returns-then-is_so : goal.returns-then-is_so
returns-then-is_so g c =
    let w = g.K.Vars.world c.args.known.now in
    let p = c.args.prepared.now in
    let first = rw c.requires at c.in_ok-holds.ensures in
    let holds : c.in_ok-holds.holds ≡ truth (shown (conditions_worth w p)) = rw c.deref.ensures.value at first in
    IfOk-weaker c.made.result _ _ (λ e h t s.
    let made : IsMade e (action_made w p) = rw c.requires at h in
    item-made p t w e s (ap is_so (sym holds) ∙ sym c.is_so.ensures ∙ c.if-is_so.true) made) c.made.ensures

pub returns : goal.returns
returns g c = λ t s x is.
    let w = g.K.Vars.world c.args.known.now in
    let p = c.args.prepared.now in
    let first = rw c.requires at c.in_ok-holds.ensures in
    let holds : c.in_ok-holds.holds ≡ truth (shown (conditions_worth w p)) = rw c.deref.ensures.value at first in
    item-skips p t w x s (ap is_so (sym holds) ∙ sym c.is_so.ensures ∙ c.if-is_so.false) is
