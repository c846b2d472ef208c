use Rattle.std.proofs.Common.{◌∙◌, drop, sym}
use Rattle.pb_rules.specs.Handlers.{handlers_names}
use Rattle.pb_rules.proofs.Notified.{none-past}
use Rattle.pb_rules.proofs.notify.is_named_up_to.Goals as goal

pub returns-then-place-number : goal.returns-then-place-number
returns-then-place-number c =
    sym (none-past c.args.number c.loop-place.place c.args.text.now (handlers_names (drop c.loop-place.place c.args.handlers.now)) c.if-place-number.true) ∙ c.loop-place.invariant
