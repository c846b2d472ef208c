use Rattle.std.proofs.Common.{◌≡◌, drop}
use Rattle.pb_language.specs.Notify.{notified}
use Rattle.pb_language.specs.Rules.{any_up_to}
use Rattle.pb_rules.specs.Handlers.{handlers_names}
use Rattle.pb_rules.proofs.notify.is_named_up_to.Given as goal

abbrev pub invariant-loop-place : goal.invariant-loop-place
invariant-loop-place l = any_up_to l.number (notified l.place l.text (handlers_names (drop l.place l.handlers))) ≡ any_up_to l.number (notified 0 l.text (handlers_names l.handlers))
