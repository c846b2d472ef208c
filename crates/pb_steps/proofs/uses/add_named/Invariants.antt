use Rattle.std.proofs.Common.{◌≡◌, ◌++◌, drop}
use Rattle.pb_language.specs.Notify.{notified}
use Rattle.pb_rules.specs.Handlers.{handlers_names}
use Rattle.pb_steps.proofs.uses.add_named.Given as goal

abbrev pub invariant-loop-number : goal.invariant-loop-number
invariant-loop-number l = l.numbers.items ++ notified l.number l.text (handlers_names (drop l.number l.handlers)) ≡ l.fn.numbers.items ++ notified 0 l.text (handlers_names l.handlers)
