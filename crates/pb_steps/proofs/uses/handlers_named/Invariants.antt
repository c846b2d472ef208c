use Rattle.std.proofs.Common.{◌≡◌, ◌++◌, drop}
use Rattle.pb_rules.specs.Handlers.{handlers_names}
use Rattle.pb_task.specs.Words.{names_view}
use Rattle.pb_steps.specs.Numbers.{handlers_named}
use Rattle.pb_steps.proofs.uses.handlers_named.Given as goal

abbrev pub invariant-loop-text : goal.invariant-loop-text
invariant-loop-text l = l.numbers.items ++ handlers_named (handlers_names l.handlers) (names_view (drop l.text-index l.texts)) ≡ handlers_named (handlers_names l.handlers) (names_view l.texts)
