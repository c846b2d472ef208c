use Rattle.std.proofs.Common.{◌≡◌, drop}
use Rattle.pb_language.specs.Rules.{any_notifies_up_to}
use Rattle.pb_task.specs.Tasks.{names_view}
use Rattle.pb_rules.specs.Handlers.{handlers_names}
use Rattle.pb_rules.proofs.notify.notifies_up_to.Given as goal

abbrev pub invariant-loop-text : goal.invariant-loop-text
invariant-loop-text l = any_notifies_up_to l.number (handlers_names l.handlers) (names_view (drop l.text-index l.texts)) ≡ any_notifies_up_to l.number (handlers_names l.handlers) (names_view l.texts)
