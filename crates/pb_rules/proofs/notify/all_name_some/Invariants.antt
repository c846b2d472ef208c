use Rattle.std.proofs.Common.{◌≡◌, drop}
use Rattle.pb_language.specs.Notify.{all_notified, names_something}
use Rattle.pb_task.specs.Tasks.{names_view}
use Rattle.pb_rules.specs.Handlers.{handlers_names}
use Rattle.pb_rules.proofs.notify.all_name_some.Given as goal

abbrev pub invariant-loop-text : goal.invariant-loop-text
invariant-loop-text l = names_something (all_notified (handlers_names l.handlers) (names_view (drop l.text-index l.texts))) ≡ names_something (all_notified (handlers_names l.handlers) (names_view l.texts))
