use Rattle.std.proofs.Common.{◌≡◌, drop}
use Rattle.std.specs.List.{list_any}
use Rattle.pb_language.specs.Notify.{is_named}
use Rattle.pb_rules.specs.Handlers.{handlers_names}
use Rattle.pb_rules.proofs.notify.names_some.Given as goal

abbrev pub invariant-loop-handler : goal.invariant-loop-handler
invariant-loop-handler l = list_any (is_named l.text) (handlers_names (drop l.handler-index l.handlers)) ≡ list_any (is_named l.text) (handlers_names l.handlers)
