-- What an action stands for.
use Rattle.std.specs.Prelude.{option_map}
use Rattle.pb_language.specs.Expansion.{expanded, all_expanded, parts_expanded}
use Rattle.pb_language.specs.Plays.{argument_or, expanded_option}
use Rattle.pb_language.specs.Task as language
use Rattle.pb_language.specs.Task.{call_of, debug, set_fact, assertion, failure_of}
use Rattle.pb_sig.specs.ModuleView.{shared_view}
use Rattle.pb_syntax.specs.Aliases.{Trees}
use Rattle.pb_syntax.specs.ExprView.{expr_view, exprs_view, parts_view}
use Rattle.pb_start.specs.declared.prepared.Action.{Action}
use Rattle.pb_start.specs.declared.prepared.Action.TheVariants as actions

-- the action, with the tree of each name of `vars` in its place
abbrev pub action_view : Trees → Action → language.Action
action_view f (actions.Call m ps) =
    call_of (shared_view m) (parts_expanded f (parts_view ps.entries))
action_view f (actions.Debug o) = debug (expanded f (argument_or (option_map expr_view o)))
action_view f (actions.SetFact ps) = set_fact (parts_expanded f (parts_view ps.entries))
action_view f (actions.Assert es o) =
    assertion (all_expanded f (exprs_view es.items)) (expanded_option f (option_map expr_view o))
action_view f (actions.Fail o) = failure_of (expanded_option f (option_map expr_view o))
