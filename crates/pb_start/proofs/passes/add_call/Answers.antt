use Rattle.std.proofs.Common.{[], ◌∷◌, ◌++◌, map, sym, ap, ◌∙◌}
use Rattle.std.proofs.lemmas.List.{map_push}
use Rattle.pb_value.specs.View.{view}
use Rattle.pb_start.specs.Passes.{entry_arguments, entry_view}
use Rattle.pb_start.proofs.passes.add_call.Goals as goal

pub returns-in_ok-push-in-Calls : goal.returns-in_ok-push-in-Calls
returns-in_ok-push-in-Calls c =
    ap (map view) c.in_ok-push-in-Calls.ensures.items ∙ map_push view c.args.all.now.items c.in_ok-copy-in-Calls.copy
    ∙ ap (λ v. map view c.args.all.now.items ++ v ∷ []) c.in_ok-copy-in-Calls.ensures.cases
    ∙ ap (λ e. map view c.args.all.now.items ++ entry_arguments (entry_view e)) (sym c.in-Calls.is)
