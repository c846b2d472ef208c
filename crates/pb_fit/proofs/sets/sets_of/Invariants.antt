use Rattle.std.proofs.Common.{◌≡◌, Bool, drop}
use Rattle.pb_language.specs.Cases.{append_sets, parts_set}
use Rattle.pb_language.specs.Expansion.{parts_expanded}
use Rattle.pb_taught.specs.TaughtView.{scope_view}
use Rattle.pb_template.specs.Entries.{entries_view}
use Rattle.pb_fit.specs.SetsView.{sets_view}
use Rattle.pb_fit.proofs.sets.sets_of.Given as goal

abbrev pub invariant-loop-argument : goal.invariant-loop-argument
invariant-loop-argument g l =
    let b = g.K.Known.before l.known in
    let c = scope_view b l.taught in
    (a : Bool) → append_sets (sets_view a l.sets.items) (parts_set c a (parts_expanded b.trees (entries_view (drop l.argument-index l.arguments)))) ≡ parts_set c a (parts_expanded b.trees (entries_view l.arguments))
