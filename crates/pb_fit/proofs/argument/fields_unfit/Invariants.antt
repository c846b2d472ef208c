use Rattle.std.proofs.Common.{◌≡◌, drop}
use Rattle.pb_language.specs.Expansion.{parts_expanded}
use Rattle.pb_language.specs.Fit.{fields_fault}
use Rattle.pb_taught.specs.TaughtView.{scope_view}
use Rattle.pb_template.specs.Entries.{entries_view}
use Rattle.pb_fit.proofs.argument.fields_unfit.Given as goal

abbrev pub invariant-loop-argument : goal.invariant-loop-argument
invariant-loop-argument g l =
    let b = g.K.Known.before l.known in
    let c = scope_view b l.taught in
    fields_fault c (parts_expanded b.trees (entries_view (drop l.argument-index l.arguments))) ≡ fields_fault c (parts_expanded b.trees (entries_view l.arguments))
