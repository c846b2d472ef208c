use Rattle.std.proofs.Common.{◌≡◌, ◌++◌, map, drop}
use Rattle.pb_value.specs.View.{view}
use Rattle.pb_start.specs.Passes.{call_arguments, pass_view}
use Rattle.pb_start.proofs.passes.arguments_of.Given as goal

abbrev pub invariant-loop-pass : goal.invariant-loop-pass
invariant-loop-pass l = call_arguments (map pass_view l.passes) ≡ map view l.all.items ++ call_arguments (map pass_view (drop l.pass-index l.passes))
