use Rattle.std.proofs.Common.{◌≡◌, ◌++◌, replicate, vec_capacity}
use Rattle.pb_run.specs.declared.event.Event.TheVariants.{Turn}
use Rattle.pb_run.proofs.take.push_turns.Given as goal

abbrev pub invariant-loop-turn : goal.invariant-loop-turn
invariant-loop-turn l = record {
  items : l.history.items ≡ l.fn.history.items ++ replicate l._turn Turn;
  capacity : vec_capacity l.history ≡ vec_capacity l.fn.history;
}
