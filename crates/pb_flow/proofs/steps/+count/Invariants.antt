use Rattle.pb_language.specs.Plays.{places_in}
use Rattle.pb_language.specs.Sites.{steps_in}
use Rattle.pb_flow.proofs.Counts.{IsCounted}
use Rattle.pb_flow.proofs.steps.+count.Given as goal

abbrev pub invariant-count_in-loop-step : goal.invariant-count_in-loop-step
invariant-count_in-loop-step l = record {
  steps : IsCounted (steps_in l.handlers 0) l.steps l.step-index l.count.steps;
  places : IsCounted (places_in l.handlers) l.steps l.step-index l.count.places;
}
