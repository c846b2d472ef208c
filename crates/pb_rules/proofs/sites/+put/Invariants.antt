use Rattle.pb_rules.proofs.Put.{StepsPut}
use Rattle.pb_rules.proofs.sites.+put.Given as goal

abbrev pub invariant-put_steps-loop-step : goal.invariant-put_steps-loop-step
invariant-put_steps-loop-step l = StepsPut l.around.value l.initial.sites.items l.sites.items l.steps l.step-index
