-- Where the steps of a play lead: to higher ones, or out of the play.
use Rattle.std.specs.Prelude.{ℕ, suc, List, [], ◌∷◌, length, Bool, true, ◌&&◌}
use Rattle.pb_flow.specs.Ahead.{is_ahead}
use Rattle.pb_flow.specs.declared.graph.Target.{Target}
use Rattle.pb_steps.specs.declared.step.Step.{Step}

-- a step of that number leads to higher ones, up to the last, or out of the play
abbrev pub leads_on : ℕ → ℕ → Step → Bool
leads_on last o s = is_ahead o last s.ok.to && is_ahead o last s.failed.to

-- each step does, the first of which has that number
abbrev pub lead_on : ℕ → ℕ → List Step → Bool
lead_on last o [] = true
lead_on last o (s ∷ ss) = leads_on last o s && lead_on last (suc o) ss

-- a host begins at a step, at the end or out of the play, and each step leads to higher ones
abbrev pub all_lead_on : Target → List Step → Bool
all_lead_on begin ss =
    is_ahead 0 (suc (length ss)) begin.to && lead_on (suc (length ss)) 1 ss
