-- What a seat counts.
use Rattle.std.specs.Prelude.{◌+◌, ℕ, List, length, sum_by}
use Rattle.pb_run.specs.declared.event.Given.{Given}
use Rattle.pb_run.specs.declared.event.Given.TheVariants.{Done, Again}
use Rattle.pb_run.specs.declared.event.Taken.{Taken}
use Rattle.pb_run.specs.declared.event.Taken.TheVariants.{Job, Idle, Finished, Stopped}

pub record Counts : Type 0 where
  -- calls that were handed to it
  pub handed : ℕ
  -- jobs that it answered
  pub given : ℕ

abbrev pub none : Counts
none = record { handed = 0; given = 0 }

abbrev pub calls_of_taken : Taken → ℕ
calls_of_taken (Job j) = length j.calls.items
calls_of_taken Idle = 0
calls_of_taken Finished = 0
calls_of_taken Stopped = 0

abbrev pub calls_of_given : Given → ℕ
calls_of_given Done = 0
calls_of_given (Again j) = length j.calls.items

-- once it was told what there is to do
abbrev pub taken_more : Taken → Counts → Counts
taken_more t c = record c { handed = c.handed + calls_of_taken t }

-- once it answered a job
abbrev pub given_more : Given → Counts → Counts
given_more g c = record { handed = c.handed + calls_of_given g; given = c.given + 1 }

abbrev pub handed_sum : List Counts → ℕ
handed_sum cs = sum_by (λ c. c.handed) cs

abbrev pub given_sum : List Counts → ℕ
given_sum cs = sum_by (λ c. c.given) cs
