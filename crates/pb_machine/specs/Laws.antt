-- What flat plans are: along which edges their steps lead, what a host has still to do at a node,
-- and where it arrives (this project's own).
use Rattle.std.specs.Prelude.{◌≡◌, ◌≤◌, ◌<◌, ℕ, suc, List, [], ◌∷◌, ◌++◌, length, Option, Some}
use Rattle.std.specs.Prelude.{None, false}
use Rattle.pb_language.specs.Task.{Task, Row}
use Rattle.pb_language.specs.Links.{Link, goes, fails, passes, link_to, links, entry, size}
use Rattle.pb_language.specs.Rest.{done, left, rest_of}
use Rattle.pb_language.specs.Machine.{settled}
use Rattle.pb_machine.specs.Steps.{Target, Step, play_steps, play_begin}
use Rattle.pb_machine.specs.Hosts.{at_end, stands, FlatHost, is_passed, at_step, arrival, arrived}
use Rattle.pb_machine.specs.Ways.{rest_to, rest_along, step_at, step_rest, host_of}

-- the edges from a step: past a handler, behind its task, and past its failure
abbrev pub passing_links : Option ℕ → ℕ → Task → Option ℕ → List Link
passing_links None o t to = []
passing_links (Some n) o t to = link_to o t passes to

abbrev pub step_links : ℕ → Step → List Link
step_links o s = passing_links s.handler o s.task s.ok.to
    ++ (link_to o s.task goes s.ok.to ++ link_to o s.task fails s.failed.to)

abbrev pub steps_links : ℕ → List Step → List Link
steps_links o [] = []
steps_links o (s ∷ ss) = step_links o s ++ steps_links (suc o) ss

-- the steps lead along the edges between the nodes of the row, and a host begins where the row is
-- entered
abbrev pub StepsLeadAlongLinks : Type 0
StepsLeadAlongLinks = (row : Row) → (length (play_steps row) ≡ size row)
    × ((play_begin row).to ≡ entry row 1 (Some (suc (size row))))
    × (steps_links 1 (play_steps row) ≡ links row 1 (Some (suc (size row))) None)

-- where it leads from node o: to a higher node, at most the last one, or to none
abbrev pub IsHigher : ℕ → ℕ → Option ℕ → Type 0
IsHigher last o None = Unit {0}
IsHigher last o (Some n) = (o < n) × (n ≤ last)

abbrev pub AreHigher : ℕ → ℕ → List Step → Type 0
AreHigher last o [] = Unit {0}
AreHigher last o (s ∷ ss) =
    IsHigher last o s.ok.to × IsHigher last o s.failed.to × AreHigher last (suc o) ss

-- each step leads to higher nodes or to the end
abbrev pub StepsLeadOn : Type 0
StepsLeadOn = (row : Row) → IsHigher (suc (size row)) 0 (play_begin row).to
    × AreHigher (suc (size row)) 1 (play_steps row)

-- nothing happens on the way to where a host begins
abbrev pub BeginIsPlain : Type 0
BeginIsPlain = (row : Row) → (play_begin row).moves ≡ []

-- where a host begins it has the whole row to do
abbrev pub PlanIsRow : Type 0
PlanIsRow = (row : Row) → rest_to (play_steps row) (play_begin row) ≡ rest_of row 0 done left

-- at each node it has the step's task to do, and then what there is to do where the step leads
abbrev pub NodesAreSteps : Type 0
NodesAreSteps = (row : Row) (n : ℕ) → 0 < n → n ≤ size row → rest_along (play_steps row) 1 (Some n)
    ≡ (let s = step_at (play_steps row) n in
    step_rest s.handler s.task (rest_to (play_steps row) s.ok) (rest_to (play_steps row) s.failed))

-- wherever a host arrives, it is the host of pb_language's machine that settles with the same to do
abbrev pub ArrivalSettles : Type 0
ArrivalSettles = (row : Row) (t : Target) (h : FlatHost)
    → host_of (play_steps row) (arrived (play_steps row) t h)
    ≡ settled (host_of (play_steps row) h) (rest_to (play_steps row) t)

-- what becomes of a host that comes to a node is said by the step there
abbrev pub NodeArrives : Type 0
NodeArrives = (row : Row) (n : ℕ) (h : FlatHost) → 0 < n → n ≤ size row
    → (let ss = play_steps row in
    let s = step_at ss n in
    arrival ss 1 (Some n) h ≡ at_step (arrival ss 1) n s n h false (is_passed s.handler h.marks))

-- and one that comes past the last step is at the play's end
abbrev pub EndArrives : Type 0
EndArrives = (row : Row) (n : ℕ) (h : FlatHost) → size row < n
    → arrival (play_steps row) 1 (Some n) h ≡ record h { stage = stands at_end }
