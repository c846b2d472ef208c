-- What the hosts of a book's run come to.
use Rattle.std.specs.Prelude.{ℕ, List, [], ◌∷◌, Bool, false}
use Rattle.pb_language.specs.Book.{Book, Registry}
use Rattle.pb_language.specs.Drive.{drive}
use Rattle.pb_language.specs.Give.{Answer}
use Rattle.pb_language.specs.Machine.{Event, Recap, Host, State, is_out, opening, run_from}
use Rattle.pb_language.specs.Machine.{history}
use Rattle.pb_language.specs.Plays.{program_of}
use Rattle.pb_language.specs.Program.{Inventory}

abbrev pub all_recaps : List Host → List Recap
all_recaps [] = []
all_recaps (h ∷ hs) = h.recap ∷ all_recaps hs

-- the state after so many steps
abbrev pub driven : ℕ → Registry → Inventory → Book → ℕ → List (List Answer) → State
driven n ms inventory b forks answers = (drive n (record {
  state = opening (program_of ms inventory b) inventory forks;
  answers = answers;
})).state

abbrev pub recaps_of : Registry → Inventory → Book → ℕ → List (List Answer) → List Recap
recaps_of ms inventory b forks answers = all_recaps (driven 400 ms inventory b forks answers).hosts

abbrev pub jobs_out : List Host → List Bool
jobs_out [] = []
jobs_out (h ∷ hs) = is_out h.stage ∷ jobs_out hs

-- what a run that may be stuck comes to
pub record After : Type 0 where
  pub is_stuck : Bool
  pub handed : ℕ
  -- of each host, whether its job is out
  pub out : List Bool
  pub recaps : List Recap

abbrev pub after_of : State → After
after_of s = record {
  is_stuck = s.is_stuck;
  handed = s.handed;
  out = jobs_out s.hosts;
  recaps = all_recaps s.hosts;
}

abbrev pub run_after : Registry → Inventory → Book → ℕ → List (List Answer) → After
run_after ms inventory b forks answers = after_of (driven 20 ms inventory b forks answers)

-- the events of a list that happen, and what they come to
pub record Told : Type 0 where
  pub events : List Event
  pub after : After

abbrev pub told_from : State → List Event → Told
told_from s es = record { events = history s es; after = after_of (run_from s es) }

abbrev pub told : Registry → Inventory → Book → ℕ → List Event → Told
told ms inventory b forks es = told_from (opening (program_of ms inventory b) inventory forks) es

-- these happen, and nothing gets stuck
abbrev pub tells : List Event → ℕ → List Bool → List Recap → Told
tells es n out recaps = record {
  events = es;
  after = record { is_stuck = false; handed = n; out = out; recaps = recaps };
}
