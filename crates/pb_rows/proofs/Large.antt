-- A loop over as many lines as an answer may have, and as many hosts as an inventory may have, computed.
use Rattle.std.specs.Prelude.{◌≡◌, refl, ℕ, zero, suc, List, [], ◌∷◌, Some, None, codes, replicate, ◌/◌, ◌%◌}
use Rattle.pb_semantics.specs.Data.{no_fields}
use Rattle.pb_language.specs.Expression.{path, variable}
use Rattle.pb_language.specs.Book.{TaskData, no_steps, task_step, Book}
use Rattle.pb_language.specs.Builtins.{builtins}
use Rattle.pb_language.specs.Drive.{next_start, drive}
use Rattle.pb_language.specs.Judged.{judged}
use Rattle.pb_language.specs.Machine.{Event, start, give, State, history, opening, run_from}
use Rattle.pb_language.specs.Plays.{program_of}
use Rattle.pb_language.specs.Program.{Inventory}
use Rattle.pb_language.specs.Theorem.{host_names}
use Rattle.pb_language.specs.Verdict.{accepted}
use Rattle.pb_language.specs.World.{HostVariables}
use Rattle.pb_rows.specs.Recaps.{all_recaps}
use Rattle.pb_rows.specs.Small.{command, ping, play, one_host, well_with, well, pinged}

abbrev first_task : TaskData
first_task = record (command 2) { register = Some (codes "out") }

abbrev second_task : TaskData
second_task = record (command 3) { loop = Some (path (variable (codes "out")) (codes "stdout_lines" ∷ [])) }

abbrev book : Book
book = play (task_step first_task (task_step second_task no_steps)) ∷ []

abbrev after : ℕ → State
after n = (drive 6 (record { state = opening (program_of builtins one_host book) one_host 1; answers = (well_with n ∷ replicate n well) ∷ [] })).state

-- a loop over the lines of an answer makes one call for each
few : (after 3).handed ≡ 4
few = refl

-- one line more than an answer may have is a breach
too_many : all_recaps (after 65537).hosts ≡ record { ok = 0; changed = 0; unreachable = 0; failed = 1; skipped = 0; rescued = 0; ignored = 0 } ∷ []
too_many = refl

-- as many as it may have
all_fine : all_recaps (after 65536).hosts ≡ record { ok = 2; changed = 2; unreachable = 0; failed = 0; skipped = 0; rescued = 0; ignored = 0 } ∷ []
all_fine = refl

-- so many hosts from a number on
abbrev hosts_from : ℕ → ℕ → List HostVariables
hosts_from n zero = []
hosts_from n (suc k) = record { name = 104 ∷ n / 256 ∷ n % 256 ∷ []; variables = no_fields } ∷ hosts_from (suc n) k

abbrev inventory : ℕ → Inventory
inventory n = record { hosts = hosts_from 0 n; groups = record { name = codes "all"; hosts = host_names (hosts_from 0 n) } ∷ [] }

abbrev one_ping : Book
one_ping = play (task_step (ping 2) no_steps) ∷ []

-- as many hosts as an inventory may have
many_budget : judged builtins (inventory 1024) one_ping ≡ accepted 1024
many_budget = refl

abbrev starts_from : ℕ → ℕ → List Event
starts_from n zero = []
starts_from n (suc k) = start n ∷ starts_from (suc n) k

-- more hosts than the most forks
abbrev opened : State
opened = opening (program_of builtins (inventory 260) one_ping) (inventory 260) 256

-- the hosts start in their order
first_of_all : next_start opened ≡ Some (record { number = 0; place = 0 })
first_of_all = refl

-- as many hosts start as there are forks
all_start : history opened (starts_from 0 260) ≡ starts_from 0 256
all_start = refl

abbrev started : State
started = run_from opened (starts_from 0 256)

none_more : next_start started ≡ None
none_more = refl

-- one that gave makes room for the next
next_one : next_start (run_from started (give 255 (pinged ∷ []) ∷ [])) ≡ Some (record { number = 256; place = 0 })
next_one = refl
