-- What V09 is for: `changed_when`, `failed_when` and `until` that read no other host and not who
-- is active come to the same at each Give as at the Start, whatever happened to others in between
-- (this project's own).
use Rattle.std.specs.Prelude.{◌≡◌, ℕ, nat_eq, List, [], ◌∷◌, Bool, true, false, not, ◌&&◌, ◌||◌}
use Rattle.std.specs.Prelude.{Option, Some, None, codes}
use Rattle.std.specs.Str.{bytes_eq}
use Rattle.pb_semantics.specs.Data.{field_value}
use Rattle.pb_language.specs.Expression.{Name, Expression, Expressions}
use Rattle.pb_language.specs.World.{World}
use Rattle.pb_language.specs.Evaluation.{eval}
use Rattle.pb_language.specs.Start.{Pass, planned}
use Rattle.pb_language.specs.StartRules.{Starts, CanStart}
use Rattle.pb_language.specs.Give.{Own, end_all}
use Rattle.pb_language.specs.Book.{Book, Registry}
use Rattle.pb_language.specs.Judged.{judged}
use Rattle.pb_language.specs.Machine.{Event, start, give, runs, Host, State, world_of, host_at}
use Rattle.pb_language.specs.Machine.{is_out, of_host, step, run_from}
use Rattle.pb_language.specs.Program.{Inventory, Batch}
use Rattle.pb_language.specs.Rest.{Rest}
use Rattle.pb_language.specs.Rules.{reads_others, any_reads_others}
use Rattle.pb_language.specs.Task.{Attempts, Task}
use Rattle.pb_language.specs.Theorem.{run_of}
use Rattle.pb_language.specs.Verdict.{accepted}

-- two worlds of one host that differ at most in what others have and in who is active
pub record SameAlone (w v : World) : Type 0 where
  pub this : w.this ≡ v.this
  pub groups : w.groups ≡ v.groups
  pub mine : (n : Name) → bytes_eq n (codes "ansible_play_batch") ≡ false
      → field_value n w.mine ≡ field_value n v.mine

-- what reads no others comes to the same in both
abbrev pub SameOutcomes : Type 0
SameOutcomes = (w v : World) (e : Expression) → SameAlone w v → reads_others e ≡ false
    → eval w e ≡ eval v e

abbrev pub keyword_reads_others : Option Expressions → Bool
keyword_reads_others None = false
keyword_reads_others (Some es) = any_reads_others es

abbrev pub until_reads_others : Option Attempts → Bool
until_reads_others None = false
until_reads_others (Some a) = any_reads_others a.until

-- and so does what is made of answers
abbrev pub SameResults : Type 0
SameResults = (w v : World) (t : Task) (os : List Own) → SameAlone w v
    → keyword_reads_others t.changed_when ≡ false → keyword_reads_others t.failed_when ≡ false
    → until_reads_others t.attempts ≡ false → end_all w t os ≡ end_all v t os

-- the worlds of a task at its Start and at its Give, between which the host has nothing to give
abbrev pub SameAtGive : Type 0
SameAtGive = (s z : State) (b : Batch) (h g : Host) (t : Task) → s.inventory ≡ z.inventory
    → h.name ≡ g.name → h.variables ≡ g.variables → h.rescues ≡ g.rescues
    → SameAlone (world_of s b h t) (world_of z b g t)

-- the host whose job is out, after so many attempts
abbrev pub with_job : Host → Task → ℕ → List Pass → Rest → Rest → Host
with_job h t n ps going failing = record h { stage = runs t n ps going failing }

abbrev pub is_out_at : ℕ → List Host → Bool
is_out_at k hs = of_host (host_at k hs) (λ h. is_out h.stage)

abbrev pub gives_to : ℕ → Event → Bool
gives_to k (give j xs) = nat_eq j k
gives_to k e = false

-- after each Give of the host among these its job is out still
abbrev pub stays_out : ℕ → State → List Event → Bool
stays_out k s [] = true
stays_out k s (e ∷ es) =
    (not (gives_to k e) || is_out_at k (step s e).hosts) && stays_out k (step s e) es

-- the job of a Start at `s` is out at `z`, and any answers come to what they came to at `s`
pub record AsAtStart (s z : State) (b : Batch) (bs : List Batch) (k : ℕ) (h : Host) (t : Task)
    (ps : List Pass) (going failing : Rest) : Type 0 where
  pub batch : z.batches ≡ b ∷ bs
  pub attempts : ℕ
  pub host : host_at k z.hosts ≡ Some (with_job h t attempts ps going failing)
  pub results : (os : List Own)
      → end_all (world_of z b (with_job h t attempts ps going failing) t) t os
      ≡ end_all (world_of s b h t) t os

-- in a run of an accepted book, whatever happens between a Start and the Give that ends its task
abbrev pub GivesReadTheirStart : Type 0
GivesReadTheirStart = (ms : Registry) (inventory : Inventory) (book : Book) (n forks : ℕ)
    (es fs : List Event) (s : State) (b : Batch) (bs : List Batch) (k : ℕ) (h : Host) (t : Task)
    (going failing : Rest) (ps : List Pass) → judged ms inventory book ≡ accepted n
    → s ≡ run_of ms inventory book forks es → CanStart s b bs k h t going failing
    → Starts (world_of s b h t) t t.loop (planned ps) → stays_out k (step s (start k)) fs ≡ true
    → AsAtStart s (run_from s (start k ∷ fs)) b bs k h t ps going failing
