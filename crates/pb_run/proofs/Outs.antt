-- The jobs that are out, by the tickets of the core's hosts.
use Rattle.std.proofs.Common.{◌≡◌, ◌<◌, ◌≤◌, ℕ, zero, suc, List, [], ◌∷◌, Vec, length, map, get_or, Bool, false, Option, Some, None, is_some, option_map, slice_get, refl, sym, ap, subst, ◌∙◌, arith}
use Rattle.std.specs.declared.alloc.Global.{Global}
use Rattle.std.proofs.lemmas.Option.{slice_get_within}
use Rattle.pb_language.specs.Machine as machine
use Rattle.pb_language.specs.Machine.{Host, Recap, State, empty_recap, of_host}
use Rattle.pb_language.specs.Program.{Batch}
use Rattle.pb_machine.specs.Hosts.{FlatHost, FlatStage, stands, works}
use Rattle.pb_machine.specs.Run.{FlatState, current_steps, host_at}
use Rattle.pb_machine.specs.Simulation.{hosts_of, state_of}
use Rattle.pb_machine.specs.Steps.{Step}
use Rattle.pb_machine.specs.Ways.{host_of, stage_of}
use Rattle.pb_history.specs.Happens.{Works}
use Rattle.pb_history.specs.Jobs.{is_out_at}
use Rattle.pb_start.specs.declared.passes.Pass.{Pass}
use Rattle.pb_core.specs.Cores.{IsCore, size_of, tickets_of}
use Rattle.pb_core.specs.Hosts.{Fits, IsHost, IsHostAt, IsStage, recap_view, ticket_of}
use Rattle.pb_core.specs.Readings.{Reading}
use Rattle.pb_core.specs.declared.host.HostState.{HostState}
use Rattle.pb_core.specs.declared.host.Stage.{Stage}
use Rattle.pb_core.specs.declared.host.Stage.TheVariants.{Runs, Waits}
use Rattle.pb_core.specs.declared.run.RunCore.{RunCore}
use Rattle.pb_run.proofs.Jobs.{host_same}

abbrev Passes : Type 0
Passes = Vec Pass Global

abbrev ticket_in : Option (HostState Passes) → Option ℕ
ticket_in None = None
ticket_in (Some x) = ticket_of x.stage

ticket_at : (xs : List (HostState Passes)) (k : ℕ) → get_or (map (λ x. ticket_of x.stage) xs) k None ≡ ticket_in (slice_get xs k)
ticket_at [] k = refl
ticket_at (x ∷ xs) zero = refl
ticket_at (x ∷ xs) (suc k) = ticket_at xs k

module _ (reading : Reading Passes) (c : RunCore Passes) (s : FlatState) (core : IsCore reading c s) (k : ℕ) where
  abbrev out_in : Option FlatHost → Bool
  out_in o = of_host (option_map (host_of (current_steps s.batches)) o) (λ h. machine.is_out h.stage)

  out_stage : (x : Stage Passes) (g : FlatStage) → IsStage reading x g → machine.is_out (stage_of (current_steps s.batches) g) ≡ is_some (ticket_of x)
  out_stage Waits (stands l) is = refl
  out_stage Waits (works n i ps) is = absurd is
  out_stage (Runs t i cs ps) (stands l) is = absurd is
  out_stage (Runs t i cs ps) (works n j qs) is = refl

  out_of : (o : Option (HostState Passes)) (p : Option FlatHost) → IsHostAt reading (size_of s.batches) k o p → out_in p ≡ is_some (ticket_in o)
  out_of None None is = refl
  out_of None (Some h) is = absurd is
  out_of (Some x) None is = absurd is
  out_of (Some x) (Some h) is = out_stage x.stage h.stage is.stage

  -- a job of the host is out where it has a ticket
  pub out_is : is_out_at k (state_of s) ≡ is_some (get_or (tickets_of c) k None)
  out_is =
      ap (λ o. of_host o (λ (h : Host). machine.is_out h.stage)) (host_same (current_steps s.batches) k s.hosts)
      ∙ out_of (slice_get c.hosts.items k) (host_at k s.hosts) (core.hosts k) ∙ ap is_some (sym (ticket_at c.hosts.items k))

  -- a batch runs where a host of its play works
  record Running : Type 0 where
    batch : Batch
    later : List Batch
    batches : s.batches ≡ batch ∷ later

  running : (n : ℕ) (bs : List Batch) → s.batches ≡ bs → 0 < n → n ≤ (size_of bs).nodes → Running
  running n [] e low high = absurd (omega (arith, low, high))
  running n (b ∷ bs) e low high = record { batch = b; later = bs; batches = e }

  works_stage : (x : HostState Passes) (h : FlatHost) (t : ℕ) → IsHost reading (size_of s.batches) k x h → host_at k s.hosts ≡ Some h → s.is_stopped ≡ false → (y : Stage Passes) → x.stage ≡ y → (g : FlatStage) → h.stage ≡ g → ticket_of y ≡ Some t → IsStage reading y g → Works s k
  works_stage x h t is there going Waits e g f out stage = cc
  works_stage x h t is there going (Runs u i cs ps) e (stands l) f out stage = absurd stage
  works_stage x h t is there going (Runs u i cs ps) e (works n j qs) f out stage =
      let fits : Fits (size_of s.batches) x.handlers (works n j qs) = subst (Fits (size_of s.batches) x.handlers) f is.fits in
      let runs = running n s.batches refl fits.1 fits.2 in
      record {
        batch = runs.batch;
        later = runs.later;
        host = h;
        node = n;
        attempts = j;
        passes = qs;
        batches = runs.batches;
        there = there;
        stage = f;
        going = going;
      }

  works_of : (t : ℕ) → s.is_stopped ≡ false → (o : Option (HostState Passes)) → (p : Option FlatHost) → host_at k s.hosts ≡ p → IsHostAt reading (size_of s.batches) k o p → ticket_in o ≡ Some t → Works s k
  works_of t going None p e is out = cc
  works_of t going (Some x) None e is out = absurd is
  works_of t going (Some x) (Some h) e is out = works_stage x h t is e going x.stage refl h.stage refl out is.stage

  -- and then it works
  pub works_out : (t : ℕ) → s.is_stopped ≡ false → get_or (tickets_of c) k None ≡ Some t → Works s k
  works_out t going out =
      works_of t going (slice_get c.hosts.items k) (host_at k s.hosts) refl (core.hosts k) (sym (ticket_at c.hosts.items k) ∙ out)

abbrev recap_in : Option FlatHost → Recap
recap_in None = empty_recap
recap_in (Some h) = h.recap

recap_there : (ss : List Step) (hs : List FlatHost) (k : ℕ) → get_or (map (λ (h : Host). h.recap) (hosts_of ss hs)) k empty_recap ≡ recap_in (host_at k hs)
recap_there ss [] k = refl
recap_there ss (h ∷ hs) zero = refl
recap_there ss (h ∷ hs) (suc k) = recap_there ss hs k

-- the recaps of the hosts are those of the core
pub recap_is : (reading : Reading Passes) (c : RunCore Passes) (s : FlatState) → IsCore reading c s → (k : ℕ) (x : HostState Passes) → slice_get c.hosts.items k ≡ Some x
    → recap_view x.recap ≡ get_or (map (λ (h : Host). h.recap) (state_of s).hosts) k empty_recap
recap_is reading c s core k x e =
    by (host_at k s.hosts) (subst (λ o. IsHostAt reading (size_of s.batches) k o (host_at k s.hosts)) e (core.hosts k)) ∙ sym (recap_there (current_steps s.batches) s.hosts k) where
      by : (p : Option FlatHost) → IsHostAt reading (size_of s.batches) k (Some x) p → recap_view x.recap ≡ recap_in p
      by None is = absurd is
      by (Some h) is = sym is.recap

pub recap_past : (reading : Reading Passes) (c : RunCore Passes) (s : FlatState) → IsCore reading c s → (k : ℕ) → slice_get c.hosts.items k ≡ None
    → empty_recap ≡ get_or (map (λ (h : Host). h.recap) (state_of s).hosts) k empty_recap
recap_past reading c s core k e =
    by (host_at k s.hosts) (subst (λ o. IsHostAt reading (size_of s.batches) k o (host_at k s.hosts)) e (core.hosts k)) ∙ sym (recap_there (current_steps s.batches) s.hosts k) where
      by : (p : Option FlatHost) → IsHostAt reading (size_of s.batches) k None p → empty_recap ≡ recap_in p
      by None is = refl
      by (Some h) is = absurd is

pub hosts_count : (ss : List Step) (hs : List FlatHost) → length (hosts_of ss hs) ≡ length hs
hosts_count ss [] = refl
hosts_count ss (h ∷ hs) = let rest = hosts_count ss hs in omega (arith, rest)

pub within_core : (reading : Reading Passes) (c : RunCore Passes) (s : FlatState) → IsCore reading c s → (k : ℕ) (h : FlatHost) → host_at k s.hosts ≡ Some h → k < length c.hosts.items
within_core reading c s core k h e =
    by (slice_get c.hosts.items k) refl (subst (λ p. IsHostAt reading (size_of s.batches) k (slice_get c.hosts.items k) p) e (core.hosts k)) where
      by : (o : Option (HostState Passes)) → slice_get c.hosts.items k ≡ o → IsHostAt reading (size_of s.batches) k o (Some h) → k < length c.hosts.items
      by None f is = absurd is
      by (Some x) f is = slice_get_within c.hosts.items k x f
