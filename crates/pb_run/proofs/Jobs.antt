-- The jobs that a Start or a Give hands out.
use Rattle.std.proofs.Common.{◌≡◌, ◌<◌, ℕ, zero, suc, ◌+◌, List, [], ◌∷◌, length, true, false, not, ◌&&◌, cond, Option, Some, None, option_map, refl, ap, ap₂, ◌∙◌, arith}
use Rattle.pb_semantics.proofs.Bools.{and-right}
use Rattle.pb_language.specs.Cases.{action_name}
use Rattle.pb_language.specs.Drive as drive
use Rattle.pb_language.specs.Drive.{Starting}
use Rattle.pb_language.specs.Expression.{Name}
use Rattle.pb_language.specs.Program.{Batch}
use Rattle.pb_language.specs.Give.{Answer}
use Rattle.pb_language.specs.Machine as machine
use Rattle.pb_language.specs.Machine.{Host, State, give, start, turn}
use Rattle.pb_language.specs.Start.{Entry, Pass, acts, call_count, calls, is_call, skips}
use Rattle.pb_machine.specs.Hosts.{FlatHost, FlatStage, stands, works, at, at_end, left_play}
use Rattle.pb_machine.specs.Run.{FlatState, can_start, current_steps, enabled, host_at, is_out, is_possible, next_start, of_host, plan_steps, put_host}
use Rattle.pb_machine.specs.Simulation.{hosts_of, state_of}
use Rattle.pb_machine.specs.Steps.{Step}
use Rattle.pb_machine.specs.Ways.{host_of, step_at}
use Rattle.pb_machine.proofs.Machines.{same_next}
use Rattle.pb_history.specs.Happens.{MayStart, Works, turned}
use Rattle.pb_history.specs.Jobs.{CallData, entry_calls, host_calls, job_calls, pass_calls}
use Rattle.pb_history.specs.Turns as tree
use Rattle.pb_history.specs.Turns.{Next, next_of, start_or, stopped}
use Rattle.pb_history.proofs.Turns.{turns_are_due}

pub host_same : (ss : List Step) (k : ℕ) (hs : List FlatHost) → machine.host_at k (hosts_of ss hs) ≡ option_map (host_of ss) (host_at k hs)
host_same ss k [] = refl
host_same ss zero (h ∷ hs) = refl
host_same ss (suc k) (h ∷ hs) = host_same ss k hs

pub put_here : (k : ℕ) (h g : FlatHost) (hs : List FlatHost) → host_at k hs ≡ Some h → host_at k (put_host k g hs) ≡ Some g
put_here k h g [] e = cc
put_here zero h g (x ∷ hs) e = refl
put_here (suc k) h g (x ∷ hs) e = put_here k h g hs e

-- a host has begun, or begins once more, what its task does for each item
pub calls_of_job : (s t : FlatState) (b : Batch) (later : List Batch) (k n i before : ℕ) (h : FlatHost) (ps : List Pass)
    → s.batches ≡ b ∷ later → host_at k s.hosts ≡ Some h → t.batches ≡ s.batches → t.hosts ≡ put_host k (record h { stage = works n i ps }) s.hosts
    → job_calls k before (state_of t) ≡ pass_calls k h.name (action_name (step_at (plan_steps b) n).task.action) ps before
calls_of_job s t b later k n i before h ps batches there same put =
    let g = record h { stage = works n i ps } in
    let hosts : machine.host_at k (state_of t).hosts ≡ Some (host_of (plan_steps b) g) =
    host_same (current_steps t.batches) k t.hosts
    ∙ ap₂ (λ bs hs. option_map (host_of (current_steps bs)) (host_at k hs)) (same ∙ batches) put
    ∙ ap (option_map (host_of (plan_steps b))) (put_here k h g s.hosts there) in
    ap (host_calls k before) hosts

-- a host that may start stands before a task
node_of : (s : FlatState) (b : Batch) (g : FlatStage) → can_start s b g ≡ true → (n : ℕ) × (g ≡ stands (at n))
node_of s b (stands at_end) e = cc
node_of s b (stands left_play) e = cc
node_of s b (stands (at n)) e = (n, refl)
node_of s b (works n i ps) e = cc

pub may_start : (s : FlatState) (k : ℕ) → enabled s (start k) ≡ true → MayStart s k
may_start s k on = by s.batches refl (and-right (not s.is_stopped) (is_possible s s.batches (start k)) on) where
  by : (bs : List Batch) → s.batches ≡ bs → is_possible s bs (start k) ≡ true → MayStart s k
  by [] e f = cc
  by (b ∷ later) e f = of (host_at k s.hosts) refl f where
    of : (o : Option FlatHost) → host_at k s.hosts ≡ o → of_host o (λ h. can_start s b h.stage) ≡ true → MayStart s k
    of None g h = cc
    of (Some h) g can =
        let there = node_of s b h.stage can in record {
          batch = b;
          later = later;
          host = h;
          node = there.0;
          batches = e;
          there = g;
          stage = there.1;
          enabled = on;
        }

-- and one whose job is out may be answered
pub may_give : (s : FlatState) (k : ℕ) (w : Works s k) (xs : List Answer) → enabled s (give k xs) ≡ true
may_give s k w xs =
    ap₂ (λ q bs. not q && is_possible s bs (give k xs)) w.going w.batches
    ∙ ap (λ h. of_host h (λ x. is_out x.stage)) w.there ∙ ap is_out w.stage

-- what there is to do once the Turns that are due have happened
module _ (s : FlatState) (n : ℕ) where
  pub next_is : (tree.turned (state_of s) ≡ state_of (turned n s)) → next_of (state_of s) ≡ cond s.is_stopped stopped (start_or (next_start (turned n s)) (turned n s).batches)
  next_is due =
      ap (λ (t : State). cond s.is_stopped stopped (start_or (drive.next_start t) t.batches)) due
      ∙ ap (λ o. cond s.is_stopped stopped (start_or o (turned n s).batches)) (same_next (turned n s))

-- a host starts next, or nothing does
next_number : (o : Option Starting) (bs : List Batch) (k : ℕ) → option_map (λ x. x.number) o ≡ Some k → start_or o bs ≡ tree.starts k
next_number None bs k e = cc
next_number (Some x) bs k e = let same : x.number ≡ k = cc in ap tree.starts same

none_next : (o : Option Starting) (bs : List Batch) → option_map (λ x. x.number) o ≡ None → start_or o bs ≡ start_or None bs
none_next None bs e = refl
none_next (Some x) bs e = cc

module _ (s : FlatState) (n : ℕ) (on : (i : ℕ) → i < n → enabled (turned i s) turn ≡ true) (off : enabled (turned n s) turn ≡ false) where
  pub due_is : tree.turns_due (state_of s) ≡ n
  due_is = (turns_are_due s n on off).1

  next_going : s.is_stopped ≡ false → next_of (state_of s) ≡ start_or (next_start (turned n s)) (turned n s).batches
  next_going going = next_is s n (turns_are_due s n on off).0 ∙ ap (λ q. cond q stopped (start_or (next_start (turned n s)) (turned n s).batches)) going

  pub next_starts : (k : ℕ) → s.is_stopped ≡ false → option_map (λ x. x.number) (next_start (turned n s)) ≡ Some k → next_of (state_of s) ≡ tree.starts k
  next_starts k going e = next_going going ∙ next_number (next_start (turned n s)) (turned n s).batches k e

  pub next_rests : s.is_stopped ≡ false → option_map (λ x. x.number) (next_start (turned n s)) ≡ None → next_of (state_of s) ≡ start_or None (turned n s).batches
  next_rests going e = next_going going ∙ none_next (next_start (turned n s)) (turned n s).batches e

-- a run that was stopped does nothing more
pub next_stopped : (s : FlatState) → s.is_stopped ≡ true → next_of (state_of s) ≡ stopped
next_stopped s e = ap (λ q. cond q stopped (start_or (drive.next_start (tree.turned (state_of s))) (tree.turned (state_of s)).batches)) e

pub never_due : (s : FlatState) → s.is_stopped ≡ true → tree.turns_due (state_of s) ≡ 0
never_due s e = due_is s 0 (λ i l. absurd (omega (arith, l))) (ap (λ q. not q && is_possible s s.batches turn) e)

-- the passes make as many calls as are counted
entry_many : (k : ℕ) (host m : Name) (e : Entry) (more : ℕ → List CallData) (n c : ℕ) → ((j : ℕ) → length (more j) ≡ c) → length (entry_calls k host m e more n) ≡ is_call e + c
entry_many k host m skips more n c many = let rest = many n in omega (arith, rest)
entry_many k host m (acts sh fs gs) more n c many = let rest = many n in omega (arith, rest)
entry_many k host m (calls d) more n c many = let rest = many (suc n) in omega (arith, rest)

pub calls_many : (k : ℕ) (host m : Name) (ps : List Pass) (n : ℕ) → length (pass_calls k host m ps n) ≡ call_count ps
calls_many k host m [] n = refl
calls_many k host m (p ∷ ps) n = entry_many k host m p.entry (pass_calls k host m ps) n (call_count ps) (λ j. calls_many k host m ps j)
