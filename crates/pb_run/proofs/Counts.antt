-- How far counts go by the events of a run: each event adds at most one to the attempts of a host's
-- job and to each count of its recap, and no more calls are handed out to a host than in the run.
use Rattle.std.proofs.Common.{◌≡◌, ◌≤◌, ℕ, zero, suc, ◌+◌, ◌-◌, List, [], ◌∷◌, length, Bool, true, false, not, ◌&&◌, nat_lt, cond, Option, Some, None, refl, sym, ap, subst, ◌∙◌, arith}
use Rattle.pb_semantics.specs.Keeps.{is_among}
use Rattle.pb_language.specs.Give.{Answer, admit_passes, Admitted, admitted, breached, unreached, Ended, Results, results_are, no_results, end_all, all_skipped, asks_again, any_changed, any_failed, last_attempts}
use Rattle.pb_language.specs.Machine as machine
use Rattle.pb_language.specs.Machine.{Event, Recap, State, start, give, turn, stop, any_names, count_if, ended_recap, notified_by}
use Rattle.pb_language.specs.Notify.{Notified, handlers_are, names_nothing}
use Rattle.pb_language.specs.Program.{Inventory, Program, Batch, all_batches}
use Rattle.pb_language.specs.Start.{Pass, Plan, planned, halted, plan_of, call_count}
use Rattle.pb_language.specs.World.{HostVariables}
use Rattle.pb_machine.specs.Hosts.{FlatHost, FlatStage, stands, works, at, at_end, left_play, all_moved, arrival, arrived, at_step, is_passed, moved}
use Rattle.pb_machine.specs.Steps.{Move, Step, Target, rescuing, holding, releasing, play_begin}
use Rattle.pb_machine.specs.Ways.{step_at}
use Rattle.pb_machine.specs.Run.{FlatState, after_task, all_begun, begun, enabled, happened, host_at, is_on, on_again, on_admitted, on_ended, on_give, on_host, on_notified, on_plan, on_results, on_start, opening, opening_hosts, plan_steps, put_host, run, run_from, step, still_active, target_on, with_batches, world_of}
use Rattle.pb_machine.specs.Simulation.{state_of}
use Rattle.pb_machine.proofs.Machines.{same_run, same_step}
use Rattle.pb_history.specs.Jobs.{handed_to, is_of}

abbrev pub attempts_of : FlatStage → ℕ
attempts_of (stands l) = 0
attempts_of (works n i ps) = i

-- each count of a recap is at most that
pub record AreFewCounts (n : ℕ) (r : Recap) : Type 0 where
  pub ok : r.ok ≤ n
  pub changed : r.changed ≤ n
  pub unreachable : r.unreachable ≤ n
  pub failed : r.failed ≤ n
  pub skipped : r.skipped ≤ n
  pub rescued : r.rescued ≤ n
  pub ignored : r.ignored ≤ n

-- and the attempts of a host's job
pub record IsFew (n : ℕ) (h : FlatHost) : Type 0 where
  pub attempts : attempts_of h.stage ≤ n
  pub recap : AreFewCounts n h.recap

abbrev pub AreFew : ℕ → List FlatHost → Type 0
AreFew n [] = Unit {0}
AreFew n (h ∷ hs) = IsFew n h × AreFew n hs

next : (n m : ℕ) → m ≤ n → m ≤ suc n
next n m l = omega (arith, l)

one_more : (n m : ℕ) → m ≤ n → suc m ≤ suc n
one_more n m l = omega (arith, l)

more_counts : (n : ℕ) (r : Recap) → AreFewCounts n r → AreFewCounts (suc n) r
more_counts n r few = record {
  ok = next n r.ok few.ok;
  changed = next n r.changed few.changed;
  unreachable = next n r.unreachable few.unreachable;
  failed = next n r.failed few.failed;
  skipped = next n r.skipped few.skipped;
  rescued = next n r.rescued few.rescued;
  ignored = next n r.ignored few.ignored;
}

more_host : (n : ℕ) (h : FlatHost) → IsFew n h → IsFew (suc n) h
more_host n h few = record { attempts = next n (attempts_of h.stage) few.attempts; recap = more_counts n h.recap few.recap }

more_hosts : (n : ℕ) (hs : List FlatHost) → AreFew n hs → AreFew (suc n) hs
more_hosts n [] few = tt
more_hosts n (h ∷ hs) few = (more_host n h few.0, more_hosts n hs few.1)

few_put : (n k : ℕ) (g : FlatHost) (hs : List FlatHost) → AreFew n hs → IsFew n g → AreFew n (put_host k g hs)
few_put n k g [] few own = tt
few_put n zero g (h ∷ hs) few own = (own, few.1)
few_put n (suc k) g (h ∷ hs) few own = (few.0, few_put n k g hs few.1 own)

pub few_at : (n k : ℕ) (h : FlatHost) (hs : List FlatHost) → AreFew n hs → host_at k hs ≡ Some h → IsFew n h
few_at n k h [] few e = cc
few_at n zero h (g ∷ hs) few e = let same : g ≡ h = cc in subst (IsFew n) same few.0
few_at n (suc k) h (g ∷ hs) few e = few_at n k h hs few.1 e

failed_more : (n : ℕ) (r : Recap) → AreFewCounts n r → AreFewCounts (suc n) (record r { failed = suc r.failed })
failed_more n r few =
    let more = more_counts n r few in record {
      ok = more.ok;
      changed = more.changed;
      unreachable = more.unreachable;
      failed = one_more n r.failed few.failed;
      skipped = more.skipped;
      rescued = more.rescued;
      ignored = more.ignored;
    }

unreachable_more : (n : ℕ) (r : Recap) → AreFewCounts n r → AreFewCounts (suc n) (record r { unreachable = suc r.unreachable })
unreachable_more n r few =
    let more = more_counts n r few in record {
      ok = more.ok;
      changed = more.changed;
      unreachable = one_more n r.unreachable few.unreachable;
      failed = more.failed;
      skipped = more.skipped;
      rescued = more.rescued;
      ignored = more.ignored;
    }

-- one more task that ended
if_more : (q : Bool) (n m : ℕ) → m ≤ n → count_if q m ≤ suc n
if_more true n m l = one_more n m l
if_more false n m l = next n m l

ok_more : (n : ℕ) (changed : Bool) (r : Recap) → AreFewCounts n r → AreFewCounts (suc n) (machine.ok_recap changed r)
ok_more n changed r few = record {
  ok = one_more n r.ok few.ok;
  changed = if_more changed n r.changed few.changed;
  unreachable = next n r.unreachable few.unreachable;
  failed = next n r.failed few.failed;
  skipped = next n r.skipped few.skipped;
  rescued = next n r.rescued few.rescued;
  ignored = next n r.ignored few.ignored;
}

ended_more : (n : ℕ) (skipped changed failed ignored saved : Bool) (r : Recap) → AreFewCounts n r → AreFewCounts (suc n) (ended_recap skipped changed failed ignored saved r)
ended_more n true changed failed ignored saved r few =
    let more = more_counts n r few in record {
      ok = more.ok;
      changed = more.changed;
      unreachable = more.unreachable;
      failed = more.failed;
      skipped = one_more n r.skipped few.skipped;
      rescued = more.rescued;
      ignored = more.ignored;
    }
ended_more n false changed false ignored saved r few = ok_more n changed r few
ended_more n false changed true true saved r few =
    let more = ok_more n changed r few in record {
      ok = more.ok;
      changed = more.changed;
      unreachable = more.unreachable;
      failed = more.failed;
      skipped = more.skipped;
      rescued = more.rescued;
      ignored = one_more n r.ignored few.ignored;
    }
ended_more n false changed true false true r few =
    let more = more_counts n r few in record {
      ok = more.ok;
      changed = more.changed;
      unreachable = more.unreachable;
      failed = more.failed;
      skipped = more.skipped;
      rescued = one_more n r.rescued few.rescued;
      ignored = more.ignored;
    }
ended_more n false changed true false false r few = failed_more n r few

-- a host that arrives waits, and its recap stays
record Rests (h g : FlatHost) : Type 0 where
  recap : g.recap ≡ h.recap
  attempts : attempts_of g.stage ≡ 0

moved_recap : (m : Move) (h : FlatHost) → (moved m h).recap ≡ h.recap
moved_recap (rescuing d) h = refl
moved_recap (holding m) h = refl
moved_recap (releasing m) h = refl

all_recap : (ms : List Move) (h : FlatHost) → (all_moved ms h).recap ≡ h.recap
all_recap [] h = refl
all_recap (m ∷ ms) h = all_recap ms (moved m h) ∙ moved_recap m h

rests_moved : (ms : List Move) (h g : FlatHost) → Rests (all_moved ms h) g → Rests h g
rests_moved ms h g rests = record { recap = rests.recap ∙ all_recap ms h; attempts = rests.attempts }

step_rests : (go : Option ℕ → FlatHost → FlatHost) → ((t : Option ℕ) (h : FlatHost) → Rests h (go t h)) → (o : ℕ) (s : Step) (n : ℕ) (h : FlatHost) (p q : Bool) → Rests h (at_step go o s n h p q)
step_rests go rests o s n h true q = rests (Some n) h
step_rests go rests o s n h false true = rests_moved s.ok.moves h (go s.ok.to (all_moved s.ok.moves h)) (rests s.ok.to (all_moved s.ok.moves h))
step_rests go rests o s n h false false = record { recap = refl; attempts = refl }

arrival_rests : (ss : List Step) (o : ℕ) (t : Option ℕ) (h : FlatHost) → Rests h (arrival ss o t h)
arrival_rests ss o None h = record { recap = refl; attempts = refl }
arrival_rests [] o (Some n) h = record { recap = refl; attempts = refl }
arrival_rests (s ∷ ss) o (Some n) h = step_rests (arrival ss (suc o)) (arrival_rests ss (suc o)) o s n h (nat_lt o n) (is_passed s.handler h.marks)

few_arrived : (m : ℕ) (ss : List Step) (t : Target) (h : FlatHost) → AreFewCounts m h.recap → IsFew m (arrived ss t h)
few_arrived m ss t h few =
    let rests = rests_moved t.moves h (arrived ss t h) (arrival_rests ss 1 t.to (all_moved t.moves h)) in
    record {
      attempts = omega (arith, rests.attempts);
      recap = subst (AreFewCounts m) (sym rests.recap) few;
    }

few_begun : (m : ℕ) (b : Batch) (h : FlatHost) → IsFew m h → IsFew m (begun b h)
few_begun m b h few = by (is_on h && is_among h.name b.members) where
  by : (q : Bool) → IsFew m (cond q (arrived (plan_steps b) (play_begin b.play.row) (record h { marks = []; rescues = []; holds = [] })) h)
  by true = few_arrived m (plan_steps b) (play_begin b.play.row) (record h { marks = []; rescues = []; holds = [] }) few.recap
  by false = few

few_all_begun : (m : ℕ) (b : Batch) (hs : List FlatHost) → AreFew m hs → AreFew m (all_begun b hs)
few_all_begun m b [] few = tt
few_all_begun m b (h ∷ hs) few = (few_begun m b h few.0, few_all_begun m b hs few.1)

few_with : (m : ℕ) (s : FlatState) (bs : List Batch) → AreFew m s.hosts → AreFew m (with_batches s bs).hosts
few_with m s [] few = few
few_with m s (b ∷ bs) few = few_all_begun m b s.hosts few

-- what one event adds
record Grows (m : ℕ) (s t : FlatState) : Type 0 where
  hosts : AreFew m s.hosts → AreFew (suc m) t.hosts
  handed : s.handed ≤ t.handed

grows_still : (m : ℕ) (s t : FlatState) → t.hosts ≡ s.hosts → t.handed ≡ s.handed → Grows m s t
grows_still m s t hosts handed = record {
  hosts = λ few. subst (AreFew (suc m)) (sym hosts) (more_hosts m s.hosts few);
  handed = omega (arith, handed);
}

module _ (m : ℕ) (s : FlatState) (b : Batch) (k : ℕ) (h : FlatHost) (there : host_at k s.hosts ≡ Some h) where
  own : AreFew m s.hosts → IsFew m h
  own few = few_at m k h s.hosts few there

  grows_put : (t : FlatState) (g : FlatHost) (n : ℕ) → t.hosts ≡ put_host k g s.hosts → t.handed ≡ s.handed + n → (IsFew m h → IsFew (suc m) g) → Grows m s t
  grows_put t g n hosts handed more = record {
    hosts = λ few. subst (AreFew (suc m)) (sym hosts) (few_put (suc m) k g s.hosts (more_hosts m s.hosts few) (more (own few)));
    handed = omega (arith, handed);
  }

  none_more : s.handed ≡ s.handed + 0
  none_more = omega arith

  plan_grows : (n : ℕ) (p : Plan) → Grows m s (on_plan s k h n p)
  plan_grows n (planned ps) =
      grows_put (on_plan s k h n (planned ps)) (record h { stage = works n 0 ps }) (call_count ps) refl refl
      (λ few. record { attempts = omega arith; recap = more_counts m h.recap few.recap })
  plan_grows n (halted y) = grows_still m s (on_plan s k h n (halted y)) refl refl

  start_grows : (g : FlatStage) → Grows m s (on_start s b k h g)
  start_grows (stands (at n)) = let t = (step_at (plan_steps b) n).task in plan_grows n (plan_of (world_of s b h t) t t.loop)
  start_grows (stands at_end) = grows_still m s s refl refl
  start_grows (stands left_play) = grows_still m s s refl refl
  start_grows (works n i ps) = grows_still m s s refl refl

  notified_grows : (x : Step) (es : List Ended) (r : Notified) → Grows m s (on_notified s b k h x es r)
  notified_grows x es names_nothing = grows_still m s (on_notified s b k h x es names_nothing) refl refl
  notified_grows x es (handlers_are ms) =
      let t = x.task in
      grows_put (on_notified s b k h x es (handlers_are ms)) (arrived (plan_steps b) (target_on x es) (after_task h t es ms)) 0 refl none_more
      (λ few. few_arrived (suc m) (plan_steps b) (target_on x es) (after_task h t es ms) (ended_more m (all_skipped es) (any_changed es) (any_failed es) t.ignores t.rescued h.recap few.recap))

  again_grows : (n i : ℕ) (ps : List Pass) → h.stage ≡ works n i ps → Grows m s (on_again s k h n i ps)
  again_grows n i ps stage =
      grows_put (on_again s k h n i ps) (record h { stage = works n (suc i) ps }) (call_count ps) refl refl
      (λ few. record {
        attempts = one_more m i (subst (λ g. attempts_of g ≤ m) stage few.attempts);
        recap = more_counts m h.recap few.recap;
      })

  results_grows : (n i : ℕ) (ps : List Pass) → h.stage ≡ works n i ps → (r : Results) → Grows m s (on_results s b k h n i ps r)
  results_grows n i ps stage (no_results w) = grows_still m s (on_results s b k h n i ps (no_results w)) refl refl
  results_grows n i ps stage (results_are es) = by (asks_again (step_at (plan_steps b) n).task i es) where
    by : (q : Bool) → Grows m s (cond q (on_again s k h n i ps) (on_ended s b k h (step_at (plan_steps b) n) (last_attempts es)))
    by true = again_grows n i ps stage
    by false =
        let x = step_at (plan_steps b) n in
        let ended = last_attempts es in
        notified_grows x ended (notified_by b.play x.task (any_changed ended && not (any_failed ended)))

  admitted_grows : (n i : ℕ) (ps : List Pass) → h.stage ≡ works n i ps → (a : Admitted) → Grows m s (on_admitted s b k h n i ps a)
  admitted_grows n i ps stage (admitted os) =
      let t = (step_at (plan_steps b) n).task in
      results_grows n i ps stage (end_all (world_of s b h t) t os)
  admitted_grows n i ps stage breached =
      grows_put (on_admitted s b k h n i ps breached) (record h { stage = stands left_play; recap = record h.recap { failed = suc h.recap.failed } }) 0 refl none_more
      (λ few. record {
        attempts = omega arith;
        recap = failed_more m h.recap few.recap;
      })
  admitted_grows n i ps stage unreached =
      grows_put (on_admitted s b k h n i ps unreached) (record h { stage = stands left_play; recap = record h.recap { unreachable = suc h.recap.unreachable } }) 0 refl none_more
      (λ few. record {
        attempts = omega arith;
        recap = unreachable_more m h.recap few.recap;
      })

  give_grows : (xs : List Answer) (g : FlatStage) → h.stage ≡ g → Grows m s (on_give s b k h xs g)
  give_grows xs (stands p) stage = grows_still m s s refl refl
  give_grows xs (works n i ps) stage = admitted_grows n i ps stage (admit_passes (step_at (plan_steps b) n).task.action ps xs)

turn_grows : (m : ℕ) (s : FlatState) (bs : List Batch) → Grows m s (with_batches s bs)
turn_grows m s bs = record {
  hosts = λ few. more_hosts m (with_batches s bs).hosts (few_with m s bs few);
  handed = same bs;
} where
  same : (bs : List Batch) → s.handed ≤ (with_batches s bs).handed
  same [] = omega arith
  same (b ∷ bs) = omega arith

host_grows : (m : ℕ) (s : FlatState) (o : Option FlatHost) (go : FlatHost → FlatState) → ((h : FlatHost) → o ≡ Some h → Grows m s (go h)) → Grows m s (on_host s o go)
host_grows m s None go grows = grows_still m s s refl refl
host_grows m s (Some h) go grows = grows h refl

happened_grows : (m : ℕ) (s : FlatState) (bs : List Batch) (e : Event) → Grows m s (happened s bs e)
happened_grows m s [] e = grows_still m s s refl refl
happened_grows m s (b ∷ bs) (start k) = host_grows m s (host_at k s.hosts) (λ h. on_start s b k h h.stage) (λ h there. start_grows m s b k h there h.stage)
happened_grows m s (b ∷ bs) (give k xs) = host_grows m s (host_at k s.hosts) (λ h. on_give s b k h xs h.stage) (λ h there. give_grows m s b k h there xs h.stage refl)
happened_grows m s (b ∷ bs) turn = turn_grows m s (cond (any_names (still_active s.hosts b.members)) bs [])
happened_grows m s (b ∷ bs) stop = grows_still m s (happened s (b ∷ bs) stop) refl refl

step_grows : (m : ℕ) (s : FlatState) (e : Event) → Grows m s (step s e)
step_grows m s e = by (enabled s e) where
  by : (q : Bool) → Grows m s (cond q (happened s s.batches e) s)
  by true = happened_grows m s s.batches e
  by false = grows_still m s s refl refl

few_from : (m : ℕ) (s : FlatState) (es : List Event) → AreFew m s.hosts → AreFew (m + length es) (run_from s es).hosts
few_from m s [] few = let same : m ≡ m + 0 = omega arith in subst (λ n. AreFew n s.hosts) same few
few_from m s (e ∷ es) few =
    let same : suc m + length es ≡ m + suc (length es) = omega arith in
    subst (λ n. AreFew n (run_from (step s e) es).hosts) same (few_from (suc m) (step s e) es ((step_grows m s e).hosts few))

few_opening : (hs : List HostVariables) → AreFew 0 (opening_hosts hs)
few_opening [] = tt
few_opening (h ∷ hs) = (record { attempts = omega arith; recap = none }, few_opening hs) where
  none : AreFewCounts 0 machine.empty_recap
  none = record {
    ok = omega arith;
    changed = omega arith;
    unreachable = omega arith;
    failed = omega arith;
    skipped = omega arith;
    rescued = omega arith;
    ignored = omega arith;
  }

abbrev before : Inventory → ℕ → FlatState
before inventory forks = record {
  inventory = inventory;
  forks = forks;
  hosts = opening_hosts inventory.hosts;
  batches = [];
  handed = 0;
  is_stuck = false;
  is_stopped = false;
}

-- after so many events
pub few_after : (program : Program) (inventory : Inventory) (forks : ℕ) (es : List Event) → AreFew (length es) (run program inventory forks es).hosts
few_after program inventory forks es =
    let same : 0 + length es ≡ length es = omega arith in
    subst (λ n. AreFew n (run program inventory forks es).hosts) same
    (few_from 0 (opening program inventory forks) es (few_with 0 (before inventory forks) (all_batches program) (few_opening inventory.hosts)))

-- calls are handed out to a host, and in the run
handed_more : (k : ℕ) (s : FlatState) (e : Event) (es : List Event)
    → handed_to k (state_of s) (e ∷ es) ≡ cond (is_of k e) ((step s e).handed - s.handed) 0 + handed_to k (state_of (step s e)) es
handed_more k s e es = ap (λ (t : State). cond (is_of k e) (t.handed - s.handed) 0 + handed_to k t es) (same_step s e)

at_most : (q : Bool) (d : ℕ) → cond q d 0 ≤ d
at_most true d = omega arith
at_most false d = omega arith

handed_from : (k : ℕ) (s : FlatState) (es : List Event) → handed_to k (state_of s) es + s.handed ≤ (run_from s es).handed
handed_from k s [] = omega arith
handed_from k s (e ∷ es) =
    sum (cond (is_of k e) ((step s e).handed - s.handed) 0) (handed_to k (state_of (step s e)) es) (handed_to k (state_of s) (e ∷ es)) s.handed (step s e).handed (run_from (step s e) es).handed
    (handed_more k s e es) (at_most (is_of k e) ((step s e).handed - s.handed)) ((step_grows 0 s e).handed) (handed_from k (step s e) es) where
      sum : (c h all a b r : ℕ) → all ≡ c + h → c ≤ b - a → a ≤ b → h + b ≤ r → all + a ≤ r
      sum c h all a b r e f g l = omega (arith, e, f, g, l)

pub handed_few : (k : ℕ) (program : Program) (inventory : Inventory) (forks : ℕ) (es : List Event)
    → handed_to k (machine.run program inventory forks []) es ≤ (run program inventory forks es).handed
handed_few k program inventory forks es =
    let s = opening program inventory forks in
    let l = handed_from k s es in
    let same : handed_to k (machine.run program inventory forks []) es ≡ handed_to k (state_of s) es = ap (λ (t : State). handed_to k t es) (same_run program inventory forks []) in
    omega (arith, l, same)
