-- A machine that is recorded goes on by Turns, a Start, a Give or a Stop, and is recorded still.
use Rattle.std.proofs.Common.{◌≡◌, ◌≢◌, ◌<◌, ℕ, suc, ◌+◌, List, [], ◌∷◌, ◌++◌, Vec, length, map, replicate, get_or, set, Bool, true, false, not, ◌&&◌, ◌||◌, cond, Option, Some, None, is_some, inl, inr, refl, sym, ap, ap₂, subst, ◌∙◌, arith}
use Rattle.std.specs.declared.alloc.Global.{Global}
use Rattle.std.proofs.lemmas.Bool.Decides.{eqb_tells}
use Rattle.std.proofs.lemmas.List.{length-map, get_or-set_same, get_or-set_other}
use Rattle.pb_semantics.proofs.Bools.{and-right}
use Rattle.pb_language.specs.Cases.{action_name}
use Rattle.pb_language.specs.Give.{Answer}
use Rattle.pb_language.specs.Machine.{Event, State, give, start, stop, turn}
use Rattle.pb_language.specs.Program.{Batch}
use Rattle.pb_language.specs.Start.{call_count}
use Rattle.pb_machine.specs.Hosts.{works}
use Rattle.pb_machine.specs.Run.{FlatState, enabled, happened, host_at, is_possible, put_host, step}
use Rattle.pb_machine.specs.Simulation.{state_of}
use Rattle.pb_machine.proofs.Machines.{same_run}
use Rattle.pb_history.specs.Happens.{MayStart, Starts, Works, task_of_start, turned}
use Rattle.pb_history.specs.Jobs.{handed_to, is_out_at, job_calls, ticket_out, last_place}
use Rattle.pb_history.proofs.Histories.{handed_join, last_more}
use Rattle.pb_core.specs.Cores.{tickets_of}
use Rattle.pb_core.proofs.Steps.{steps_again, steps_start}
use Rattle.pb_core.proofs.Tickets.{hosts_stay}
use Rattle.pb_jobs.specs.Calls.{call_data}
use Rattle.pb_jobs.specs.Machines.{BeginsAfter, CountsMore, GivesAs, HasBegun, HasCallsAfter, HasGiven, IsMachine, StopsAs, calls_after, ticket_after}
use Rattle.pb_jobs.specs.declared.job.Call.{Call}
use Rattle.pb_jobs.specs.declared.machine.Answered.{Answered}
use Rattle.pb_jobs.specs.declared.machine.Answered.TheVariants as answered
use Rattle.pb_jobs.specs.declared.machine.Machine.{Machine}
use Rattle.pb_run.specs.Openings.{AreCounted, ArePlaces, IsNeverStuck, Opening, flat_after, state_after}
use Rattle.pb_run.specs.Calls.{and_host, but_host}
use Rattle.pb_run.specs.Recorded.{Stands}
use Rattle.pb_run.specs.Starts.{MayTurn}
use Rattle.pb_run.proofs.Events.{after_behind, after_turns, behind, counted_behind, counted_turned, enabled_behind, enabled_turns, fine_after, handed_more, places_set, places_turned, turned_going}
use Rattle.pb_run.proofs.Jobs.{calls_many, calls_of_job, may_give, may_start, put_here}
use Rattle.pb_run.proofs.Outs.{out_is, within_core, works_out}

module _ (o : Opening) (es : List Event) where
  same_after : state_after o es ≡ state_of (flat_after o es)
  same_after = same_run o.program o.inventory o.forks es

  -- the job that is out has the place of its host's last event as its ticket
  pub ticket_is : (m : Machine) (q : Bool) → Stands o es m q → (k : ℕ) → ticket_out k (state_after o es) es ≡ get_or (tickets_of m.core) k None
  ticket_is m q stands k =
      ap (λ (x : State). cond (is_out_at k x) (last_place k es) None) same_after
      ∙ ap (λ b. cond b (last_place k es) None) (out_is stands.reading m.core (flat_after o es) stands.machine.kept.core k)
      ∙ by (get_or (tickets_of m.core) k None) refl where
        by : (t : Option ℕ) → get_or (tickets_of m.core) k None ≡ t → cond (is_some t) (last_place k es) None ≡ t
        by None e = refl
        by (Some p) e = stands.tickets k p e

  -- a job is out where it has a ticket
  pub out_at : (m : Machine) (q : Bool) → Stands o es m q → (k : ℕ) → is_out_at k (state_after o es) ≡ is_some (get_or (tickets_of m.core) k None)
  out_at m q stands k = ap (is_out_at k) same_after ∙ out_is stands.reading m.core (flat_after o es) stands.machine.kept.core k

-- Turns happened
pub has_turned : (o : Opening) (es : List Event) (old new : Machine) (n : ℕ) (q : Bool) (stands : Stands o es old q) → MayTurn n (flat_after o es)
    → IsMachine new stands.reading (turned n (flat_after o es)) → tickets_of new.core ≡ tickets_of old.core → new.calls ≡ old.calls → Stands o (es ++ replicate n turn) new q
has_turned o es old new n q stands on goes tickets calls = record {
  reading = stands.reading;
  machine = subst (IsMachine new stands.reading) (sym (after_turns o es n)) goes;
  enabled = enabled_turns o es n stands.enabled on;
  is_stopped = ap (λ (s : FlatState). s.is_stopped) (after_turns o es n) ∙ turned_going n (flat_after o es) ∙ stands.is_stopped;
  tickets = subst (λ ts. ArePlaces ts (es ++ replicate n turn)) (sym tickets) (places_turned (tickets_of old.core) es n stands.tickets);
  counts = subst (λ (cs : Vec ℕ Global). AreCounted cs.items o (es ++ replicate n turn)) (sym calls) (counted_turned o es n old.calls.items stands.counts);
}

-- a host's task began after so many Turns
module _ (o : Opening) (never : IsNeverStuck o) (es : List Event) (old new : Machine) (n k t : ℕ) (cs : List Call) (stands : Stands o es old false) (on : MayTurn n (flat_after o es))
    (can : enabled (turned n (flat_after o es)) (start k) ≡ true) (begins : BeginsAfter n k cs old new) (tickets : tickets_of new.core ≡ set (tickets_of old.core) k (Some t))
    (counts : CountsMore k (length cs) old new) (place : t ≡ length es + n) where
  abbrev before : FlatState
  before = turned n (flat_after o es)

  may : MayStart before k
  may = may_start before k can

  is : flat_after o (es ++ behind n (start k)) ≡ step before (start k)
  is = after_behind o es n (start k)

  begun : HasBegun k cs (get_or old.calls.items k 0) new stands.reading may
  begun = begins stands.reading (flat_after o es) stands.machine may (sym (ap (λ (s : FlatState). s.is_stuck) is) ∙ fine_after o never (es ++ behind n (start k)))

  abbrev starts : Starts before k begun.passes
  starts = record {
    batch = may.batch;
    later = may.later;
    host = may.host;
    node = may.node;
    batches = may.batches;
    there = may.there;
    stage = may.stage;
    enabled = may.enabled;
    plans = begun.plans;
  }

  abbrev after : FlatState
  after = record before {
    hosts = put_host k (record may.host { stage = works may.node 0 begun.passes }) before.hosts;
    handed = before.handed + call_count begun.passes;
  }

  goes : step before (start k) ≡ after
  goes = steps_start before k begun.passes starts

  more : (step before (start k)).handed ≡ before.handed + length cs
  more =
      ap (λ (s : FlatState). s.handed) goes
      ∙ ap (λ m. before.handed + m) (sym (calls_many k may.host.name (action_name (task_of_start may).action) begun.passes (get_or old.calls.items k 0)) ∙ ap length (sym begun.calls) ∙ length-map cs call_data)

  pub has_started : Stands o (es ++ behind n (start k)) new false
  has_started = record {
    reading = stands.reading;
    machine = subst (IsMachine new stands.reading) (sym is) begun.machine;
    enabled = enabled_behind o es n (start k) stands.enabled on may.enabled;
    is_stopped = ap (λ (s : FlatState). s.is_stopped) (is ∙ goes) ∙ turned_going n (flat_after o es) ∙ stands.is_stopped;
    tickets = subst (λ ts. ArePlaces ts (es ++ behind n (start k))) (sym tickets)
        (places_set k (start k) (λ j. refl) (tickets_of old.core) es n (Some t) stands.tickets (λ p e. let same : t ≡ p = cc in sym same ∙ place));
    counts = subst (λ xs. AreCounted xs o (es ++ behind n (start k))) (sym counts.calls)
        (counted_behind k (start k) (λ j. refl) o es n (length cs) old.calls.items stands.counts more);
  }

  -- the host is one of the core's
  pub started_within : k < length old.core.hosts.items
  started_within =
      let g = record may.host { stage = works may.node 0 begun.passes } in
      let l : k < length new.core.hosts.items =
      within_core stands.reading new.core (step before (start k)) begun.machine.kept.core k g
      (ap (λ (s : FlatState). host_at k s.hosts) goes ∙ put_here k may.host g before.hosts may.there) in
      omega (arith, l, hosts_stay old.core new.core k (Some t) tickets)

  -- and these are its calls
  pub has_calls : k < length old.calls.items → map call_data cs ≡ job_calls k (handed_to k (state_after o []) es) (state_after o (es ++ behind n (start k)))
  has_calls within =
      let had = stands.counts k within in
      let count = get_or old.calls.items k 0 in
      begun.calls
      ∙ sym (calls_of_job before after may.batch may.later k may.node 0 count may.host begun.passes may.batches may.there refl refl)
      ∙ ap₂ (λ m (x : State). job_calls k m x) had (ap state_of (sym goes ∙ sym is) ∙ sym (same_run o.program o.inventory o.forks (es ++ behind n (start k))))

  pub has_count : (state_after o (es ++ behind n (start k))).handed ≡ (state_after o es).handed + length cs
  has_count = handed_more o es n (length cs) (start k) more

-- a host's job was answered
module _ (o : Opening) (never : IsNeverStuck o) (es : List Event) (old new : Machine) (k t : ℕ) (xs : List Answer) (a : Answered) (stands : Stands o es old false)
    (gives : GivesAs k xs a old new) (tickets : tickets_of new.core ≡ set (tickets_of old.core) k (ticket_after (length es) a)) (counts : CountsMore k (calls_after a) old new)
    (out : get_or (tickets_of old.core) k None ≡ Some t) where
  abbrev now : FlatState
  now = flat_after o es

  works_now : Works now k
  works_now = works_out stands.reading old.core now stands.machine.kept.core k t stands.is_stopped out

  given_is : flat_after o (es ++ behind 0 (give k xs)) ≡ step now (give k xs)
  given_is = after_behind o es 0 (give k xs)

  given : HasGiven works_now xs a (get_or old.calls.items k 0) new
  given = gives stands.reading now stands.machine works_now (sym (ap (λ (s : FlatState). s.is_stuck) given_is) ∙ fine_after o never (es ++ behind 0 (give k xs)))

  place_after : (p : ℕ) → ticket_after (length es) a ≡ Some p → p ≡ length es + 0
  place_after p e = by a e where
    by : (b : Answered) → ticket_after (length es) b ≡ Some p → p ≡ length es + 0
    by answered.Done f = cc
    by (answered.Again cs) f = let same : length es ≡ p = cc in omega (arith, same)

  pub has_given : Stands o (es ++ behind 0 (give k xs)) new false
  has_given = record {
    reading = given.after.reading;
    machine = subst (IsMachine new given.after.reading) (sym given_is) given.after.machine;
    enabled = enabled_behind o es 0 (give k xs) stands.enabled (λ i l. absurd (omega (arith, l))) (may_give now k works_now xs);
    is_stopped = ap (λ (s : FlatState). s.is_stopped) (given_is ∙ given.steps) ∙ stands.is_stopped;
    tickets = subst (λ ts. ArePlaces ts (es ++ behind 0 (give k xs))) (sym tickets)
        (places_set k (give k xs) (λ j. refl) (tickets_of old.core) es 0 (ticket_after (length es) a) stands.tickets place_after);
    counts = subst (λ ys. AreCounted ys o (es ++ behind 0 (give k xs))) (sym counts.calls)
        (counted_behind k (give k xs) (λ j. refl) o es 0 (calls_after a) old.calls.items stands.counts (ap (λ (s : FlatState). s.handed) given.steps));
  }

  pub given_within : k < length old.core.hosts.items
  given_within = within_core stands.reading old.core now stands.machine.kept.core k works_now.host works_now.there

  pub given_count : (state_after o (es ++ behind 0 (give k xs))).handed ≡ (state_after o es).handed + calls_after a
  given_count = handed_more o es 0 (calls_after a) (give k xs) (ap (λ (s : FlatState). s.handed) given.steps)

  -- where its calls are made again they are the job's
  pub has_repeated : (cs : Vec Call Global) → a ≡ answered.Again cs → k < length old.calls.items
      → map call_data cs.items ≡ job_calls k (handed_to k (state_after o []) es) (state_after o (es ++ behind 0 (give k xs)))
  has_repeated cs e within = by a e given.calls where
    count : ℕ
    count = get_or old.calls.items k 0

    by : (b : Answered) → b ≡ answered.Again cs → HasCallsAfter works_now xs count b
        → map call_data cs.items ≡ job_calls k (handed_to k (state_after o []) es) (state_after o (es ++ behind 0 (give k xs)))
    by answered.Done f g = cc
    by (answered.Again ds) f g =
        let same : ds ≡ cs = cc in
        let again = g.0 in
        let goes = steps_again now k works_now xs again.0 again.1 again.2 in
        ap (λ (v : Vec Call Global). map call_data v.items) (sym same) ∙ g.1
        ∙ sym (calls_of_job now (step now (give k xs)) works_now.batch works_now.later k works_now.node (suc works_now.attempts) count works_now.host works_now.passes works_now.batches works_now.there
        (ap (λ (s : FlatState). s.batches) goes) (ap (λ (s : FlatState). s.hosts) goes))
        ∙ ap₂ (λ m (x : State). job_calls k m x) (stands.counts k within) (ap state_of (sym given_is) ∙ sym (same_run o.program o.inventory o.forks (es ++ behind 0 (give k xs))))

-- a Stop happened
pub has_stopped : (o : Opening) (es : List Event) (old new : Machine) → Stands o es old false → enabled (flat_after o es) stop ≡ true
    → StopsAs old new → tickets_of new.core ≡ tickets_of old.core → new.calls ≡ old.calls → Stands o (es ++ stop ∷ []) new true
has_stopped o es old new stands can stops tickets calls =
    let s = flat_after o es in
    let is = after_behind o es 0 stop in record {
      reading = stands.reading;
      machine = subst (IsMachine new stands.reading) (sym is) ((stops stands.reading s stands.machine).0 can);
      enabled = enabled_behind o es 0 stop stands.enabled (λ i l. absurd (omega (arith, l))) can;
      is_stopped = ap (λ (t : FlatState). t.is_stopped) is ∙ ap (λ q. (cond q (happened s s.batches stop) s).is_stopped) can ∙ stopped_by s.batches (and-right (not s.is_stopped) (is_possible s s.batches stop) can);
      tickets = subst (λ ts. ArePlaces ts (es ++ stop ∷ [])) (sym tickets) (λ k p e. last_more k es stop ∙ stands.tickets k p e);
      counts = subst (λ (cs : Vec ℕ Global). AreCounted cs.items o (es ++ stop ∷ [])) (sym calls) counted;
    } where
      none : (x : ℕ) → x + (0 + 0) ≡ x
      none x = omega arith

      counted : AreCounted old.calls.items o (es ++ stop ∷ [])
      counted k l = stands.counts k l ∙ sym (handed_join k (state_after o []) es (stop ∷ []) ∙ none (handed_to k (state_after o []) es))

      stopped_by : (bs : List Batch) → is_possible (flat_after o es) bs stop ≡ true → (happened (flat_after o es) bs stop).is_stopped ≡ true
      stopped_by [] h = cc
      stopped_by (b ∷ bs) h = refl

-- which jobs are out, and that nothing stops, by the tickets before and after
module _ (o : Opening) (es fs : List Event) (old new : Machine) (p q : Bool) (before : Stands o es old p) (after : Stands o fs new q) where
  pub goes_on : q ≡ p → (state_after o fs).is_stopped ≡ (state_after o es).is_stopped
  goes_on same = stopped_at fs ∙ after.is_stopped ∙ same ∙ sym before.is_stopped ∙ sym (stopped_at es) where
    stopped_at : (xs : List Event) → (state_after o xs).is_stopped ≡ (flat_after o xs).is_stopped
    stopped_at xs = ap (λ (s : State). s.is_stopped) (same_run o.program o.inventory o.forks xs)

  pub same_out : tickets_of new.core ≡ tickets_of old.core → (i : ℕ) → is_out_at i (state_after o fs) ≡ is_out_at i (state_after o es)
  same_out same i = out_at o fs new q after i ∙ ap (λ ts. is_some (get_or ts i None)) same ∙ sym (out_at o es old p before i)

  -- where the ticket of one host is another
  other_out : (k : ℕ) (t : Option ℕ) (i : ℕ) → tickets_of new.core ≡ set (tickets_of old.core) k t → i ≢ k → is_out_at i (state_after o fs) ≡ is_out_at i (state_after o es)
  other_out k t i same differ =
      out_at o fs new q after i ∙ ap (λ ts. is_some (get_or ts i None)) same ∙ ap is_some (get_or-set_other (tickets_of old.core) k i t None differ) ∙ sym (out_at o es old p before i)

  own_out : (k : ℕ) (t : Option ℕ) (i : ℕ) → tickets_of new.core ≡ set (tickets_of old.core) k t → i ≡ k → k < length (tickets_of old.core) → is_out_at i (state_after o fs) ≡ is_some t
  own_out k t i same here within =
      out_at o fs new q after i ∙ ap (λ ts. is_some (get_or ts i None)) same
      ∙ ap (λ j. is_some (get_or (set (tickets_of old.core) k t) j None)) here ∙ ap is_some (get_or-set_same (tickets_of old.core) k t None within)

  pub and_out : (k t : ℕ) → tickets_of new.core ≡ set (tickets_of old.core) k (Some t) → k < length (tickets_of old.core) → (i : ℕ) → is_out_at i (state_after o fs) ≡ and_host k i (is_out_at i (state_after o es))
  and_out k t same within i = elim (eqb_tells i k) [
    | inl here ↦ own_out k (Some t) i same here.1 within ∙ sym (ap (λ b. b || is_out_at i (state_after o es)) here.0)
    | inr other ↦ other_out k (Some t) i same other.1 ∙ sym (ap (λ b. b || is_out_at i (state_after o es)) other.0)
  ]

  pub but_out : (k : ℕ) → tickets_of new.core ≡ set (tickets_of old.core) k None → k < length (tickets_of old.core) → (i : ℕ) → is_out_at i (state_after o fs) ≡ but_host k i (is_out_at i (state_after o es))
  but_out k same within i = elim (eqb_tells i k) [
    | inl here ↦ own_out k None i same here.1 within ∙ sym (ap (λ b. not b && is_out_at i (state_after o es)) here.0)
    | inr other ↦ other_out k None i same other.1 ∙ sym (ap (λ b. not b && is_out_at i (state_after o es)) other.0)
  ]

  -- where it had one before it is the same
  pub again_out : (k t u : ℕ) → tickets_of new.core ≡ set (tickets_of old.core) k (Some t) → get_or (tickets_of old.core) k None ≡ Some u → k < length (tickets_of old.core) → (i : ℕ) → is_out_at i (state_after o fs) ≡ is_out_at i (state_after o es)
  again_out k t u same had within i = elim (eqb_tells i k) [
    | inl here ↦ own_out k (Some t) i same here.1 within ∙ sym (out_at o es old p before i ∙ ap (λ j. is_some (get_or (tickets_of old.core) j None)) here.1 ∙ ap is_some had)
    | inr other ↦ other_out k (Some t) i same other.1
  ]
