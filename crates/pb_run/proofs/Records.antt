-- What the calls of a recorded machine do, by what they do to the machine.
use Rattle.std.proofs.Common.{◌≡◌, ◌<◌, ◌||◌, Result, Ok, Err, OnErr, ℕ, zero, suc, ◌+◌, List, [], ◌∷◌, ◌++◌, Vec, length, map, replicate, get_or, set, Bool, true, false, not, ◌&&◌, cond, Option, Some, None, slice_get, refl, sym, ap, ap₂, subst, ◌∙◌, arith}
use Rattle.std.specs.declared.alloc.Global.{Global}
use Rattle.std.proofs.lemmas.Bool.{eqb-true, eq-eqb}
use Rattle.std.proofs.lemmas.List.{append-nil, length-map}
use Rattle.pb_language.specs.Machine.{State, empty_recap, give, start, stop, turn}
use Rattle.pb_language.specs.Program.{Batch, Inventory}
use Rattle.pb_machine.specs.Run.{FlatState, current_steps, enabled, is_possible}
use Rattle.pb_machine.specs.Simulation.{state_of}
use Rattle.pb_machine.proofs.Machines.{same_run}
use Rattle.pb_history.specs.Happens.{turned}
use Rattle.pb_history.specs.Jobs.{handed_to, is_out_at, job_calls}
use Rattle.pb_slots.specs.Words.{names_of_slots}
use Rattle.pb_finish.specs.Answers.{answer_data}
use Rattle.pb_finish.specs.declared.answer.Answer.{Answer}
use Rattle.pb_start.specs.declared.passes.Pass.{Pass}
use Rattle.pb_core.specs.Cores.{tickets_of}
use Rattle.pb_core.specs.Events as ends
use Rattle.pb_core.specs.Events.{TellsEnd}
use Rattle.pb_core.specs.Readings.{Reading}
use Rattle.pb_core.specs.declared.run.RunCore.{RunCore}
use Rattle.pb_core.specs.Hosts.{recap_view}
use Rattle.pb_core.specs.declared.host.HostState.{HostState}
use Rattle.pb_core.proofs.Tickets.{tickets_count}
use Rattle.pb_jobs.proofs.Worlds.{hosts_many}
use Rattle.pb_jobs.specs.Machines.{BeginsAfter, CountsMore, CountsNone, GivesAs, GoesOnTo, IsMachine, IsSameBut, StopsAs, calls_after, kept_in, ticket_after}
use Rattle.pb_jobs.specs.Calls.{call_data}
use Rattle.pb_jobs.specs.declared.job.Call.{Call}
use Rattle.pb_jobs.specs.declared.job.Job.{Job}
use Rattle.pb_jobs.specs.declared.machine.Answered.{Answered}
use Rattle.pb_jobs.specs.declared.machine.Answered.TheVariants as answered
use Rattle.pb_jobs.specs.declared.machine.Machine.{Machine}
use Rattle.pb_run.specs.Calls.{AreOut, Gives, HandsOut, IsRefusedAs, IsTold, StaysRecorded, but_host, given_as, is_ticket, refusal_at, refusal_in, same_hosts}
use Rattle.pb_run.specs.Openings.{AreCounted, ArePlaces, Opening, flat_after, state_after}
use Rattle.pb_run.specs.Recorded.{IsRecorded, IsStopped, Stands, Stops, data_of, event_data, is_none, is_over, recaps_in}
use Rattle.pb_run.specs.Starts.{GoesOn, MayTurn, StartsJob, start_behind}
use Rattle.pb_run.specs.declared.event.Event.{Event}
use Rattle.pb_run.specs.declared.event.Event.TheVariants.{Start, Give, Turn, Stop}
use Rattle.pb_run.specs.declared.event.GiveFault.TheVariants as refusal
use Rattle.pb_run.specs.declared.recorded.RecordedMachine.{RecordedMachine}
use Rattle.pb_run.proofs.Events.{after_turns, behind, handed_turned}
use Rattle.pb_history.proofs.Histories.{inventory_is}
use Rattle.pb_run.proofs.Outs.{hosts_count, recap_is, recap_past}
use Rattle.pb_run.proofs.Stories.{again_out, and_out, but_out, given_count, given_within, goes_on, has_calls, has_count, has_given, has_repeated, has_started, has_stopped, has_turned, same_out, started_within, ticket_is}

-- events of the code, as the machine's
data_join : (es fs : List Event) → data_of (es ++ fs) ≡ data_of es ++ data_of fs
data_join [] fs = refl
data_join (e ∷ es) fs = ap (λ xs. event_data e ∷ xs) (data_join es fs)

data_turns : (n : ℕ) → data_of (replicate n Turn) ≡ replicate n turn
data_turns zero = refl
data_turns (suc n) = ap (λ xs. turn ∷ xs) (data_turns n)

data_behind : (es : List Event) (n : ℕ) (e : Event) → data_of (es ++ (replicate n Turn ++ e ∷ [])) ≡ data_of es ++ behind n (event_data e)
data_behind es n e =
    data_join es (replicate n Turn ++ e ∷ [])
    ∙ ap (λ xs. data_of es ++ xs) (data_join (replicate n Turn) (e ∷ []) ∙ ap (λ xs. xs ++ event_data e ∷ []) (data_turns n))

module _ (old new : RecordedMachine) where
  abbrev pub es : List Event
  es = old.history.items

  many : length (data_of es) ≡ length es
  many = length-map es event_data

  -- a host's task begins after so many Turns
  pub starts_job : (n k : ℕ) (j : Job) → old.is_stopped ≡ false → new.is_stopped ≡ false → new.history.items ≡ es ++ start_behind n k → j.host ≡ k → j.ticket ≡ length es + n
      → BeginsAfter n k j.calls.items old.machine new.machine → tickets_of new.machine.core ≡ set (tickets_of old.machine.core) k (Some j.ticket) → CountsMore k (length j.calls.items) old.machine new.machine
      → StartsJob n k j old new
  starts_job n k j going still history host ticket begins tickets counts = λ o never recorded on next.
      let ds = data_of es in
      let before = subst (Stands o ds old.machine) going recorded in
      let place : j.ticket ≡ length ds + n = ticket ∙ ap (λ m. m + n) (sym many) in
      let same : data_of new.history.items ≡ ds ++ behind n (start k) = ap data_of history ∙ data_behind es n (Start k) in
      let after = has_started o never ds old.machine new.machine n k j.ticket j.calls.items before on next begins tickets counts place in
      let within = started_within o never ds old.machine new.machine n k j.ticket j.calls.items before on next begins tickets counts place in
      let counted : k < length old.machine.calls.items = omega (arith, within, old.machine.each_place, old.machine.each_count) in
      let ticketed : k < length (tickets_of old.machine.core) = omega (arith, within, tickets_count old.machine.core) in
      let calls = has_calls o never ds old.machine new.machine n k j.ticket j.calls.items before on next begins tickets counts place counted in
      let count = has_count o never ds old.machine new.machine n k j.ticket j.calls.items before on next begins tickets counts place in
      record {
        host = host;
        history = history;
        handed = record {
          ticket = ticket;
          calls = calls ∙ rw (← same, ← host) refl;
          count = ap (λ xs. (state_after o xs).handed) same ∙ count;
        };
        out = λ i. ap (λ xs. is_out_at i (state_after o xs)) same ∙ and_out o ds (ds ++ behind n (start k)) old.machine new.machine false false before after k j.ticket tickets ticketed i;
        going = ap (λ xs. (state_after o xs).is_stopped) same ∙ goes_on o ds (ds ++ behind n (start k)) old.machine new.machine false false before after refl;
        recorded = rw (same, still) after;
        slots = ap names_of_slots counts.slots;
      }

  pub goes_on_at : (n : ℕ) → new.is_stopped ≡ old.is_stopped → new.history.items ≡ es ++ replicate n Turn → (o : Opening) (recorded : IsRecorded o old) → MayTurn n (flat_after o (data_of es))
      → IsMachine new.machine recorded.reading (turned n (flat_after o (data_of es))) → tickets_of new.machine.core ≡ tickets_of old.machine.core → new.machine.calls ≡ old.machine.calls → IsRecorded o new
  goes_on_at n still history o recorded on goes tickets calls =
      let ds = data_of es in
      let same : data_of new.history.items ≡ ds ++ replicate n turn = ap data_of history ∙ data_join es (replicate n Turn) ∙ ap (λ xs. ds ++ xs) (data_turns n) in
      rw (same, still) (has_turned o ds old.machine new.machine n old.is_stopped recorded on goes tickets calls)

  -- so many Turns happen
  pub goes_on_by : (n : ℕ) → new.is_stopped ≡ old.is_stopped → new.history.items ≡ es ++ replicate n Turn → GoesOnTo n old.machine new.machine
      → tickets_of new.machine.core ≡ tickets_of old.machine.core → CountsNone old.machine new.machine → GoesOn n old new
  goes_on_by n still history goes tickets counts = λ o recorded on.
      let ds = data_of es in
      let same : data_of new.history.items ≡ ds ++ replicate n turn = ap data_of history ∙ data_join es (replicate n Turn) ∙ ap (λ xs. ds ++ xs) (data_turns n) in
      let after = has_turned o ds old.machine new.machine n old.is_stopped recorded on (goes recorded.reading (flat_after o ds) recorded.machine) tickets counts.calls in
      record {
        history = history;
        stands = ap (state_after o) same ∙ same_run o.program o.inventory o.forks (ds ++ replicate n turn) ∙ ap state_of (after_turns o ds n);
        none = (
          ap (λ xs. (state_after o xs).handed) same ∙ handed_turned o ds n,
          λ i. ap (λ xs. is_out_at i (state_after o xs)) same ∙ same_out o ds (ds ++ replicate n turn) old.machine new.machine old.is_stopped old.is_stopped recorded after tickets i,
        );
        going = ap (λ xs. (state_after o xs).is_stopped) same ∙ goes_on o ds (ds ++ replicate n turn) old.machine new.machine old.is_stopped old.is_stopped recorded after refl;
        recorded = rw (same, still) after;
        slots = ap names_of_slots counts.slots;
      }

  -- the answers to a job are recorded
  pub gives_by : (k t : ℕ) (xs : Vec Answer Global) (a : Answered) (place : ℕ) → old.is_stopped ≡ false → new.is_stopped ≡ false → new.history.items ≡ es ++ Give k xs ∷ [] → place ≡ length es
      → is_ticket t (get_or (tickets_of old.machine.core) k None) ≡ true → GivesAs k (map answer_data xs.items) a old.machine new.machine
      → tickets_of new.machine.core ≡ set (tickets_of old.machine.core) k (ticket_after place a) → CountsMore k (calls_after a) old.machine new.machine
      → Gives k t xs (given_as a k place) old new
  gives_by k t xs a place going still history placed asked gives tickets counts = λ o never recorded.
      let ds = data_of es in
      let ys = map answer_data xs.items in
      let before = subst (Stands o ds old.machine) going recorded in
      let had = asked_is (get_or (tickets_of old.machine.core) k None) asked in
      let here : place ≡ length ds = placed ∙ sym many in
      let set_there : tickets_of new.machine.core ≡ set (tickets_of old.machine.core) k (ticket_after (length ds) a) = tickets ∙ ap (λ p. set (tickets_of old.machine.core) k (ticket_after p a)) here in
      let same : data_of new.history.items ≡ ds ++ behind 0 (give k ys) = ap data_of history ∙ data_join es (Give k xs ∷ []) in
      let after = has_given o never ds old.machine new.machine k t ys a before gives set_there counts had in
      let within = given_within o never ds old.machine new.machine k t ys a before gives set_there counts had in
      let counted : k < length old.machine.calls.items = omega (arith, within, old.machine.each_place, old.machine.each_count) in
      let ticketed : k < length (tickets_of old.machine.core) = omega (arith, within, tickets_count old.machine.core) in
      let more = ap (λ xs. (state_after o xs).handed) same ∙ given_count o never ds old.machine new.machine k t ys a before gives set_there counts had in
      let on = ap (λ xs. (state_after o xs).is_stopped) same ∙ goes_on o ds (ds ++ behind 0 (give k ys)) old.machine new.machine false false before after refl in
      record {
        given = record {
          out = not_refused o before had;
          events = history;
          told = told o a refl more
              (λ done i. ap (λ xs. is_out_at i (state_after o xs)) same
              ∙ but_out o ds (ds ++ behind 0 (give k ys)) old.machine new.machine false false before after k (set_there ∙ ap (λ b. set (tickets_of old.machine.core) k (ticket_after (length ds) b)) done) ticketed i)
              (λ cs again. (
                has_repeated o never ds old.machine new.machine k t ys a before gives set_there counts had cs again counted ∙ rw (← same) refl,
                λ i. ap (λ xs. is_out_at i (state_after o xs)) same
                    ∙ again_out o ds (ds ++ behind 0 (give k ys)) old.machine new.machine false false before after k (length ds) t (set_there ∙ ap (λ b. set (tickets_of old.machine.core) k (ticket_after (length ds) b)) again) had ticketed i,
              ));
          going = on;
        };
        recorded = rw (same, still) after;
        slots = ap names_of_slots counts.slots;
      } where
        asked_is : (o : Option ℕ) → is_ticket t o ≡ true → o ≡ Some t
        asked_is None e = cc
        asked_is (Some p) e = ap Some (eqb-true p t e)

        not_refused : (o : Opening) → Stands o (data_of es) old.machine false → get_or (tickets_of old.machine.core) k None ≡ Some t → refusal_at (state_after o (data_of es)) (data_of es) k t ≡ None
        not_refused o before had =
            let stopped : (state_after o (data_of es)).is_stopped ≡ false = ap (λ (s : State). s.is_stopped) (same_run o.program o.inventory o.forks (data_of es)) ∙ before.is_stopped in
            ap₂ (λ q p. cond q (Some refusal.Stopped) (cond (is_ticket t p) None (Some refusal.Stranger))) stopped (ticket_is o (data_of es) old.machine false before k ∙ had)
            ∙ ap (λ q. cond q None (Some refusal.Stranger)) (eq-eqb t t refl)

        told : (o : Opening) (b : Answered) → a ≡ b → HandsOut o es new.history.items (calls_after a) → (a ≡ answered.Done → AreOut o es new.history.items (but_host k))
            → ((cs : Vec Call Global) → a ≡ answered.Again cs → (map call_data cs.items ≡ job_calls k (handed_to k (state_after o []) (data_of es)) (state_after o (data_of new.history.items))) × AreOut o es new.history.items same_hosts)
            → IsTold o es new.history.items k (given_as b k place)
        told o answered.Done e more done again = (subst (λ b. HandsOut o es new.history.items (calls_after b)) e more, done e)
        told o (answered.Again cs) e more done again = (
          refl,
          record {
            ticket = placed;
            calls = (again cs e).0;
            count = subst (λ b. HandsOut o es new.history.items (calls_after b)) e more;
          },
          (again cs e).1,
        )

  -- a Stop happens
  pub stops_by : old.is_stopped ≡ false → new.is_stopped ≡ true → new.history.items ≡ es ++ Stop ∷ [] → StopsAs old.machine new.machine
      → tickets_of new.machine.core ≡ tickets_of old.machine.core → new.machine.calls ≡ old.machine.calls → (o : Opening) → IsRecorded o old → enabled (flat_after o (data_of es)) stop ≡ true → IsRecorded o new
  stops_by going still history stops tickets calls o recorded can =
      let ds = data_of es in
      let before = subst (Stands o ds old.machine) going recorded in
      let same : data_of new.history.items ≡ ds ++ stop ∷ [] = ap data_of history ∙ data_join es (Stop ∷ []) in
      rw (same, still) (has_stopped o ds old.machine new.machine before can stops tickets calls)

-- nothing has happened
pub on_err : {A E : Type 0} → (r : Result A E) (P : Type 0) → P → OnErr r P
on_err (Ok x) P p = tt
on_err (Err e) P p = p

still_machine : (old new : Machine) (reading : Reading (Vec Pass Global)) (s : FlatState) → IsSameBut old new → IsMachine old reading s → IsMachine new reading s
still_machine old new reading s same is = record {
  kept = rw (same.inventory, same.slots, same.constants, same.facts, same.core) is.kept;
  batch = same.batch reading s is;
}

pub stays_by : (old new : RecordedMachine) → new.history.items ≡ old.history.items → new.is_stopped ≡ old.is_stopped → IsSameBut old.machine new.machine → StaysRecorded old new
stays_by old new history still same = record {
  history = history;
  recorded = λ o recorded. rw (history, still) (record {
    reading = recorded.reading;
    machine = still_machine old.machine new.machine recorded.reading (flat_after o (data_of old.history.items)) same recorded.machine;
    enabled = recorded.enabled;
    is_stopped = recorded.is_stopped;
    tickets = subst (λ (c : RunCore (Vec Pass Global)). ArePlaces (tickets_of c) (data_of old.history.items)) (sym same.core) recorded.tickets;
    counts = subst (λ (cs : Vec ℕ Global). AreCounted cs.items o (data_of old.history.items)) (sym same.calls) recorded.counts;
  });
  slots = ap names_of_slots same.slots;
}

-- why answers are refused
module _ (m : RecordedMachine) (k t : ℕ) where
  refusal_by : (o : Opening) → IsRecorded o m → refusal_in o m.history.items k t
      ≡ cond m.is_stopped (Some refusal.Stopped) (cond (is_ticket t (get_or (tickets_of m.machine.core) k None)) None (Some refusal.Stranger))
  refusal_by o recorded =
      let ds = data_of m.history.items in
      ap₂ (λ q p. cond q (Some refusal.Stopped) (cond (is_ticket t p) None (Some refusal.Stranger)))
      (ap (λ (s : State). s.is_stopped) (same_run o.program o.inventory o.forks ds) ∙ recorded.is_stopped)
      (ticket_is o ds m.machine m.is_stopped recorded k)

  pub refused_stopped : m.is_stopped ≡ true → IsRefusedAs (Some refusal.Stopped) k t m
  refused_stopped e = λ o recorded.
      refusal_by o recorded ∙ ap (λ q. cond q (Some refusal.Stopped) (cond (is_ticket t (get_or (tickets_of m.machine.core) k None)) None (Some refusal.Stranger))) e

  pub refused_stranger : m.is_stopped ≡ false → is_ticket t (get_or (tickets_of m.machine.core) k None) ≡ false → IsRefusedAs (Some refusal.Stranger) k t m
  refused_stranger e f = λ o recorded. refusal_by o recorded ∙ ap₂ (λ q p. cond q (Some refusal.Stopped) (cond p None (Some refusal.Stranger))) e f

  pub refused_none : m.is_stopped ≡ false → is_ticket t (get_or (tickets_of m.machine.core) k None) ≡ true → IsRefusedAs None k t m
  refused_none e f = λ o recorded. refusal_by o recorded ∙ ap₂ (λ q p. cond q (Some refusal.Stopped) (cond p None (Some refusal.Stranger))) e f

-- where nothing can happen any more no Stop is recorded
over_is : (o : Opening) (m : RecordedMachine) → IsRecorded o m → is_over (state_after o (data_of m.history.items)) ≡ m.is_stopped || is_none (flat_after o (data_of m.history.items)).batches
over_is o m recorded =
    let ds = data_of m.history.items in
    ap is_over (same_run o.program o.inventory o.forks ds) ∙ ap (λ q. q || is_none (flat_after o ds).batches) recorded.is_stopped

pub stays_over : (m : RecordedMachine) (o : Opening) → IsRecorded o m → m.is_stopped || is_none (flat_after o (data_of m.history.items)).batches ≡ true → IsStopped o m m
stays_over m o recorded over = record {
  history = sym (append-nil m.history.items) ∙ ap (λ q. m.history.items ++ cond q [] (Stop ∷ [])) (sym (over_is o m recorded ∙ over));
  recorded = recorded;
  slots = refl;
}

or_right : (a b : Bool) → b ≡ true → a || b ≡ true
or_right true b e = refl
or_right false b e = e

or_left : (a b : Bool) → a ≡ true → a || b ≡ true
or_left true b e = refl
or_left false b e = cc

ended_none : (bs : List Batch) → ends.is_over bs ≡ is_none bs
ended_none [] = refl
ended_none (b ∷ bs) = refl

pub stays_stopped : (m : RecordedMachine) → m.is_stopped ≡ true → Stops m m
stays_stopped m e = λ o recorded. stays_over m o recorded (or_left m.is_stopped (is_none (flat_after o (data_of m.history.items)).batches) e)

pub stays_ended : (m : RecordedMachine) (q : Bool) → TellsEnd m.machine.core q → q ≡ true → Stops m m
stays_ended m q tells e = λ o recorded.
    let s = flat_after o (data_of m.history.items) in
    stays_over m o recorded (or_right m.is_stopped (is_none s.batches) (sym (ended_none s.batches) ∙ sym (tells recorded.reading s recorded.machine.kept.core) ∙ e))

-- and else one is
pub stops_now : (old new : RecordedMachine) (q : Bool) → old.is_stopped ≡ false → new.is_stopped ≡ true → new.history.items ≡ old.history.items ++ Stop ∷ [] → TellsEnd old.machine.core q → q ≡ false
    → StopsAs old.machine new.machine → tickets_of new.machine.core ≡ tickets_of old.machine.core → CountsNone old.machine new.machine → Stops old new
stops_now old new q going still history tells e stops tickets counts = λ o recorded.
    let s = flat_after o (data_of old.history.items) in
    let left : is_none s.batches ≡ false = sym (ended_none s.batches) ∙ sym (tells recorded.reading s recorded.machine.kept.core) ∙ e in
    let over : is_over (state_after o (data_of old.history.items)) ≡ false = over_is o old recorded ∙ ap₂ (λ a b. a || b) going left in
    record {
      history = history ∙ ap (λ b. old.history.items ++ cond b [] (Stop ∷ [])) (sym over);
      slots = ap names_of_slots counts.slots;
      recorded = stops_by old new going still history stops tickets counts.calls o recorded (ap (λ b. not b && is_possible s s.batches stop) (recorded.is_stopped ∙ going) ∙ possible s s.batches left);
    } where
      possible : (s : FlatState) (bs : List Batch) → is_none bs ≡ false → is_possible s bs stop ≡ true
      possible s [] f = cc
      possible s (b ∷ bs) f = refl

-- the hosts, and what their tasks came to
pub counts_hosts : (m : RecordedMachine) (o : Opening) → IsRecorded o m → (length m.machine.core.hosts.items ≡ length (state_after o (data_of m.history.items)).hosts) × (length m.machine.core.hosts.items ≡ length o.inventory.hosts)
counts_hosts m o recorded =
    let ds = data_of m.history.items in
    let s = flat_after o ds in
    let kept = recorded.machine.kept in (
      sym (ap (λ (x : State). length x.hosts) (same_run o.program o.inventory o.forks ds) ∙ hosts_count (current_steps s.batches) s.hosts
          ∙ hosts_many (kept_in m.machine) recorded.reading s kept ∙ sym kept.count),
      kept.count ∙ ap (λ (i : Inventory). length i.hosts) (sym kept.inventory ∙ inventory_is o.program o.inventory o.forks ds),
    )

pub recap_here : (m : RecordedMachine) (o : Opening) → IsRecorded o m → (k : ℕ) (x : HostState (Vec Pass Global)) → slice_get m.machine.core.hosts.items k ≡ Some x
    → recap_view x.recap ≡ get_or (recaps_in (state_after o (data_of m.history.items))) k empty_recap
recap_here m o recorded k x e =
    let ds = data_of m.history.items in
    recap_is recorded.reading m.machine.core (flat_after o ds) recorded.machine.kept.core k x e
    ∙ ap (λ (s : State). get_or (recaps_in s) k empty_recap) (sym (same_run o.program o.inventory o.forks ds))

pub recap_none : (m : RecordedMachine) (o : Opening) → IsRecorded o m → (k : ℕ) → slice_get m.machine.core.hosts.items k ≡ None
    → empty_recap ≡ get_or (recaps_in (state_after o (data_of m.history.items))) k empty_recap
recap_none m o recorded k e =
    let ds = data_of m.history.items in
    recap_past recorded.reading m.machine.core (flat_after o ds) recorded.machine.kept.core k e
    ∙ ap (λ (s : State). get_or (recaps_in s) k empty_recap) (sym (same_run o.program o.inventory o.forks ds))
