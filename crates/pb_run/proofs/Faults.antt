-- What a fault of the machine says of a run that it is the state of.
use Rattle.std.proofs.Common.{◌≡◌, ◌<◌, ◌≤◌, ◌^◌, ℕ, zero, suc, List, [], ◌∷◌, ◌++◌, Vec, length, map, get_or, Bool, true, false, Option, Some, None, IfSome, slice_get, inl, inr, refl, sym, ap, subst, ◌∙◌, arith}
use Rattle.std.specs.List.{All}
use Rattle.std.specs.declared.alloc.Global.{Global}
use Rattle.std.proofs.lemmas.Bool.{cases_lt}
use Rattle.std.proofs.lemmas.List.{length-map}
use Rattle.std.proofs.lemmas.List.Elements.{All-cons, All-nil}
use Rattle.pb_semantics.proofs.Bools.{untrue}
use Rattle.pb_language.specs.Give as language
use Rattle.pb_language.specs.Machine as machine
use Rattle.pb_language.specs.Machine.{State, give, start, turn}
use Rattle.pb_machine.specs.Hosts.{FlatHost, FlatStage, stands, works}
use Rattle.pb_machine.specs.Run.{FlatState, host_at, step}
use Rattle.pb_history.specs.Happens.{MayStart, Works, turned}
use Rattle.pb_history.proofs.Starts.{next_may_start}
use Rattle.pb_finish.specs.Answers.{answer_data}
use Rattle.pb_finish.specs.declared.answer.Answer.{Answer}
use Rattle.pb_start.specs.declared.passes.Pass.{Pass}
use Rattle.pb_core.specs.Cores.{IsCore, counts_at, job_at, job_in, counts_in, size_of, tickets_of}
use Rattle.pb_core.specs.Events.{CanStart, CanTurn, IsDisabled, IsNext}
use Rattle.pb_core.specs.Hosts.{IsHostAt, IsStage, counts_of, job_of, recap_view}
use Rattle.pb_core.specs.Readings.{Reading}
use Rattle.pb_core.specs.declared.fault.CoreFault.{CoreFault}
use Rattle.pb_core.specs.declared.fault.CoreFault.TheVariants.{Full, Memory, NotThere}
use Rattle.pb_core.specs.declared.host.HostState.{HostState}
use Rattle.pb_core.specs.declared.host.Stage.{Stage}
use Rattle.pb_core.specs.declared.host.Stage.TheVariants.{Runs, Waits}
use Rattle.pb_core.specs.declared.recap.Recap.{Recap}
use Rattle.pb_core.specs.declared.run.RunCore.{RunCore}
use Rattle.pb_jobs.specs.Faults.{BeginsPast, CannotBegin, CannotGive, GivesPast, HasRoom}
use Rattle.pb_jobs.specs.Machines.{GoesOnTo, IsMachine}
use Rattle.pb_jobs.specs.declared.machine.Machine.{Machine}
use Rattle.pb_run.specs.Calls.{is_ticket}
use Rattle.pb_run.specs.Faults.{Faults, IsPast}
use Rattle.pb_run.specs.Openings.{AreCounted, IsNeverStuck, Opening, flat_after}
use Rattle.pb_run.specs.Recorded.{IsRecorded, data_of, event_data}
use Rattle.pb_run.specs.declared.recorded.RecordedMachine.{RecordedMachine}
use Rattle.pb_run.proofs.Counts.{AreFewCounts, IsFew, attempts_of, few_after, few_at, handed_few}
use Rattle.pb_run.proofs.Events.{after_behind, behind, fine_after, handed_same, turned_handed}
use Rattle.pb_run.proofs.Jobs.{may_start}
use Rattle.pb_run.proofs.Outs.{works_out}

-- no more calls were handed out to a host than in the run
none_past : (xs : List ℕ) (k : ℕ) → length xs ≤ k → get_or xs k 0 ≡ 0
none_past [] k l = refl
none_past (x ∷ xs) zero l = absurd (omega (arith, l))
none_past (x ∷ xs) (suc k) l = none_past xs k (omega (arith, l))

counted_few : (o : Opening) (es : List machine.Event) (cs : List ℕ) (k : ℕ) → AreCounted cs o es → get_or cs k 0 ≤ (flat_after o es).handed
counted_few o es cs k are = elim (cases_lt k (length cs)) [
  | inl l ↦ let few = handed_few k o.program o.inventory o.forks es in omega (arith, few, are k l)
  | inr l ↦ omega (arith, none_past cs k l)
]

-- by these events more are handed out than there is room for
past : (o : Opening) (es : List machine.Event) → 2 ^ 64 ≤ (flat_after o es).handed → IsPast o
past o es more = (es, omega (arith, more, handed_same o es))

-- ---- a Start after so many Turns, which may happen

module _ (old : RecordedMachine) (now : Machine) (n k : ℕ) (goes : GoesOnTo n old.machine now) (calls : now.calls ≡ old.machine.calls) (can : CanStart k now.core true) where
  module _ (o : Opening) (recorded : IsRecorded o old) where
    abbrev before : FlatState
    before = turned n (flat_after o (data_of old.history.items))

    there : IsMachine now recorded.reading before
    there = goes recorded.reading (flat_after o (data_of old.history.items)) recorded.machine

    may : MayStart before k
    may = may_start before k (sym (can recorded.reading before there.kept.core))

    abbrev after : List machine.Event
    after = data_of old.history.items ++ behind n (start k)

    began : flat_after o after ≡ step before (start k)
    began = after_behind o (data_of old.history.items) n (start k)

    counted : get_or now.calls.items k 0 ≤ before.handed
    counted =
        let few = counted_few o (data_of old.history.items) old.machine.calls.items k recorded.counts in
        let same : get_or now.calls.items k 0 ≡ get_or old.machine.calls.items k 0 = ap (λ (v : Vec ℕ Global). get_or v.items k 0) calls in
        let still = turned_handed n (flat_after o (data_of old.history.items)) in
        omega (arith, few, same, still)

  pub begin_faults : (e : CoreFault) → (e ≡ NotThere → CannotBegin k now) → (e ≡ Full → BeginsPast k now) → Faults e old
  begin_faults (Memory m) none full = tt
  begin_faults NotThere none full = λ o never slotted recorded. none refl recorded.reading (before o recorded) (there o recorded) (may o recorded)
  begin_faults Full none full = λ o never slotted recorded.
      let fine : (step (before o recorded) (start k)).is_stuck ≡ false = sym (ap (λ (s : FlatState). s.is_stuck) (began o recorded)) ∙ fine_after o never (after o recorded) in
      let more = full refl recorded.reading (before o recorded) (there o recorded) (may o recorded) fine (counted o recorded) in
      past o (after o recorded) (subst (λ (s : FlatState). 2 ^ 64 ≤ s.handed) (sym (began o recorded)) more)

-- the host that starts next may
pub next_can : (c : RunCore (Vec Pass Global)) (k : ℕ) → IsNext c (Some k) → CanStart k c true
next_can c k next = λ reading s is. sym (next_may_start s k (sym (next reading s is))).enabled

-- and one of which that was told
pub starts_when : (c : RunCore (Vec Pass Global)) (k : ℕ) (q : Bool) → CanStart k c q → q ≡ true → CanStart k c true
starts_when c k q can e = λ reading s is. sym e ∙ can reading s is

-- ---- Turns that are due

pub turns_when : (c : RunCore (Vec Pass Global)) (q : Bool) → CanTurn c q → q ≡ true → CanTurn c true
turns_when c q can e = λ reading s is. sym e ∙ can reading s is

pub turn_faults : (m : RecordedMachine) (e : CoreFault) → CanTurn m.machine.core true → (e ≡ NotThere → IsDisabled turn m.machine.core) → (e ≡ Full → ⊥) → Faults e m
turn_faults m (Memory x) can none full = tt
turn_faults m NotThere can none full = λ o never slotted recorded.
    let s = flat_after o (data_of m.history.items) in
    untrue (sym (none refl recorded.reading s recorded.machine.kept.core) ∙ sym (can recorded.reading s recorded.machine.kept.core))
turn_faults m Full can none full = absurd (full refl)

-- ---- a Give to a job that is out

-- a count that has room for one more
abbrev HasPlace : ℕ → Type 0
HasPlace m = suc m < 2 ^ 64

module _ (reading : Reading (Vec Pass Global)) (c : RunCore (Vec Pass Global)) (s : FlatState) (core : IsCore reading c s) (n k : ℕ) (few : suc n < 2 ^ 64) (hosts : (h : FlatHost) → host_at k s.hosts ≡ Some h → IsFew n h) where
  attempts_at : (x : Stage (Vec Pass Global)) (g : FlatStage) → IsStage reading x g → attempts_of g ≤ n → IfSome (job_of x) (λ j. suc j.0 < 2 ^ 64)
  attempts_at Waits g is l = tt
  attempts_at (Runs t i cs ps) (stands p) is l = absurd is
  attempts_at (Runs t i cs ps) (works m j qs) is l = omega (arith, is.0, l, few)

  room_for : (m : ℕ) → m ≤ n → HasPlace m
  room_for m l = omega (arith, few, l)

  counts_there : (r : Recap) (v : machine.Recap) → v ≡ recap_view r → AreFewCounts n v → All HasPlace (counts_of r)
  counts_there r v e are =
      let l = subst (AreFewCounts n) e are in
      let ignored = All-cons HasPlace r.ignored [] (room_for r.ignored l.ignored) (All-nil HasPlace) in
      let rescued = All-cons HasPlace r.rescued (r.ignored ∷ []) (room_for r.rescued l.rescued) ignored in
      let skipped = All-cons HasPlace r.skipped (r.rescued ∷ r.ignored ∷ []) (room_for r.skipped l.skipped) rescued in
      let failed = All-cons HasPlace r.failed (r.skipped ∷ r.rescued ∷ r.ignored ∷ []) (room_for r.failed l.failed) skipped in
      let unreachable = All-cons HasPlace r.unreachable (r.failed ∷ r.skipped ∷ r.rescued ∷ r.ignored ∷ []) (room_for r.unreachable l.unreachable) failed in
      let changed = All-cons HasPlace r.changed (r.unreachable ∷ r.failed ∷ r.skipped ∷ r.rescued ∷ r.ignored ∷ []) (room_for r.changed l.changed) unreachable in
      All-cons HasPlace r.ok (r.changed ∷ r.unreachable ∷ r.failed ∷ r.skipped ∷ r.rescued ∷ r.ignored ∷ []) (room_for r.ok l.ok) changed

  attempts_of_host : (x : Option (HostState (Vec Pass Global))) (p : Option FlatHost) → host_at k s.hosts ≡ p → IsHostAt reading (size_of s.batches) k x p → IfSome (job_in x) (λ j. suc j.0 < 2 ^ 64)
  attempts_of_host None p e is = tt
  attempts_of_host (Some x) None e is = absurd is
  attempts_of_host (Some x) (Some h) e is = attempts_at x.stage h.stage is.stage (hosts h e).attempts

  counts_of_host : (x : Option (HostState (Vec Pass Global))) (p : Option FlatHost) → host_at k s.hosts ≡ p → IsHostAt reading (size_of s.batches) k x p → All HasPlace (counts_in x)
  counts_of_host None p e is = All-nil HasPlace
  counts_of_host (Some x) None e is = absurd is
  counts_of_host (Some x) (Some h) e is = counts_there x.recap h.recap is.recap (hosts h e).recap

  attempts_few : IfSome (job_at c k) (λ j. suc j.0 < 2 ^ 64)
  attempts_few = attempts_of_host (slice_get c.hosts.items k) (host_at k s.hosts) refl (core.hosts k)

  counts_few : All HasPlace (counts_at c k)
  counts_few = counts_of_host (slice_get c.hosts.items k) (host_at k s.hosts) refl (core.hosts k)

has_room : (m : RecordedMachine) (o : Opening) → IsRecorded o m → (k : ℕ) → HasRoom k m.machine (flat_after o (data_of m.history.items))
has_room m o recorded k =
    let ds = data_of m.history.items in
    let s = flat_after o ds in
    let small : suc (length ds) < 2 ^ 64 = omega (arith, length-map m.history.items event_data, m.history.ok, m.history.small) in
    let few = few_after o.program o.inventory o.forks ds in
    let hosts : (h : FlatHost) → host_at k s.hosts ≡ Some h → IsFew (length ds) h = λ h e. few_at (length ds) k h s.hosts few e in
    record {
      calls = counted_few o ds m.machine.calls.items k recorded.counts;
      attempts = attempts_few recorded.reading m.machine.core s recorded.machine.kept.core (length ds) k small hosts;
      counts = counts_few recorded.reading m.machine.core s recorded.machine.kept.core (length ds) k small hosts;
    }

ticket_there : (o : Option ℕ) (t : ℕ) → is_ticket t o ≡ true → (p : ℕ) × (o ≡ Some p)
ticket_there None t e = cc
ticket_there (Some p) t e = (p, refl)

module _ (m : RecordedMachine) (k t : ℕ) (xs : List Answer) (going : m.is_stopped ≡ false) (out : is_ticket t (get_or (tickets_of m.machine.core) k None) ≡ true) where
  abbrev ys : List language.Answer
  ys = map answer_data xs

  module _ (o : Opening) (recorded : IsRecorded o m) where
    abbrev now : FlatState
    now = flat_after o (data_of m.history.items)

    works_now : Works now k
    works_now =
        let had = ticket_there (get_or (tickets_of m.machine.core) k None) t out in
        works_out recorded.reading m.machine.core now recorded.machine.kept.core k had.0 (recorded.is_stopped ∙ going) had.1

    given : flat_after o (data_of m.history.items ++ behind 0 (give k ys)) ≡ step now (give k ys)
    given = after_behind o (data_of m.history.items) 0 (give k ys)

    fine : IsNeverStuck o → (step now (give k ys)).is_stuck ≡ false
    fine never = sym (ap (λ (s : FlatState). s.is_stuck) given) ∙ fine_after o never (data_of m.history.items ++ behind 0 (give k ys))

  pub give_faults : (e : CoreFault) → (e ≡ NotThere → CannotGive k ys m.machine) → (e ≡ Full → GivesPast k ys m.machine) → Faults e m
  give_faults (Memory x) none full = tt
  give_faults NotThere none full = λ o never slotted recorded.
      let w = works_now o recorded in
      none refl recorded.reading (now o recorded) recorded.machine w (fine o recorded never) (slotted (data_of m.history.items) k w ys)
  give_faults Full none full = λ o never slotted recorded.
      let more = full refl recorded.reading (now o recorded) recorded.machine (works_now o recorded) (fine o recorded never) (has_room m o recorded k) in
      past o (data_of m.history.items ++ behind 0 (give k ys)) (subst (λ (s : FlatState). 2 ^ 64 ≤ s.handed) (sym (given o recorded)) more)
