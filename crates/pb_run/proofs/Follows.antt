-- Events that happen again, where they can; and when memory is wanted.
use Rattle.std.proofs.Common.{◌≡◌, ◌<◌, ℕ, zero, suc, List, [], ◌∷◌, ◌++◌, Vec, length, map, get_or, Bool, true, false, not, ◌&&◌, ◌||◌, cond, Option, Some, None, is_some, refl, sym, ap, subst, ◌∙◌, arith}
use Rattle.std.specs.declared.alloc.Global.{Global}
use Rattle.std.proofs.lemmas.Bool.{lt-ltb}
use Rattle.std.proofs.lemmas.List.{append-nil, map-append}
use Rattle.pb_semantics.proofs.Bools.{and-right}
use Rattle.pb_language.specs.Drive as drive
use Rattle.pb_language.specs.Drive.{Starting}
use Rattle.pb_language.specs.Give as language
use Rattle.pb_language.specs.Machine as machine
use Rattle.pb_language.specs.Machine.{Host, State, give, of_host, start, stop, turn}
use Rattle.pb_language.specs.Program.{Batch}
use Rattle.pb_machine.specs.Run.{FlatState, enabled, is_possible, next_start}
use Rattle.pb_machine.specs.Simulation.{state_of}
use Rattle.pb_machine.proofs.Machines.{same_enabled, same_run}
use Rattle.pb_history.specs.Jobs.{is_out_at}
use Rattle.pb_history.specs.Turns as tree
use Rattle.pb_history.specs.Turns.{next_of, start_or, stopped, turns_due, turns_for}
use Rattle.pb_slots.specs.Words.{names_of_slots}
use Rattle.pb_finish.specs.Answers.{answer_data}
use Rattle.pb_finish.specs.declared.answer.Answer.{Answer}
use Rattle.pb_core.specs.Activities.{number_of}
use Rattle.pb_core.specs.Cores.{tickets_of}
use Rattle.pb_core.specs.Events.{CanStart, CanTurn, IsNext}
use Rattle.pb_jobs.specs.Machines.{CountsNone, TurnsAs}
use Rattle.pb_jobs.specs.declared.job.Job.{Job}
use Rattle.pb_run.specs.Calls.{Gives, StaysRecorded, TakesSome, records_some}
use Rattle.pb_run.specs.Follows.{EventView, Follows, HasFollowed, event_view}
use Rattle.pb_run.specs.Openings.{Opening, flat_after, state_after}
use Rattle.pb_run.specs.Recorded.{IsRecorded, Stops, data_of, is_none, slot_names, stop_events}
use Rattle.pb_run.specs.Starts.{MayTurn, StartsJob}
use Rattle.pb_run.specs.declared.event.Event.{Event}
use Rattle.pb_run.specs.declared.event.Event.TheVariants.{Start, Give, Turn, Stop}
use Rattle.pb_run.specs.declared.event.Given.{Given}
use Rattle.pb_run.specs.declared.recorded.RecordedMachine.{RecordedMachine}
use Rattle.pb_run.proofs.Jobs.{may_give, next_starts}
use Rattle.pb_run.proofs.Outs.{works_out}
use Rattle.pb_run.proofs.Records.{goes_on_at}
use Rattle.pb_run.proofs.Stories.{out_at}

pub stays_same : (m : RecordedMachine) → StaysRecorded m m
stays_same m = record { history = refl; recorded = λ o recorded. recorded; slots = refl }

no_and : (q : Bool) → q && false ≡ false
no_and true = refl
no_and false = refl

-- where the run stands
module _ (o : Opening) (m : RecordedMachine) where
  abbrev pub flat_now : FlatState
  flat_now = flat_after o (data_of m.history.items)

  abbrev pub now : State
  now = state_after o (data_of m.history.items)

  same_now : now ≡ state_of flat_now
  same_now = same_run o.program o.inventory o.forks (data_of m.history.items)

  enabled_now : (e : machine.Event) → machine.enabled now e ≡ enabled flat_now e
  enabled_now e = ap (λ s. machine.enabled s e) same_now ∙ same_enabled flat_now e

  stopped_off : (e : machine.Event) → IsRecorded o m → m.is_stopped ≡ true → enabled flat_now e ≡ false
  stopped_off e recorded still = ap (λ q. not q && is_possible flat_now flat_now.batches e) (recorded.is_stopped ∙ still)

module _ (old new : RecordedMachine) (v : EventView) where
  -- nothing happens where the event can't
  follows_off : (o : Opening) → IsRecorded o old → enabled (flat_now o old) v.0 ≡ false → StaysRecorded old new → HasFollowed o v old new
  follows_off o recorded off stays = record {
    events = ap (map event_view) stays.history ∙ sym (append-nil (map event_view old.history.items))
        ∙ ap (λ q. map event_view old.history.items ++ cond q (v ∷ []) []) (sym (enabled_now o old v.0 ∙ off));
    recorded = stays.recorded o recorded;
    slots = stays.slots;
  }

  -- and else the event does
  follows_on : (o : Opening) (e : Event) → enabled (flat_now o old) v.0 ≡ true → new.history.items ≡ old.history.items ++ e ∷ [] → event_view e ≡ v → IsRecorded o new → slot_names new ≡ slot_names old → HasFollowed o v old new
  follows_on o e on history same recorded slots = record {
    events = ap (map event_view) history ∙ map-append event_view old.history.items (e ∷ []) ∙ ap (λ w. map event_view old.history.items ++ w ∷ []) same
        ∙ ap (λ q. map event_view old.history.items ++ cond q (v ∷ []) []) (sym (enabled_now o old v.0 ∙ on));
    recorded = recorded;
    slots = slots;
  }

-- a run that was stopped
pub follows_stopped : (m : RecordedMachine) (v : EventView) → m.is_stopped ≡ true → Follows v m m
follows_stopped m v still = λ o never recorded. follows_off m m v o recorded (stopped_off o m v.0 recorded still) (stays_same m)

-- a Start
pub follows_no_start : (m : RecordedMachine) (k : ℕ) (q : Bool) → CanStart k m.machine.core q → q ≡ false → Follows (start k, []) m m
follows_no_start m k q can off = λ o never recorded.
    follows_off m m (start k, []) o recorded (sym (can recorded.reading (flat_now o m) recorded.machine.kept.core) ∙ off) (stays_same m)

pub follows_start : (old new : RecordedMachine) (k : ℕ) (q : Bool) (j : Job) → CanStart k old.machine.core q → q ≡ true → StartsJob 0 k j old new → Follows (start k, []) old new
follows_start old new k q j can on starts = λ o never recorded.
    let may : enabled (flat_now o old) (start k) ≡ true = sym (can recorded.reading (flat_now o old) recorded.machine.kept.core) ∙ on in
    let started = starts o never recorded (λ i l. absurd (omega (arith, l))) may in
    follows_on old new (start k, []) o (Start k) may started.history refl started.recorded started.slots

-- a Give
no_job : (k : ℕ) (ys : List language.Answer) (s : State) → is_out_at k s ≡ false → (bs : List Batch) → machine.is_possible s bs (give k ys) ≡ false
no_job k ys s none [] = refl
no_job k ys s none (b ∷ bs) = none

pub follows_no_give : (m : RecordedMachine) (k : ℕ) (v : EventView) (ys : List language.Answer) → v.0 ≡ give k ys → None ≡ get_or (tickets_of m.machine.core) k None → Follows v m m
follows_no_give m k v ys is none = λ o never recorded.
    let out : is_out_at k (now o m) ≡ false = out_at o (data_of m.history.items) m.machine m.is_stopped recorded k ∙ ap is_some (sym none) in
    let off : machine.enabled (now o m) (give k ys) ≡ false = ap (λ q. not (now o m).is_stopped && q) (no_job k ys (now o m) out (now o m).batches) ∙ no_and (not (now o m).is_stopped) in
    follows_off m m v o recorded (ap (enabled (flat_now o m)) is ∙ sym (enabled_now o m (give k ys)) ∙ off) (stays_same m)

pub follows_give : (old new : RecordedMachine) (k t : ℕ) (xs : Vec Answer Global) (v : EventView) (g : Given) → event_view (Give k xs) ≡ v → old.is_stopped ≡ false → Some t ≡ get_or (tickets_of old.machine.core) k None → Gives k t xs g old new → Follows v old new
follows_give old new k t xs v g is going out gives = λ o never recorded.
    let given = gives o never recorded in
    let ys = map answer_data xs.items in
    let works = works_out recorded.reading old.machine.core (flat_now o old) recorded.machine.kept.core k t (recorded.is_stopped ∙ going) (sym out) in
    let on : enabled (flat_now o old) (give k ys) ≡ true = may_give (flat_now o old) k works ys in
    follows_on old new v o (Give k xs) (ap (λ w. enabled (flat_now o old) w.0) (sym is) ∙ on) given.given.events is given.recorded given.slots

-- a Turn
pub follows_no_turn : (m : RecordedMachine) (q : Bool) → CanTurn m.machine.core q → q ≡ false → Follows (turn, []) m m
follows_no_turn m q can off = λ o never recorded.
    follows_off m m (turn, []) o recorded (sym (can recorded.reading (flat_now o m) recorded.machine.kept.core) ∙ off) (stays_same m)

one_turn : (s : FlatState) → enabled s turn ≡ true → MayTurn 1 s
one_turn s on zero l = on
one_turn s on (suc i) l = absurd (omega (arith, l))

pub follows_turn : (old new : RecordedMachine) (q : Bool) → CanTurn old.machine.core q → q ≡ true → new.is_stopped ≡ old.is_stopped → new.history.items ≡ old.history.items ++ Turn ∷ [] → TurnsAs old.machine new.machine
    → tickets_of new.machine.core ≡ tickets_of old.machine.core → CountsNone old.machine new.machine → Follows (turn, []) old new
follows_turn old new q can may still history turns tickets counts = λ o never recorded.
    let s = flat_now o old in
    let on : enabled s turn ≡ true = sym (can recorded.reading s recorded.machine.kept.core) ∙ may in
    follows_on old new (turn, []) o Turn on history refl (goes_on_at old new 1 still history o recorded (one_turn s on) (turns recorded.reading s recorded.machine on) tickets counts.calls)
    (ap names_of_slots counts.slots)

-- a Stop
stop_view : (q : Bool) (s : State) (bs : List Batch) → map event_view (cond (q || is_none bs) [] (Stop ∷ [])) ≡ cond (not q && machine.is_possible s bs stop) ((stop, []) ∷ []) []
stop_view true s bs = refl
stop_view false s [] = refl
stop_view false s (b ∷ bs) = refl

pub follows_stop : (old new : RecordedMachine) → Stops old new → Follows (stop, []) old new
follows_stop old new stops = λ o never recorded.
    let stopped = stops o recorded in
    let s = now o old in record {
      events = ap (map event_view) stopped.history ∙ map-append event_view old.history.items (stop_events s)
          ∙ ap (λ vs. map event_view old.history.items ++ vs) (stop_view s.is_stopped s s.batches);
      recorded = stopped.recorded;
      slots = stopped.slots;
    }

-- memory is wanted where a Turn is due
due_some : (s : State) → machine.enabled s turn ≡ true → (n : ℕ) → 0 < n → 0 < turns_for n s
due_some s on zero l = absurd (omega (arith, l))
due_some s on (suc n) l = subst (λ q. 0 < cond q (suc (turns_for n (machine.step s turn))) 0) (sym on) (omega arith)

batch_there : (s : State) (bs : List Batch) → machine.is_possible s bs turn ≡ true → 0 < length bs
batch_there s [] e = cc
batch_there s (b ∷ bs) e = omega arith

records_due : (o : Option Starting) (bs : List Batch) (n : ℕ) → 0 < n → records_some (start_or o bs) n ≡ true
records_due (Some x) bs n l = refl
records_due None [] n l = lt-ltb 0 n l
records_due None (b ∷ bs) n l = lt-ltb 0 n l

pub wants_turn : (m : RecordedMachine) (q : Bool) → m.is_stopped ≡ false → CanTurn m.machine.core q → q ≡ true → TakesSome m
wants_turn m q going can may = λ o recorded.
    let s = now o m in
    let on : machine.enabled s turn ≡ true = enabled_now o m turn ∙ sym (can recorded.reading (flat_now o m) recorded.machine.kept.core) ∙ may in
    let some : 0 < turns_due s = due_some s on (length s.batches) (batch_there s s.batches (and-right (not s.is_stopped) (machine.is_possible s s.batches turn) on)) in
    let still : s.is_stopped ≡ false = ap (λ (x : State). x.is_stopped) (same_now o m) ∙ recorded.is_stopped ∙ going in
    let after = tree.turned s in
    ap (λ b. records_some (cond b stopped (start_or (drive.next_start after) after.batches)) (turns_due s)) still ∙ records_due (drive.next_start after) after.batches (turns_due s) some

-- or where a host starts
pub wants_start : (m : RecordedMachine) (k : ℕ) (q : Bool) → m.is_stopped ≡ false → CanTurn m.machine.core q → q ≡ false → IsNext m.machine.core (Some k) → TakesSome m
wants_start m k q going can off next = λ o recorded.
    let s = flat_now o m in
    let last : enabled s turn ≡ false = sym (can recorded.reading s recorded.machine.kept.core) ∙ off in
    let number : number_of (next_start s) ≡ Some k = sym (next recorded.reading s recorded.machine.kept.core) in
    ap (λ n. records_some n (turns_due (now o m))) (ap next_of (same_now o m) ∙ next_starts s 0 (λ i l. absurd (omega (arith, l))) last k (recorded.is_stopped ∙ going) number)
