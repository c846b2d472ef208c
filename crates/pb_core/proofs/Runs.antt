-- Which host starts next, Turns, and a run's beginning and end.
use Rattle.std.proofs.Common.{◌≡◌, ◌<◌, ◌≤◌, ℕ, zero, suc, List, [], ◌∷◌, length, drop, get_or, All, IfSome, Bool, true, false, not, ◌&&◌, cond, Option, Some, None, is_none, slice_get, unwrap_or, option_map, nat_le, refl, sym, ap, ap₂, subst, ◌∙◌, arith}
use Rattle.std.proofs.lemmas.Bool.{leb-true, leb-false}
use Rattle.std.specs.Global.{Vec}
use Rattle.pb_semantics.proofs.Bools.{untrue, and-right}
use Rattle.pb_language.specs.Expression.{Name}
use Rattle.pb_language.specs.World.{HostVariables}
use Rattle.pb_language.specs.Program as program
use Rattle.pb_language.specs.Program.{all_batches}
use Rattle.pb_language.specs.Machine.{any_names, empty_recap, start, turn, stop}
use Rattle.pb_machine.specs.Steps as flat
use Rattle.pb_machine.specs.Hosts.{FlatHost, FlatStage, stands, works, at, at_end, left_play}
use Rattle.pb_machine.specs.Ways.{step_at}
use Rattle.pb_machine.specs.Run.{FlatState, can_start, current_steps, plan_steps, host_at, still_active, all_idle, enabled, is_possible, happened, on_turn, step, opening_hosts}
use Rattle.pb_core.specs.declared.batch.Batch.{Batch}
use Rattle.pb_core.specs.declared.batch.RunPlay.{RunPlay}
use Rattle.pb_core.specs.declared.host.HostState.{HostState}
use Rattle.pb_core.specs.declared.index.ReadyIndex.{ReadyIndex}
use Rattle.pb_core.specs.declared.run.RunCore.{RunCore}
use Rattle.pb_core.specs.Readings.{Reading, AreGiven}
use Rattle.pb_core.specs.Activities.{Activity, activity_in, activities, running_in, all_idle_in, can_start_in, next_in, number_of}
use Rattle.pb_core.specs.Indexes.{is_ready, IsIndexOf, HoldsOnly}
use Rattle.pb_core.specs.Hosts.{PlaySize, IsStage, IsHost, IsHostAt, IsFresh}
use Rattle.pb_core.specs.declared.entry.Entry.{Entry}
use Rattle.pb_core.specs.Entries.{found, entered, waits_in, AreEntries, AreHosts, IsAnyHere}
use Rattle.pb_core.specs.Cores.{AreEntriesAt, LeadsTo, AreBatches, size_of, activities_of, IsCore, scheduled_batches, scheduled_plays, play_in, play_of, ready_place, HasNoPlay, IsReadyAt}
use Rattle.pb_core.specs.Events.{CanStart, IsDisabled, IsNext, RunsBatch, TellsEnd, Turns, CanTurn, is_over, Opens, Stops}
use Rattle.pb_core.proofs.Hosts.{activity_at, no_activity, past}
use Rattle.pb_core.proofs.Nexts.{can_same, enabled_is, next_same, next_stopped, next_ended}
use Rattle.pb_core.proofs.Indexes.{holds_only}
use Rattle.pb_core.proofs.Cores.{cannot_start, ended_ready, drop_at, drop_past, no_batches, play_is, play_none}
use Rattle.pb_core.proofs.Beginnings.{any_active, idle_same, runs_on}

some_at : {A : Type 0} → (xs : List A) (k : ℕ) → k < length xs → slice_get xs k ≡ None → ⊥
some_at [] k h e = omega arith
some_at (x ∷ xs) zero h e = let no : Some x ≡ None = e in cc
some_at (x ∷ xs) (suc k) h e = some_at xs k (omega arith) e

-- where a host waits before a task
place_ready : (ss : List flat.Step) (g : FlatStage) (p : ℕ) → ready_place (Some (activity_in ss g)) ≡ Some p → (n : ℕ) × (g ≡ stands (at n)) × ((step_at ss n).task.place ≡ p)
place_ready ss (stands at_end) p e = cc
place_ready ss (stands left_play) p e = cc
place_ready ss (stands (at n)) p e = (n, refl, let same : Some (step_at ss n).task.place ≡ Some p = e in cc)
place_ready ss (works n i ps) p e = cc

start_ready : (s : FlatState) (b : program.Batch) (later : List program.Batch) → s.batches ≡ b ∷ later → s.is_stopped ≡ false → (k p : ℕ) → ready_place (slice_get (activities (plan_steps b) s.hosts) k) ≡ Some p
    → can_start_in s.forks b.play.is_linear (activities (plan_steps b) s.hosts) p ≡ enabled s (start k)
start_ready s b later is going k p e = by (host_at k s.hosts) refl where
  by : (o : Option FlatHost) → host_at k s.hosts ≡ o → can_start_in s.forks b.play.is_linear (activities (plan_steps b) s.hosts) p ≡ enabled s (start k)
  by None f = let no : None ≡ Some p = sym (ap ready_place (no_activity (plan_steps b) s.hosts k f)) ∙ e in cc
  by (Some h) f =
      let there = place_ready (plan_steps b) h.stage p (sym (ap ready_place (activity_at (plan_steps b) s.hosts k h f)) ∙ e) in
      sym (enabled_is s b later is going k h f ∙ ap (can_start s b) there.1 ∙ can_same s b later is going (step_at (plan_steps b) there.0).task.place
      ∙ ap (can_start_in s.forks b.play.is_linear (activities (plan_steps b) s.hosts)) there.2)

module _ {P : Type 0} (core : RunCore P) where
  pub ready_stopped : core.is_stopped ≡ true → IsNext core None
  ready_stopped e reading s i = sym (ap number_of (next_stopped s (i.stopped ∙ e)))

  pub ready_ended : play_of core core.current ≡ None → IsNext core None
  ready_ended e reading s i = sym (ap number_of (next_ended s (play_none reading.name (scheduled_plays core) (scheduled_batches core) core.current s.batches i.batches e)))

  pub ready_by : (play : RunPlay) (r : Option ℕ) → core.is_stopped ≡ false → play_of core core.current ≡ Some play → ((xs : List Activity) → IsIndexOf core.index xs → r ≡ number_of (next_in core.forks play.is_linear xs)) → IsNext core r
  ready_by play r going e next reading s i =
      let found = play_is reading.name (scheduled_plays core) (scheduled_batches core) core.current play s.batches i.batches e in
      next (activities_of s) i.index
      ∙ ap₂ (λ n l. number_of (next_in n l (activities_of s))) (sym i.forks) found.6.linear
      ∙ ap (λ bs. number_of (next_in s.forks found.0.play.is_linear (activities (current_steps bs) s.hosts))) found.3
      ∙ ap number_of (sym (next_same s found.0 found.1 found.3 (i.stopped ∙ going)))

  -- whether a host may start
  pub start_stopped : (k : ℕ) → core.is_stopped ≡ true → CanStart k core false
  start_stopped k e reading s i = sym (ap (λ q. not q && is_possible s s.batches (start k)) (i.stopped ∙ e))

  pub start_not : (k : ℕ) → IsDisabled (start k) core → CanStart k core false
  start_not k off reading s i = sym (off reading s i)

  pub start_ended : (k : ℕ) → play_of core core.current ≡ None → CanStart k core false
  start_ended k e = start_not k (cannot_start core k (ended_ready core k e))

  pub start_at : (k p : ℕ) (play : RunPlay) (q : Bool) → core.is_stopped ≡ false → play_of core core.current ≡ Some play → IsReadyAt core k (Some p)
      → ((xs : List Activity) → IsIndexOf core.index xs → q ≡ can_start_in core.forks play.is_linear xs p) → CanStart k core q
  start_at k p play q going e waits can reading s i =
      let found = play_is reading.name (scheduled_plays core) (scheduled_batches core) core.current play s.batches i.batches e in
      can (activities_of s) i.index
      ∙ ap₂ (λ n l. can_start_in n l (activities_of s) p) (sym i.forks) found.6.linear
      ∙ ap (λ bs. can_start_in s.forks found.0.play.is_linear (activities (current_steps bs) s.hosts) p) found.3
      ∙ start_ready s found.0 found.1 found.3 (i.stopped ∙ going) k p (ap (λ bs. ready_place (slice_get (activities (current_steps bs) s.hosts) k)) (sym found.3) ∙ sym (waits reading s i))

  -- whether a Turn may happen
  and_none : (q : Bool) → q && false ≡ false
  and_none true = refl
  and_none false = refl

  pub turn_stopped : core.is_stopped ≡ true → CanTurn core false
  turn_stopped e reading s i = sym (ap (λ q. not q && is_possible s s.batches turn) (i.stopped ∙ e))

  over_none : (bs : List program.Batch) → true ≡ is_over bs → bs ≡ []
  over_none [] e = refl
  over_none (b ∷ bs) e = untrue (sym e)

  pub turn_ended : TellsEnd core true → CanTurn core false
  turn_ended ends reading s i = sym (ap (λ bs. not s.is_stopped && is_possible s bs turn) (over_none s.batches (ends reading s i)) ∙ and_none (not s.is_stopped))

  possible : (s : FlatState) (bs : List program.Batch) (name : ℕ → Name) (c : Batch) (cs : List Batch) → AreBatches name (scheduled_plays core) (c ∷ cs) bs → is_possible s bs turn ≡ all_idle s.hosts
  possible s [] name c cs i = absurd i
  possible s (b ∷ bs) name c cs i = refl

  pub turn_idle : (c : Batch) (q : Bool) → core.is_stopped ≡ false → slice_get (scheduled_batches core) core.current ≡ Some c → ((xs : List Activity) → IsIndexOf core.index xs → q ≡ all_idle_in xs) → CanTurn core q
  turn_idle c q going e idles reading s i =
      idles (activities_of s) i.index ∙ sym (idle_same (current_steps s.batches) s.hosts)
      ∙ sym (ap (λ x. not x && is_possible s s.batches turn) (i.stopped ∙ going)
      ∙ possible s s.batches reading.name c (drop (suc core.current) (scheduled_batches core)) (subst (λ cs. AreBatches reading.name (scheduled_plays core) cs s.batches) (drop_at (scheduled_batches core) core.current c e) i.batches))

  over_here : (name : ℕ → Name) (o : Option Batch) (bs : List program.Batch) → slice_get (scheduled_batches core) core.current ≡ o → AreBatches name (scheduled_plays core) (drop core.current (scheduled_batches core)) bs → is_none o ≡ is_over bs
  over_here name None bs e i = sym (ap is_over (no_batches name (scheduled_plays core) (drop core.current (scheduled_batches core)) bs (drop_past (scheduled_batches core) core.current e) i))
  over_here name (Some c) bs e i = by bs (subst (λ cs. AreBatches name (scheduled_plays core) cs bs) (drop_at (scheduled_batches core) core.current c e) i) where
    by : (bs : List program.Batch) → AreBatches name (scheduled_plays core) (c ∷ drop (suc core.current) (scheduled_batches core)) bs → is_none (Some c) ≡ is_over bs
    by [] j = absurd j
    by (b ∷ later) j = refl

  past_is : {A : Type 0} → (xs : List A) (k n : ℕ) → n ≡ length xs → nat_le n k ≡ is_none (slice_get xs k)
  past_is {A = A} xs k n e = by (nat_le n k) refl (slice_get xs k) refl where
    by : (q : Bool) → nat_le n k ≡ q → (o : Option A) → slice_get xs k ≡ o → q ≡ is_none o
    by true f None g = refl
    by true f (Some x) g =
        let over : n ≤ k = leb-true n k f in
        let none : slice_get xs k ≡ None = past xs k (omega (arith, over, e)) in
        let no : Some x ≡ None = sym g ∙ none in cc
    by false f None g = let few : k < n = leb-false n k f in absurd (some_at xs k (omega (arith, few, e)) g)
    by false f (Some x) g = refl

  pub ends_by : (n : ℕ) → n ≡ length (scheduled_batches core) → TellsEnd core (nat_le n core.current)
  ends_by n e reading s i = past_is (scheduled_batches core) core.current n e ∙ over_here reading.name (slice_get (scheduled_batches core) core.current) s.batches refl i.batches

  pub turn_going : (q : Bool) → core.is_stopped ≡ false → core.current < length (scheduled_batches core) → ((xs : List Activity) → IsIndexOf core.index xs → q ≡ all_idle_in xs) → CanTurn core q
  turn_going q going few idles = by (slice_get (scheduled_batches core) core.current) refl where
    by : (o : Option Batch) → slice_get (scheduled_batches core) core.current ≡ o → CanTurn core q
    by None e = absurd (some_at (scheduled_batches core) core.current few e)
    by (Some c) e = turn_idle c q going e idles

  pub turn_off : (q : Bool) → CanTurn core q → q ≡ false → IsDisabled turn core
  turn_off q can e reading s i = sym (can reading s i) ∙ e

-- a Turn
not_possible : (s : FlatState) → s.batches ≡ [] → enabled s turn ≡ true → ⊥
not_possible s e f = untrue (sym (ap (λ bs. not s.is_stopped && is_possible s bs turn) e ∙ no (not s.is_stopped)) ∙ f) where
  no : (q : Bool) → q && false ≡ false
  no true = refl
  no false = refl

stop_none : (s : FlatState) → s.batches ≡ [] → enabled s stop ≡ true → ⊥
stop_none s e f = untrue (sym (ap (λ bs. not s.is_stopped && is_possible s bs stop) e ∙ no (not s.is_stopped)) ∙ f) where
  no : (q : Bool) → q && false ≡ false
  no true = refl
  no false = refl

-- where a Turn may happen all hosts are idle
pub idle_hosts : (s : FlatState) → enabled s turn ≡ true → all_idle s.hosts ≡ true
idle_hosts s f = by s.batches refl where
  by : (bs : List program.Batch) → s.batches ≡ bs → all_idle s.hosts ≡ true
  by [] e = absurd (not_possible s e f)
  by (b ∷ later) e = ap (λ bs. is_possible s bs turn) (sym e) ∙ and-right (not s.is_stopped) (is_possible s s.batches turn) f

module _ {P : Type 0} (old : RunCore P) where
  pub turns_by : (n : ℕ) (new : RunCore P) → LeadsTo n old → RunsBatch n old new → Turns old new
  turns_by n new leads runs reading s i f = by s.batches refl where
    by : (bs : List program.Batch) → s.batches ≡ bs → IsCore reading new (step s turn)
    by [] e = absurd (not_possible s e f)
    by (b ∷ later) e =
        let steps : step s turn ≡ on_turn s b later = ap (λ x. cond x (happened s s.batches turn) s) f ∙ ap (λ bs. happened s bs turn) e in
        subst (λ t. IsCore reading new t) (sym steps) (runs reading s (cond (any_names (still_active s.hosts b.members)) later []) i (idle_hosts s f) (leads reading s i b later e))

  -- the batch that comes next, by whether a host of the one that runs is active
  pub leads_to : (c : Batch) (n : ℕ) (q : Bool) → slice_get (scheduled_batches old) old.current ≡ Some c → IsAnyHere old.hosts.items c.members.items q
      → drop n (scheduled_batches old) ≡ cond q (drop (suc old.current) (scheduled_batches old)) [] → LeadsTo n old
  leads_to c n q e any next reading s i b later is =
      let are : AreBatches reading.name (scheduled_plays old) (c ∷ drop (suc old.current) (scheduled_batches old)) (b ∷ later) =
      subst (λ bs. AreBatches reading.name (scheduled_plays old) (c ∷ drop (suc old.current) (scheduled_batches old)) bs) is (subst (λ cs. AreBatches reading.name (scheduled_plays old) cs s.batches) (drop_at (scheduled_batches old) old.current c e) i.batches) in
      let active : any_names (still_active s.hosts b.members) ≡ q =
      ap (λ ns. any_names (still_active s.hosts ns)) are.0.members ∙ any_active reading (size_of s.batches) old.hosts.items s.hosts c.members.items i.hosts ∙ sym (any reading (size_of s.batches) s.hosts i.hosts) in
      subst (λ x. AreBatches reading.name (scheduled_plays old) (drop n (scheduled_batches old)) (cond x later [])) (sym active)
      (subst (λ cs. AreBatches reading.name (scheduled_plays old) cs (cond q later [])) (sym next) (by q are.1)) where
        by : (q : Bool) → AreBatches reading.name (scheduled_plays old) (drop (suc old.current) (scheduled_batches old)) later → AreBatches reading.name (scheduled_plays old) (cond q (drop (suc old.current) (scheduled_batches old)) []) (cond q later [])
        by true more = more
        by false more = tt

  -- the next batch is of a play
  pub next_play : (n : ℕ) → LeadsTo n old → HasNoPlay n old → IsDisabled turn old
  next_play n leads none reading s i = by s.batches refl where
    no : (q : Bool) → q && false ≡ false
    no true = refl
    no false = refl

    by : (bs : List program.Batch) → s.batches ≡ bs → enabled s turn ≡ false
    by [] e = ap (λ bs. not s.is_stopped && is_possible s bs turn) e ∙ no (not s.is_stopped)
    by (b ∷ later) e = absurd (none reading.name (cond (any_names (still_active s.hosts b.members)) later []) (leads reading s i b later e))

  pub no_play : (n : ℕ) (c : Batch) → slice_get (scheduled_batches old) n ≡ Some c → play_of old n ≡ None → HasNoPlay n old
  no_play n c e f name bs are = by bs (subst (λ cs. AreBatches name (scheduled_plays old) cs bs) (drop_at (scheduled_batches old) n c e) are) where
    by : (bs : List program.Batch) → AreBatches name (scheduled_plays old) (c ∷ drop (suc n) (scheduled_batches old)) bs → ⊥
    by [] i = i
    by (b ∷ later) i = let no : None ≡ Some i.0.play = sym (ap (play_in (scheduled_plays old)) (sym e) ∙ f) ∙ i.0.is in cc

  pub no_play_at : (n : ℕ) → n < length (scheduled_batches old) → play_of old n ≡ None → HasNoPlay n old
  no_play_at n few f = by (slice_get (scheduled_batches old) n) refl where
    by : (o : Option Batch) → slice_get (scheduled_batches old) n ≡ o → HasNoPlay n old
    by None e = absurd (some_at (scheduled_batches old) n few e)
    by (Some c) e = no_play n c e f

  pub runs_at : (hosts : Vec (HostState P)) (index : ReadyIndex) (es : List Entry) (n : ℕ) → n < length (scheduled_batches old) → AreEntriesAt n old es → HoldsOnly (λ place host. waits_in place host es) index
      → ((k : ℕ) → slice_get hosts.items k ≡ entered (found k es) (slice_get old.hosts.items k)) → RunsBatch n old (record old { current = n; hosts = hosts; index = index })
  runs_at hosts index es n few entries holds new = by (slice_get (scheduled_batches old) n) refl (play_of old n) refl where
    by : (o : Option Batch) → slice_get (scheduled_batches old) n ≡ o → (p : Option RunPlay) → play_of old n ≡ p → RunsBatch n old (record old { current = n; hosts = hosts; index = index })
    by None e p f = absurd (some_at (scheduled_batches old) n few e)
    by (Some d) e None f = λ reading s bs i q are. absurd (no_play n d e f reading.name bs are)
    by (Some d) e (Some play) f = runs_on old hosts index es d play n e f (entries d play e f) holds new

  pub entries_at : (n : ℕ) (es : List Entry) (b : Batch) (play : RunPlay) → slice_get (scheduled_batches old) n ≡ Some b → play_of old n ≡ Some play → AreEntries play b.members.items old.hosts.items es → AreEntriesAt n old es
  entries_at n es b play e f are c p g h =
      subst (λ (q : RunPlay). AreEntries q c.members.items old.hosts.items es) (ap (λ o. unwrap_or o play) (sym f ∙ h))
      (subst (λ (d : Batch). AreEntries play d.members.items old.hosts.items es) (ap (λ o. unwrap_or o b) (sym e ∙ g)) are)

  -- a Stop
  going_stop : (bs : List program.Batch) → false ≡ is_over bs → (s : FlatState) → is_possible s bs stop ≡ true
  going_stop [] e s = untrue e
  going_stop (b ∷ bs) e s = refl

  stopped_before : (q : Bool) → not q && true ≡ false → q ≡ true
  stopped_before true e = refl
  stopped_before false e = untrue (sym e)

  pub stops_by : TellsEnd old false → Stops old (record old { is_stopped = true })
  stops_by goes reading s i = (
    λ e. by e s.batches refl,
    λ e.
        let before : s.is_stopped ≡ true = stopped_before s.is_stopped (ap (λ q. not s.is_stopped && q) (sym (going_stop s.batches (goes reading s i) s)) ∙ e) in
        ap (λ q. record old { is_stopped = q }) (sym before ∙ i.stopped),
  ) where
    by : enabled s stop ≡ true → (bs : List program.Batch) → s.batches ≡ bs → IsCore reading (record old { is_stopped = true }) (step s stop)
    by e [] f = absurd (stop_none s f e)
    by e (b ∷ bs) f = subst (λ t. IsCore reading (record old { is_stopped = true }) t) (sym (ap (λ q. cond q (happened s s.batches stop) s) e ∙ ap (λ xs. happened s xs stop) f)) (record {
      hosts = i.hosts;
      batches = i.batches;
      index = i.index;
      forks = i.forks;
      handed = i.handed;
      stopped = refl;
    })

  pub stays_ended : TellsEnd old true → Stops old old
  stays_ended ends reading s i = (λ e. absurd (stop_none s (over_none old s.batches (ends reading s i)) e), λ e. refl)

-- hosts before their first play
open_idle : (ss : List flat.Step) (hs : List HostVariables) → running_in (activities ss (opening_hosts hs)) ≡ 0
open_idle ss [] = refl
open_idle ss (h ∷ hs) = open_idle ss hs

open_none : (ss : List flat.Step) (hs : List HostVariables) (p k : ℕ) → false ≡ is_ready p (slice_get (activities ss (opening_hosts hs)) k)
open_none ss [] p k = refl
open_none ss (h ∷ hs) p zero = refl
open_none ss (h ∷ hs) p (suc k) = open_none ss hs p k

all_idle_open : (hs : List HostVariables) → all_idle (opening_hosts hs) ≡ true
all_idle_open [] = refl
all_idle_open (h ∷ hs) = all_idle_open hs

abbrev opening_host : HostVariables → FlatHost
opening_host x = record {
  name = x.name;
  variables = x.variables;
  marks = [];
  failure = [];
  rescues = [];
  holds = [];
  stage = stands at_end;
  recap = empty_recap;
}

opening_at : (hs : List HostVariables) (k : ℕ) → host_at k (opening_hosts hs) ≡ option_map opening_host (slice_get hs k)
opening_at [] k = refl
opening_at (h ∷ hs) zero = refl
opening_at (h ∷ hs) (suc k) = opening_at hs k

none_past : {A B : Type 0} → (xs : List A) (ys : List B) (k : ℕ) → length xs ≡ length ys → slice_get xs k ≡ None → length ys ≤ k
none_past [] ys k e f = omega (arith, e)
none_past (x ∷ xs) ys zero e f = let no : Some x ≡ None = f in cc
none_past (x ∷ xs) [] (suc k) e f = omega arith
none_past (x ∷ xs) (y ∷ ys) (suc k) e f =
    let few : length xs ≡ length ys = omega (arith, e) in
    let rest = none_past xs ys k few f in omega (arith, rest)

some_of : {A : Type 0} → (xs : List A) (k : ℕ) (x : A) → slice_get xs k ≡ Some x → (k < length xs) × (get_or xs k x ≡ x)
some_of [] k x e = cc
some_of (y ∷ xs) zero x e = (omega arith, ap (λ o. unwrap_or o y) e)
some_of (y ∷ xs) (suc k) x e = let rest = some_of xs k x e in (omega (arith, rest.0), rest.1)

module _ {P : Type 0} where
  fresh_host : (reading : Reading P) (z : PlaySize) (k : ℕ) (x : HostState P) (y : HostVariables) → IsFresh x → y.name ≡ reading.name k → y.variables ≡ reading.variables k → IsHost reading z k x (opening_host y)
  fresh_host reading z k x y i e f = record {
    position = i.position (opening_host y);
    stage = subst (λ g. IsStage reading g (stands at_end)) (sym i.stage) tt;
    fits = tt;
    name_is = e;
    variables = f;
    recap = sym i.recap;
  }

  fresh_at : (reading : Reading P) (z : PlaySize) (k : ℕ) (o : Option (HostState P)) (p : Option HostVariables) → ((x : HostState P) → o ≡ Some x → IsFresh x) → (o ≡ None → p ≡ None) → (p ≡ None → o ≡ None)
      → IfSome p (λ h. (h.name ≡ reading.name k) × (h.variables ≡ reading.variables k)) → IsHostAt reading z k o (option_map opening_host p)
  fresh_at reading z k None None i few many are = tt
  fresh_at reading z k None (Some y) i few many are = let no : Some y ≡ None = few refl in cc
  fresh_at reading z k (Some x) None i few many are = let no : Some x ≡ None = many refl in cc
  fresh_at reading z k (Some x) (Some y) i few many are = fresh_host reading z k x y (i x refl) are.0 are.1

  fresh_hosts : (reading : Reading P) (z : PlaySize) (xs : List (HostState P)) (n : ℕ) (hs : List HostVariables) → All IsFresh xs → length xs ≡ n → AreGiven reading n hs → AreHosts reading z xs (opening_hosts hs)
  fresh_hosts reading z xs n hs i e are k =
      subst (λ p. IsHostAt reading z k (slice_get xs k) p) (sym (opening_at hs k))
      (fresh_at reading z k (slice_get xs k) (slice_get hs k)
      (λ x f. let at = some_of xs k x f in subst IsFresh at.1 (i k x at.0))
      (λ f. past hs k (none_past xs hs k (e ∙ sym are.count) f)) (λ f. past xs k (none_past hs xs k (are.count ∙ sym e) f)) (are.each k))

  pub opens_by : (plays : List RunPlay) (batches : List Batch) (hosts forks : ℕ) (old core : RunCore P) → scheduled_plays old ≡ plays → scheduled_batches old ≡ batches → old.forks ≡ forks → old.handed ≡ 0 → old.is_stopped ≡ false
      → drop old.current (scheduled_batches old) ≡ [] → All IsFresh old.hosts.items → length old.hosts.items ≡ hosts → HoldsOnly (λ place host. false) old.index → RunsBatch 0 old core → Opens plays batches hosts forks core
  opens_by plays batches hosts forks old core e f h z n none fresh same holds runs reading program inventory are are_batches =
      runs reading (record { inventory = inventory; forks = forks; hosts = opening_hosts inventory.hosts; batches = []; handed = 0; is_stuck = false; is_stopped = false }) (all_batches program)
      (record {
        hosts = fresh_hosts reading (size_of []) old.hosts.items hosts inventory.hosts fresh same are;
        batches = subst (λ cs. AreBatches reading.name (scheduled_plays old) cs []) (sym none) tt;
        index = holds_only (λ place host. false) old.index (activities [] (opening_hosts inventory.hosts)) holds (open_idle [] inventory.hosts) (open_none [] inventory.hosts);
        forks = sym h;
        handed = sym z;
        stopped = sym n;
      })
      (all_idle_open inventory.hosts)
      (subst (λ ps. AreBatches reading.name ps (scheduled_batches old) (all_batches program)) (sym e) (subst (λ cs. AreBatches reading.name plays cs (all_batches program)) (sym f) are_batches))

-- a list of one
pub all_one : {A : Type 0} → (P : A → Type 0) (x : A) → P x → All P (x ∷ [])
all_one P x i zero d h = i
all_one P x i (suc k) d h = absurd (omega arith)
