-- The core goes on as the machine does, event by event.
use Rattle.std.proofs.Common.{◌≡◌, ◌<◌, ◌≤◌, ◌^◌, ℕ, zero, suc, ◌+◌, List, [], ◌∷◌, ◌++◌, length, set, map, drop, IsSome, Bool, true, false, not, ◌&&◌, nat_eq, nat_lt, cond, All, Option, Some, None, Result, Ok, Err, IfErr, slice_get, unwrap_or, refl, sym, ap, ap₂, subst, ◌∙◌, eq-eqb, arith}
use Rattle.std.proofs.lemmas.Bool.{lt-ltb}
use Rattle.std.specs.Global.{Vec}
use Rattle.pb_semantics.specs.Data.{Fields}
use Rattle.pb_semantics.proofs.Bools.{untrue, and-left, and-right, and-both}
use Rattle.pb_language.specs.Expression.{Name}
use Rattle.pb_language.specs.Start.{Pass, call_count}
use Rattle.pb_language.specs.Task.{Task}
use Rattle.pb_language.specs.Give.{Answer, Ended, all_skipped, any_changed, any_failed, last_attempts, written_variables}
use Rattle.pb_language.specs.Notify.{HandlerNames, Notified, handlers_are, names_nothing, is_named, notified, with_numbers, all_notified}
use Rattle.pb_language.specs.Program as program
use Rattle.pb_language.specs.Machine as machine
use Rattle.pb_language.specs.Machine.{ended_recap, give, start, notified_by}
use Rattle.pb_machine.specs.Steps as flat
use Rattle.pb_machine.specs.Hosts.{FlatHost, FlatStage, stands, works, at, at_end, left_play}
use Rattle.pb_machine.specs.Ways.{step_at}
use Rattle.pb_machine.specs.Run.{FlatState, host_at, put_host, current_steps, plan_steps, after_task, target_on, is_possible, of_host, can_start, is_out}
use Rattle.pb_steps.specs.declared.step.Step.{Step}
use Rattle.pb_position.specs.declared.position.TaskEnd.{TaskEnd}
use Rattle.pb_position.specs.Texts.{text_of}
use Rattle.pb_position.specs.Positions.{IsAs, IsAt, handlers_of}
use Rattle.pb_position.specs.Calls.{AreKept, IsEndOf}
use Rattle.pb_core.specs.declared.batch.Batch.{Batch}
use Rattle.pb_core.specs.declared.batch.RunPlay.{RunPlay}
use Rattle.pb_core.specs.declared.fault.CoreFault.{CoreFault}
use Rattle.pb_core.specs.declared.fault.CoreFault.TheVariants.{NotThere}
use Rattle.pb_core.specs.declared.host.HostState.{HostState}
use Rattle.pb_core.specs.declared.host.Onward.{Onward}
use Rattle.pb_core.specs.declared.host.Stage.{Stage}
use Rattle.pb_core.specs.declared.host.Stage.TheVariants.{Waits, Runs}
use Rattle.pb_core.specs.declared.index.ReadyIndex.{ReadyIndex}
use Rattle.pb_core.specs.declared.outcome.TaskOutcome.{TaskOutcome}
use Rattle.pb_core.specs.declared.recap.Recap.{Recap}
use Rattle.pb_core.specs.declared.run.RunCore.{RunCore}
use Rattle.pb_core.specs.Readings.{Reading, with_variables}
use Rattle.pb_core.specs.Activities.{Activity, ready, runs, idle, activity_in}
use Rattle.pb_core.specs.Indexes.{IsIndexOf, BeginsIn, LeavesIn, GoesOnIn, waits_at}
use Rattle.pb_core.specs.Hosts.{recap_view, recap_after, left_recap, counts_of, ticket_of, goes_wrong, location_in, place_in, PlaySize, Fits, job_of, repeated, IsStage, IsHost, IsOutcome, IsPlaceAt, standing_at, gone_on, GoesTo, HasGone, are_below}
use Rattle.pb_core.specs.Entries.{AreHosts}
use Rattle.pb_core.specs.Cores.{IsPlay, IsBatch, AreBatches, counts_in, counts_at, size_of, activities_of, IsCore, scheduled_batches, scheduled_plays, play_in, running_place, ready_place, play_of, GoesFrom, HasGoneFrom, IsRunningAt, IsReadyAt}
use Rattle.pb_core.specs.Events.{Begins, Repeats, Leaves, Settles, IsDisabled, HasNoJob}
use Rattle.pb_core.proofs.Steps.{steps_start, steps_left, steps_again, steps_settled}
use Rattle.pb_core.proofs.Hosts.{KeepsOthers, set_same, activity_at, no_activity, activities_put, ready_is, running_is, waits_where, as_same, stands_there, arrived_fits, arrived_kept, host_in, hosts_put, host_there, host_missing, waits_ready, waits_not_run, runs_at, runs_not_ready, fits_nowhere}
use Rattle.pb_core.proofs.Indexes.{map_set}
use Rattle.pb_core.proofs.Lowest.{same_eq}
use Rattle.pb_core.proofs.Places.{as_many}

-- the batch that runs
pub drop_at : {A : Type 0} → (xs : List A) (k : ℕ) (x : A) → slice_get xs k ≡ Some x → drop k xs ≡ x ∷ drop (suc k) xs
drop_at [] k x e = cc
drop_at (y ∷ xs) zero x e = ap (λ z. z ∷ xs) (ap (λ o. unwrap_or o y) e)
drop_at (y ∷ xs) (suc k) x e = drop_at xs k x e

pub drop_past : {A : Type 0} → (xs : List A) (k : ℕ) → slice_get xs k ≡ None → drop k xs ≡ []
drop_past [] zero e = refl
drop_past [] (suc k) e = refl
drop_past (x ∷ xs) zero e = cc
drop_past (x ∷ xs) (suc k) e = drop_past xs k e

pub no_batches : (name : ℕ → Name) (plays : List RunPlay) (cs : List Batch) (bs : List program.Batch) → cs ≡ [] → AreBatches name plays cs bs → bs ≡ []
no_batches name plays cs [] e i = refl
no_batches name plays cs (b ∷ bs) e i = absurd (subst (λ xs. AreBatches name plays xs (b ∷ bs)) e i)

pub kept_steps : (p : RunPlay) (q : program.Play) → IsPlay p q → AreKept (flat.play_steps q.row) p.plan.steps.items
kept_steps p q i = sym (ap (λ x. x.steps) i.plan)

-- the play of the batch that runs
pub play_is : (name : ℕ → Name) (plays : List RunPlay) (cs : List Batch) (n : ℕ) (p : RunPlay) (bs : List program.Batch) → AreBatches name plays (drop n cs) bs → play_in plays (slice_get cs n) ≡ Some p
    → (b : program.Batch) × (later : List program.Batch) × (c : Batch) × (bs ≡ b ∷ later) × (slice_get cs n ≡ Some c) × IsBatch name plays c b × (IsPlay p b.play) × (AreBatches name plays (drop (suc n) cs) later)
play_is name plays cs n p bs i e = by (slice_get cs n) refl where
  of_batch : (c : Batch) (b : program.Batch) → IsBatch name plays c b → slice_get plays c.play ≡ Some p → IsPlay p b.play
  of_batch c b j f = subst (λ q. IsPlay q b.play) (ap (λ o. unwrap_or o p) (sym j.is ∙ f)) j.denotes

  to : (c : Batch) → slice_get cs n ≡ Some c → slice_get plays c.play ≡ Some p → (ds : List program.Batch) → bs ≡ ds → AreBatches name plays (c ∷ drop (suc n) cs) ds
      → (b : program.Batch) × (later : List program.Batch) × (c : Batch) × (bs ≡ b ∷ later) × (slice_get cs n ≡ Some c) × IsBatch name plays c b × (IsPlay p b.play) × (AreBatches name plays (drop (suc n) cs) later)
  to c f g [] same j = absurd j
  to c f g (b ∷ later) same j = (b, later, c, same, f, j.0, of_batch c b j.0 g, j.1)

  by : (o : Option Batch) → slice_get cs n ≡ o → (b : program.Batch) × (later : List program.Batch) × (c : Batch) × (bs ≡ b ∷ later) × (slice_get cs n ≡ Some c) × IsBatch name plays c b × (IsPlay p b.play) × (AreBatches name plays (drop (suc n) cs) later)
  by None f = let no : None ≡ Some p = sym (ap (play_in plays) f) ∙ e in cc
  by (Some c) f = to c f (sym (ap (play_in plays) f) ∙ e) bs refl (subst (λ ds. AreBatches name plays ds bs) (drop_at cs n c f) i)

pub play_none : (name : ℕ → Name) (plays : List RunPlay) (cs : List Batch) (n : ℕ) (bs : List program.Batch) → AreBatches name plays (drop n cs) bs → play_in plays (slice_get cs n) ≡ None → bs ≡ []
play_none name plays cs n bs i e = by (slice_get cs n) refl where
  to : (c : Batch) → slice_get plays c.play ≡ None → (ds : List program.Batch) → AreBatches name plays (c ∷ drop (suc n) cs) ds → ds ≡ []
  to c f [] j = refl
  to c f (b ∷ later) j = let no : None ≡ Some j.0.play = sym f ∙ j.0.is in cc

  by : (o : Option Batch) → slice_get cs n ≡ o → bs ≡ []
  by None f = no_batches name plays (drop n cs) bs (drop_past cs n f) i
  by (Some c) f = to c (sym (ap (play_in plays) f) ∙ e) bs (subst (λ ds. AreBatches name plays ds bs) (drop_at cs n c f) i)

abbrev first_or : List program.Batch → program.Batch → program.Batch
first_or [] d = d
first_or (b ∷ bs) d = b

abbrev fst_or : Option (ℕ × ℕ) → ℕ → ℕ
fst_or None d = d
fst_or (Some x) d = x.0

abbrev snd_or : Option (ℕ × ℕ) → ℕ → ℕ
snd_or None d = d
snd_or (Some x) d = x.1

-- the host in another stage
abbrev pub staged : {P : Type 0} → (x : HostState P) → Stage P → handlers_of x.position ≡ x.handlers → HostState P
staged x g room = record {
  position = x.position;
  handlers = x.handlers;
  stage = g;
  recap = x.recap;
  room = room;
}

-- what is notified is below the number of handlers
below_more : (m i : ℕ) (hs : List HandlerNames) (n : Name) → i + length hs ≤ m → are_below m (notified i n hs) ≡ true
below_more m i [] n h = refl
below_more m i (x ∷ hs) n h = by (is_named n x) (below_more m (suc i) hs n (omega arith)) where
  by : (q : Bool) → are_below m (notified (suc i) n hs) ≡ true → are_below m (cond q (i ∷ notified (suc i) n hs) (notified (suc i) n hs)) ≡ true
  by true rest = ap₂ (λ a b. a && b) (lt-ltb i m (omega arith)) rest
  by false rest = rest

below_join : (m : ℕ) (xs ys : List ℕ) → are_below m xs ≡ true → are_below m ys ≡ true → are_below m (xs ++ ys) ≡ true
below_join m [] ys e f = f
below_join m (x ∷ xs) ys e f = and-both (nat_lt x m) (are_below m (xs ++ ys)) (and-left (nat_lt x m) (are_below m xs) e) (below_join m xs ys (and-right (nat_lt x m) (are_below m xs) e) f)

abbrev AllBelow : ℕ → Notified → Type 0
AllBelow m names_nothing = Unit {0}
AllBelow m (handlers_are ms) = are_below m ms ≡ true

below_with : (m : ℕ) (is : List ℕ) (r : Notified) → are_below m is ≡ true → AllBelow m r → AllBelow m (with_numbers is r)
below_with m [] r e f = tt
below_with m (i ∷ is) names_nothing e f = tt
below_with m (i ∷ is) (handlers_are js) e f = below_join m (i ∷ is) js e f

below_all : (hs : List HandlerNames) (ns : List Name) → AllBelow (length hs) (all_notified hs ns)
below_all hs [] = refl
below_all hs (n ∷ ns) = below_with (length hs) (notified 0 n hs) (all_notified hs ns) (below_more (length hs) 0 hs n (omega arith)) (below_all hs ns)

below_notified : (p : program.Play) (t : Task) (q : Bool) → AllBelow (length p.handlers) (notified_by p t q)
below_notified p t true = below_all p.handlers t.notifies
below_notified p t false = refl

pub notified_below : (p : program.Play) (t : Task) (q : Bool) (ms : List ℕ) → notified_by p t q ≡ handlers_are ms → are_below (length p.handlers) ms ≡ true
notified_below p t q ms e = subst (AllBelow (length p.handlers)) e (below_notified p t q)

module _ {P : Type 0} (reading : Reading P) where
  -- the core with one host that went on, and so many calls handed out
  pub core_put : (fs : ℕ → Fields) (old : RunCore P) (s : FlatState) (hosts : Vec (HostState P)) (index : ReadyIndex) (k n m : ℕ) (x y : HostState P) (h g : FlatHost)
      → KeepsOthers reading k fs → IsCore reading old s → slice_get old.hosts.items k ≡ Some x → host_at k s.hosts ≡ Some h → hosts.items ≡ set old.hosts.items k y
      → IsHost (record reading { variables = fs }) (size_of s.batches) k y g → IsIndexOf index (set (activities_of s) k (activity_in (current_steps s.batches) g.stage)) → n ≡ m
      → IsCore (record reading { variables = fs }) (record old { hosts = hosts; index = index; handed = m }) (record s { hosts = put_host k g s.hosts; handed = n })
  core_put fs old s hosts index k n m x y h g keeps i e f made new indexed same = record {
    hosts = subst (λ (ys : List (HostState P)). AreHosts (record reading { variables = fs }) (size_of s.batches) ys (put_host k g s.hosts)) (sym made) (hosts_put reading fs (size_of s.batches) old.hosts.items s.hosts k x y h g keeps i.hosts e f new);
    batches = i.batches;
    index = subst (IsIndexOf index) (sym (activities_put (current_steps s.batches) s.hosts k g)) indexed;
    forks = i.forks;
    handed = same;
    stopped = i.stopped;
  }

  -- a task's place, and that it is ready or runs there
  ready_same : (ss : List flat.Step) (g : FlatStage) (n p : ℕ) → g ≡ stands (at n) → Some (activity_in ss g) ≡ Some (ready p) → (step_at ss n).task.place ≡ p
  ready_same ss g n p e f = let same : Some (ready (step_at ss n).task.place) ≡ Some (ready p) = sym (ap (λ x. Some (activity_in ss x)) e) ∙ f in cc

  runs_same : (ss : List flat.Step) (g : FlatStage) (n p i : ℕ) (ps : List Pass) → g ≡ works n i ps → Some (activity_in ss g) ≡ Some (runs p) → (step_at ss n).task.place ≡ p
  runs_same ss g n p i ps e f = let same : Some (runs (step_at ss n).task.place) ≡ Some (runs p) = sym (ap (λ x. Some (activity_in ss x)) e) ∙ f in cc

  begun_host : (z : PlaySize) (k : ℕ) (x : HostState P) (room : handlers_of x.position ≡ x.handlers) (h : FlatHost) (n ticket calls : ℕ) (passes : P) → IsHost reading z k x h → h.stage ≡ stands (at n) → calls ≡ call_count (reading.passes passes)
      → IsHost reading z k (staged x (Runs ticket 0 calls passes) room) (record h { stage = works n 0 (reading.passes passes) })
  begun_host z k x room h n ticket calls passes i e f = record {
    position = subst (λ g. IsAt x.position (record h { stage = stands (location_in g) })) e i.position;
    stage = (refl, refl, f);
    fits = subst (Fits z x.handlers) e i.fits;
    name_is = i.name_is;
    variables = i.variables;
    recap = i.recap;
  }

  again_stage : (next : ℕ) (g : Stage P) (x : FlatStage) (n i a calls more : ℕ) (ps : List Pass) → IsStage reading g x → x ≡ works n i ps → job_of g ≡ Some (a, calls) → more ≡ a + 1
      → IsStage reading (repeated next more g) (works n (suc i) ps) × (calls ≡ call_count ps)
  again_stage next Waits (stands l) n i a calls more ps is e o m = cc
  again_stage next Waits (works q j qs) n i a calls more ps is e o m = absurd is
  again_stage next (Runs t j c qs) (stands l) n i a calls more ps is e o m = absurd is
  again_stage next (Runs t j c qs) (works q k rs) n i a calls more ps is e o m =
      let times : k ≡ i = cc in
      let passes : rs ≡ ps = cc in
      let before : j ≡ a = ap (λ (y : Option (ℕ × ℕ)). fst_or y j) o in
      let count : c ≡ calls = ap (λ (y : Option (ℕ × ℕ)). snd_or y c) o in
      let was = is.0 in
      ((omega (arith, times, before, was, m), sym passes ∙ is.1, is.2 ∙ ap call_count passes), sym count ∙ is.2 ∙ ap call_count passes)

  left_host : (z : PlaySize) (k : ℕ) (x y : HostState P) (h : FlatHost) (is_reached : Bool) → IsHost reading z k x h
      → ((g : FlatHost) → IsAs x.position g → IsAt y.position (record g { stage = stands left_play })) → y.stage ≡ Waits → recap_view y.recap ≡ left_recap is_reached (recap_view x.recap)
      → IsHost reading z k y (record h { stage = stands left_play; recap = left_recap is_reached h.recap })
  left_host z k x y h is_reached i leaves waits counts =
      let g : FlatHost = record h { recap = left_recap is_reached h.recap } in record {
        position = leaves g (as_same x.position (record h { stage = stands (location_in h.stage) }) g refl refl refl refl i.position.as);
        stage = subst (λ t. IsStage reading t (stands left_play)) (sym waits) tt;
        fits = tt;
        name_is = i.name_is;
        variables = i.variables;
        recap = ap (left_recap is_reached) i.recap ∙ sym counts;
      }

  recap_same : (o : TaskOutcome) (t : Task) (es : List Ended) (r : machine.Recap) → IsOutcome o t es
      → ended_recap (all_skipped es) (any_changed es) (any_failed es) t.ignores t.rescued r ≡ recap_after o.status r
  recap_same o t es r i =
      sym (ap₂ (λ a b. ended_recap a b o.status.has_failed o.status.is_ignored o.status.is_rescued r) i.is_skipped i.is_changed
      ∙ ap₂ (λ a b. ended_recap (all_skipped es) (any_changed es) a b o.status.is_rescued r) i.has_failed i.is_ignored
      ∙ ap (λ a. ended_recap (all_skipped es) (any_changed es) (any_failed es) t.ignores a r) i.is_rescued)

  settled_keeps : (k : ℕ) (fs : Fields) → KeepsOthers reading k (λ j. cond (nat_eq j k) fs (reading.variables j))
  settled_keeps k fs j other = ap (λ b. cond b fs (reading.variables j)) (same_eq j k ∙ other)

  settled_host : (z : PlaySize) (k : ℕ) (o : TaskOutcome) (x y : HostState P) (ss : List flat.Step) (n i : ℕ) (ps : List Pass) (es : List Ended) (h : FlatHost)
      → IsHost reading z k x h → h.stage ≡ works n i ps → IsOutcome o (step_at ss n).task es → length ss ≡ z.nodes
      → IsAt y.position (gone_on ss n es o.notified.items h) → y.handlers ≡ x.handlers → y.stage ≡ Waits → recap_view y.recap ≡ recap_after o.status (recap_view x.recap)
      → IsHost (with_variables k (written_variables (step_at ss n).task es h.variables) reading) z k y (gone_on ss n es o.notified.items h)
  settled_host z k o x y ss n i ps es h is works_at out many there marks waits counts =
      let t = (step_at ss n).task in
      let kept = arrived_kept ss (target_on (step_at ss n) es) (after_task h t es o.notified.items) in
      let fits = subst (Fits z x.handlers) works_at is.fits in record {
        position = stands_there y.position (gone_on ss n es o.notified.items h) there;
        stage = subst (λ w. IsStage reading w (gone_on ss n es o.notified.items h).stage) (sym waits) (subst (IsStage reading Waits) (sym there.stage) tt);
        fits = subst (λ m. Fits z m (gone_on ss n es o.notified.items h).stage) (sym marks) (arrived_fits z x.handlers ss (target_on (step_at ss n) es) (after_task h t es o.notified.items) fits.0 many);
        name_is = kept.name ∙ is.name_is;
        variables = kept.variables ∙ sym (ap (λ b. cond b (written_variables t es h.variables) (reading.variables k)) (eq-eqb k k refl));
        recap = kept.recap ∙ ap (ended_recap (all_skipped es) (any_changed es) (any_failed es) t.ignores t.rescued) is.recap ∙ recap_same o t es (recap_view x.recap) out ∙ sym counts;
      }

module _ {P : Type 0} where
  pub begins_by : (old : RunCore P) (hosts : Vec (HostState P)) (index : ReadyIndex) (k place calls handed ticket : ℕ) (passes : P) (x : HostState P) (room : handlers_of x.position ≡ x.handlers)
      → slice_get old.hosts.items k ≡ Some x → hosts.items ≡ set old.hosts.items k (staged x (Runs ticket 0 calls passes) room)
      → IsReadyAt old k (Some place) → BeginsIn k place old.index index → handed ≡ old.handed + calls
      → Begins k passes calls old (record old { hosts = hosts; index = index; handed = handed })
  begins_by old hosts index k place calls handed ticket passes x room e made is_ready begins sum reading s i w f =
      let ss = current_steps s.batches in
      let here = host_in reading (size_of s.batches) old.hosts.items s.hosts k x w.host i.hosts e w.there in
      let is = ready_is (slice_get (activities_of s) k) place (is_ready reading s i) in
      let act = activity_at ss s.hosts k w.host w.there in
      let task : Some (activity_in ss w.host.stage) ≡ Some (ready place) = sym act ∙ is in
      let same : (step_at ss w.node).task.place ≡ place = ready_same reading ss w.host.stage w.node place w.stage task in
      let count : s.handed + call_count (reading.passes passes) ≡ handed = ap₂ (λ a b. a + b) i.handed (sym f) ∙ sym sum in
      let g : FlatHost = record w.host { stage = works w.node 0 (reading.passes passes) } in
      subst (λ (t : FlatState). IsCore reading (record old { hosts = hosts; index = index; handed = handed }) t) (sym (steps_start s k (reading.passes passes) w))
      (core_put reading reading.variables old s hosts index k (s.handed + call_count (reading.passes passes)) handed x (staged x (Runs ticket 0 calls passes) room) w.host g
      (λ j other. refl) i e w.there made (begun_host reading (size_of s.batches) k x room w.host w.node ticket calls passes here w.stage f)
      (subst (λ p. IsIndexOf index (set (activities_of s) k (runs p))) (sym same) (begins.index (activities_of s) i.index is)) count)

  pub repeats_by : (old : RunCore P) (hosts : Vec (HostState P)) (k a calls handed next more : ℕ) (x : HostState P) (room : handlers_of x.position ≡ x.handlers) (g : Stage P)
      → slice_get old.hosts.items k ≡ Some x → hosts.items ≡ set old.hosts.items k (staged x g room) → g ≡ repeated next more x.stage → job_of x.stage ≡ Some (a, calls) → more ≡ a + 1 → handed ≡ old.handed + calls
      → Repeats k old (record old { hosts = hosts; handed = handed })
  repeats_by old hosts k a calls handed next more x room g e made is out m sum reading s i w xs es c f =
      let ss = current_steps s.batches in
      let here = host_in reading (size_of s.batches) old.hosts.items s.hosts k x w.host i.hosts e w.there in
      let stage = again_stage reading next x.stage w.host.stage w.node w.attempts a calls more w.passes here.stage w.stage out m in
      let h : FlatHost = record w.host { stage = works w.node (suc w.attempts) w.passes } in
      let count : s.handed + call_count w.passes ≡ handed = ap₂ (λ a b. a + b) i.handed (sym stage.1) ∙ sym sum in
      let act : slice_get (activities_of s) k ≡ Some (activity_in ss h.stage) = activity_at ss s.hosts k w.host w.there ∙ ap (λ q. Some (activity_in ss q)) w.stage in
      subst (λ (t : FlatState). IsCore reading (record old { hosts = hosts; handed = handed }) t) (sym (steps_again s k w xs es c f))
      (core_put reading reading.variables old s hosts old.index k (s.handed + call_count w.passes) handed x (staged x g room) w.host h (λ j other. refl) i e w.there made (record {
        position = subst (λ q. IsAt x.position (record w.host { stage = stands (location_in q) })) w.stage here.position;
        stage = subst (λ q. IsStage reading q h.stage) (sym is) stage.0;
        fits = subst (Fits (size_of s.batches) x.handlers) w.stage here.fits;
        name_is = here.name_is;
        variables = here.variables;
        recap = here.recap;
      }) (subst (IsIndexOf old.index) (sym (set_same (activities_of s) k (activity_in ss h.stage) act)) i.index) count)

  pub leaves_by : (old : RunCore P) (hosts : Vec (HostState P)) (index : ReadyIndex) (k place : ℕ) (is_reached : Bool) (x y : HostState P)
      → slice_get old.hosts.items k ≡ Some x → hosts.items ≡ set old.hosts.items k y
      → ((g : FlatHost) → IsAs x.position g → IsAt y.position (record g { stage = stands left_play })) → y.stage ≡ Waits → recap_view y.recap ≡ left_recap is_reached (recap_view x.recap)
      → IsRunningAt old k (Some place) → LeavesIn k place old.index index
      → Leaves k is_reached old (record old { hosts = hosts; index = index })
  leaves_by old hosts index k place is_reached x y e made position waits counts is_running leaves reading s i w xs f =
      let here = host_in reading (size_of s.batches) old.hosts.items s.hosts k x w.host i.hosts e w.there in
      let is = running_is (slice_get (activities_of s) k) place (is_running reading s i) in
      subst (λ (t : FlatState). IsCore reading (record old { hosts = hosts; index = index }) t) (sym (steps_left s k w xs is_reached f))
      (core_put reading reading.variables old s hosts index k s.handed old.handed x y w.host (record w.host { stage = stands left_play; recap = left_recap is_reached w.host.recap })
      (λ j other. refl) i e w.there made (left_host reading (size_of s.batches) k x y w.host is_reached here position waits counts) (leaves.index (activities_of s) i.index is) i.handed)

  settles_on : (old : RunCore P) (hosts : Vec (HostState P)) (index : ReadyIndex) (k place : ℕ) (o : TaskOutcome) (end : TaskEnd) (play : RunPlay) (onward : Onward) (x y : HostState P)
      → slice_get old.hosts.items k ≡ Some x → hosts.items ≡ set old.hosts.items k y → play_of old old.current ≡ Some play
      → end.has_failed ≡ goes_wrong o.status → end.text ≡ o.text → end.notified ≡ o.notified → GoesTo play end x.position onward
      → y.position ≡ onward.position → y.handlers ≡ x.handlers → y.stage ≡ Waits → recap_view y.recap ≡ recap_after o.status (recap_view x.recap)
      → IsRunningAt old k (Some place) → GoesOnIn k place onward.to old.index index
      → Settles k o old (record old { hosts = hosts; index = index })
  settles_on old hosts index k place o end play onward x y e made plays fails texts notes to moved marks waits counts is_running goes reading s i w xs es comes again notified out =
      let here = host_in reading (size_of s.batches) old.hosts.items s.hosts k x w.host i.hosts e w.there in
      let is = running_is (slice_get (activities_of s) k) place (is_running reading s i) in
      let found = play_is reading.name (scheduled_plays old) (scheduled_batches old) old.current play s.batches i.batches plays in
      let same_batch : found.0 ≡ w.batch = ap (λ (bs : List program.Batch). first_or bs w.batch) (sym found.3 ∙ w.batches) in
      let denotes : IsPlay play w.batch.play = subst (λ (b : program.Batch). IsPlay play b.play) same_batch found.6 in
      let ss = plan_steps w.batch in
      let n = w.node in
      let ended = last_attempts es in
      let kept : AreKept (plan_steps w.batch) play.plan.steps.items = kept_steps play w.batch.play denotes in
      let size : size_of s.batches ≡ size_of (w.batch ∷ w.later) = ap size_of w.batches in
      let mine : IsHost reading (size_of (w.batch ∷ w.later)) k x w.host = subst (λ z. IsHost reading z k x w.host) size here in
      let fits : Fits (size_of (w.batch ∷ w.later)) x.handlers (works n w.attempts w.passes) = subst (Fits (size_of (w.batch ∷ w.later)) x.handlers) w.stage mine.fits in
      let failed : end.has_failed ≡ any_failed ended && not (step_at ss n).task.ignores = fails ∙ ap₂ (λ a b. a && not b) out.has_failed out.is_ignored in
      let ends : IsEndOf end (step_at ss n).task ended = record { failed = failed; text = λ q. ap text_of texts ∙ out.text (sym failed ∙ q) } in
      let at_node : IsAt x.position (standing_at n w.host) = subst (λ q. IsAt x.position (record w.host { stage = stands (location_in q) })) w.stage here.position in
      let gone : IsAt onward.position (gone_on ss n ended end.notified.items w.host) = to.host ss kept w.host n ended at_node fits.1 fits.2 ends in
      let g : FlatHost = gone_on ss n ended o.notified.items w.host in
      let gone_o : IsAt onward.position (gone_on ss n ended o.notified.items w.host) = subst (λ ms. IsAt onward.position (gone_on ss n ended ms.items w.host)) notes gone in
      let there : IsAt y.position (gone_on ss n ended o.notified.items w.host) = subst (λ p. IsAt p (gone_on ss n ended o.notified.items w.host)) (sym moved) gone_o in
      let fs = written_variables (step_at ss n).task ended w.host.variables in
      let new : IsHost (with_variables k (written_variables (step_at ss n).task ended w.host.variables) reading) (size_of (w.batch ∷ w.later)) k y (gone_on ss n ended o.notified.items w.host) =
      settled_host reading (size_of (w.batch ∷ w.later)) k o x y ss n w.attempts w.passes ended w.host mine w.stage out refl there marks waits counts in
      let steps : current_steps s.batches ≡ ss = ap current_steps w.batches in
      let goal : activity_in ss (gone_on ss n ended o.notified.items w.host).stage ≡ waits_at onward.to =
      ap (activity_in ss) gone_o.stage ∙ waits_where ss _ ∙ ap waits_at (sym (to.place ss kept (gone_on ss n ended o.notified.items w.host) gone_o ∙ ap (place_in ss) gone_o.stage)) in
      let r : Reading P = with_variables k fs reading in
      subst (λ (t : FlatState). IsCore r (record old { hosts = hosts; index = index }) t) (sym (steps_settled s k w xs es o.notified.items comes again notified))
      (core_put reading r.variables old s hosts index k s.handed old.handed x y w.host g (settled_keeps reading k fs) i e w.there made (subst (λ z. IsHost r z k y g) (sym size) new)
      (subst (λ a. IsIndexOf index (set (activities_of s) k a)) (sym (ap (λ qs. activity_in qs g.stage) steps ∙ goal)) (goes.index (activities_of s) i.index is)) i.handed)

  pub settles_by : (old : RunCore P) (hosts : Vec (HostState P)) (index : ReadyIndex) (k place : ℕ) (o : TaskOutcome) (end : TaskEnd) (onward : Onward) (x y : HostState P)
      → slice_get old.hosts.items k ≡ Some x → hosts.items ≡ set old.hosts.items k y
      → end.has_failed ≡ goes_wrong o.status → end.text ≡ o.text → end.notified ≡ o.notified → GoesFrom k end old onward
      → y.position ≡ onward.position → y.handlers ≡ x.handlers → y.stage ≡ Waits → recap_view y.recap ≡ recap_after o.status (recap_view x.recap)
      → IsRunningAt old k (Some place) → GoesOnIn k place onward.to old.index index
      → Settles k o old (record old { hosts = hosts; index = index })
  settles_by old hosts index k place o end onward x y e made fails texts notes to moved marks waits counts is_running goes = by (play_of old old.current) refl where
    by : (p : Option RunPlay) → play_of old old.current ≡ p → Settles k o old (record old { hosts = hosts; index = index })
    by None f = λ reading s i w.
        let none : s.batches ≡ [] = play_none reading.name (scheduled_plays old) (scheduled_batches old) old.current s.batches i.batches f in
        let no : w.batch ∷ w.later ≡ [] = sym w.batches ∙ none in cc
    by (Some play) f = settles_on old hosts index k place o end play onward x y e made f fails texts notes (to.goes play x f e) moved marks waits counts is_running goes

-- the tickets of the hosts, of which one is in another stage
pub tickets_set : {P : Type 0} → (xs : List (HostState P)) (k : ℕ) (y : HostState P) → map (λ x. ticket_of x.stage) (set xs k y) ≡ set (map (λ x. ticket_of x.stage) xs) k (ticket_of y.stage)
tickets_set xs k y = map_set (λ x. ticket_of x.stage) xs k y

again_ticket : {P : Type 0} → (t n : ℕ) (g : Stage P) (j : ℕ × ℕ) → job_of g ≡ Some j → ticket_of (repeated t n g) ≡ Some t
again_ticket t n Waits j e = cc
again_ticket t n (Runs u i c ps) j e = refl

pub tickets_again : {P : Type 0} → (xs : List (HostState P)) (k t n : ℕ) (g : Stage P) (j : ℕ × ℕ) (y : HostState P) → job_of g ≡ Some j → y.stage ≡ repeated t n g → map (λ x. ticket_of x.stage) (set xs k y) ≡ set (map (λ x. ticket_of x.stage) xs) k (Some t)
tickets_again xs k t n g j y e f = tickets_set xs k y ∙ ap (set (map (λ x. ticket_of x.stage) xs) k) (ap ticket_of f ∙ again_ticket t n g j e)

-- where an event can't happen
module _ {P : Type 0} (old : RunCore P) (k : ℕ) where
  no_and : (a : Bool) → a && false ≡ false
  no_and true = refl
  no_and false = refl

  start_off : (s : FlatState) (bs : List program.Batch) (o : Option FlatHost) → host_at k s.hosts ≡ o → ready_place (slice_get (activities_of s) k) ≡ None → s.batches ≡ bs → is_possible s bs (start k) ≡ false
  start_off s [] o e none same = refl
  start_off s (b ∷ bs) None e none same = ap (λ p. of_host p (λ h. can_start s b h.stage)) e
  start_off s (b ∷ bs) (Some h) e none same =
      ap (λ p. of_host p (λ g. can_start s b g.stage)) e ∙ by h.stage (sym (ap ready_place (activity_at (current_steps s.batches) s.hosts k h e)) ∙ none) where
        by : (g : FlatStage) → ready_place (Some (activity_in (current_steps s.batches) g)) ≡ None → can_start s b g ≡ false
        by (stands at_end) f = refl
        by (stands left_play) f = refl
        by (stands (at n)) f = cc
        by (works n i ps) f = refl

  pub cannot_start : IsReadyAt old k None → IsDisabled (start k) old
  cannot_start is_ready reading s i = ap (λ q. not s.is_stopped && q) (start_off s s.batches (host_at k s.hosts) refl (sym (is_ready reading s i)) refl) ∙ no_and (not s.is_stopped)

  give_off : (s : FlatState) (xs : List Answer) (bs : List program.Batch) (o : Option FlatHost) → host_at k s.hosts ≡ o → running_place (slice_get (activities_of s) k) ≡ None → is_possible s bs (give k xs) ≡ false
  give_off s xs [] o e none = refl
  give_off s xs (b ∷ bs) None e none = ap (λ p. of_host p (λ h. is_out h.stage)) e
  give_off s xs (b ∷ bs) (Some h) e none =
      ap (λ p. of_host p (λ g. is_out g.stage)) e ∙ by h.stage (sym (ap running_place (activity_at (current_steps s.batches) s.hosts k h e)) ∙ none) where
        by : (g : FlatStage) → running_place (Some (activity_in (current_steps s.batches) g)) ≡ None → is_out g ≡ false
        by (stands p) f = refl
        by (works n i ps) f = cc

  pub cannot_give : IsRunningAt old k None → (xs : List Answer) → IsDisabled (give k xs) old
  cannot_give is_running xs reading s i = ap (λ q. not s.is_stopped && q) (give_off s xs s.batches (host_at k s.hosts) refl (sym (is_running reading s i))) ∙ no_and (not s.is_stopped)

  -- a host that isn't there, or has no job
  pub missing_runs : slice_get old.hosts.items k ≡ None → IsRunningAt old k None
  missing_runs e reading s i = sym (ap running_place (no_activity (current_steps s.batches) s.hosts k (host_missing reading (size_of s.batches) old.hosts.items s.hosts k i.hosts e)))

  pub missing_ready : slice_get old.hosts.items k ≡ None → IsReadyAt old k None
  missing_ready e reading s i = sym (ap ready_place (no_activity (current_steps s.batches) s.hosts k (host_missing reading (size_of s.batches) old.hosts.items s.hosts k i.hosts e)))

  ended_idle : (reading : Reading P) (s : FlatState) → IsCore reading old s → s.batches ≡ [] → (o : Option FlatHost) → host_at k s.hosts ≡ o → (f : Option Activity → Option ℕ) → f None ≡ None → f (Some idle) ≡ None → f (slice_get (activities_of s) k) ≡ None
  ended_idle reading s i e None g f n m = ap f (no_activity (current_steps s.batches) s.hosts k g) ∙ n
  ended_idle reading s i e (Some h) g f n m = by (slice_get old.hosts.items k) refl where
    by : (o : Option (HostState P)) → slice_get old.hosts.items k ≡ o → f (slice_get (activities_of s) k) ≡ None
    by None q = let no : None ≡ Some h = sym (host_missing reading (size_of s.batches) old.hosts.items s.hosts k i.hosts q) ∙ g in cc
    by (Some x) q =
        let here = host_in reading (size_of s.batches) old.hosts.items s.hosts k x h i.hosts q g in
        ap f (activity_at (current_steps s.batches) s.hosts k h g ∙ ap Some (fits_nowhere reading (current_steps s.batches) (size_of s.batches) x.handlers h.stage (ap (λ bs. (size_of bs).nodes) e) here.fits)) ∙ m

  pub ended_runs : play_of old old.current ≡ None → IsRunningAt old k None
  ended_runs e reading s i = sym (ended_idle reading s i (play_none reading.name (scheduled_plays old) (scheduled_batches old) old.current s.batches i.batches e) (host_at k s.hosts) refl running_place refl refl)

  pub ended_ready : play_of old old.current ≡ None → IsReadyAt old k None
  ended_ready e reading s i = sym (ended_idle reading s i (play_none reading.name (scheduled_plays old) (scheduled_batches old) old.current s.batches i.batches e) (host_at k s.hosts) refl ready_place refl refl)

  -- a host that is there
  module _ (x : HostState P) (e : slice_get old.hosts.items k ≡ Some x) where
    pub waits_runs : x.stage ≡ Waits → IsRunningAt old k None
    waits_runs f reading s i =
        let at = host_there reading (size_of s.batches) old.hosts.items s.hosts k x i.hosts e in
        sym (ap running_place (activity_at (current_steps s.batches) s.hosts k at.0 at.1) ∙ waits_not_run reading (current_steps s.batches) at.0.stage (subst (λ g. IsStage reading g at.0.stage) f at.2.stage))

    pub runs_ready : (t i c : ℕ) (ps : P) → x.stage ≡ Runs t i c ps → IsReadyAt old k None
    runs_ready t j c ps f reading s i =
        let at = host_there reading (size_of s.batches) old.hosts.items s.hosts k x i.hosts e in
        sym (ap ready_place (activity_at (current_steps s.batches) s.hosts k at.0 at.1) ∙ runs_not_ready reading (current_steps s.batches) at.0.stage t j c ps (subst (λ g. IsStage reading g at.0.stage) f at.2.stage))

    pub no_job_runs : job_of x.stage ≡ None → IsRunningAt old k None
    no_job_runs f = by x.stage refl f where
      by : (g : Stage P) → x.stage ≡ g → job_of g ≡ None → IsRunningAt old k None
      by Waits same f = waits_runs same
      by (Runs t i c ps) same f = cc

    at_place : (reading : Reading P) (s : FlatState) → IsCore reading old s → (play : RunPlay) (steps : List Step) (o : Option ℕ) (h : FlatHost) → play_of old old.current ≡ Some play → steps ≡ play.plan.steps.items → IsPlaceAt steps x.position o
        → IsHost reading (size_of s.batches) k x h → o ≡ place_in (current_steps s.batches) (stands (location_in h.stage))
    at_place reading s i play steps o h f same places here =
        let found = play_is reading.name (scheduled_plays old) (scheduled_batches old) old.current play s.batches i.batches f in
        let kept : AreKept (plan_steps found.0) steps = subst (λ (xs : List Step). AreKept (plan_steps found.0) xs) (sym same) (kept_steps play found.0.play found.6) in
        places (plan_steps found.0) kept (record h { stage = stands (location_in h.stage) }) here.position ∙ ap (λ bs. place_in (current_steps bs) (stands (location_in h.stage))) (sym found.3)

    pub waits_ready_at : (play : RunPlay) (steps : List Step) (o : Option ℕ) → x.stage ≡ Waits → play_of old old.current ≡ Some play → steps ≡ play.plan.steps.items → IsPlaceAt steps x.position o → IsReadyAt old k o
    waits_ready_at play steps o w f same places reading s i =
        let at = host_there reading (size_of s.batches) old.hosts.items s.hosts k x i.hosts e in
        at_place reading s i play steps o at.0 f same places at.2
        ∙ sym (ap ready_place (activity_at (current_steps s.batches) s.hosts k at.0 at.1) ∙ waits_ready reading (current_steps s.batches) at.0.stage (subst (λ g. IsStage reading g at.0.stage) w at.2.stage))

    pub runs_running_at : (play : RunPlay) (steps : List Step) (o : Option ℕ) (t i c : ℕ) (ps : P) → x.stage ≡ Runs t i c ps → play_of old old.current ≡ Some play → steps ≡ play.plan.steps.items → IsPlaceAt steps x.position o → IsRunningAt old k o
    runs_running_at play steps o t j c ps w f same places reading s i =
        let at = host_there reading (size_of s.batches) old.hosts.items s.hosts k x i.hosts e in
        at_place reading s i play steps o at.0 f same places at.2
        ∙ sym (ap running_place (activity_at (current_steps s.batches) s.hosts k at.0 at.1) ∙ runs_at reading (current_steps s.batches) at.0.stage t j c ps (subst (λ g. IsStage reading g at.0.stage) w at.2.stage))

  -- no job is out where the host can't go on
  pub gone_job : (ms : List ℕ) → HasGoneFrom k ms old → HasNoJob k ms old
  gone_job ms gone reading s i w t q notes = by (play_of old old.current) refl (slice_get old.hosts.items k) refl where
    by : (p : Option RunPlay) → play_of old old.current ≡ p → (o : Option (HostState P)) → slice_get old.hosts.items k ≡ o → ⊥
    by None f o g =
        let none : s.batches ≡ [] = play_none reading.name (scheduled_plays old) (scheduled_batches old) old.current s.batches i.batches f in
        let no : w.batch ∷ w.later ≡ [] = sym w.batches ∙ none in cc
    by (Some play) f None g = let no : None ≡ Some w.host = sym (host_missing reading (size_of s.batches) old.hosts.items s.hosts k i.hosts g) ∙ w.there in cc
    by (Some play) f (Some x) g =
        let found = play_is reading.name (scheduled_plays old) (scheduled_batches old) old.current play s.batches i.batches f in
        let same_batch : found.0 ≡ w.batch = ap (λ (bs : List program.Batch). first_or bs w.batch) (sym found.3 ∙ w.batches) in
        let denotes : IsPlay play w.batch.play = subst (λ (b : program.Batch). IsPlay play b.play) same_batch found.6 in
        let here = host_in reading (size_of s.batches) old.hosts.items s.hosts k x w.host i.hosts g w.there in
        let fits : Fits (size_of (w.batch ∷ w.later)) x.handlers (works w.node w.attempts w.passes) = subst (λ z. Fits z x.handlers (works w.node w.attempts w.passes)) (ap size_of w.batches) (subst (Fits (size_of s.batches) x.handlers) w.stage here.fits) in
        let many = as_many (plan_steps w.batch) play.plan.steps.items (kept_steps play w.batch.play denotes) in
        gone play x f g w.host w.node (subst (λ r. IsAt x.position (record w.host { stage = stands (location_in r) })) w.stage here.position) fits.1 (subst (λ n. w.node ≤ n) many fits.2)
        (ap (λ n. are_below n ms) fits.0 ∙ notified_below w.batch.play t q ms notes)

  pub no_running_job : (ms : List ℕ) → IsRunningAt old k None → HasNoJob k ms old
  no_running_job ms none reading s i w t q notes =
      let at : running_place (slice_get (activities_of s) k) ≡ Some (step_at (current_steps s.batches) w.node).task.place =
      ap running_place (activity_at (current_steps s.batches) s.hosts k w.host w.there ∙ ap (λ g. Some (activity_in (current_steps s.batches) g)) w.stage) in
      let no : None ≡ Some (step_at (current_steps s.batches) w.node).task.place = none reading s i ∙ at in cc

  pub gone_from : (r : Result Onward CoreFault) (ms : List ℕ) (play : RunPlay) (x : HostState P) → slice_get old.hosts.items k ≡ Some x → play_of old old.current ≡ Some play
      → IfErr r (λ e. e ≡ NotThere → HasGone play x.position x.handlers ms) → IfErr r (λ e. e ≡ NotThere → HasGoneFrom k ms old)
  gone_from (Ok o) ms play x e f i = tt
  gone_from (Err d) ms play x e f i = λ same p y g h.
      subst (λ (z : HostState P). HasGone p z.position z.handlers ms) (ap (λ o. unwrap_or o x) (sym e ∙ h))
      (subst (λ q. HasGone q x.position x.handlers ms) (ap (λ o. unwrap_or o play) (sym f ∙ g)) (i same))

  -- a recap with room for one more of each is never full
  pub full_recap : (x : HostState P) (r : Option Recap) → slice_get old.hosts.items k ≡ Some x → (All (λ n. suc n < 2 ^ 64) (counts_of x.recap) → IsSome r) → ((q : Recap) → r ≡ Some q → ⊥) → All (λ n. suc n < 2 ^ 64) (counts_at old k) → ⊥
  full_recap x None e room none all = untrue (room (subst (λ o. All (λ n. suc n < 2 ^ 64) (counts_in o)) e all))
  full_recap x (Some q) e room none all = none q refl
