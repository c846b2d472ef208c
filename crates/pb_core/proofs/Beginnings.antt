-- How the hosts of a batch begin their play.
use Rattle.std.proofs.Common.{◌≡◌, ◌<◌, ℕ, zero, suc, ◌+◌, List, [], ◌∷◌, ◌++◌, map, length, drop, take, set, get_or, Bool, true, false, ◌&&◌, ◌||◌, nat_eq, cond, is_some, IfSome, Option, Some, None, option_map, unwrap_or, slice_get, refl, sym, ap, ap₂, subst, ◌∙◌, arith}
use Rattle.std.proofs.lemmas.Bool.{eqb-true}
use Rattle.std.proofs.lemmas.Bool.Decides.{nat_tests}
use Rattle.std.proofs.lemmas.List.{take_more}
use Rattle.std.specs.Global.{Vec}
use Rattle.std.specs.Str.{bytes_eq}
use Rattle.pb_semantics.specs.Keeps.{is_among}
use Rattle.pb_semantics.proofs.Bools.{untrue, and-left, and-right}
use Rattle.pb_language.specs.Expression.{Name}
use Rattle.pb_language.specs.Program as program
use Rattle.pb_language.specs.Machine.{any_names}
use Rattle.pb_machine.specs.Steps as flat
use Rattle.pb_machine.specs.Steps.{play_begin}
use Rattle.pb_machine.specs.Hosts as machine
use Rattle.pb_machine.specs.Hosts.{FlatHost, FlatStage, stands, works, at, at_end, left_play, arrived}
use Rattle.pb_machine.specs.Run.{FlatState, plan_steps, is_on_stage, is_on, is_active_host, still_active, host_at, begun, all_begun, with_batches, all_idle, is_idle}
use Rattle.pb_position.specs.declared.position.Location.{Location}
use Rattle.pb_position.specs.declared.position.Location.TheVariants.{End, Left, Node}
use Rattle.std.proofs.Math.Nat.{ℕ_set}
use Rattle.pb_position.specs.Positions.{IsAt, handlers_of, location_view}
use Rattle.pb_position.specs.Calls.{BeginsPlay}
use Rattle.pb_steps.specs.declared.step.Step.{Step}
use Rattle.pb_steps.specs.Words.{outline_view}
use Rattle.pb_core.specs.declared.batch.Batch.{Batch}
use Rattle.pb_core.specs.declared.batch.RunPlay.{RunPlay}
use Rattle.pb_core.specs.declared.entry.Entry.{Entry}
use Rattle.pb_core.specs.declared.host.HostState.{HostState}
use Rattle.pb_core.specs.declared.host.Stage.{Stage}
use Rattle.pb_core.specs.declared.host.Stage.TheVariants.{Waits, Runs}
use Rattle.pb_core.specs.declared.index.ReadyIndex.{ReadyIndex}
use Rattle.pb_core.specs.declared.run.RunCore.{RunCore}
use Rattle.pb_core.specs.Readings.{Reading}
use Rattle.pb_core.specs.Activities.{idle, activity_in, activities, count_running, running_in, all_idle_in}
use Rattle.pb_core.specs.Activities.{is_idle as is_idle_one}
use Rattle.pb_core.specs.Indexes.{Places, has_place, is_ready, IsIndexOf, HoldsOnly, AddsPlace, waits_at}
use Rattle.pb_core.specs.Hosts.{ticket_of, IsPlaceAt, place_in, location_in, PlaySize, Fits, IsStage, IsHost, IsHostAt}
use Rattle.pb_core.specs.Entries.{is_here, on_at, any_on, is_in, Begins, BeginsAt, EntryIf, EntryFor, or_else, found_one, found, with_entry, is_at, waits_in, AllBegin, HaveEntries, AddsEntry, AreOthersGone, AreHosts, IsHere, IsAnyHere, IsEntry, AreEntries, entered}
use Rattle.pb_core.specs.Cores.{IsPlay, IsBatch, AreBatches, size_of, IsCore, scheduled_batches, scheduled_plays, play_of}
use Rattle.pb_core.specs.Events.{RunsBatch}
use Rattle.pb_core.proofs.Hosts.{as_same, host_there, host_missing, set_here, set_there, apart, activity_at, no_activity, waits_where, stands_there, arrived_fits, arrived_kept, arrived_no_run}
use Rattle.pb_core.proofs.Indexes.{holds_only}
use Rattle.pb_core.proofs.Cores.{drop_at, kept_steps, play_is, no_batches}

-- entries
or_none : (a : Option Entry) → or_else a None ≡ a
or_none None = refl
or_none (Some p) = refl

or_twice : (a b c : Option Entry) → or_else a (or_else b c) ≡ or_else (or_else a b) c
or_twice None b c = refl
or_twice (Some p) b c = refl

found_more : (k : ℕ) (es : List Entry) (e : Entry) → found k (es ++ e ∷ []) ≡ or_else (found k es) (found_one k e)
found_more k [] e = or_none (found_one k e)
found_more k (d ∷ es) e = ap (or_else (found_one k d)) (found_more k es e) ∙ or_twice (found_one k d) (found k es) (found_one k e)

or_no : (b : Bool) → b || false ≡ b
or_no true = refl
or_no false = refl

or_join : (a b c : Bool) → a || (b || c) ≡ (a || b) || c
or_join true b c = refl
or_join false b c = refl

in_more : (k m : ℕ) (ms : List ℕ) → is_in k (ms ++ m ∷ []) ≡ is_in k ms || nat_eq k m
in_more k m [] = or_no (nat_eq k m)
in_more k m (n ∷ ms) = ap (λ b. nat_eq k n || b) (in_more k m ms) ∙ or_join (nat_eq k n) (is_in k ms) (nat_eq k m)

abbrev found_opt : ℕ → Option Entry → Option Entry
found_opt k None = None
found_opt k (Some d) = found_one k d

found_with : (k : ℕ) (es : List Entry) (e : Option Entry) → found k (with_entry es e) ≡ or_else (found k es) (found_opt k e)
found_with k es None = sym (or_none (found k es))
found_with k es (Some d) = found_more k es d

abbrev IsOf : ℕ → Option Entry → Type 0
IsOf m None = Unit {0}
IsOf m (Some d) = d.host ≡ m

opt_same : (k m : ℕ) (e : Option Entry) → IsOf m e → nat_eq k m ≡ true → found_opt k e ≡ e
opt_same k m None i q = refl
opt_same k m (Some d) i q = ap (λ b. cond b (Some d) None) (ap (nat_eq k) i ∙ q)

opt_other : (k m : ℕ) (e : Option Entry) → IsOf m e → nat_eq k m ≡ false → found_opt k e ≡ None
opt_other k m None i q = refl
opt_other k m (Some d) i q = ap (λ b. cond b (Some d) None) (ap (nat_eq k) i ∙ q)

both : (play : RunPlay) (w b : Bool) (p : Option FlatHost) (f e : Option Entry) → EntryIf play (b && w) p f → EntryIf play w p e → EntryIf play ((b || true) && w) p (or_else f e)
both play true true p None e i j = j
both play true true p (Some d) e i j = i
both play true false p f e i j = subst (λ (g : Option Entry). EntryIf play true p (or_else g e)) (sym i) j
both play false true p f e i j = ap₂ or_else i j
both play false false p f e i j = ap₂ or_else i j

entry_same : (play : RunPlay) (b c : Bool) (p : Option FlatHost) (f e : Option Entry) → b ≡ c → f ≡ e → EntryFor play b p f → EntryFor play c p e
entry_same play b c p f e g h i = subst (λ x. EntryFor play x p e) g (subst (λ x. EntryFor play b p x) h i)

all_more : (play : RunPlay) (hs : List FlatHost) (es : List Entry) (d : Entry) → AllBegin play hs es → BeginsAt play (host_at d.host hs) (Some d) → AllBegin play hs (es ++ d ∷ [])
all_more play hs [] d i j = (j, tt)
all_more play hs (e ∷ es) d i j = (i.0, all_more play hs es d i.1 j)

begins_true : (play : RunPlay) (b : Bool) (p : Option FlatHost) (d : Entry) → EntryIf play b p (Some d) → BeginsAt play p (Some d)
begins_true play true p d i = i
begins_true play false p d i = cc

all_with : (play : RunPlay) (hs : List FlatHost) (es : List Entry) (m : ℕ) (e : Option Entry) → AllBegin play hs es → IsOf m e → EntryFor play true (host_at m hs) e → AllBegin play hs (with_entry es e)
all_with play hs es m None i o j = i
all_with play hs es m (Some d) i o j = all_more play hs es d i (subst (λ n. BeginsAt play (host_at n hs) (Some d)) (sym o) (begins_true play (on_at (host_at m hs)) (host_at m hs) d j))

entries_more : (play : RunPlay) (ms : List ℕ) (hs : List FlatHost) (es : List Entry) (m : ℕ) (e : Option Entry) → HaveEntries play ms hs es → EntryFor play true (host_at m hs) e → IsOf m e → HaveEntries play (ms ++ m ∷ []) hs (with_entry es e)
entries_more play ms hs es m e i j o = record {
  each = λ k. by k (nat_eq k m) refl;
  all = all_with play hs es m e i.all o j;
} where
  by : (k : ℕ) (q : Bool) → nat_eq k m ≡ q → EntryFor play (is_in k (ms ++ m ∷ [])) (host_at k hs) (found k (with_entry es e))
  by k true same =
      entry_same play (is_in k ms || true) (is_in k (ms ++ m ∷ [])) (host_at k hs) (or_else (found k es) e) (found k (with_entry es e))
      (sym (in_more k m ms ∙ ap (λ b. is_in k ms || b) same)) (sym (found_with k es e ∙ ap (or_else (found k es)) (opt_same k m e o same)))
      (both play (on_at (host_at k hs)) (is_in k ms) (host_at k hs) (found k es) e (i.each k) (subst (λ n. EntryFor play true (host_at n hs) e) (sym (eqb-true k m same)) j))
  by k false other =
      entry_same play (is_in k ms) (is_in k (ms ++ m ∷ [])) (host_at k hs) (found k es) (found k (with_entry es e))
      (sym (in_more k m ms ∙ ap (λ b. is_in k ms || b) other ∙ or_no (is_in k ms))) (sym (found_with k es e ∙ ap (or_else (found k es)) (opt_other k m e o other) ∙ or_none (found k es)))
      (i.each k)

is_of : (m : ℕ) (e : Option Entry) → IfSome e (λ d. d.host ≡ m) → IsOf m e
is_of m None i = tt
is_of m (Some d) i = i

-- the host where its entry says
abbrev pub placed : {P : Type 0} → HostState P → (e : Entry) → handlers_of e.position ≡ e.handlers → HostState P
placed x e room = record {
  position = e.position;
  handlers = e.handlers;
  stage = x.stage;
  recap = x.recap;
  room = room;
}

module _ {P : Type 0} where
  pub entries_none : (play : RunPlay) (xs : List (HostState P)) → AreEntries play [] xs []
  entries_none play xs reading z hs are = record { each = λ k. refl; all = tt }

  pub entries_by : (play : RunPlay) (ms ds : List ℕ) (i : ℕ) (xs ys : List (HostState P)) (es fs : List Entry) (m : ℕ) (e : Option Entry)
      → AreEntries play (take i ms) xs es → IsEntry play xs m e → IfSome e (λ d. d.host ≡ m) → m ≡ get_or ms i 0 → i < length ms → fs ≡ with_entry es e → AreEntries play (take (i + 1) ms) xs fs
  entries_by play ms ds i xs ys es fs m e are entry host here few made reading z hs i_hosts =
      let last : take (i + 1) ms ≡ take i ms ++ m ∷ [] = take_more ms i 0 few ∙ ap (λ n. take i ms ++ n ∷ []) (sym here) in
      subst (λ ns. HaveEntries play ns hs fs) (sym last) (subst (λ ys. HaveEntries play (take i ms ++ m ∷ []) hs ys) (sym made)
      (entries_more play (take i ms) hs es m e (are reading z hs i_hosts) (entry reading z hs i_hosts) (is_of m e host)))

  -- the hosts begin
  entered_twice : (f c : Option Entry) (o : Option (HostState P)) → entered (or_else f c) o ≡ entered f (entered c o)
  entered_twice None c None = refl
  entered_twice (Some p) c None = refl
  entered_twice None None (Some x) = refl
  entered_twice None (Some q) (Some x) = refl
  entered_twice (Some p) None (Some x) = refl
  entered_twice (Some p) (Some q) (Some x) = refl

  pub entered_last : (k : ℕ) (es : List Entry) (e : Entry) (o : Option (HostState P)) → entered (found k (es ++ e ∷ [])) o ≡ entered (found k es) (entered (found_one k e) o)
  entered_last k es e o = ap (λ p. entered p o) (found_more k es e) ∙ entered_twice (found k es) (found_one k e) o

  pub entered_none : (o : Option (HostState P)) → entered None o ≡ o
  entered_none None = refl
  entered_none (Some x) = refl

  pub entered_all : (k : ℕ) (es : List Entry) (o : Option (HostState P)) → es ≡ [] → o ≡ entered (found k es) o
  entered_all k es o e = sym (ap (λ ds. entered (found k ds) o) e ∙ entered_none o)

  pub enters_past : (xs : List (HostState P)) (e : Entry) → slice_get xs e.host ≡ None → (k : ℕ) → slice_get xs k ≡ entered (found_one k e) (slice_get xs k)
  enters_past xs e past k = by (nat_eq k e.host) refl where
    by : (q : Bool) → nat_eq k e.host ≡ q → slice_get xs k ≡ entered (cond q (Some e) None) (slice_get xs k)
    by true same =
        let gone : slice_get xs k ≡ None = ap (slice_get xs) (eqb-true k e.host same) ∙ past in
        gone ∙ sym (ap (entered (Some e)) gone)
    by false other = sym (entered_none (slice_get xs k))

  pub enters_one : (xs : List (HostState P)) (x : HostState P) (e : Entry) (room : handlers_of e.position ≡ e.handlers) → slice_get xs e.host ≡ Some x
      → (k : ℕ) → slice_get (set xs e.host (placed x e room)) k ≡ entered (found_one k e) (slice_get xs k)
  enters_one xs x e room there k = by (nat_eq k e.host) refl where
    is : Some (placed x e room) ≡ entered (Some e) (Some x)
    is = ap (λ (r : handlers_of e.position ≡ e.handlers). Some (placed x e r)) (ℕ_set (handlers_of e.position) e.handlers room e.room)

    by : (q : Bool) → nat_eq k e.host ≡ q → slice_get (set xs e.host (placed x e room)) k ≡ entered (cond q (Some e) None) (slice_get xs k)
    by true same =
        subst (λ j. slice_get (set xs e.host (placed x e room)) j ≡ entered (Some e) (slice_get xs j)) (sym (eqb-true k e.host same))
        (set_here xs e.host x (placed x e room) there ∙ is ∙ sym (ap (entered (Some e)) there))
    by false other = set_there xs e.host k (placed x e room) (λ f. apart k e.host other (sym f)) ∙ sym (entered_none (slice_get xs k))

abbrev ticket_at : {P : Type 0} → Option (HostState P) → Option (Option ℕ)
ticket_at o = option_map (λ x. ticket_of x.stage) o

tickets_by : {P : Type 0} → (xs ys : List (HostState P)) → ((k : ℕ) → ticket_at (slice_get ys k) ≡ ticket_at (slice_get xs k)) → map (λ x. ticket_of x.stage) ys ≡ map (λ x. ticket_of x.stage) xs
tickets_by [] [] same = refl
tickets_by [] (y ∷ ys) same = let no = same 0 in cc
tickets_by (x ∷ xs) [] same = let no = same 0 in cc
tickets_by (x ∷ xs) (y ∷ ys) same = ap₂ (λ t ts. t ∷ ts) (ap (λ o. unwrap_or o (ticket_of x.stage)) (same 0)) (tickets_by xs ys (λ k. same (suc k)))

entered_ticket : {P : Type 0} → (e : Option Entry) (o : Option (HostState P)) → ticket_at (entered e o) ≡ ticket_at o
entered_ticket e None = refl
entered_ticket None (Some x) = refl
entered_ticket (Some d) (Some x) = refl

pub entered_tickets : {P : Type 0} → (es : List Entry) (xs ys : List (HostState P)) → ((k : ℕ) → slice_get ys k ≡ entered (found k es) (slice_get xs k)) → map (λ x. ticket_of x.stage) ys ≡ map (λ x. ticket_of x.stage) xs
entered_tickets es xs ys new = tickets_by xs ys (λ k. ap ticket_at (new k) ∙ entered_ticket (found k es) (slice_get xs k))

pub no_entries : (es : List Entry) (n : ℕ) → n ≡ length es → (0 < n → false ≡ true) → es ≡ []
no_entries [] n e h = refl
no_entries (d ∷ es) n e h = let some : 0 < n = omega (arith, e) in untrue (h some)

-- the index of those that begin
waits_more : (p k : ℕ) (es : List Entry) (e : Entry) → waits_in p k (es ++ e ∷ []) ≡ waits_in p k es || (is_at p e.place && nat_eq k e.host)
waits_more p k [] e = or_no (is_at p e.place && nat_eq k e.host)
waits_more p k (d ∷ es) e = ap (λ b. (is_at p d.place && nat_eq k d.host) || b) (waits_more p k es e) ∙ or_join (is_at p d.place && nat_eq k d.host) (waits_in p k es) (is_at p e.place && nat_eq k e.host)

or_swap : (a b : Bool) → a || b ≡ b || a
or_swap true true = refl
or_swap true false = refl
or_swap false true = refl
or_swap false false = refl

take_next : (es : List Entry) (i : ℕ) (e : Entry) → i < length es → e ≡ get_or es i e → take (i + 1) es ≡ take i es ++ e ∷ []
take_next es i e h f = take_more es i e h ∙ ap (λ d. take i es ++ d ∷ []) (sym f)

pub holds_next : (es : List Entry) (i : ℕ) (e : Entry) (old new : ReadyIndex) → HoldsOnly (λ place host. waits_in place host (take i es)) old → i < length es → e ≡ get_or es i e → AddsEntry e old new
    → HoldsOnly (λ place host. waits_in place host (take (i + 1) es)) new
holds_next es i e old new holds few here adds = record {
  waiting = λ q j. adds.waiting q j ∙ ap (λ b. (is_at q e.place && nat_eq j e.host) || b) (holds.waiting q j)
      ∙ or_swap (is_at q e.place && nat_eq j e.host) (waits_in q j (take i es)) ∙ sym (ap (waits_in q j) (take_next es i e few here) ∙ waits_more q j (take i es) e);
  running = ap (λ (s : Places). s.keys) adds.running ∙ holds.running;
}

pub adds_place : (e : Entry) (p : ℕ) (old new : ReadyIndex) → e.place ≡ Some p → AddsPlace e.host p old.waiting new.waiting → new.running ≡ old.running → AddsEntry e old new
adds_place e p old new here adds same = record {
  waiting = λ q j. adds q j ∙ ap (λ o. (is_at q o && nat_eq j e.host) || has_place q j old.waiting) (sym here);
  running = same;
}

pub adds_none : (e : Entry) (old : ReadyIndex) → e.place ≡ None → AddsEntry e old old
adds_none e old here = record {
  waiting = λ q j. sym (ap (λ o. (is_at q o && nat_eq j e.host) || has_place q j old.waiting) here);
  running = refl;
}

abbrev AllAt : Option ℕ → ℕ → List Entry → Type 0
AllAt o k [] = Unit {0}
AllAt o k (e ∷ es) = (nat_eq k e.host ≡ true → e.place ≡ o) × AllAt o k es

waits_found : (o : Option ℕ) (p k : ℕ) (es : List Entry) → AllAt o k es → waits_in p k es ≡ is_some (found k es) && is_at p o
waits_found o p k [] i = refl
waits_found o p k (e ∷ es) i = by (nat_eq k e.host) refl (waits_found o p k es i.1) where
  first : (a f : Bool) → (a && true) || (f && a) ≡ a
  first true f = refl
  first false true = refl
  first false false = refl

  none : (a : Bool) (b : Bool) → (a && false) || b ≡ b
  none true b = refl
  none false b = refl

  by : (q : Bool) → nat_eq k e.host ≡ q → waits_in p k es ≡ is_some (found k es) && is_at p o → (is_at p e.place && nat_eq k e.host) || waits_in p k es ≡ is_some (or_else (cond (nat_eq k e.host) (Some e) None) (found k es)) && is_at p o
  by true same rest =
      ap₂ (λ a b. (is_at p a && b) || waits_in p k es) (i.0 same) same ∙ ap (λ b. (is_at p o && true) || b) rest ∙ first (is_at p o) (is_some (found k es))
      ∙ sym (ap (λ b. is_some (or_else (cond b (Some e) None) (found k es)) && is_at p o) same)
  by false other rest =
      ap (λ b. (is_at p e.place && b) || waits_in p k es) other ∙ none (is_at p e.place) (waits_in p k es) ∙ rest
      ∙ sym (ap (λ b. is_some (or_else (cond b (Some e) None) (found k es)) && is_at p o) other)

-- which hosts are active
zero_suc : (j : ℕ) → nat_eq 0 (suc j) ≡ false
zero_suc j = grind (arith, nat_tests)

suc_zero : (j : ℕ) → nat_eq (suc j) 0 ≡ false
suc_zero j = grind (arith, nat_tests)

suc_suc : (k j : ℕ) → nat_eq (suc k) (suc j) ≡ nat_eq k j
suc_suc k j = by (nat_eq k j) refl where
  by : (q : Bool) → nat_eq k j ≡ q → nat_eq (suc k) (suc j) ≡ q
  by true e = grind (arith, nat_tests, e)
  by false e = grind (arith, nat_tests, e)

and_true : (b : Bool) → (b && true) || false ≡ b
and_true true = refl
and_true false = refl

and_false : (a b : Bool) → (a && false) || b ≡ b
and_false true b = refl
and_false false b = refl

active_none : (g : Name) (hs : List FlatHost) → ((j : ℕ) (h : FlatHost) → host_at j hs ≡ Some h → bytes_eq g h.name ≡ false) → is_active_host g hs ≡ false
active_none g [] e = refl
active_none g (h ∷ hs) e = ap₂ (λ a b. (is_on h && a) || b) (e 0 h refl) (active_none g hs (λ j. e (suc j))) ∙ and_false (is_on h) false

active_at : (g : Name) (hs : List FlatHost) (k : ℕ) → ((j : ℕ) (h : FlatHost) → host_at j hs ≡ Some h → bytes_eq g h.name ≡ nat_eq k j) → is_active_host g hs ≡ on_at (host_at k hs)
active_at g [] k e = refl
active_at g (h ∷ hs) zero e = ap₂ (λ a b. (is_on h && a) || b) (e 0 h refl) (active_none g hs (λ j i f. e (suc j) i f ∙ zero_suc j)) ∙ and_true (is_on h)
active_at g (h ∷ hs) (suc k) e = ap₂ (λ a b. (is_on h && a) || b) (e 0 h refl ∙ suc_zero k) (active_at g hs k (λ j i f. e (suc j) i f ∙ suc_suc k j)) ∙ and_false (is_on h) (on_at (host_at k hs))

module _ {P : Type 0} (reading : Reading P) (z : PlaySize) where
  named : (n : ℕ) (o : Option (HostState P)) (p : Option FlatHost) (h : FlatHost) → IsHostAt reading z n o p → p ≡ Some h → h.name ≡ reading.name n
  named n o None h i e = cc
  named n None (Some g) h i e = absurd i
  named n (Some x) (Some g) h i e = let same : g ≡ h = cc in ap (λ (f : FlatHost). f.name) (sym same) ∙ i.name_is

  pub active_here : (xs : List (HostState P)) (hs : List FlatHost) (k : ℕ) → AreHosts reading z xs hs → is_active_host (reading.name k) hs ≡ on_at (host_at k hs)
  active_here xs hs k i =
      active_at (reading.name k) hs k (λ j h f. ap (bytes_eq (reading.name k)) (named j (slice_get xs j) (host_at j hs) h (i j) f) ∙ reading.distinct k j)

  pub any_active : (xs : List (HostState P)) (hs : List FlatHost) (ms : List ℕ) → AreHosts reading z xs hs → any_names (still_active hs (map reading.name ms)) ≡ any_on hs ms
  any_active xs hs [] i = refl
  any_active xs hs (m ∷ ms) i =
      one (is_active_host (reading.name m) hs) (reading.name m) (still_active hs (map reading.name ms))
      ∙ ap₂ (λ a b. a || b) (active_here xs hs m i) (any_active xs hs ms i) where
        one : (q : Bool) (n : Name) (ns : List Name) → any_names (cond q (n ∷ ns) ns) ≡ q || any_names ns
        one true n ns = refl
        one false n ns = refl

  among : (k : ℕ) (ms : List ℕ) → is_among (reading.name k) (map reading.name ms) ≡ is_in k ms
  among k [] = refl
  among k (m ∷ ms) = ap₂ (λ a b. a || b) (reading.distinct k m) (among k ms)

abbrev begun_opt : program.Batch → Option FlatHost → Option FlatHost
begun_opt b None = None
begun_opt b (Some h) = Some (begun b h)

begun_at : (b : program.Batch) (hs : List FlatHost) (k : ℕ) → host_at k (all_begun b hs) ≡ begun_opt b (host_at k hs)
begun_at b [] k = refl
begun_at b (h ∷ hs) zero = refl
begun_at b (h ∷ hs) (suc k) = begun_at b hs k

abbrev batch_or : Option Batch → Batch → Batch
batch_or None d = d
batch_or (Some c) d = c

-- hosts that are all idle
pub idle_at : (hs : List FlatHost) (k : ℕ) (h : FlatHost) → all_idle hs ≡ true → host_at k hs ≡ Some h → is_idle h.stage ≡ true
idle_at [] k h e f = cc
idle_at (g ∷ hs) zero h e f = let same : g ≡ h = cc in ap (λ (x : FlatHost). is_idle x.stage) (sym same) ∙ and-left (is_idle g.stage) (all_idle hs) e
idle_at (g ∷ hs) (suc k) h e f = idle_at hs k h (and-right (is_idle g.stage) (all_idle hs) e) f

idle_fits : (z : PlaySize) (n : ℕ) (g : FlatStage) → is_idle g ≡ true → Fits z n g
idle_fits z n (stands at_end) e = tt
idle_fits z n (stands left_play) e = tt
idle_fits z n (stands (at m)) e = untrue e
idle_fits z n (works m i ps) e = untrue e

pub idle_is : (ss : List flat.Step) (g : FlatStage) → is_idle g ≡ true → activity_in ss g ≡ idle
idle_is ss (stands at_end) e = refl
idle_is ss (stands left_play) e = refl
idle_is ss (stands (at m)) e = untrue e
idle_is ss (works m i ps) e = untrue e

idle_running : (ss : List flat.Step) (hs : List FlatHost) → all_idle hs ≡ true → running_in (activities ss hs) ≡ 0
idle_running ss [] e = refl
idle_running ss (h ∷ hs) e =
    ap (λ a. count_running a (running_in (activities ss hs))) (idle_is ss h.stage (and-left (is_idle h.stage) (all_idle hs) e)) ∙ idle_running ss hs (and-right (is_idle h.stage) (all_idle hs) e)

idle_ready : (ss : List flat.Step) (hs : List FlatHost) (p k : ℕ) → all_idle hs ≡ true → false ≡ is_ready p (slice_get (activities ss hs) k)
idle_ready ss [] p k e = refl
idle_ready ss (h ∷ hs) p zero e = sym (ap (λ a. is_ready p (Some a)) (idle_is ss h.stage (and-left (is_idle h.stage) (all_idle hs) e)))
idle_ready ss (h ∷ hs) p (suc k) e = idle_ready ss hs p k (and-right (is_idle h.stage) (all_idle hs) e)

idle_one : (ss : List flat.Step) (g : FlatStage) → is_idle g ≡ is_idle_one (activity_in ss g)
idle_one ss (stands at_end) = refl
idle_one ss (stands left_play) = refl
idle_one ss (stands (at n)) = refl
idle_one ss (works n i ps) = refl

pub idle_same : (ss : List flat.Step) (hs : List FlatHost) → all_idle hs ≡ all_idle_in (activities ss hs)
idle_same ss [] = refl
idle_same ss (h ∷ hs) = ap₂ (λ a b. a && b) (idle_one ss h.stage) (idle_same ss hs)

begun_no_run : (b : program.Batch) (h : FlatHost) (n : ℕ) → is_idle h.stage ≡ true → count_running (activity_in (plan_steps b) (begun b h).stage) n ≡ n
begun_no_run b h n e = by (is_on h && is_among h.name b.members) where
  by : (q : Bool) → count_running (activity_in (plan_steps b) (cond q (arrived (plan_steps b) (play_begin b.play.row) (record h { marks = []; rescues = []; holds = [] })) h).stage) n ≡ n
  by true = arrived_no_run (plan_steps b) (plan_steps b) (play_begin b.play.row) (record h { marks = []; rescues = []; holds = [] }) n
  by false = ap (λ a. count_running a n) (idle_is (plan_steps b) h.stage e)

none_run : (b : program.Batch) (hs : List FlatHost) → all_idle hs ≡ true → running_in (activities (plan_steps b) (all_begun b hs)) ≡ 0
none_run b [] e = refl
none_run b (h ∷ hs) e =
    begun_no_run b h (running_in (activities (plan_steps b) (all_begun b hs))) (and-left (is_idle h.stage) (all_idle hs) e)
    ∙ none_run b hs (and-right (is_idle h.stage) (all_idle hs) e)

ready_waits : (p : ℕ) (o : Option ℕ) → is_ready p (Some (waits_at o)) ≡ is_at p o
ready_waits p None = refl
ready_waits p (Some q) = refl

module _ {P : Type 0} (reading : Reading P) (z : PlaySize) (play : RunPlay) (b : program.Batch) (later : List program.Batch) (is : IsPlay play b.play) where
  abbrev there : FlatHost → FlatHost
  there h = arrived (plan_steps b) (play_begin b.play.row) (record h { marks = []; rescues = []; holds = [] })

  at_there : (h : FlatHost) (e : Entry) → Begins play h e → IsAt e.position (there h)
  at_there h e i =
      subst (λ (t : flat.Target). IsAt e.position (arrived (plan_steps b) t (record h { marks = []; rescues = []; holds = [] }))) (ap (λ x. x.begin) is.plan) (i.host (plan_steps b) (kept_steps play b.play is))

  idle_stage : (x : Stage P) (g : FlatStage) (l : machine.Location) → IsStage reading x g → is_idle g ≡ true → IsStage reading x (stands l)
  idle_stage Waits g l i e = tt
  idle_stage (Runs t n c ps) (stands m) l i e = absurd i
  idle_stage (Runs t n c ps) (works m j qs) l i e = untrue e

  begun_host : (k : ℕ) (x : HostState P) (h : FlatHost) (e : Entry) → IsHost reading z k x h → is_idle h.stage ≡ true → Begins play h e
      → IsHost reading (size_of (b ∷ later)) k (record { position = e.position; handlers = e.handlers; stage = x.stage; recap = x.recap; room = e.room }) (there h)
  begun_host k x h e i q begins =
      let at_play = at_there h e begins in
      let kept = arrived_kept (plan_steps b) (play_begin b.play.row) (record h { marks = []; rescues = []; holds = [] }) in record {
        position = stands_there e.position (there h) at_play;
        stage = subst (IsStage reading x.stage) (sym at_play.stage) (idle_stage x.stage h.stage _ i.stage q);
        fits = arrived_fits (size_of (b ∷ later)) e.handlers (plan_steps b) (play_begin b.play.row) (record h { marks = []; rescues = []; holds = [] }) (begins.handlers ∙ is.handlers) refl;
        name_is = kept.name ∙ i.name_is;
        variables = kept.variables ∙ i.variables;
        recap = kept.recap ∙ i.recap;
      }

  idle_host : (y : PlaySize) (k : ℕ) (x : HostState P) (h : FlatHost) → IsHost reading z k x h → is_idle h.stage ≡ true → IsHost reading y k x h
  idle_host y k x h i e = record {
    position = i.position;
    stage = i.stage;
    fits = idle_fits y x.handlers h.stage e;
    name_is = i.name_is;
    variables = i.variables;
    recap = i.recap;
  }

  by_entry : (k : ℕ) (x : HostState P) (h : FlatHost) (w : Bool) (e : Option Entry) → IsHost reading z k x h → is_idle h.stage ≡ true → EntryIf play w (Some h) e → IsHostAt reading (size_of (b ∷ later)) k (entered e (Some x)) (Some (cond w (there h) h))
  by_entry k x h true None i q begins = absurd begins
  by_entry k x h true (Some e) i q begins = begun_host k x h e i q begins
  by_entry k x h false e i q none = subst (λ (d : Option Entry). IsHostAt reading (size_of (b ∷ later)) k (entered d (Some x)) (Some h)) (sym none) (idle_host (size_of (b ∷ later)) k x h i q)

  and_swap : (a c : Bool) → a && c ≡ c && a
  and_swap true true = refl
  and_swap true false = refl
  and_swap false true = refl
  and_swap false false = refl

  member : (k : ℕ) (ms : List ℕ) (h : FlatHost) → b.members ≡ map reading.name ms → h.name ≡ reading.name k → is_on h && is_among h.name b.members ≡ is_in k ms && is_on h
  member k ms h members name =
      and_swap (is_on h) (is_among h.name b.members) ∙ ap (λ a. a && is_on h) (ap₂ is_among name members ∙ among reading z k ms)

  entered_host : (k : ℕ) (ms : List ℕ) (o : Option (HostState P)) (p : Option FlatHost) (e : Option Entry) → b.members ≡ map reading.name ms → IsHostAt reading z k o p → ((h : FlatHost) → p ≡ Some h → is_idle h.stage ≡ true)
      → EntryFor play (is_in k ms) p e → IsHostAt reading (size_of (b ∷ later)) k (entered e o) (begun_opt b p)
  entered_host k ms None None e members i q entry = tt
  entered_host k ms None (Some h) e members i q entry = absurd i
  entered_host k ms (Some x) None e members i q entry = absurd i
  entered_host k ms (Some x) (Some h) e members i q entry =
      subst (λ w. IsHostAt reading (size_of (b ∷ later)) k (entered e (Some x)) (Some (cond w (there h) h))) (sym (member k ms h members i.name_is))
      (by_entry k x h (is_in k ms && is_on h) e i (q h refl) entry)

  pub hosts_begun : (ms : List ℕ) (xs ys : List (HostState P)) (hs : List FlatHost) (es : List Entry) → b.members ≡ map reading.name ms → AreHosts reading z xs hs → all_idle hs ≡ true → HaveEntries play ms hs es
      → ((k : ℕ) → slice_get ys k ≡ entered (found k es) (slice_get xs k)) → AreHosts reading (size_of (b ∷ later)) ys (all_begun b hs)
  hosts_begun ms xs ys hs es members i q entries new k =
      subst (λ (o : Option (HostState P)). IsHostAt reading (size_of (b ∷ later)) k o (host_at k (all_begun b hs))) (sym (new k))
      (subst (λ (p : Option FlatHost). IsHostAt reading (size_of (b ∷ later)) k (entered (found k es) (slice_get xs k)) p) (sym (begun_at b hs k))
      (entered_host k ms (slice_get xs k) (host_at k hs) (found k es) members (i k) (λ h f. idle_at hs k h q f) (entries.each k)))

  -- and their index
  all_at : (hs : List FlatHost) (k : ℕ) (h : FlatHost) (es : List Entry) → host_at k hs ≡ Some h → AllBegin play hs es → AllAt (place_in (plan_steps b) (there h).stage) k es
  all_at hs k h [] e i = tt
  all_at hs k h (d ∷ es) e i = (first, all_at hs k h es e i.1) where
    first : nat_eq k d.host ≡ true → d.place ≡ place_in (plan_steps b) (there h).stage
    first same =
        let begins : Begins play h d = subst (λ p. BeginsAt play p (Some d)) (ap (λ n. host_at n hs) (sym (eqb-true k d.host same)) ∙ e) i.0 in
        begins.place (plan_steps b) (kept_steps play b.play is) (there h) (at_there h d begins)

  all_missing : (hs : List FlatHost) (k : ℕ) (es : List Entry) → host_at k hs ≡ None → AllBegin play hs es → AllAt None k es
  all_missing hs k [] e i = tt
  all_missing hs k (d ∷ es) e i = (λ same. absurd (subst (λ p. BeginsAt play p (Some d)) (ap (λ n. host_at n hs) (sym (eqb-true k d.host same)) ∙ e) i.0), all_missing hs k es e i.1)

  by_activity : (p : ℕ) (h : FlatHost) (w : Bool) (e : Option Entry) → is_idle h.stage ≡ true → EntryIf play w (Some h) e → is_some e && is_at p (place_in (plan_steps b) (there h).stage) ≡ is_ready p (Some (activity_in (plan_steps b) (cond w (there h) h).stage))
  by_activity p h true None q begins = absurd begins
  by_activity p h true (Some e) q begins =
      let at_play = at_there h e begins in
      sym (ap (λ g. is_ready p (Some (activity_in (plan_steps b) g))) at_play.stage ∙ ap (λ a. is_ready p (Some a)) (waits_where (plan_steps b) _) ∙ ready_waits p _ ∙ sym (ap (λ g. is_at p (place_in (plan_steps b) g)) at_play.stage))
  by_activity p h false e q none =
      ap (λ (d : Option Entry). is_some d && is_at p (place_in (plan_steps b) (there h).stage)) none ∙ sym (ap (λ a. is_ready p (Some a)) (idle_is (plan_steps b) h.stage q))

  waits_same : (ms : List ℕ) (xs : List (HostState P)) (hs : List FlatHost) (es : List Entry) (p k : ℕ) → b.members ≡ map reading.name ms → AreHosts reading z xs hs → all_idle hs ≡ true → HaveEntries play ms hs es
      → waits_in p k es ≡ is_ready p (slice_get (activities (plan_steps b) (all_begun b hs)) k)
  waits_same ms xs hs es p k members i q entries = by (host_at k hs) refl where
    by : (o : Option FlatHost) → host_at k hs ≡ o → waits_in p k es ≡ is_ready p (slice_get (activities (plan_steps b) (all_begun b hs)) k)
    by None e =
        waits_found None p k es (all_missing hs k es e entries.all) ∙ no_and (is_some (found k es))
        ∙ sym (ap (is_ready p) (no_activity (plan_steps b) (all_begun b hs) k (begun_at b hs k ∙ ap (begun_opt b) e))) where
          no_and : (a : Bool) → a && false ≡ false
          no_and true = refl
          no_and false = refl
    by (Some h) e =
        let name = named reading z k (slice_get xs k) (host_at k hs) h (i k) e in
        let entry : EntryFor play (is_in k ms) (Some h) (found k es) = subst (λ o. EntryFor play (is_in k ms) o (found k es)) e (entries.each k) in
        waits_found (place_in (plan_steps b) (there h).stage) p k es (all_at hs k h es e entries.all)
        ∙ by_activity p h (is_in k ms && is_on h) (found k es) (idle_at hs k h q e) entry
        ∙ ap (λ w. is_ready p (Some (activity_in (plan_steps b) (cond w (there h) h).stage))) (sym (member k ms h members name))
        ∙ sym (ap (is_ready p) (activity_at (plan_steps b) (all_begun b hs) k (begun b h) (begun_at b hs k ∙ ap (begun_opt b) e)))

  pub index_begun : (ms : List ℕ) (xs : List (HostState P)) (hs : List FlatHost) (es : List Entry) (x : ReadyIndex) → b.members ≡ map reading.name ms → AreHosts reading z xs hs → all_idle hs ≡ true → HaveEntries play ms hs es
      → HoldsOnly (λ place host. waits_in place host es) x → IsIndexOf x (activities (plan_steps b) (all_begun b hs))
  index_begun ms xs hs es x members i q entries holds =
      holds_only (λ place host. waits_in place host es) x (activities (plan_steps b) (all_begun b hs)) holds (none_run b hs q) (λ p k. waits_same ms xs hs es p k members i q entries)

module _ {P : Type 0} (old : RunCore P) where
  idle_rebound : (reading : Reading P) (z y : PlaySize) (xs : List (HostState P)) (hs : List FlatHost) → AreHosts reading z xs hs → all_idle hs ≡ true → AreHosts reading y xs hs
  idle_rebound reading z y xs hs i q k = by (slice_get xs k) (host_at k hs) refl (i k) where
    by : (o : Option (HostState P)) (p : Option FlatHost) → host_at k hs ≡ p → IsHostAt reading z k o p → IsHostAt reading y k o p
    by None None e j = tt
    by None (Some h) e j = absurd j
    by (Some x) None e j = absurd j
    by (Some x) (Some h) e j = record {
      position = j.position;
      stage = j.stage;
      fits = idle_fits y x.handlers h.stage (idle_at hs k h q e);
      name_is = j.name_is;
      variables = j.variables;
      recap = j.recap;
    }

  ended : (reading : Reading P) (s : FlatState) (n : ℕ) (index : ReadyIndex) (bs : List program.Batch) → IsCore reading old s → all_idle s.hosts ≡ true → drop n (scheduled_batches old) ≡ [] → HoldsOnly (λ place host. false) index → bs ≡ []
      → IsCore reading (record old { current = n; index = index }) (with_batches s bs)
  ended reading s n index bs i q e holds f = subst (λ xs. IsCore reading (record old { current = n; index = index }) (with_batches s xs)) (sym f) (record {
    hosts = idle_rebound reading (size_of s.batches) (size_of []) old.hosts.items s.hosts i.hosts q;
    batches = subst (λ cs. AreBatches reading.name (scheduled_plays old) cs []) (sym e) tt;
    index = holds_only (λ place host. false) index (activities [] s.hosts) holds (idle_running [] s.hosts q) (λ p k. idle_ready [] s.hosts p k q);
    forks = i.forks;
    handed = i.handed;
    stopped = i.stopped;
  })

  pub runs_none : (n : ℕ) (index : ReadyIndex) → drop n (scheduled_batches old) ≡ [] → HoldsOnly (λ place host. false) index → RunsBatch n old (record old { current = n; index = index })
  runs_none n index e holds reading s bs i q are = ended reading s n index bs i q e holds (no_batches reading.name (scheduled_plays old) (drop n (scheduled_batches old)) bs e are)

  pub runs_on : (hosts : Vec (HostState P)) (index : ReadyIndex) (es : List Entry) (d : Batch) (play : RunPlay) (n : ℕ)
      → slice_get (scheduled_batches old) n ≡ Some d → play_of old n ≡ Some play → AreEntries play d.members.items old.hosts.items es → HoldsOnly (λ place host. waits_in place host es) index
      → ((k : ℕ) → slice_get hosts.items k ≡ entered (found k es) (slice_get old.hosts.items k)) → RunsBatch n old (record old { current = n; hosts = hosts; index = index })
  runs_on hosts index es d play n e f entries holds new reading s bs i q are =
      let found = play_is reading.name (scheduled_plays old) (scheduled_batches old) n play bs are f in
      let b = found.0 in
      let later = found.1 in
      let same : found.2 ≡ d = ap (λ (o : Option Batch). batch_or o d) (sym found.4 ∙ e) in
      let is_batch : IsBatch reading.name (scheduled_plays old) d found.0 = subst (λ c. IsBatch reading.name (scheduled_plays old) c found.0) same found.5 in
      let have = entries reading (size_of s.batches) s.hosts i.hosts in
      subst (λ cs. IsCore reading (record old { current = n; hosts = hosts; index = index }) (with_batches s cs)) (sym found.3) (record {
        hosts = hosts_begun reading (size_of s.batches) play b later found.6 d.members.items old.hosts.items hosts.items s.hosts es is_batch.members i.hosts q have new;
        batches = subst (λ cs. AreBatches reading.name (scheduled_plays old) cs (b ∷ later)) (sym (drop_at (scheduled_batches old) n d e)) (is_batch, found.7);
        index = index_begun reading (size_of s.batches) play b later found.6 d.members.items old.hosts.items s.hosts es index is_batch.members i.hosts q have holds;
        forks = i.forks;
        handed = i.handed;
        stopped = i.stopped;
      })

-- whether a host is here
here_is : (g : FlatStage) (l : Location) → stands (location_in g) ≡ stands (location_view l) → is_on_stage g ≡ is_here l
here_is (stands at_end) End e = refl
here_is (stands at_end) Left e = cc
here_is (stands at_end) (Node n) e = cc
here_is (stands left_play) End e = cc
here_is (stands left_play) Left e = refl
here_is (stands left_play) (Node n) e = cc
here_is (stands (at m)) End e = cc
here_is (stands (at m)) Left e = cc
here_is (stands (at m)) (Node n) e = refl
here_is (works m i ps) End e = cc
here_is (works m i ps) Left e = cc
here_is (works m i ps) (Node n) e = refl

module _ {P : Type 0} (xs : List (HostState P)) (k : ℕ) where
  pub here_past : slice_get xs k ≡ None → IsHere xs k false
  here_past e reading z hs are = sym (ap on_at (host_missing reading z xs hs k are e))

  pub here_by : (x : HostState P) (l : Location) (q : Bool) → slice_get xs k ≡ Some x → ((h : FlatHost) → IsAt x.position h → h.stage ≡ stands (location_view l)) → is_here l ≡ q → IsHere xs k q
  here_by x l q e where_is here reading z hs are =
      let at = host_there reading z xs hs k x are e in
      sym here ∙ sym (ap on_at at.1 ∙ here_is at.0.stage l (where_is (record at.0 { stage = stands (location_in at.0.stage) }) at.2.position))

  pub entry_past : (play : RunPlay) → slice_get xs k ≡ None → IsEntry play xs k None
  entry_past play e reading z hs are = subst (λ q. EntryIf play q (host_at k hs) None) (sym (ap on_at (host_missing reading z xs hs k are e))) refl

  pub entry_left : (play : RunPlay) → IsHere xs k false → IsEntry play xs k None
  entry_left play left reading z hs are = subst (λ q. EntryIf play q (host_at k hs) None) (left reading z hs are) refl

  pub entry_here : (play : RunPlay) (steps : List Step) (x : HostState P) (e : Entry) → slice_get xs k ≡ Some x → IsHere xs k true → steps ≡ play.plan.steps.items → BeginsPlay steps play.plan.begin x.position e.position → IsPlaceAt play.plan.steps.items e.position e.place → e.handlers ≡ play.plan.handlers
      → IsEntry play xs k (Some e)
  entry_here play steps x e there here same begins place handlers reading z hs are =
      let at = host_there reading z xs hs k x are there in
      subst (λ q. EntryIf play q (host_at k hs) (Some e)) (here reading z hs are)
      (subst (λ p. BeginsAt play p (Some e)) (sym at.1) (record {
        host = λ ss kept. begins.host ss (kept ∙ ap (map outline_view) (sym same)) at.0 (as_same x.position (record at.0 { stage = stands (location_in at.0.stage) }) at.0 refl refl refl refl at.2.position.as);
        place = place;
        handlers = handlers;
      }))

-- members one after the other
drop_next : (ms : List ℕ) (i : ℕ) → i < length ms → drop i ms ≡ get_or ms i 0 ∷ drop (i + 1) ms
drop_next [] i h = absurd (omega arith)
drop_next (m ∷ ms) zero h = refl
drop_next (m ∷ ms) (suc i) h = drop_next ms i (omega arith) ∙ ap (λ n. get_or ms i 0 ∷ drop n (m ∷ ms)) (let next : suc (i + 1) ≡ suc i + 1 = omega arith in next)

module _ {P : Type 0} (xs : List (HostState P)) (ms : List ℕ) (i : ℕ) (gone : AreOthersGone xs ms (drop i ms)) where
  pub gone_more : i < length ms → IsHere xs (get_or ms i 0) false → AreOthersGone xs ms (drop (i + 1) ms)
  gone_more few left reading z hs are =
      gone reading z hs are ∙ ap (any_on hs) (drop_next ms i few) ∙ ap (λ q. q || any_on hs (drop (i + 1) ms)) (sym (left reading z hs are))

  pub one_here : i < length ms → IsHere xs (get_or ms i 0) true → IsAnyHere xs ms true
  one_here few here reading z hs are =
      sym (gone reading z hs are ∙ ap (any_on hs) (drop_next ms i few) ∙ ap (λ q. q || any_on hs (drop (i + 1) ms)) (sym (here reading z hs are)))

  pub none_here : drop i ms ≡ [] → IsAnyHere xs ms false
  none_here none reading z hs are = sym (gone reading z hs are ∙ ap (any_on hs) none)
