-- One host of the core goes on as the machine's.
use Rattle.std.proofs.Common.{◌≡◌, ◌≢◌, ◌<◌, ◌≤◌, ℕ, zero, suc, ◌+◌, List, [], ◌∷◌, set, length, Bool, true, false, nat_eq, nat_lt, Option, Some, None, slice_get, get_or, unwrap_or, refl, sym, ap, subst, ◌∙◌, eq-eqb, arith}
use Rattle.std.proofs.lemmas.Bool.{eqb-true}
use Rattle.std.proofs.lemmas.Option.{slice_get-get_or, slice_get_past}
use Rattle.pb_semantics.proofs.Bools.{untrue}
use Rattle.pb_semantics.specs.Data.{Fields}
use Rattle.pb_language.specs.Machine.{is_marked}
use Rattle.pb_machine.specs.Steps as flat
use Rattle.pb_machine.specs.Steps.{rescuing, holding, releasing}
use Rattle.pb_machine.specs.Hosts.{Location, FlatHost, FlatStage, stands, works, at, at_end, left_play, at_step, arrival, arrived, all_moved, moved, is_passed}
use Rattle.pb_machine.specs.Run.{host_at, put_host}
use Rattle.pb_position.specs.declared.position.Position.{Position}
use Rattle.pb_position.specs.Positions.{IsAs, IsAt}
use Rattle.pb_core.specs.declared.host.Stage.TheVariants.{Waits, Runs}
use Rattle.pb_core.specs.declared.host.HostState.{HostState}
use Rattle.pb_core.specs.Readings.{Reading}
use Rattle.pb_core.specs.Activities.{Activity, idle, ready, runs, activity_in, activities, count_running}
use Rattle.pb_core.specs.Indexes.{waits_at}
use Rattle.pb_core.specs.Hosts.{location_in, place_in, PlaySize, Fits, IsStage, IsHost, IsHostAt}
use Rattle.pb_core.specs.Entries.{AreHosts}
use Rattle.pb_core.specs.Cores.{ready_place, running_place}

-- lists
pub set_here : {A : Type 0} → (xs : List A) (k : ℕ) (x y : A) → slice_get xs k ≡ Some x → slice_get (set xs k y) k ≡ Some y
set_here [] k x y e = cc
set_here (z ∷ xs) zero x y e = refl
set_here (z ∷ xs) (suc k) x y e = set_here xs k x y e

pub set_there : {A : Type 0} → (xs : List A) (k j : ℕ) (y : A) → k ≢ j → slice_get (set xs k y) j ≡ slice_get xs j
set_there [] k j y h = refl
set_there (z ∷ xs) zero zero y h = absurd (h refl)
set_there (z ∷ xs) zero (suc j) y h = refl
set_there (z ∷ xs) (suc k) zero y h = refl
set_there (z ∷ xs) (suc k) (suc j) y h = set_there xs k j y (λ e. h (ap suc e))

pub set_same : {A : Type 0} → (xs : List A) (k : ℕ) (x : A) → slice_get xs k ≡ Some x → set xs k x ≡ xs
set_same [] k x e = refl
set_same (y ∷ xs) zero x e = ap (λ z. z ∷ xs) (ap (λ o. unwrap_or o x) (sym e))
set_same (y ∷ xs) (suc k) x e = ap (λ ys. y ∷ ys) (set_same xs k x e)

put_here : (hs : List FlatHost) (k : ℕ) (h g : FlatHost) → host_at k hs ≡ Some h → host_at k (put_host k g hs) ≡ Some g
put_here [] k h g e = cc
put_here (z ∷ hs) zero h g e = refl
put_here (z ∷ hs) (suc k) h g e = put_here hs k h g e

put_there : (hs : List FlatHost) (k j : ℕ) (g : FlatHost) → k ≢ j → host_at j (put_host k g hs) ≡ host_at j hs
put_there [] k j g h = refl
put_there (z ∷ hs) zero zero g h = absurd (h refl)
put_there (z ∷ hs) zero (suc j) g h = refl
put_there (z ∷ hs) (suc k) zero g h = refl
put_there (z ∷ hs) (suc k) (suc j) g h = put_there hs k j g (λ e. h (ap suc e))

pub apart : (k j : ℕ) → nat_eq k j ≡ false → k ≢ j
apart k j e same = untrue (sym e ∙ eq-eqb k j same)

pub there : {A : Type 0} → (xs : List A) (k : ℕ) (x : A) → k < length xs → x ≡ get_or xs k x → slice_get xs k ≡ Some x
there xs k x h e = slice_get-get_or xs k x h ∙ ap Some (sym e)

pub past : {A : Type 0} → (xs : List A) (k : ℕ) → length xs ≤ k → slice_get xs k ≡ None
past xs k h = slice_get_past xs k h

pub same_item : {A : Type 0} → (xs : List A) (k : ℕ) (x y : A) → k < length xs → x ≡ get_or xs k x → y ≡ get_or xs k y → x ≡ y
same_item xs k x y h e f = ap (λ o. unwrap_or o x) (sym (there xs k x h e) ∙ there xs k y h f)

-- what the hosts do, by what each one does
pub activity_at : (ss : List flat.Step) (hs : List FlatHost) (k : ℕ) (h : FlatHost) → host_at k hs ≡ Some h → slice_get (activities ss hs) k ≡ Some (activity_in ss h.stage)
activity_at ss [] k h e = cc
activity_at ss (g ∷ hs) zero h e = let same : g ≡ h = cc in ap (λ (x : FlatHost). Some (activity_in ss x.stage)) same
activity_at ss (g ∷ hs) (suc k) h e = activity_at ss hs k h e

pub no_activity : (ss : List flat.Step) (hs : List FlatHost) (k : ℕ) → host_at k hs ≡ None → slice_get (activities ss hs) k ≡ None
no_activity ss [] k e = refl
no_activity ss (g ∷ hs) zero e = cc
no_activity ss (g ∷ hs) (suc k) e = no_activity ss hs k e

pub activities_put : (ss : List flat.Step) (hs : List FlatHost) (k : ℕ) (g : FlatHost) → activities ss (put_host k g hs) ≡ set (activities ss hs) k (activity_in ss g.stage)
activities_put ss [] k g = refl
activities_put ss (h ∷ hs) zero g = refl
activities_put ss (h ∷ hs) (suc k) g = ap (λ xs. activity_in ss h.stage ∷ xs) (activities_put ss hs k g)

pub ready_is : (o : Option Activity) (p : ℕ) → Some p ≡ ready_place o → o ≡ Some (ready p)
ready_is None p e = cc
ready_is (Some idle) p e = cc
ready_is (Some (ready q)) p e = let same : p ≡ q = cc in ap (λ n. Some (ready n)) (sym same)
ready_is (Some (runs q)) p e = cc

pub running_is : (o : Option Activity) (p : ℕ) → Some p ≡ running_place o → o ≡ Some (runs p)
running_is None p e = cc
running_is (Some idle) p e = cc
running_is (Some (ready q)) p e = cc
running_is (Some (runs q)) p e = let same : p ≡ q = cc in ap (λ n. Some (runs n)) (sym same)

pub waits_where : (ss : List flat.Step) (l : Location) → activity_in ss (stands l) ≡ waits_at (place_in ss (stands l))
waits_where ss at_end = refl
waits_where ss left_play = refl
waits_where ss (at n) = refl

-- the same marks and texts
pub as_same : (p : Position) (h g : FlatHost) → g.marks ≡ h.marks → g.failure ≡ h.failure → g.rescues ≡ h.rescues → g.holds ≡ h.holds → IsAs p h → IsAs p g
as_same p h g e f r o i = record {
  marks = λ n. i.marks n ∙ ap (λ ms. is_marked n ms) (sym e);
  failure = i.failure ∙ sym f;
  rescues = i.rescues ∙ sym r;
  holds = i.holds ∙ sym o;
}

-- where a position is the host is, whatever its stage is written as
pub stands_there : (p : Position) (h : FlatHost) → IsAt p h → IsAt p (record h { stage = stands (location_in h.stage) })
stands_there p h i = record {
  «as» = as_same p h (record h { stage = stands (location_in h.stage) }) refl refl refl refl i.as;
  stage = ap (λ g. stands (location_in g)) i.stage;
}

-- an arrival is at a node of the play, at its end, or out of it
abbrev ArrivesIn : ℕ → ℕ → FlatStage → Type 0
ArrivesIn o n (stands at_end) = Unit {0}
ArrivesIn o n (stands left_play) = Unit {0}
ArrivesIn o n (stands (at m)) = (o ≤ m) × (m < o + n)
ArrivesIn o n (works m i ps) = ⊥

arrives_later : (o n : ℕ) (g : FlatStage) → ArrivesIn (suc o) n g → ArrivesIn o (suc n) g
arrives_later o n (stands at_end) i = tt
arrives_later o n (stands left_play) i = tt
arrives_later o n (stands (at m)) i = (omega (arith, i.0), omega (arith, i.1))
arrives_later o n (works m k ps) i = i

step_arrives : (go : Option ℕ → FlatHost → FlatHost) (o n : ℕ) (in_go : (t : Option ℕ) (h : FlatHost) → ArrivesIn (suc o) n (go t h).stage) (s : flat.Step) (m : ℕ) (h : FlatHost) (p q : Bool) → ArrivesIn o (suc n) (at_step go o s m h p q).stage
step_arrives go o n in_go s m h true q = arrives_later o n (go (Some m) h).stage (in_go (Some m) h)
step_arrives go o n in_go s m h false true = arrives_later o n (go s.ok.to (all_moved s.ok.moves h)).stage (in_go s.ok.to (all_moved s.ok.moves h))
step_arrives go o n in_go s m h false false = (omega arith, omega arith)

arrival_in : (ss : List flat.Step) (o : ℕ) (t : Option ℕ) (h : FlatHost) → ArrivesIn o (length ss) (arrival ss o t h).stage
arrival_in ss o None h = tt
arrival_in [] o (Some n) h = tt
arrival_in (s ∷ ss) o (Some n) h = step_arrives (arrival ss (suc o)) o (length ss) (arrival_in ss (suc o)) s n h (nat_lt o n) (is_passed s.handler h.marks)

fits_in : (z : PlaySize) (handlers n : ℕ) (g : FlatStage) → handlers ≡ z.handlers → n ≡ z.nodes → ArrivesIn 1 n g → Fits z handlers g
fits_in z handlers n (stands at_end) e f i = tt
fits_in z handlers n (stands left_play) e f i = tt
fits_in z handlers n (stands (at m)) e f i = (e, omega (arith, i.0), omega (arith, f, i.1))
fits_in z handlers n (works m k ps) e f i = absurd i

pub arrived_fits : (z : PlaySize) (handlers : ℕ) (ss : List flat.Step) (t : flat.Target) (h : FlatHost) → handlers ≡ z.handlers → length ss ≡ z.nodes → Fits z handlers (arrived ss t h).stage
arrived_fits z handlers ss t h e f = fits_in z handlers (length ss) (arrived ss t h).stage e f (arrival_in ss 1 t.to (all_moved t.moves h))

no_run_in : (ss : List flat.Step) (o n m : ℕ) (g : FlatStage) → ArrivesIn o n g → count_running (activity_in ss g) m ≡ m
no_run_in ss o n m (stands at_end) i = refl
no_run_in ss o n m (stands left_play) i = refl
no_run_in ss o n m (stands (at k)) i = refl
no_run_in ss o n m (works k j ps) i = absurd i

pub arrived_no_run : (ts ss : List flat.Step) (t : flat.Target) (h : FlatHost) (m : ℕ) → count_running (activity_in ts (arrived ss t h).stage) m ≡ m
arrived_no_run ts ss t h m = no_run_in ts 1 (length ss) m (arrived ss t h).stage (arrival_in ss 1 t.to (all_moved t.moves h))

-- it changes no name, variables or recap
pub record IsKept (h g : FlatHost) : Type 0 where
  pub name : g.name ≡ h.name
  pub variables : g.variables ≡ h.variables
  pub recap : g.recap ≡ h.recap

kept_twice : (h g f : FlatHost) → IsKept h g → IsKept g f → IsKept h f
kept_twice h g f i j = record { name = j.name ∙ i.name; variables = j.variables ∙ i.variables; recap = j.recap ∙ i.recap }

moved_kept : (m : flat.Move) (h : FlatHost) → IsKept h (moved m h)
moved_kept (rescuing d) h = record { name = refl; variables = refl; recap = refl }
moved_kept (holding d) h = record { name = refl; variables = refl; recap = refl }
moved_kept (releasing d) h = record { name = refl; variables = refl; recap = refl }

all_kept : (ms : List flat.Move) (h : FlatHost) → IsKept h (all_moved ms h)
all_kept [] h = record { name = refl; variables = refl; recap = refl }
all_kept (m ∷ ms) h = kept_twice h (moved m h) (all_moved ms (moved m h)) (moved_kept m h) (all_kept ms (moved m h))

step_kept : (go : Option ℕ → FlatHost → FlatHost) (kept : (t : Option ℕ) (h : FlatHost) → IsKept h (go t h)) (o : ℕ) (s : flat.Step) (n : ℕ) (h : FlatHost) (p q : Bool) → IsKept h (at_step go o s n h p q)
step_kept go kept o s n h true q = kept (Some n) h
step_kept go kept o s n h false true = kept_twice h (all_moved s.ok.moves h) (go s.ok.to (all_moved s.ok.moves h)) (all_kept s.ok.moves h) (kept s.ok.to (all_moved s.ok.moves h))
step_kept go kept o s n h false false = record { name = refl; variables = refl; recap = refl }

arrival_kept : (ss : List flat.Step) (o : ℕ) (t : Option ℕ) (h : FlatHost) → IsKept h (arrival ss o t h)
arrival_kept ss o None h = record { name = refl; variables = refl; recap = refl }
arrival_kept [] o (Some n) h = record { name = refl; variables = refl; recap = refl }
arrival_kept (s ∷ ss) o (Some n) h = step_kept (arrival ss (suc o)) (arrival_kept ss (suc o)) o s n h (nat_lt o n) (is_passed s.handler h.marks)

pub arrived_kept : (ss : List flat.Step) (t : flat.Target) (h : FlatHost) → IsKept h (arrived ss t h)
arrived_kept ss t h = kept_twice h (all_moved t.moves h) (arrived ss t h) (all_kept t.moves h) (arrival_kept ss 1 t.to (all_moved t.moves h))

at_in : {P : Type 0} → (reading : Reading P) (z : PlaySize) (n : ℕ) (a b : Option (HostState P)) (c d : Option FlatHost) → a ≡ b → c ≡ d → IsHostAt reading z n a c → IsHostAt reading z n b d
at_in reading z n a b c d e f i = subst (λ o. IsHostAt reading z n o d) e (subst (λ o. IsHostAt reading z n a o) f i)

module _ {P : Type 0} (reading : Reading P) where
  pub host_in : (z : PlaySize) (xs : List (HostState P)) (hs : List FlatHost) (k : ℕ) (x : HostState P) (h : FlatHost) → AreHosts reading z xs hs → slice_get xs k ≡ Some x → host_at k hs ≡ Some h → IsHost reading z k x h
  host_in z xs hs k x h i e f = at_in reading z k (slice_get xs k) (Some x) (host_at k hs) (Some h) e f (i k)

  -- the variables of one host change, and the others' don't
  abbrev pub KeepsOthers : ℕ → (ℕ → Fields) → Type 0
  KeepsOthers k fs = (j : ℕ) → nat_eq k j ≡ false → fs j ≡ reading.variables j

  pub others_kept : (z : PlaySize) (k j : ℕ) (fs : ℕ → Fields) (o : Option (HostState P)) (p : Option FlatHost) → KeepsOthers k fs → nat_eq k j ≡ false → IsHostAt reading z j o p → IsHostAt (record reading { variables = fs }) z j o p
  others_kept z k j fs None None keeps other i = tt
  others_kept z k j fs None (Some h) keeps other i = absurd i
  others_kept z k j fs (Some x) None keeps other i = absurd i
  others_kept z k j fs (Some x) (Some h) keeps other i = record {
    position = i.position;
    stage = i.stage;
    fits = i.fits;
    name_is = i.name_is;
    variables = i.variables ∙ sym (keeps j other);
    recap = i.recap;
  }

  pub hosts_put : (fs : ℕ → Fields) (z : PlaySize) (xs : List (HostState P)) (hs : List FlatHost) (k : ℕ) (x y : HostState P) (h g : FlatHost) → KeepsOthers k fs → AreHosts reading z xs hs → slice_get xs k ≡ Some x → host_at k hs ≡ Some h
      → IsHost (record reading { variables = fs }) z k y g → AreHosts (record reading { variables = fs }) z (set xs k y) (put_host k g hs)
  hosts_put fs z xs hs k x y h g keeps i e f new j = by (nat_eq k j) refl where
    r : Reading P
    r = record reading { variables = fs }

    by : (q : Bool) → nat_eq k j ≡ q → IsHostAt r z j (slice_get (set xs k y) j) (host_at j (put_host k g hs))
    by true same =
        subst (λ m. IsHostAt r z m (slice_get (set xs k y) m) (host_at m (put_host k g hs))) (eqb-true k j same)
        (at_in r z k (Some y) (slice_get (set xs k y) k) (Some g) (host_at k (put_host k g hs)) (sym (set_here xs k x y e)) (sym (put_here hs k h g f)) new)
    by false other =
        at_in r z j (slice_get xs j) (slice_get (set xs k y) j) (host_at j hs) (host_at j (put_host k g hs)) (sym (set_there xs k j y (apart k j other))) (sym (put_there hs k j g (apart k j other)))
        (others_kept z k j fs (slice_get xs j) (host_at j hs) keeps other (i j))

  -- a host is there where the other is
  pub host_there : (z : PlaySize) (xs : List (HostState P)) (hs : List FlatHost) (k : ℕ) (x : HostState P) → AreHosts reading z xs hs → slice_get xs k ≡ Some x → (h : FlatHost) × (host_at k hs ≡ Some h) × (IsHost reading z k x h)
  host_there z xs hs k x i e = by (host_at k hs) refl (subst (λ o. IsHostAt reading z k o (host_at k hs)) e (i k)) where
    by : (o : Option FlatHost) → host_at k hs ≡ o → IsHostAt reading z k (Some x) (host_at k hs) → (h : FlatHost) × (host_at k hs ≡ Some h) × (IsHost reading z k x h)
    by None f j = absurd (subst (λ o. IsHostAt reading z k (Some x) o) f j)
    by (Some h) f j = (h, f, subst (λ o. IsHostAt reading z k (Some x) o) f j)

  pub host_missing : (z : PlaySize) (xs : List (HostState P)) (hs : List FlatHost) (k : ℕ) → AreHosts reading z xs hs → slice_get xs k ≡ None → host_at k hs ≡ None
  host_missing z xs hs k i e = by (host_at k hs) refl where
    by : (o : Option FlatHost) → host_at k hs ≡ o → host_at k hs ≡ None
    by None f = f
    by (Some h) f = absurd (subst (λ o. IsHostAt reading z k o (Some h)) e (subst (λ o. IsHostAt reading z k (slice_get xs k) o) f (i k)))

  -- the stage of the code's host says whether it is ready or runs
  pub waits_ready : (ss : List flat.Step) (g : FlatStage) → IsStage reading Waits g → ready_place (Some (activity_in ss g)) ≡ place_in ss (stands (location_in g))
  waits_ready ss (stands at_end) i = refl
  waits_ready ss (stands left_play) i = refl
  waits_ready ss (stands (at n)) i = refl
  waits_ready ss (works n k ps) i = absurd i

  pub waits_not_run : (ss : List flat.Step) (g : FlatStage) → IsStage reading Waits g → running_place (Some (activity_in ss g)) ≡ None
  waits_not_run ss (stands at_end) i = refl
  waits_not_run ss (stands left_play) i = refl
  waits_not_run ss (stands (at n)) i = refl
  waits_not_run ss (works n k ps) i = absurd i

  pub runs_at : (ss : List flat.Step) (g : FlatStage) (t i c : ℕ) (ps : P) → IsStage reading (Runs t i c ps) g → running_place (Some (activity_in ss g)) ≡ place_in ss (stands (location_in g))
  runs_at ss (stands l) t i c ps is = absurd is
  runs_at ss (works n k qs) t i c ps is = refl

  pub runs_not_ready : (ss : List flat.Step) (g : FlatStage) (t i c : ℕ) (ps : P) → IsStage reading (Runs t i c ps) g → ready_place (Some (activity_in ss g)) ≡ None
  runs_not_ready ss (stands l) t i c ps is = absurd is
  runs_not_ready ss (works n k qs) t i c ps is = refl

  -- a play of no nodes has no host at one
  pub fits_nowhere : (ss : List flat.Step) (z : PlaySize) (n : ℕ) (g : FlatStage) → z.nodes ≡ 0 → Fits z n g → activity_in ss g ≡ idle
  fits_nowhere ss z n (stands at_end) e f = refl
  fits_nowhere ss z n (stands left_play) e f = refl
  fits_nowhere ss z n (stands (at m)) e f = absurd (omega (arith, e, f.1, f.2))
  fits_nowhere ss z n (works m i ps) e f = absurd (omega (arith, e, f.1, f.2))
