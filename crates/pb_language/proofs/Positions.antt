-- Where a run stands in its program, and what each host owes and knows there.
use Rattle.std.proofs.Common.{◌≡◌, ◌≤◌, ◌<◌, ◌+◌, ◌-◌, ◌*◌, ℕ, suc, max, List, [], ◌∷◌, Bool, true, false, not, ◌&&◌, ◌||◌, cond, nat_le, Option, Some, None, is_some, refl, arith, true≢false, bytes_eq, ⊎_elim}
use Rattle.std.proofs.Math.Nat.{suc-mul}
use Rattle.pb_semantics.specs.Data.{Data, Fields, field_value}
use Rattle.pb_semantics.specs.Kind.{Slots, Spot, nowhere, spot, slot_at}
use Rattle.pb_semantics.specs.Keeps.{is_among, spot_ok, Models}
use Rattle.pb_semantics.proofs.Bools.{untrue, and-left, and-right, or-cases, true-false}
use Rattle.pb_semantics.proofs.Names.{same_name}
use Rattle.pb_language.specs.Expression.{Name}
use Rattle.pb_language.specs.Scope.{is_certain, View, view_of, Since, no_since, since, every_name, Later, later_of, is_later, may_last}
use Rattle.pb_language.specs.Task.{Task, Handlers, no_handlers, handler, Row, end, task, flush, section, block}
use Rattle.pb_language.specs.Rest.{Rest, done, left, next, ask, rescue, hold, release, flush_rest, rest_of}
use Rattle.pb_language.specs.Setting.{Setting}
use Rattle.pb_language.specs.Judgement.{Exit, dead, live, going_exit, failing_exit}
use Rattle.pb_language.specs.Walk.{Walked, walk}
use Rattle.pb_language.specs.Program.{Inventory, Play, Program, setting_of}
use Rattle.pb_language.specs.Tables.{plays_walked, plays_calls, place_calls, place_length, flush_calls, row_calls, has_since, has_all}
use Rattle.pb_language.specs.Start.{Pass, call_count}
use Rattle.pb_language.specs.Give.{retries_of}
use Rattle.pb_language.specs.Machine.{over, gone, begins, Stage, waits, runs, Host, is_marked, unmarked, outermost, innermost, settled, stands_at, is_on_stage}
use Rattle.pb_language.proofs.Claims.{PassesFine}
use Rattle.pb_language.proofs.Ways.{Above, WellEnv, VisitFine, Typed}
use Rattle.pb_semantics.proofs.KeepsUp.{le_through}

-- the variables are those of the exit's environment
abbrev pub ExitModels : Fields → Exit → Type 0
ExitModels vars dead = false ≡ true
ExitModels vars (live env) = Models vars env

-- a name that is said to be there later is there
pub record LaterThere (l : Since) (p : ℕ) (vars : Fields) : Type 0 where
  pub at : (x : Name) → is_later l p x ≡ true → is_some (field_value x vars) ≡ true

certain_there : (o : Option Data) (s : Spot) → spot_ok o s ≡ true → is_certain s ≡ true → is_some o ≡ true
certain_there None nowhere h c = untrue c
certain_there None (spot true k) h c = untrue h
certain_there None (spot false k) h c = untrue c
certain_there (Some v) s h c = refl

not-or : (a b : Bool) → not a || b ≡ true → a ≡ true → b ≡ true
not-or true b h e = h
not-or false b h e = untrue e

not-true-here : (a : Bool) → not a ≡ true → a ≡ true → false ≡ true
not-true-here true h e = h
not-true-here false h e = e

-- an environment at this place or a later one has what is said to be there from the earlier place on
pub since_there : (l : Since) (p q : ℕ) (vars : Fields) (env : Slots) → nat_le p q ≡ true → Models vars env → has_since q l env ≡ true → (x : Name) → is_later l p x ≡ true → is_some (field_value x vars) ≡ true
since_there no_since p q vars env e m h x i = untrue i
since_there (since n r l) p q vars env e m h x i =
    let here = not (nat_le r q) || is_certain (slot_at n env) in
    ⊎_elim (λ y. let r' = and-right (bytes_eq x n) (nat_le r p) y in
    let c = not-or (nat_le r q) (is_certain (slot_at n env)) (and-left here (has_since q l env) h) (le_through r p q r' e) in
    rw (same_name x n (and-left (bytes_eq x n) (nat_le r p) y)) (certain_there (field_value n vars) (slot_at n env) (m.at n) c))
    (λ y. since_there l p q vars env e m (and-right here (has_since q l env) h) x y) (or-cases (bytes_eq x n && nat_le r p) (is_later l p x) i)
since_there (every_name r l) p q vars env e m h x i =
    ⊎_elim (λ y. untrue (not-true-here (nat_le r q) (and-left (not (nat_le r q)) (has_since q l env) h) (le_through r p q (and-left (nat_le r p) (may_last x) y) e)))
    (λ y. since_there l p q vars env e m (and-right (not (nat_le r q)) (has_since q l env) h) x y) (or-cases (nat_le r p && may_last x) (is_later l p x) i)

-- and so has the one at the play's end
pub all_there : (l : Since) (p : ℕ) (vars : Fields) (env : Slots) → Models vars env → has_all l env ≡ true → (x : Name) → is_later l p x ≡ true → is_some (field_value x vars) ≡ true
all_there no_since p vars env m h x i = untrue i
all_there (since n r l) p vars env m h x i =
    ⊎_elim (λ y. rw (same_name x n (and-left (bytes_eq x n) (nat_le r p) y)) (certain_there (field_value n vars) (slot_at n env) (m.at n) (and-left (is_certain (slot_at n env)) (has_all l env) h)))
    (λ y. all_there l p vars env m (and-right (is_certain (slot_at n env)) (has_all l env) h) x y) (or-cases (bytes_eq x n && nat_le r p) (is_later l p x) i)
all_there (every_name r l) p vars env m h x i = untrue h

-- the calls of the attempts that are left after this one
abbrev pub left_calls : Task → ℕ → List Pass → ℕ
left_calls t i passes = (retries_of t.attempts - i) * call_count passes

pub first_attempt : (r c : ℕ) → (r - 0) * c + c ≤ suc r * c
first_attempt r c = let e : r - 0 ≡ r = omega arith in rw e (let l = suc-mul r c in omega (arith, l))

pub next_attempt : (r i c : ℕ) → i < r → (r - suc i) * c + c ≤ (r - i) * c
next_attempt r i c h = let e : r - i ≡ suc (r - suc i) = omega (arith, h) in rw e (let l = suc-mul (r - suc i) c in omega (arith, l))

-- the name is in one of these batches
abbrev pub in_any : Name → List (List Name) → Bool
in_any n [] = false
in_any n (b ∷ bs) = is_among n b || in_any n bs

module _ (views : List View) (inventory : Inventory) (p : Play) (laters : List Later) (exits : Name → Exit) (ps : Program) (ls : List (List Later)) where
  abbrev pub st : Name → Setting
  st n = setting_of inventory p views laters n

  abbrev pub walked : Name → Walked
  walked n = walk (st n) p.row (exits n)

  abbrev pub bound : Name → Task → ℕ
  bound n t = place_length t t.loop (walked n).visits

  abbrev pub later : Name → Since
  later n = later_of n laters

  -- where a host comes to at the end of the play
  abbrev pub after_play : Name → Exit
  after_play n = cond (is_among n p.hosts) (walked n).well (exits n)

  -- the calls of the plays that follow, and with those of this play
  abbrev pub future : Name → ℕ
  future n = plays_calls (plays_walked inventory views n (after_play n) ps ls)

  abbrev pub whole : Name → ℕ
  whole n = row_calls (walked n).visits p.row + future n

  -- the most calls on a way
  abbrev pub most : Name → Rest → ℕ
  most n done = 0
  most n left = 0
  most n (next t a b) = place_calls (walked n).visits t t.action + max (most n a) (most n b)
  most n (ask i a b) = max (most n a) (most n b)
  most n (rescue d r) = most n r
  most n (hold d r) = most n r
  most n (release d r) = most n r

  abbrev pub EndsAt : Name → Slots → Type 0
  EndsAt n env = (high : Slots) × (after_play n ≡ live high) × Above env high

  abbrev pub FineVisit : Name → Task → Slots → Type 0
  FineVisit n t env = VisitFine (view_of n views) (later n) (bound n) (record { setting = st n; visited = t; env = env })

  abbrev pub TypedAt : Name → Exit → Rest → Type 0
  TypedAt n e r = Typed (st n) (view_of n views) (later n) (bound n) (EndsAt n) e r

  -- a job that is out
  pub record Running (n : Name) (vars : Fields) (t : Task) (passes : List Pass) (a b : Rest) : Type 0 where
    pub env : Slots
    pub models : Models vars env
    pub well : WellEnv env
    pub visit : FineVisit n t env
    pub passes_fine : PassesFine (st n) t env passes
    pub going : TypedAt n (going_exit (st n) t env) a
    pub failing : TypedAt n (failing_exit (st n) t env) b

  -- a host before a task
  pub record Waiting (n : Name) (vars : Fields) (r : Rest) : Type 0 where
    pub env : Slots
    pub models : Models vars env
    pub typed : TypedAt n (live env) r

  -- the batch that runs and those of the play that are still to run
  module _ (b : List Name) (bs : List (List Name)) where
    -- a host with nothing to do: its variables are those of the play's beginning or end
    pub record Over (n : Name) (vars : Fields) : Type 0 where
      pub before : in_any n bs ≡ true → ExitModels vars (exits n)
      pub after : in_any n bs ≡ false → ExitModels vars (after_play n)
      pub there : is_among n b ≡ true → (q : ℕ) → LaterThere (later n) q vars

    abbrev pub StageFine : Name → Fields → Stage → Type 0
    StageFine n vars (waits over) = Over n vars
    StageFine n vars (waits gone) = Unit {0}
    StageFine n vars (waits (begins t x y)) = (is_among n b ≡ true) × Waiting n vars (next t x y)
    StageFine n vars (runs t i passes x y) = (is_among n b ≡ true) × Running n vars t passes x y

    -- the calls that a host may still hand out: those of the attempts that a job may still make, and of
    -- what follows
    abbrev pub owes : Name → Stage → ℕ
    owes n (waits over) = cond (in_any n bs) (whole n) (future n)
    owes n (waits gone) = 0
    owes n (waits (begins t x y)) = most n (next t x y) + future n
    owes n (runs t i passes x y) = left_calls t i passes + (max (most n x) (most n y) + future n)

    module _ (n : Name) (here : is_among n b ≡ true) (apart : in_any n bs ≡ false) where
      end_models : (vars : Fields) (env : Slots) (e : Exit) → Models vars env → (high : Slots) × (e ≡ live high) × Above env high → ExitModels vars e
      end_models vars env e m x = rw x.1 (x.2.up vars m)

      over_fine : (vars : Fields) (env : Slots) → Models vars env → has_all (later n) env ≡ true → EndsAt n env → Over n vars
      over_fine vars env m h x = record {
        before = λ i. true-false (in_any n bs) i apart;
        after = λ i. end_models vars env (after_play n) m x;
        there = λ i q. record { at = all_there (later n) q vars env m h };
      }

      marked_fine : (q : Bool) (vars : Fields) (x y : Host) → (q ≡ true → StageFine n vars x.stage) → (q ≡ false → StageFine n vars y.stage) → StageFine n vars (cond q x y).stage
      marked_fine true vars x y f g = f refl
      marked_fine false vars x y f g = g refl

      -- a host goes on, whatever handlers are notified
      pub settled_fine : (r : Rest) (h : Host) (vars : Fields) (env : Slots) → Models vars env → TypedAt n (live env) r → StageFine n vars (settled h r).stage
      settled_fine done h vars env m y = over_fine vars y.0 (y.1.up vars m) y.2 y.3
      settled_fine left h vars env m y = tt
      settled_fine (next t x z) h vars env m y = (here, record { env = env; models = m; typed = y })
      settled_fine (ask i x z) h vars env m y =
          marked_fine (is_marked i h.marks) vars (settled (record h { marks = unmarked i h.marks }) x) (settled h z)
          (λ q. settled_fine x (record h { marks = unmarked i h.marks }) vars env m y.0) (λ q. settled_fine z h vars env m y.1)
      settled_fine (rescue d r) h vars env m y = settled_fine r (record h { rescues = h.failure ∷ outermost d h.rescues }) vars env m y
      settled_fine (hold d r) h vars env m y = settled_fine r (record h { holds = h.failure ∷ outermost d h.holds }) vars env m y
      settled_fine (release d r) h vars env m y = settled_fine r (record h { failure = innermost (outermost (suc d) h.holds) }) vars env m y

      marked_owes : (q : Bool) (x y : Host) (u v f : ℕ) → owes n x.stage ≤ u + f → owes n y.stage ≤ v + f → owes n (cond q x y).stage ≤ max u v + f
      marked_owes true x y u v f h i = grind arith
      marked_owes false x y u v f h i = grind arith

      over_owes : (q : Bool) → q ≡ false → cond q (whole n) (future n) ≤ future n
      over_owes true e = absurd (true≢false e)
      over_owes false e = omega arith

      pub settled_owes : (r : Rest) (h : Host) → owes n (settled h r).stage ≤ most n r + future n
      settled_owes done h = let y = over_owes (in_any n bs) apart in omega (arith, y)
      settled_owes left h = omega arith
      settled_owes (next t x z) h = omega arith
      settled_owes (ask i x z) h =
          marked_owes (is_marked i h.marks) (settled (record h { marks = unmarked i h.marks }) x) (settled h z) (most n x) (most n z) (future n)
          (settled_owes x (record h { marks = unmarked i h.marks })) (settled_owes z h)
      settled_owes (rescue d r) h = settled_owes r (record h { rescues = h.failure ∷ outermost d h.rescues })
      settled_owes (hold d r) h = settled_owes r (record h { holds = h.failure ∷ outermost d h.holds })
      settled_owes (release d r) h = settled_owes r (record h { failure = innermost (outermost (suc d) h.holds) })

      -- a host that is active and stands at this place or a later one has what it is said to have
      pub stage_there : (q : ℕ) (vars : Fields) (g : Stage) → StageFine n vars g → is_on_stage g ≡ true → stands_at q g ≡ true → LaterThere (later n) q vars
      stage_there q vars (waits over) f i s = f.there here q
      stage_there q vars (waits gone) f i s = untrue i
      stage_there q vars (waits (begins t x y)) f i s =
          let y = f.1.typed in
          record { at = since_there (later n) q t.place vars y.0 s (y.1.up vars f.1.models) y.3.since }
      stage_there q vars (runs t j passes x y) f i s = record { at = since_there (later n) q t.place vars f.1.env s f.1.models f.1.visit.since }

  -- a name settles no other thing
  most_next : (c d n a b : ℕ) → a ≤ d + n → b ≤ n → c + max a b ≤ c + (d + n)
  most_next c d n a b h i = grind arith

  most_flush : (n : Name) (hs : Handlers) (a : Rest) (m : ℕ) → most n a ≤ m → most n (flush_rest hs a) ≤ flush_calls (walked n).visits hs + m
  most_flush n no_handlers a m h = omega arith
  most_flush n (handler k t hs) a m h =
      let y = most_flush n hs a m h in
      let c = place_calls (walked n).visits t t.action in
      let d = flush_calls (walked n).visits hs in
      let z = most_next c d m (most n (flush_rest hs a)) 0 y (omega arith) in
      grind arith

  -- the most calls on a way through a row are those of the row and of what follows it
  pub most_row : (n : Name) (row : Row) (e : ℕ) (a b : Rest) (m : ℕ) → most n a ≤ m → most n b ≤ m → most n (rest_of row e a b) ≤ row_calls (walked n).visits row + m
  most_row n end e a b m h i = omega arith
  most_row n (task t row) e a b m h i =
      let y = most_row n row e a b m h i in
      let c = place_calls (walked n).visits t t.action in
      let d = row_calls (walked n).visits row in
      let z = most_next c d m (most n (rest_of row e a b)) (most n b) y i in
      omega (arith, z)
  most_row n (flush hs row) e a b m h i =
      let c = flush_calls (walked n).visits hs in
      let d = row_calls (walked n).visits row in
      let y = most_row n row e a b m h i in
      let z = most_flush n hs (rest_of row e a b) (d + m) y in
      omega (arith, z)
  most_row n (section body hs row) e a b m h i =
      let k = row_calls (walked n).visits row + m in
      let ends = flush_calls (walked n).visits hs + k in
      let ok = most_flush n hs (rest_of row e a b) k (most_row n row e a b m h i) in
      let ko = most_flush n hs left k (omega arith) in
      let all = most_row n body e (flush_rest hs (rest_of row e a b)) (flush_rest hs left) ends ok ko in
      omega (arith, all)
  most_row n (block d body true rescued always row) e a b m h i =
      let rest = most_row n row e a b m h i in
      let k = row_calls (walked n).visits row + m in
      let low : most n b ≤ k = omega (arith, i) in
      let ok = most_row n always e (rest_of row e a b) b k rest low in
      let ko = most_row n always (suc e) (release e b) b k low low in
      let ends = row_calls (walked n).visits always + k in
      let saved = most_row n rescued e (rest_of always e (rest_of row e a b) b) (hold e (rest_of always (suc e) (release e b) b)) ends ok ko in
      let ok' : most n (rest_of always e (rest_of row e a b) b) ≤ row_calls (walked n).visits rescued + ends = omega (arith, ok) in
      let all = most_row n body e (rest_of always e (rest_of row e a b) b) (rescue d (rest_of rescued e (rest_of always e (rest_of row e a b) b) (hold e (rest_of always (suc e) (release e b) b)))) (row_calls (walked n).visits rescued + ends) ok' saved in
      omega (arith, all)
  most_row n (block d body false rescued always row) e a b m h i =
      let rest = most_row n row e a b m h i in
      let k = row_calls (walked n).visits row + m in
      let low : most n b ≤ k = omega (arith, i) in
      let ok = most_row n always e (rest_of row e a b) b k rest low in
      let ko = most_row n always (suc e) (release e b) b k low low in
      let ends = row_calls (walked n).visits always + k in
      let ok' : most n (rest_of always e (rest_of row e a b) b) ≤ row_calls (walked n).visits rescued + ends = omega (arith, ok) in
      let ko' : most n (hold e (rest_of always (suc e) (release e b) b)) ≤ row_calls (walked n).visits rescued + ends = omega (arith, ko) in
      let all = most_row n body e (rest_of always e (rest_of row e a b) b) (hold e (rest_of always (suc e) (release e b) b)) (row_calls (walked n).visits rescued + ends) ok' ko' in
      omega (arith, all)
