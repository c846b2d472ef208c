-- Ways whose tasks are fit, and the walk that shows that they are.
use Rattle.std.proofs.Common.{◌≡◌, ◌≤◌, ℕ, suc, List, [], ◌∷◌, ◌++◌, Bool, true, false, None}
use Rattle.pb_semantics.specs.Data.{Fields}
use Rattle.pb_semantics.specs.Kind.{Slots, recs}
use Rattle.pb_semantics.specs.Keeps.{Models}
use Rattle.pb_semantics.specs.Join.{join_slots}
use Rattle.pb_semantics.specs.Well.{Well}
use Rattle.pb_semantics.proofs.JoinModels.{meet_models}
use Rattle.pb_semantics.proofs.JoinWell.{joins_well}
use Rattle.pb_language.specs.Cases.{failing_cases}
use Rattle.pb_language.specs.Scope.{Since}
use Rattle.pb_language.specs.Task.{Task, Handlers, no_handlers, handler, Row, end, task, flush, section, block}
use Rattle.pb_language.specs.Rest.{Rest, done, left, next, ask, rescue, hold, release, flush_rest, rest_of}
use Rattle.pb_language.specs.Setting.{Setting}
use Rattle.pb_language.specs.Judgement.{Exit, dead, live, task_fault, live_if, has_going, has_case, going_slots, failing_slots, going_exit, failing_exit, task_writes, loop_length}
use Rattle.pb_language.specs.Walk.{Visit, meet, visits_at, going_from, failing_from, flush_walk, walk}
use Rattle.pb_language.specs.Tables.{writes_below, has_since, has_all}
use Rattle.pb_language.specs.Wells.{WellExit}

-- each world that models the first models the second
pub record Above (low high : Slots) : Type 0 where
  pub up : (vars : Fields) → Models vars low → Models vars high

pub above_itself : (env : Slots) → Above env env
above_itself env = record { up = λ vars m. m }

pub above_through : (a b c : Slots) → Above a b → Above b c → Above a c
above_through a b c u v = record { up = λ vars m. v.up vars (u.up vars m) }

abbrev pub WellEnv : Slots → Type 0
WellEnv env = Well (recs env)

pub meet_well : (e f : Exit) → WellExit e → WellExit f → WellExit (meet e f)
meet_well dead f w v = v
meet_well (live ss) dead w v = w
meet_well (live ss) (live ts) w v = joins_well (recs ss) (recs ts) w v

-- what is asked of a way to a task: it is fit, its writes are below the view, it has what it is said to have, its loop isn't too long
pub record VisitFine (view : Slots) (later : Since) (bound : Task → ℕ) (v : Visit) : Type 0 where
  pub fit : task_fault v.setting v.visited v.env ≡ None
  pub below : writes_below (task_writes v.setting v.visited v.env) view ≡ true
  pub since : has_since v.visited.place later v.env ≡ true
  pub few : loop_length v.setting v.visited v.env v.visited.loop ≤ bound v.visited

abbrev pub AllVisits : (Visit → Type 0) → List Visit → Type 0
AllVisits P [] = Unit {0}
AllVisits P (v ∷ vs) = P v × AllVisits P vs

pub all_first : (P : Visit → Type 0) (xs ys : List Visit) → AllVisits P (xs ++ ys) → AllVisits P xs
all_first P [] ys a = tt
all_first P (x ∷ xs) ys a = (a.0, all_first P xs ys a.1)

pub all_second : (P : Visit → Type 0) (xs ys : List Visit) → AllVisits P (xs ++ ys) → AllVisits P ys
all_second P [] ys a = a
all_second P (x ∷ xs) ys a = all_second P xs ys a.1

-- the environments after a fit task are well formed
pub record WellAfter (st : Setting) : Type 0 where
  pub going : (t : Task) (env : Slots) → WellEnv env → task_fault st t env ≡ None → WellEnv (going_slots st t env)
  pub failing : (t : Task) (env : Slots) → WellEnv env → task_fault st t env ≡ None → WellEnv (failing_slots st t env)

module _ (st : Setting) (view : Slots) (later : Since) (bound : Task → ℕ) where
  abbrev pub Fine : Visit → Type 0
  Fine v = VisitFine view later bound v

  abbrev pub at : Task → Slots → Visit
  at t env = record { setting = st; visited = t; env = env }

  module _ (End : Slots → Type 0) where
    -- each task on the way is fit in an environment above the one in which the host comes there; at the play's end there is one above with what follows it
    abbrev pub Typed : Exit → Rest → Type 0
    Typed dead r = Unit {0}
    Typed (live low) done = (env : Slots) × Above low env × (has_all later env ≡ true) × End env
    Typed (live low) left = Unit {0}
    Typed (live low) (next t a b) = (env : Slots) × Above low env × WellEnv env × Fine (at t env) × Typed (going_exit st t env) a × Typed (failing_exit st t env) b
    Typed (live low) (ask n a b) = Typed (live low) a × Typed (live low) b
    Typed (live low) (rescue d r) = Typed (live low) r
    Typed (live low) (hold m r) = Typed (live low) r
    Typed (live low) (release m r) = Typed (live low) r

    above_typed : (r : Rest) (low high : Slots) → Above low high → Typed (live high) r → Typed (live low) r
    above_typed done low high u y = (y.0, above_through low high y.0 u y.1, y.2, y.3)
    above_typed left low high u y = tt
    above_typed (next t a b) low high u y = (y.0, above_through low high y.0 u y.1, y.2, y.3, y.4, y.5)
    above_typed (ask n a b) low high u y = (above_typed a low high u y.0, above_typed b low high u y.1)
    above_typed (rescue d r) low high u y = above_typed r low high u y
    above_typed (hold m r) low high u y = above_typed r low high u y
    above_typed (release m r) low high u y = above_typed r low high u y

    typed_first : (e f : Exit) (r : Rest) → WellExit e → WellExit f → Typed (meet e f) r → Typed e r
    typed_first dead f r w v y = tt
    typed_first (live ss) dead r w v y = y
    typed_first (live ss) (live ts) r w v y = above_typed r ss (join_slots ss ts) (record { up = λ vars. (meet_models vars ss ts w v).0 }) y

    typed_second : (e f : Exit) (r : Rest) → WellExit e → WellExit f → Typed (meet e f) r → Typed f r
    typed_second dead f r w v y = y
    typed_second (live ss) dead r w v y = tt
    typed_second (live ss) (live ts) r w v y = above_typed r ts (join_slots ss ts) (record { up = λ vars. (meet_models vars ss ts w v).1 }) y

    typed_next : (e : Exit) (t : Task) (a b : Rest) → WellExit e → AllVisits Fine (visits_at st t e) → Typed (going_from st t e) a → Typed (failing_from st t e) b → Typed e (next t a b)
    typed_next dead t a b w f ya yb = tt
    typed_next (live env) t a b w f ya yb = (env, above_itself env, w, f.0, ya, yb)

    typed_left : (e : Exit) → Typed e left
    typed_left dead = tt
    typed_left (live env) = tt

    typed_ask : (e : Exit) (n : ℕ) (a b : Rest) → Typed e a → Typed e b → Typed e (ask n a b)
    typed_ask dead n a b ya yb = tt
    typed_ask (live env) n a b ya yb = (ya, yb)

    typed_rescue : (e : Exit) (d : ℕ) (r : Rest) → Typed e r → Typed e (rescue d r)
    typed_rescue dead d r y = tt
    typed_rescue (live env) d r y = y

    typed_hold : (e : Exit) (d : ℕ) (r : Rest) → Typed e r → Typed e (hold d r)
    typed_hold dead d r y = tt
    typed_hold (live env) d r y = y

    typed_release : (e : Exit) (d : ℕ) (r : Rest) → Typed e r → Typed e (release d r)
    typed_release dead d r y = tt
    typed_release (live env) d r y = y

  module _ (after : WellAfter st) where
    going_well : (q : Bool) (t : Task) (env : Slots) → WellEnv env → Fine (at t env) → WellExit (live_if q (going_slots st t env))
    going_well true t env w f = after.going t env w f.fit
    going_well false t env w f = tt

    failing_well : (q : Bool) (t : Task) (env : Slots) → WellEnv env → Fine (at t env) → WellExit (live_if q (failing_slots st t env))
    failing_well true t env w f = after.failing t env w f.fit
    failing_well false t env w f = tt

    pub going_from_well : (t : Task) (e : Exit) → WellExit e → AllVisits Fine (visits_at st t e) → WellExit (going_from st t e)
    going_from_well t dead w a = tt
    going_from_well t (live env) w a = going_well (has_going t t.loop) t env w a.0

    pub failing_from_well : (t : Task) (e : Exit) → WellExit e → AllVisits Fine (visits_at st t e) → WellExit (failing_from st t e)
    failing_from_well t dead w a = tt
    failing_from_well t (live env) w a = failing_well (has_case (failing_cases t)) t env w a.0

    pub flush_well : (hs : Handlers) (e : Exit) → WellExit e → AllVisits Fine (flush_walk st hs e).visits → WellExit (flush_walk st hs e).well × WellExit (flush_walk st hs e).hurt
    flush_well no_handlers e w a = (w, tt)
    flush_well (handler n t hs) e w a =
        let k = flush_walk st hs (meet e (going_from st t e)) in
        let here = all_first Fine (visits_at st t e) k.visits a in
        flush_well hs (meet e (going_from st t e)) (meet_well e (going_from st t e) w (going_from_well t e w here)) (all_second Fine (visits_at st t e) k.visits a)

    -- the exits of a walk are well formed
    pub walk_well : (row : Row) (e : Exit) → WellExit e → AllVisits Fine (walk st row e).visits → WellExit (walk st row e).well × WellExit (walk st row e).hurt
    walk_well end e w a = (w, tt)
    walk_well (task t row) e w a =
        let k = walk st row (going_from st t e) in
        let here = all_first Fine (visits_at st t e) k.visits a in
        let rest = walk_well row (going_from st t e) (going_from_well t e w here) (all_second Fine (visits_at st t e) k.visits a) in
        (rest.0, meet_well (failing_from st t e) k.hurt (failing_from_well t e w here) rest.1)
    walk_well (flush hs row) e w a =
        let f = flush_walk st hs e in
        let k = walk st row f.well in
        let here = flush_well hs e w (all_first Fine f.visits k.visits a) in
        walk_well row f.well here.0 (all_second Fine f.visits k.visits a)
    walk_well (section body hs row) e w a =
        let x = walk st body e in
        let g = flush_walk st hs x.well in
        let h = flush_walk st hs x.hurt in
        let k = walk st row g.well in
        let a1 = all_second Fine x.visits (g.visits ++ (h.visits ++ k.visits)) a in
        let a2 = all_second Fine g.visits (h.visits ++ k.visits) a1 in
        let wx = walk_well body e w (all_first Fine x.visits (g.visits ++ (h.visits ++ k.visits)) a) in
        let wg = flush_well hs x.well wx.0 (all_first Fine g.visits (h.visits ++ k.visits) a1) in
        walk_well row g.well wg.0 (all_second Fine h.visits k.visits a2)
    walk_well (block d body true rescued always row) e w a =
        let x = walk st body e in
        let s = walk st rescued x.hurt in
        let g = walk st always (meet x.well s.well) in
        let h = walk st always s.hurt in
        let k = walk st row g.well in
        let a1 = all_second Fine x.visits (s.visits ++ (g.visits ++ (h.visits ++ k.visits))) a in
        let a2 = all_second Fine s.visits (g.visits ++ (h.visits ++ k.visits)) a1 in
        let a3 = all_second Fine g.visits (h.visits ++ k.visits) a2 in
        let wx = walk_well body e w (all_first Fine x.visits (s.visits ++ (g.visits ++ (h.visits ++ k.visits))) a) in
        let ws = walk_well rescued x.hurt wx.1 (all_first Fine s.visits (g.visits ++ (h.visits ++ k.visits)) a1) in
        let wg = walk_well always (meet x.well s.well) (meet_well x.well s.well wx.0 ws.0) (all_first Fine g.visits (h.visits ++ k.visits) a2) in
        let wh = walk_well always s.hurt ws.1 (all_first Fine h.visits k.visits a3) in
        let wk = walk_well row g.well wg.0 (all_second Fine h.visits k.visits a3) in
        (wk.0, meet_well k.hurt (meet g.hurt (meet h.well h.hurt)) wk.1 (meet_well g.hurt (meet h.well h.hurt) wg.1 (meet_well h.well h.hurt wh.0 wh.1)))
    walk_well (block d body false rescued always row) e w a =
        let x = walk st body e in
        let g = walk st always (meet x.well dead) in
        let h = walk st always x.hurt in
        let k = walk st row g.well in
        let a1 = all_second Fine x.visits (g.visits ++ (h.visits ++ k.visits)) a in
        let a3 = all_second Fine g.visits (h.visits ++ k.visits) a1 in
        let wx = walk_well body e w (all_first Fine x.visits (g.visits ++ (h.visits ++ k.visits)) a) in
        let wg = walk_well always (meet x.well dead) (meet_well x.well dead wx.0 tt) (all_first Fine g.visits (h.visits ++ k.visits) a1) in
        let wh = walk_well always x.hurt wx.1 (all_first Fine h.visits k.visits a3) in
        let wk = walk_well row g.well wg.0 (all_second Fine h.visits k.visits a3) in
        (wk.0, meet_well k.hurt (meet g.hurt (meet h.well h.hurt)) wk.1 (meet_well g.hurt (meet h.well h.hurt) wg.1 (meet_well h.well h.hurt wh.0 wh.1)))

    module _ (End : Slots → Type 0) where
      typed_flush : (hs : Handlers) (e : Exit) (a : Rest) → WellExit e → AllVisits Fine (flush_walk st hs e).visits → Typed End (flush_walk st hs e).well a → Typed End e (flush_rest hs a)
      typed_flush no_handlers e a w f ya = ya
      typed_flush (handler n t hs) e a w f ya =
          let g = going_from st t e in
          let k = flush_walk st hs (meet e g) in
          let here = all_first Fine (visits_at st t e) k.visits f in
          let rest = all_second Fine (visits_at st t e) k.visits f in
          let wg = going_from_well t e w here in
          let after_all = flush_rest hs a in
          let y = typed_flush hs (meet e g) a (meet_well e g w wg) rest ya in
          typed_ask End e n (next t after_all left) after_all (typed_next End e t after_all left w here (typed_second End e g after_all w wg y) (typed_left End (failing_from st t e))) (typed_first End e g after_all w wg y)

      -- the walk types the ways through a row
      pub typed_row : (row : Row) (m : ℕ) (e : Exit) (a b : Rest) → WellExit e → AllVisits Fine (walk st row e).visits → Typed End (walk st row e).well a → Typed End (walk st row e).hurt b → Typed End e (rest_of row m a b)
      typed_row end m e a b w f ya yb = ya
      typed_row (task t row) m e a b w f ya yb =
          let g = going_from st t e in
          let k = walk st row g in
          let here = all_first Fine (visits_at st t e) k.visits f in
          let rest = all_second Fine (visits_at st t e) k.visits f in
          let wg = going_from_well t e w here in
          let wf = failing_from_well t e w here in
          let wk = walk_well row g wg rest in
          typed_next End e t (rest_of row m a b) b w here
          (typed_row row m g a b wg rest ya (typed_second End (failing_from st t e) k.hurt b wf wk.1 yb))
          (typed_first End (failing_from st t e) k.hurt b wf wk.1 yb)
      typed_row (flush hs row) m e a b w f ya yb =
          let x = flush_walk st hs e in
          let k = walk st row x.well in
          let fx = all_first Fine x.visits k.visits f in
          let fk = all_second Fine x.visits k.visits f in
          let wx = flush_well hs e w fx in
          typed_flush hs e (rest_of row m a b) w fx (typed_row row m x.well a b wx.0 fk ya yb)
      typed_row (section body hs row) m e a b w f ya yb =
          let x = walk st body e in
          let g = flush_walk st hs x.well in
          let h = flush_walk st hs x.hurt in
          let k = walk st row g.well in
          let f1 = all_second Fine x.visits (g.visits ++ (h.visits ++ k.visits)) f in
          let f2 = all_second Fine g.visits (h.visits ++ k.visits) f1 in
          let fx = all_first Fine x.visits (g.visits ++ (h.visits ++ k.visits)) f in
          let fg = all_first Fine g.visits (h.visits ++ k.visits) f1 in
          let wx = walk_well body e w fx in
          let wg = flush_well hs x.well wx.0 fg in
          let yk = typed_row row m g.well a b wg.0 (all_second Fine h.visits k.visits f2) ya yb in
          typed_row body m e (flush_rest hs (rest_of row m a b)) (flush_rest hs left) w fx (typed_flush hs x.well (rest_of row m a b) wx.0 fg yk)
          (typed_flush hs x.hurt left wx.1 (all_first Fine h.visits k.visits f2) (typed_left End h.well))
      typed_row (block d body true rescued always row) m e a b w f ya yb =
          let x = walk st body e in
          let s = walk st rescued x.hurt in
          let g = walk st always (meet x.well s.well) in
          let h = walk st always s.hurt in
          let k = walk st row g.well in
          let f1 = all_second Fine x.visits (s.visits ++ (g.visits ++ (h.visits ++ k.visits))) f in
          let f2 = all_second Fine s.visits (g.visits ++ (h.visits ++ k.visits)) f1 in
          let f3 = all_second Fine g.visits (h.visits ++ k.visits) f2 in
          let fx = all_first Fine x.visits (s.visits ++ (g.visits ++ (h.visits ++ k.visits))) f in
          let fs = all_first Fine s.visits (g.visits ++ (h.visits ++ k.visits)) f1 in
          let fg = all_first Fine g.visits (h.visits ++ k.visits) f2 in
          let fh = all_first Fine h.visits k.visits f3 in
          let fk = all_second Fine h.visits k.visits f3 in
          let wx = walk_well body e w fx in
          let ws = walk_well rescued x.hurt wx.1 fs in
          let wm = meet_well x.well s.well wx.0 ws.0 in
          let wg = walk_well always (meet x.well s.well) wm fg in
          let wh = walk_well always s.hurt ws.1 fh in
          let wk = walk_well row g.well wg.0 fk in
          let wt = meet_well h.well h.hurt wh.0 wh.1 in
          let y1 = typed_second End k.hurt (meet g.hurt (meet h.well h.hurt)) b wk.1 (meet_well g.hurt (meet h.well h.hurt) wg.1 wt) yb in
          let y2 = typed_second End g.hurt (meet h.well h.hurt) b wg.1 wt y1 in
          let after_all = rest_of row m a b in
          let ends = rest_of always m after_all b in
          let fails = hold m (rest_of always (suc m) (release m b) b) in
          let yk = typed_row row m g.well a b wg.0 fk ya (typed_first End k.hurt (meet g.hurt (meet h.well h.hurt)) b wk.1 (meet_well g.hurt (meet h.well h.hurt) wg.1 wt) yb) in
          let yg = typed_row always m (meet x.well s.well) after_all b wm fg yk (typed_first End g.hurt (meet h.well h.hurt) b wg.1 wt y1) in
          let yh = typed_hold End s.hurt m (rest_of always (suc m) (release m b) b) (typed_row always (suc m) s.hurt (release m b) b ws.1 fh (typed_release End h.well m b (typed_first End h.well h.hurt b wh.0 wh.1 y2)) (typed_second End h.well h.hurt b wh.0 wh.1 y2)) in
          let ys = typed_row rescued m x.hurt ends fails wx.1 fs (typed_second End x.well s.well ends wx.0 ws.0 yg) yh in
          typed_row body m e ends (rescue d (rest_of rescued m ends fails)) w fx (typed_first End x.well s.well ends wx.0 ws.0 yg) (typed_rescue End x.hurt d (rest_of rescued m ends fails) ys)
      typed_row (block d body false rescued always row) m e a b w f ya yb =
          let x = walk st body e in
          let g = walk st always (meet x.well dead) in
          let h = walk st always x.hurt in
          let k = walk st row g.well in
          let f1 = all_second Fine x.visits (g.visits ++ (h.visits ++ k.visits)) f in
          let f3 = all_second Fine g.visits (h.visits ++ k.visits) f1 in
          let fx = all_first Fine x.visits (g.visits ++ (h.visits ++ k.visits)) f in
          let fg = all_first Fine g.visits (h.visits ++ k.visits) f1 in
          let fh = all_first Fine h.visits k.visits f3 in
          let fk = all_second Fine h.visits k.visits f3 in
          let wx = walk_well body e w fx in
          let wm = meet_well x.well dead wx.0 tt in
          let wg = walk_well always (meet x.well dead) wm fg in
          let wh = walk_well always x.hurt wx.1 fh in
          let wk = walk_well row g.well wg.0 fk in
          let wt = meet_well h.well h.hurt wh.0 wh.1 in
          let y1 = typed_second End k.hurt (meet g.hurt (meet h.well h.hurt)) b wk.1 (meet_well g.hurt (meet h.well h.hurt) wg.1 wt) yb in
          let y2 = typed_second End g.hurt (meet h.well h.hurt) b wg.1 wt y1 in
          let after_all = rest_of row m a b in
          let ends = rest_of always m after_all b in
          let yk = typed_row row m g.well a b wg.0 fk ya (typed_first End k.hurt (meet g.hurt (meet h.well h.hurt)) b wk.1 (meet_well g.hurt (meet h.well h.hurt) wg.1 wt) yb) in
          let yg = typed_row always m (meet x.well dead) after_all b wm fg yk (typed_first End g.hurt (meet h.well h.hurt) b wg.1 wt y1) in
          let yh = typed_hold End x.hurt m (rest_of always (suc m) (release m b) b) (typed_row always (suc m) x.hurt (release m b) b wx.1 fh (typed_release End h.well m b (typed_first End h.well h.hurt b wh.0 wh.1 y2)) (typed_second End h.well h.hurt b wh.0 wh.1 y2)) in
          typed_row body m e ends (hold m (rest_of always (suc m) (release m b) b)) w fx (typed_first End x.well dead ends wx.0 tt yg) yh
