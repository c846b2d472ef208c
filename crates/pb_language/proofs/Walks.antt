-- The walk of a row is the least that covers its edges.
use Rattle.std.proofs.Common.{◌≡◌, List, [], ◌++◌, Bool, true, false, refl, sym, ap, subst, ◌∙◌}
use Rattle.pb_semantics.specs.Kind.{recs}
use Rattle.pb_semantics.specs.Join.{join_slots}
use Rattle.pb_semantics.proofs.Bools.{untrue}
use Rattle.pb_semantics.proofs.Order.{own_below}
use Rattle.pb_semantics.proofs.Through.{through}
use Rattle.pb_semantics.proofs.JoinAbove.{joins_above}
use Rattle.pb_semantics.proofs.JoinLeast.{joins_least}
use Rattle.pb_language.specs.Task.{Task, Handlers, no_handlers, handler, Row, end, task, flush, section, block}
use Rattle.pb_language.specs.Scope.{view_of}
use Rattle.pb_language.specs.Setting.{Setting}
use Rattle.pb_language.specs.Judgement.{Exit, dead, live}
use Rattle.pb_language.specs.Walk.{Visit, meet, visits_at, going_from, failing_from, Walked, flush_walk, walk, unsaved}
use Rattle.pb_language.specs.Ordered.{SettingLe, ExitLe}
use Rattle.pb_language.specs.Wells.{WellViews, WellExit}
use Rattle.pb_language.specs.Nodes.{FlushValues, Values, FlushEnters, Enters, Saved, FlushInner, Inner, FlushLe, ValuesLe, WellFlush, WellValues, flush_values, saved_walk, entered, values, flush_visits, visits_of, Leaves}
use Rattle.pb_language.proofs.After.{after_claim}
use Rattle.pb_language.proofs.Ways.{meet_well}
use Rattle.pb_language.proofs.Rounds.{going_well, failing_well, flush_well, all_well}
use Rattle.pb_language.proofs.Spots.{slots_le, le_slots}
use Rattle.pb_language.proofs.ExitsUp.{exits_up}

-- a set of exits with whatever is below one of them and with each join
pub record Closed (P : Exit → Type 0) : Type 0 where
  pub none : P dead
  pub down : (e f : Exit) → WellExit e → WellExit f → ExitLe e f → P f → P e
  pub both : (e f : Exit) → WellExit e → WellExit f → P e → P f → P (meet e f)

-- exits are in order
pub exit_own : (e : Exit) → WellExit e → ExitLe e e
exit_own dead w = tt
exit_own (live ss) w = slots_le ss ss (own_below (recs ss) w)

pub exit_through : (e f g : Exit) → WellExit e → WellExit f → WellExit g → ExitLe e f → ExitLe f g → ExitLe e g
exit_through dead f g w v u x y = tt
exit_through (live ss) dead g w v u x y = untrue x
exit_through (live ss) (live ts) dead w v u x y = untrue y
exit_through (live ss) (live ts) (live us) w v u x y = slots_le ss us (through (recs ss) (recs ts) (recs us) w (le_slots ss ts v.0 x) (le_slots ts us u.0 y))

pub meet_first : (e f : Exit) → WellExit e → WellExit f → ExitLe e (meet e f)
meet_first dead f w v = tt
meet_first (live ss) dead w v = exit_own (live ss) w
meet_first (live ss) (live ts) w v = slots_le ss (join_slots ss ts) (joins_above (recs ss) (recs ts) w v).0

pub meet_second : (e f : Exit) → WellExit e → WellExit f → ExitLe f (meet e f)
meet_second dead f w v = exit_own f v
meet_second (live ss) dead w v = tt
meet_second (live ss) (live ts) w v = slots_le ts (join_slots ss ts) (joins_above (recs ss) (recs ts) w v).1

pub meet_least : (e f g : Exit) → WellExit e → WellExit f → WellExit g → ExitLe e g → ExitLe f g → ExitLe (meet e f) g
meet_least dead f g w v u x y = y
meet_least (live ss) dead g w v u x y = x
meet_least (live ss) (live ts) dead w v u x y = untrue x
meet_least (live ss) (live ts) (live us) w v u x y = slots_le (join_slots ss ts) us (joins_least (recs ss) (recs ts) (recs us) w v (le_slots ss us u.0 x) (le_slots ts us u.0 y))

-- what is below one exit
pub closed_below : (g : Exit) → WellExit g → Closed (λ e. ExitLe e g)
closed_below g u = record { none = tt; down = λ e f w v x y. exit_through e f g w v u x y; both = λ e f w v x y. meet_least e f g w v u x y }

-- all of them
closed_all : Closed Leaves
closed_all = record { none = tt; down = λ e f w v x y. tt; both = λ e f w v x y. tt }

closed_flush : (hs : Handlers) (vs : FlushValues hs) (after : Exit → Type 0) → WellFlush hs vs → Closed after → Closed (FlushEnters hs vs after)
closed_flush no_handlers vs after w c = c
closed_flush (handler n t hs) vs after w c = closed_below vs.0 w.0

pub closed_enters : (row : Row) (vs : Values row) (after : Exit → Type 0) → WellValues row vs → Closed after → Closed (Enters row vs after)
closed_enters end vs after w c = c
closed_enters (task t row) vs after w c = closed_below vs.0 w.0
closed_enters (flush hs row) vs after w c = closed_flush hs vs.0 (Enters row vs.1 after) w.0 (closed_enters row vs.1 after w.1 c)
closed_enters (section body hs row) vs after w c =
    closed_enters body vs.0 (FlushEnters hs vs.1 (Enters row vs.3 after)) w.0 (closed_flush hs vs.1 (Enters row vs.3 after) w.1 (closed_enters row vs.3 after w.3 c))
closed_enters (block d body saves rescued always row) vs after w c =
    closed_enters body vs.0 (Enters always vs.2 (Enters row vs.4 after)) w.0 (closed_enters always vs.2 (Enters row vs.4 after) w.2 (closed_enters row vs.4 after w.4 c))

closed_saved : (q : Bool) (P Q : Exit → Type 0) → Closed P → Closed Q → Closed (Saved q P Q)
closed_saved true P Q p q = p
closed_saved false P Q p q = q

module _ (st : Setting) where
  -- nothing comes of nothing
  flush_dead : (hs : Handlers) → ((flush_walk st hs dead).well ≡ dead) × ((flush_walk st hs dead).hurt ≡ dead)
  flush_dead no_handlers = (refl, refl)
  flush_dead (handler n t hs) = flush_dead hs

  abbrev DeadAt : Row → Type 0
  DeadAt row = ((walk st row dead).well ≡ dead) × ((walk st row dead).hurt ≡ dead)

  rest_dead : (always row : Row) (b s : Walked) → DeadAt always → DeadAt row → b.well ≡ dead → s.well ≡ dead → s.hurt ≡ dead
      → ((walk st row (walk st always (meet b.well s.well)).well).well ≡ dead)
      × (meet (walk st row (walk st always (meet b.well s.well)).well).hurt (meet (walk st always (meet b.well s.well)).hurt (meet (walk st always s.hurt).well (walk st always s.hurt).hurt)) ≡ dead)
  rest_dead always row b s i j x y z =
      let m : meet b.well s.well ≡ dead = ap (λ e. meet e s.well) x ∙ y in
      let g : walk st always (meet b.well s.well) ≡ walk st always dead = ap (λ e. walk st always e) m in
      let gw = ap (λ w. w.well) g ∙ i.0 in
      let gh = ap (λ w. w.hurt) g ∙ i.1 in
      let h : walk st always s.hurt ≡ walk st always dead = ap (λ e. walk st always e) z in
      let k : walk st row (walk st always (meet b.well s.well)).well ≡ walk st row dead = ap (λ e. walk st row e) gw in
      let kh = ap (λ w. w.hurt) k ∙ j.1 in
      let hw = ap (λ w. w.well) h ∙ i.0 in
      let hh = ap (λ w. w.hurt) h ∙ i.1 in (
        ap (λ w. w.well) k ∙ j.0,
        ap (λ e. meet e (meet (walk st always (meet b.well s.well)).hurt (meet (walk st always s.hurt).well (walk st always s.hurt).hurt))) kh
            ∙ ap (λ e. meet e (meet (walk st always s.hurt).well (walk st always s.hurt).hurt)) gh ∙ ap (λ e. meet e (walk st always s.hurt).hurt) hw ∙ hh,
      )

  dead_walk : (row : Row) → ((walk st row dead).well ≡ dead) × ((walk st row dead).hurt ≡ dead)
  dead_walk end = (refl, refl)
  dead_walk (task t row) = dead_walk row
  dead_walk (flush hs row) =
      let f = flush_dead hs in
      let k = dead_walk row in
      let x : walk st row (flush_walk st hs dead).well ≡ walk st row dead = ap (λ e. walk st row e) f.0 in
      (ap (λ w. w.well) x ∙ k.0, ap (λ w. w.hurt) x ∙ k.1)
  dead_walk (section body hs row) =
      let b = walk st body dead in
      let k = dead_walk row in
      let x : (flush_walk st hs b.well).well ≡ dead = ap (λ e. (flush_walk st hs e).well) (dead_walk body).0 ∙ (flush_dead hs).0 in
      let y : walk st row (flush_walk st hs b.well).well ≡ walk st row dead = ap (λ e. walk st row e) x in
      (ap (λ w. w.well) y ∙ k.0, ap (λ w. w.hurt) y ∙ k.1)
  dead_walk (block d body true rescued always row) =
      let b = dead_walk body in
      let r = dead_walk rescued in
      let x : walk st rescued (walk st body dead).hurt ≡ walk st rescued dead = ap (λ e. walk st rescued e) b.1 in
      rest_dead always row (walk st body dead) (walk st rescued (walk st body dead).hurt) (dead_walk always) (dead_walk row) b.0 (ap (λ w. w.well) x ∙ r.0) (ap (λ w. w.hurt) x ∙ r.1)
  dead_walk (block d body false rescued always row) =
      let b = dead_walk body in
      rest_dead always row (walk st body dead) (unsaved (walk st body dead).hurt) (dead_walk always) (dead_walk row) b.0 refl b.1

module _ (st : Setting) (a : WellViews st.views) where
  same_setting : SettingLe st st
  same_setting = record { same = refl; views = λ g. slots_le (view_of g st.views) (view_of g st.views) (own_below (recs (view_of g st.views)) (a g)); hosts = λ g. refl; laters = λ p g x. refl }

  goes_well : (t : Task) (e : Exit) → WellExit e → WellExit (going_from st t e)
  goes_well t e w = going_well after_claim st a t e w

  fails_well : (t : Task) (e : Exit) → WellExit e → WellExit (failing_from st t e)
  fails_well t e w = failing_well after_claim st a t e w

  flushes_well : (hs : Handlers) (e : Exit) → WellExit e → WellExit (flush_walk st hs e).well × WellExit (flush_walk st hs e).hurt
  flushes_well hs e w = let r = flush_well after_claim st a hs e w in (r.1, r.2)

  pub walk_well : (row : Row) (e : Exit) → WellExit e → WellExit (walk st row e).well × WellExit (walk st row e).hurt
  walk_well row e w = let r = all_well after_claim st a row e w in (r.1, r.2)

  going_up : (t : Task) (e f : Exit) → WellExit e → WellExit f → ExitLe e f → ExitLe (going_from st t e) (going_from st t f)
  going_up t dead f w v x = tt
  going_up t (live ss) dead w v x = untrue x
  going_up t (live ss) (live ts) w v x = (exits_up st st t ss ts a a w v same_setting x).0

  failing_up : (t : Task) (e f : Exit) → WellExit e → WellExit f → ExitLe e f → ExitLe (failing_from st t e) (failing_from st t f)
  failing_up t dead f w v x = tt
  failing_up t (live ss) dead w v x = untrue x
  failing_up t (live ss) (live ts) w v x = (exits_up st st t ss ts a a w v same_setting x).1

  -- the walk is below whatever covers
  flush_least : (hs : Handlers) (e : Exit) (vs : FlushValues hs) (after : Exit → Type 0) → WellExit e → WellFlush hs vs → Closed after → FlushEnters hs vs after e → FlushInner st hs vs after
      → FlushLe hs (flush_values st hs e) vs × after (flush_walk st hs e).well
  flush_least no_handlers e vs after w v p x y = (tt, x)
  flush_least (handler n t hs) e vs after w v p x y =
      let f = going_from st t e in
      let wf = goes_well t e w in
      let m = meet e f in
      let P = FlushEnters hs vs.1 after in
      let c = closed_flush hs vs.1 after v.1 p in
      let there : P f = c.down f (going_from st t vs.0) wf (goes_well t vs.0 v.0) (going_up t e vs.0 w v.0 x) y.1 in
      let over : P e = c.down e vs.0 w v.0 x y.0 in
      let k = flush_least hs m vs.1 after (meet_well e f w wf) v.1 p (c.both e f w wf over there) y.2 in
      ((x, k.0), k.1)

  abbrev LeastAt : Row → Type 1
  LeastAt row = (e : Exit) (vs : Values row) (after hurt : Exit → Type 0) → WellExit e → WellValues row vs → Closed after → Closed hurt → Enters row vs after e → Inner st row vs after hurt
      → ValuesLe row (values st row e) vs × after (walk st row e).well × hurt (walk st row e).hurt

  rest_least : (always row : Row) → LeastAt always → LeastAt row → (b s : Walked) (us vs : Values always) (ws : Values row) (after hurt : Exit → Type 0) → WellExit b.well × WellExit b.hurt → WellExit s.well × WellExit s.hurt
      → WellValues always us → WellValues always vs → WellValues row ws → Closed after → Closed hurt → Enters always us (Enters row ws after) b.well → Enters always us (Enters row ws after) s.well → Enters always vs hurt s.hurt
      → Inner st always us (Enters row ws after) hurt → Inner st always vs hurt hurt → Inner st row ws after hurt
      → ValuesLe always (values st always (meet b.well s.well)) us × ValuesLe always (values st always s.hurt) vs × ValuesLe row (values st row (walk st always (meet b.well s.well)).well) ws
      × after (walk st row (walk st always (meet b.well s.well)).well).well
      × hurt (meet (walk st row (walk st always (meet b.well s.well)).well).hurt (meet (walk st always (meet b.well s.well)).hurt (meet (walk st always s.hurt).well (walk st always s.hurt).hurt)))
  rest_least always row fa fr b s us vs ws after hurt wb ww a1 a2 a3 p q x y z i j o =
      let cK = closed_enters row ws after a3 p in
      let cA = closed_enters always us (Enters row ws after) a1 cK in
      let m = meet b.well s.well in
      let wm = meet_well b.well s.well wb.0 ww.0 in
      let g = walk st always m in
      let wg = walk_well always m wm in
      let h = walk st always s.hurt in
      let wh = walk_well always s.hurt ww.1 in
      let k = walk st row g.well in
      let wk = walk_well row g.well wg.0 in
      let kg = fa m us (Enters row ws after) hurt wm a1 cK q (cA.both b.well s.well wb.0 ww.0 x y) i in
      let kh = fa s.hurt vs hurt hurt ww.1 a2 q q z j in
      let kk = fr g.well ws after hurt wg.0 a3 p q kg.1 o in
      let hh = q.both h.well h.hurt wh.0 wh.1 kh.1 kh.2 in
      let gg = q.both g.hurt (meet h.well h.hurt) wg.1 (meet_well h.well h.hurt wh.0 wh.1) kg.2 hh in
      (kg.0, kh.0, kk.0, kk.1, q.both k.hurt (meet g.hurt (meet h.well h.hurt)) wk.1 (meet_well g.hurt (meet h.well h.hurt) wg.1 (meet_well h.well h.hurt wh.0 wh.1)) kk.2 gg)

  pub walk_least : (row : Row) (e : Exit) (vs : Values row) (after hurt : Exit → Type 0) → WellExit e → WellValues row vs → Closed after → Closed hurt → Enters row vs after e → Inner st row vs after hurt
      → ValuesLe row (values st row e) vs × after (walk st row e).well × hurt (walk st row e).hurt
  walk_least end e vs after hurt w v p q x y = (tt, x, q.none)
  walk_least (task t row) e vs after hurt w v p q x y =
      let f = going_from st t e in
      let wf = goes_well t e w in
      let c = closed_enters row vs.1 after v.1 p in
      let there = c.down f (going_from st t vs.0) wf (goes_well t vs.0 v.0) (going_up t e vs.0 w v.0 x) y.0 in
      let k = walk_least row f vs.1 after hurt wf v.1 p q there y.2 in
      let fails : hurt (failing_from st t e) = q.down (failing_from st t e) (failing_from st t vs.0) (fails_well t e w) (fails_well t vs.0 v.0) (failing_up t e vs.0 w v.0 x) y.1 in
      ((x, k.0), k.1, q.both (failing_from st t e) (walk st row f).hurt (fails_well t e w) (walk_well row f wf).1 fails k.2)
  walk_least (flush hs row) e vs after hurt w v p q x y =
      let f = flush_walk st hs e in
      let wf = flushes_well hs e w in
      let c = closed_enters row vs.1 after v.1 p in
      let k = flush_least hs e vs.0 (Enters row vs.1 after) w v.0 c x y.0 in
      let r = walk_least row f.well vs.1 after hurt wf.0 v.1 p q k.1 y.1 in
      ((k.0, r.0), r.1, r.2)
  walk_least (section body hs row) e vs after hurt w v p q x y =
      let K = Enters row vs.3 after in
      let cK = closed_enters row vs.3 after v.3 p in
      let F = FlushEnters hs vs.1 K in
      let cF = closed_flush hs vs.1 K v.1 cK in
      let G = FlushEnters hs vs.2 Leaves in
      let cG = closed_flush hs vs.2 Leaves v.2 closed_all in
      let b = walk st body e in
      let wb = walk_well body e w in
      let kb = walk_least body e vs.0 F G w v.0 cF cG x y.0 in
      let kf = flush_least hs b.well vs.1 K wb.0 v.1 cK kb.1 y.1 in
      let kg = flush_least hs b.hurt vs.2 Leaves wb.1 v.2 closed_all kb.2 y.2 in
      let kr = walk_least row (flush_walk st hs b.well).well vs.3 after hurt (flushes_well hs b.well wb.0).0 v.3 p q kf.1 y.3 in
      ((kb.0, kf.0, kg.0, kr.0), kr.1, kr.2)
  walk_least (block d body true rescued always row) e vs after hurt w v p q x y =
      let K = Enters row vs.4 after in
      let cK = closed_enters row vs.4 after v.4 p in
      let A = Enters always vs.2 K in
      let cA = closed_enters always vs.2 K v.2 cK in
      let B = Enters always vs.3 hurt in
      let cB = closed_enters always vs.3 hurt v.3 q in
      let cR = closed_enters rescued vs.1 A v.1 cA in
      let b = walk st body e in
      let wb = walk_well body e w in
      let kb = walk_least body e vs.0 A (Enters rescued vs.1 A) w v.0 cA cR x y.0 in
      let ks = walk_least rescued b.hurt vs.1 A B wb.1 v.1 cA cB kb.2 y.1 in
      let r = rest_least always row (λ f us after hurt o u p q x y. walk_least always f us after hurt o u p q x y) (λ f us after hurt o u p q x y. walk_least row f us after hurt o u p q x y) b (walk st rescued b.hurt) vs.2 vs.3 vs.4 after hurt wb (walk_well rescued b.hurt wb.1) v.2 v.3 v.4 p q kb.1 ks.1 ks.2 y.2 y.3 y.4 in
      ((kb.0, ks.0, r.0, r.1, r.2), r.3, r.4)
  walk_least (block d body false rescued always row) e vs after hurt w v p q x y =
      let K = Enters row vs.4 after in
      let cK = closed_enters row vs.4 after v.4 p in
      let A = Enters always vs.2 K in
      let cA = closed_enters always vs.2 K v.2 cK in
      let B = Enters always vs.3 hurt in
      let cB = closed_enters always vs.3 hurt v.3 q in
      let b = walk st body e in
      let wb = walk_well body e w in
      let kb = walk_least body e vs.0 A B w v.0 cA cB x y.0 in
      let ks = walk_least rescued dead vs.1 A B tt v.1 cA cB (closed_enters rescued vs.1 A v.1 cA).none y.1 in
      let r = rest_least always row (λ f us after hurt o u p q x y. walk_least always f us after hurt o u p q x y) (λ f us after hurt o u p q x y. walk_least row f us after hurt o u p q x y) b (unsaved b.hurt) vs.2 vs.3 vs.4 after hurt wb (tt, wb.1) v.2 v.3 v.4 p q kb.1 cA.none kb.2 y.2 y.3 y.4 in
      ((kb.0, ks.0, r.0, r.1, r.2), r.3, r.4)

  -- and it covers
  of_first : (P : Exit → Type 0) → Closed P → (e f : Exit) → WellExit e → WellExit f → P (meet e f) → P e
  of_first P c e f w v x = c.down e (meet e f) w (meet_well e f w v) (meet_first e f w v) x

  of_second : (P : Exit → Type 0) → Closed P → (e f : Exit) → WellExit e → WellExit f → P (meet e f) → P f
  of_second P c e f w v x = c.down f (meet e f) v (meet_well e f w v) (meet_second e f w v) x

  flush_values_well : (hs : Handlers) (e : Exit) → WellExit e → WellFlush hs (flush_values st hs e)
  flush_values_well no_handlers e w = tt
  flush_values_well (handler n t hs) e w = (w, flush_values_well hs (meet e (going_from st t e)) (meet_well e (going_from st t e) w (goes_well t e w)))

  saved_well : (q : Bool) (rescued : Row) (e : Exit) → WellExit e → WellExit (saved_walk st q rescued e).well × WellExit (saved_walk st q rescued e).hurt
  saved_well true rescued e w = walk_well rescued e w
  saved_well false rescued e w = (tt, w)

  entered_well : (q : Bool) (e : Exit) → WellExit e → WellExit (entered q e)
  entered_well true e w = w
  entered_well false e w = tt

  pub values_well : (row : Row) (e : Exit) → WellExit e → WellValues row (values st row e)
  values_well end e w = tt
  values_well (task t row) e w = (w, values_well row (going_from st t e) (goes_well t e w))
  values_well (flush hs row) e w = (flush_values_well hs e w, values_well row (flush_walk st hs e).well (flushes_well hs e w).0)
  values_well (section body hs row) e w =
      let b = walk st body e in
      let wb = walk_well body e w in
      (values_well body e w, flush_values_well hs b.well wb.0, flush_values_well hs b.hurt wb.1, values_well row (flush_walk st hs b.well).well (flushes_well hs b.well wb.0).0)
  values_well (block d body saves rescued always row) e w =
      let b = walk st body e in
      let wb = walk_well body e w in
      let s = saved_walk st saves rescued b.hurt in
      let ws = saved_well saves rescued b.hurt wb.1 in
      let m = meet b.well s.well in
      let wm = meet_well b.well s.well wb.0 ws.0 in
      (values_well body e w, values_well rescued (entered saves b.hurt) (entered_well saves b.hurt wb.1), values_well always m wm, values_well always s.hurt ws.1, values_well row (walk st always m).well (walk_well always m wm).0)

  flush_covers : (hs : Handlers) (e : Exit) (after : Exit → Type 0) → WellExit e → Closed after → after (flush_walk st hs e).well → FlushEnters hs (flush_values st hs e) after e × FlushInner st hs (flush_values st hs e) after
  flush_covers no_handlers e after w p x = (x, tt)
  flush_covers (handler n t hs) e after w p x =
      let f = going_from st t e in
      let wf = goes_well t e w in
      let m = meet e f in
      let wm = meet_well e f w wf in
      let r = flush_covers hs m after wm p x in
      let c = closed_flush hs (flush_values st hs m) after (flush_values_well hs m wm) p in
      let P = FlushEnters hs (flush_values st hs m) after in
      (exit_own e w, (of_first P c e f w wf r.0, of_second P c e f w wf r.0, r.1))

  abbrev CoversAt : Row → Type 1
  CoversAt row = (e : Exit) (after hurt : Exit → Type 0) → WellExit e → Closed after → Closed hurt → after (walk st row e).well → hurt (walk st row e).hurt
      → Enters row (values st row e) after e × Inner st row (values st row e) after hurt

  rest_covers : (always row : Row) → CoversAt always → CoversAt row → (b s : Walked) (after hurt : Exit → Type 0) → WellExit b.well × WellExit b.hurt → WellExit s.well × WellExit s.hurt → Closed after → Closed hurt
      → after (walk st row (walk st always (meet b.well s.well)).well).well
      → hurt (meet (walk st row (walk st always (meet b.well s.well)).well).hurt (meet (walk st always (meet b.well s.well)).hurt (meet (walk st always s.hurt).well (walk st always s.hurt).hurt)))
      → Enters always (values st always (meet b.well s.well)) (Enters row (values st row (walk st always (meet b.well s.well)).well) after) (meet b.well s.well)
      × Enters always (values st always s.hurt) hurt s.hurt
      × Inner st always (values st always (meet b.well s.well)) (Enters row (values st row (walk st always (meet b.well s.well)).well) after) hurt
      × Inner st always (values st always s.hurt) hurt hurt
      × Inner st row (values st row (walk st always (meet b.well s.well)).well) after hurt
  rest_covers always row fa fr b s after hurt wb ws p q x y =
      let m = meet b.well s.well in
      let wm = meet_well b.well s.well wb.0 ws.0 in
      let g = walk st always m in
      let wg = walk_well always m wm in
      let h = walk st always s.hurt in
      let wh = walk_well always s.hurt ws.1 in
      let k = walk st row g.well in
      let wk = walk_well row g.well wg.0 in
      let hm = meet h.well h.hurt in
      let whm = meet_well h.well h.hurt wh.0 wh.1 in
      let gm = meet g.hurt hm in
      let wgm = meet_well g.hurt hm wg.1 whm in
      let yk = of_first hurt q k.hurt gm wk.1 wgm y in
      let yg = of_second hurt q k.hurt gm wk.1 wgm y in
      let ygh = of_first hurt q g.hurt hm wg.1 whm yg in
      let yh = of_second hurt q g.hurt hm wg.1 whm yg in
      let kk = fr g.well after hurt wg.0 p q x yk in
      let K = Enters row (values st row g.well) after in
      let cK = closed_enters row (values st row g.well) after (values_well row g.well wg.0) p in
      let kg = fa m K hurt wm cK q kk.0 ygh in
      let kh = fa s.hurt hurt hurt ws.1 q q (of_first hurt q h.well h.hurt wh.0 wh.1 yh) (of_second hurt q h.well h.hurt wh.0 wh.1 yh) in
      (kg.0, kh.0, kg.1, kh.1, kk.1)

  pub walk_covers : (row : Row) (e : Exit) (after hurt : Exit → Type 0) → WellExit e → Closed after → Closed hurt → after (walk st row e).well → hurt (walk st row e).hurt
      → Enters row (values st row e) after e × Inner st row (values st row e) after hurt
  walk_covers end e after hurt w p q x y = (x, tt)
  walk_covers (task t row) e after hurt w p q x y =
      let f = going_from st t e in
      let wf = goes_well t e w in
      let k = walk st row f in
      let wk = walk_well row f wf in
      let r = walk_covers row f after hurt wf p q x (of_second hurt q (failing_from st t e) k.hurt (fails_well t e w) wk.1 y) in
      (exit_own e w, (r.0, of_first hurt q (failing_from st t e) k.hurt (fails_well t e w) wk.1 y, r.1))
  walk_covers (flush hs row) e after hurt w p q x y =
      let f = flush_walk st hs e in
      let wf = flushes_well hs e w in
      let r = walk_covers row f.well after hurt wf.0 p q x y in
      let c = closed_enters row (values st row f.well) after (values_well row f.well wf.0) p in
      let g = flush_covers hs e (Enters row (values st row f.well) after) w c r.0 in
      (g.0, (g.1, r.1))
  walk_covers (section body hs row) e after hurt w p q x y =
      let b = walk st body e in
      let wb = walk_well body e w in
      let g = flush_walk st hs b.well in
      let wg = flushes_well hs b.well wb.0 in
      let r = walk_covers row g.well after hurt wg.0 p q x y in
      let K = Enters row (values st row g.well) after in
      let cK = closed_enters row (values st row g.well) after (values_well row g.well wg.0) p in
      let kf = flush_covers hs b.well K wb.0 cK r.0 in
      let kg = flush_covers hs b.hurt Leaves wb.1 closed_all tt in
      let cF = closed_flush hs (flush_values st hs b.well) K (flush_values_well hs b.well wb.0) cK in
      let cG = closed_flush hs (flush_values st hs b.hurt) Leaves (flush_values_well hs b.hurt wb.1) closed_all in
      let kb = walk_covers body e (FlushEnters hs (flush_values st hs b.well) K) (FlushEnters hs (flush_values st hs b.hurt) Leaves) w cF cG kf.0 kg.0 in
      (kb.0, (kb.1, kf.1, kg.1, r.1))
  walk_covers (block d body true rescued always row) e after hurt w p q x y =
      let b = walk st body e in
      let wb = walk_well body e w in
      let s = walk st rescued b.hurt in
      let ws = walk_well rescued b.hurt wb.1 in
      let m = meet b.well s.well in
      let wm = meet_well b.well s.well wb.0 ws.0 in
      let r = rest_covers always row (λ f after hurt o p q x y. walk_covers always f after hurt o p q x y) (λ f after hurt o p q x y. walk_covers row f after hurt o p q x y) b s after hurt wb ws p q x y in
      let g = walk st always m in
      let cK = closed_enters row (values st row g.well) after (values_well row g.well (walk_well always m wm).0) p in
      let A = Enters always (values st always m) (Enters row (values st row g.well) after) in
      let cA = closed_enters always (values st always m) (Enters row (values st row g.well) after) (values_well always m wm) cK in
      let B = Enters always (values st always s.hurt) hurt in
      let cB = closed_enters always (values st always s.hurt) hurt (values_well always s.hurt ws.1) q in
      let ks = walk_covers rescued b.hurt A B wb.1 cA cB (of_second A cA b.well s.well wb.0 ws.0 r.0) r.1 in
      let cR = closed_enters rescued (values st rescued b.hurt) A (values_well rescued b.hurt wb.1) cA in
      let kb = walk_covers body e A (Enters rescued (values st rescued b.hurt) A) w cA cR (of_first A cA b.well s.well wb.0 ws.0 r.0) ks.0 in
      (kb.0, (kb.1, ks.1, r.2, r.3, r.4))
  walk_covers (block d body false rescued always row) e after hurt w p q x y =
      let b = walk st body e in
      let wb = walk_well body e w in
      let s = unsaved b.hurt in
      let m = meet b.well dead in
      let wm = meet_well b.well dead wb.0 tt in
      let r = rest_covers always row (λ f after hurt o p q x y. walk_covers always f after hurt o p q x y) (λ f after hurt o p q x y. walk_covers row f after hurt o p q x y) b s after hurt wb (tt, wb.1) p q x y in
      let g = walk st always m in
      let cK = closed_enters row (values st row g.well) after (values_well row g.well (walk_well always m wm).0) p in
      let A = Enters always (values st always m) (Enters row (values st row g.well) after) in
      let cA = closed_enters always (values st always m) (Enters row (values st row g.well) after) (values_well always m wm) cK in
      let B = Enters always (values st always b.hurt) hurt in
      let cB = closed_enters always (values st always b.hurt) hurt (values_well always b.hurt wb.1) q in
      let d = dead_walk st rescued in
      let ks = walk_covers rescued dead A B tt cA cB (subst A (sym d.0) cA.none) (subst B (sym d.1) cB.none) in
      let kb = walk_covers body e A B w cA cB (of_first A cA b.well dead wb.0 tt r.0) r.1 in
      (kb.0, (kb.1, ks.1, r.2, r.3, r.4))

pub covers_play : (st : Setting) (row : Row) (e : Exit) → WellViews st.views → WellExit e
    → Enters row (values st row e) (λ f. ExitLe f (walk st row e).well) e × Inner st row (values st row e) (λ f. ExitLe f (walk st row e).well) Leaves
covers_play st row e a w =
    let k = walk_well st a row e w in
    walk_covers st a row e (λ f. ExitLe f (walk st row e).well) Leaves w (closed_below (walk st row e).well k.0) closed_all (exit_own (walk st row e).well k.0) tt

pub least_play : (st : Setting) (row : Row) (e : Exit) (vs : Values row) (last : Exit) → WellViews st.views → WellExit e → WellValues row vs → WellExit last
    → Enters row vs (λ f. ExitLe f last) e × Inner st row vs (λ f. ExitLe f last) Leaves → ValuesLe row (values st row e) vs × ExitLe (walk st row e).well last
least_play st row e vs last a w u v x =
    let k = walk_least st a row e vs (λ f. ExitLe f last) Leaves w u (closed_below last v) closed_all x.0 x.1 in
    (k.0, k.1)

-- visits
append_same : (xs ys us vs : List Visit) → xs ≡ ys → us ≡ vs → xs ++ us ≡ ys ++ vs
append_same xs ys us vs x y = ap (λ zs. zs ++ us) x ∙ ap (λ zs. ys ++ zs) y

flush_same : (st : Setting) (hs : Handlers) (e : Exit) → (flush_walk st hs e).visits ≡ flush_visits st hs (flush_values st hs e)
flush_same st no_handlers e = refl
flush_same st (handler n t hs) e = ap (λ zs. visits_at st t e ++ zs) (flush_same st hs (meet e (going_from st t e)))

flush_none : (st : Setting) (hs : Handlers) → (flush_walk st hs dead).visits ≡ []
flush_none st no_handlers = refl
flush_none st (handler n t hs) = flush_none st hs

module _ (st : Setting) where
  parts_none : (b s g h k : List Visit) → b ≡ [] → s ≡ [] → g ≡ [] → h ≡ [] → k ≡ [] → b ++ (s ++ (g ++ (h ++ k))) ≡ []
  parts_none b s g h k x y z u v = append_same b [] (s ++ (g ++ (h ++ k))) [] x (append_same s [] (g ++ (h ++ k)) [] y (append_same g [] (h ++ k) [] z (append_same h [] k [] u v)))

  dead_visits : (row : Row) → (walk st row dead).visits ≡ []
  dead_visits end = refl
  dead_visits (task t row) = dead_visits row
  dead_visits (flush hs row) =
      append_same (flush_walk st hs dead).visits [] (walk st row (flush_walk st hs dead).well).visits [] (flush_none st hs) (ap (λ e. (walk st row e).visits) (flush_dead st hs).0 ∙ dead_visits row)
  dead_visits (section body hs row) =
      let b = walk st body dead in
      let db = dead_walk st body in
      let g = flush_walk st hs b.well in
      let xg : g.visits ≡ [] = ap (λ e. (flush_walk st hs e).visits) db.0 ∙ flush_none st hs in
      let xh : (flush_walk st hs b.hurt).visits ≡ [] = ap (λ e. (flush_walk st hs e).visits) db.1 ∙ flush_none st hs in
      let wg : g.well ≡ dead = ap (λ e. (flush_walk st hs e).well) db.0 ∙ (flush_dead st hs).0 in
      let xk : (walk st row g.well).visits ≡ [] = ap (λ e. (walk st row e).visits) wg ∙ dead_visits row in
      parts_none [] b.visits g.visits (flush_walk st hs b.hurt).visits (walk st row g.well).visits refl (dead_visits body) xg xh xk
  dead_visits (block d body true rescued always row) =
      let b = walk st body dead in
      let db = dead_walk st body in
      let s = walk st rescued b.hurt in
      let ds = dead_walk st rescued in
      let g = walk st always (meet b.well s.well) in
      let xs : s ≡ walk st rescued dead = ap (λ e. walk st rescued e) db.1 in
      let xg : g ≡ walk st always dead = ap (λ e. walk st always e) (ap (λ e. meet e s.well) db.0 ∙ ap (λ w. w.well) xs ∙ ds.0) in
      let xh : walk st always s.hurt ≡ walk st always dead = ap (λ e. walk st always e) (ap (λ w. w.hurt) xs ∙ ds.1) in
      let xk : walk st row g.well ≡ walk st row dead = ap (λ e. walk st row e) (ap (λ w. w.well) xg ∙ (dead_walk st always).0) in
      parts_none b.visits s.visits g.visits (walk st always s.hurt).visits (walk st row g.well).visits (dead_visits body) (ap (λ w. w.visits) xs ∙ dead_visits rescued) (ap (λ w. w.visits) xg ∙ dead_visits always)
      (ap (λ w. w.visits) xh ∙ dead_visits always) (ap (λ w. w.visits) xk ∙ dead_visits row)
  dead_visits (block d body false rescued always row) =
      let b = walk st body dead in
      let db = dead_walk st body in
      let g = walk st always (meet b.well dead) in
      let xg : g ≡ walk st always dead = ap (λ e. walk st always (meet e dead)) db.0 in
      let xh : walk st always b.hurt ≡ walk st always dead = ap (λ e. walk st always e) db.1 in
      let xk : walk st row g.well ≡ walk st row dead = ap (λ e. walk st row e) (ap (λ w. w.well) xg ∙ (dead_walk st always).0) in
      parts_none b.visits [] g.visits (walk st always b.hurt).visits (walk st row g.well).visits (dead_visits body) refl (ap (λ w. w.visits) xg ∙ dead_visits always)
      (ap (λ w. w.visits) xh ∙ dead_visits always) (ap (λ w. w.visits) xk ∙ dead_visits row)

  parts_same : (b s g h k c t i j l : List Visit) → b ≡ c → s ≡ t → g ≡ i → h ≡ j → k ≡ l → b ++ (s ++ (g ++ (h ++ k))) ≡ c ++ (t ++ (i ++ (j ++ l)))
  parts_same b s g h k c t i j l x y z u v = append_same b c (s ++ (g ++ (h ++ k))) (t ++ (i ++ (j ++ l))) x (append_same s t (g ++ (h ++ k)) (i ++ (j ++ l)) y (append_same g i (h ++ k) (j ++ l) z (append_same h j k l u v)))

  pub visits_same : (row : Row) (e : Exit) → (walk st row e).visits ≡ visits_of st row (values st row e)
  visits_same end e = refl
  visits_same (task t row) e = ap (λ zs. visits_at st t e ++ zs) (visits_same row (going_from st t e))
  visits_same (flush hs row) e =
      append_same (flush_walk st hs e).visits (flush_visits st hs (flush_values st hs e)) (walk st row (flush_walk st hs e).well).visits (visits_of st row (values st row (flush_walk st hs e).well)) (flush_same st hs e)
      (visits_same row (flush_walk st hs e).well)
  visits_same (section body hs row) e =
      let b = walk st body e in
      let g = flush_walk st hs b.well in
      parts_same [] b.visits g.visits (flush_walk st hs b.hurt).visits (walk st row g.well).visits [] (visits_of st body (values st body e)) (flush_visits st hs (flush_values st hs b.well))
      (flush_visits st hs (flush_values st hs b.hurt)) (visits_of st row (values st row g.well)) refl (visits_same body e) (flush_same st hs b.well) (flush_same st hs b.hurt) (visits_same row g.well)
  visits_same (block d body true rescued always row) e =
      let b = walk st body e in
      let s = walk st rescued b.hurt in
      let g = walk st always (meet b.well s.well) in
      parts_same b.visits s.visits g.visits (walk st always s.hurt).visits (walk st row g.well).visits (visits_of st body (values st body e)) (visits_of st rescued (values st rescued b.hurt))
      (visits_of st always (values st always (meet b.well s.well))) (visits_of st always (values st always s.hurt)) (visits_of st row (values st row g.well))
      (visits_same body e) (visits_same rescued b.hurt) (visits_same always (meet b.well s.well)) (visits_same always s.hurt) (visits_same row g.well)
  visits_same (block d body false rescued always row) e =
      let b = walk st body e in
      let g = walk st always (meet b.well dead) in
      parts_same b.visits [] g.visits (walk st always b.hurt).visits (walk st row g.well).visits (visits_of st body (values st body e)) (visits_of st rescued (values st rescued dead))
      (visits_of st always (values st always (meet b.well dead))) (visits_of st always (values st always b.hurt)) (visits_of st row (values st row g.well))
      (visits_same body e) (sym (dead_visits rescued) ∙ visits_same rescued dead) (visits_same always (meet b.well dead)) (visits_same always b.hurt) (visits_same row g.well)

pub walk_visits : (st : Setting) (row : Row) (e : Exit) → (walk st row e).visits ≡ visits_of st row (values st row e)
walk_visits st row e = visits_same st row e
