-- Walks of rows in settings that differ in nothing but their tables, which say the same of what is read.
use Rattle.std.proofs.Common.{◌≡◌, List, [], ◌∷◌, ◌++◌, Bool, true, false, ◌||◌, cond, Some, refl, sym, subst}
use Rattle.pb_semantics.proofs.Bools.{neither-left, neither-right}
use Rattle.pb_language.specs.Expression.{Expression, Root}
use Rattle.pb_language.specs.Scope.{View}
use Rattle.pb_language.specs.Task.{Task, Handlers, no_handlers, handler, Row, end, task, flush, section, block}
use Rattle.pb_language.specs.Setting.{Setting}
use Rattle.pb_language.specs.Judgement.{Exit, dead, live, task_fault, task_writes, loop_length}
use Rattle.pb_language.specs.Walk.{Visit, Walked, meet, visits_at, going_from, failing_from, unsaved, after_visits, then_walk, flush_walk, then_always, then_rescue, then_flushes, walk}
use Rattle.pb_walks.proofs.AloneFaults.{both}
use Rattle.pb_others.specs.Rooted.{has_root, task_has_root, handlers_have_root, row_has_root}
use Rattle.pb_others.proofs.ThereSpots.{SameBut}
use Rattle.pb_others.proofs.ThereTasks.{among, fault_among, going_among, failing_among, writes_among, length_among}

-- ways to one task of which the same is said
pub record VisitsAlike (q : Root → Bool) (v w : Visit) : Type 0 where
  pub visited : v.visited ≡ w.visited
  pub faults : task_fault v.setting v.visited v.env ≡ task_fault w.setting w.visited w.env
  pub writes : task_writes v.setting v.visited v.env ≡ task_writes w.setting w.visited w.env
  pub lengths : (e : Expression) → has_root q e ≡ false → loop_length v.setting v.visited v.env (Some e) ≡ loop_length w.setting w.visited w.env (Some e)

abbrev pub AllVisitsAlike : (Root → Bool) → List Visit → List Visit → Type 0
AllVisitsAlike q [] [] = Unit {0}
AllVisitsAlike q [] (w ∷ ws) = ⊥
AllVisitsAlike q (v ∷ vs) [] = ⊥
AllVisitsAlike q (v ∷ vs) (w ∷ ws) = VisitsAlike q v w × AllVisitsAlike q vs ws

pub record WalksAlike (q : Root → Bool) (w x : Walked) : Type 0 where
  pub visits : AllVisitsAlike q w.visits x.visits
  pub well : w.well ≡ x.well
  pub hurt : w.hurt ≡ x.hurt

module _ (q : Root → Bool) where
  appended_alike : (vs us ws xs : List Visit) → AllVisitsAlike q vs us → AllVisitsAlike q ws xs → AllVisitsAlike q (vs ++ ws) (us ++ xs)
  appended_alike [] [] ws xs a b = b
  appended_alike [] (u ∷ us) ws xs a b = absurd a
  appended_alike (v ∷ vs) [] ws xs a b = absurd a
  appended_alike (v ∷ vs) (u ∷ us) ws xs a b = (a.0, appended_alike vs us ws xs a.1 b)

  -- what goes on from exits that are the same
  abbrev GoAlike : (Exit → Walked) → (Exit → Walked) → Type 0
  GoAlike f g = (e : Exit) → WalksAlike q (f e) (g e)

  moved_alike : (f g : Exit → Walked) (e i : Exit) → GoAlike f g → e ≡ i → WalksAlike q (f e) (g i)
  moved_alike f g e i a x = subst (λ y. WalksAlike q (f e) (g y)) x (a e)

  after_alike : (vs us : List Visit) (e i : Exit) (w x : Walked) → AllVisitsAlike q vs us → e ≡ i → WalksAlike q w x → WalksAlike q (after_visits vs e w) (after_visits us i x)
  after_alike vs us e i w x a h b = record { visits = appended_alike vs us w.visits x.visits a b.visits; well = b.well; hurt = both meet e i w.hurt x.hurt h b.hurt }

  then_alike : (w x : Walked) (f g : Exit → Walked) → WalksAlike q w x → GoAlike f g → WalksAlike q (then_walk w f) (then_walk x g)
  then_alike w x f g a b = after_alike w.visits x.visits dead dead (f w.well) (g x.well) a.visits refl (moved_alike f g w.well x.well b a.well)

  flushes_alike : (w x : Walked) (f g k l : Exit → Walked) → WalksAlike q w x → GoAlike f g → GoAlike k l → WalksAlike q (then_flushes w f k) (then_flushes x g l)
  flushes_alike w x f g k l a b c =
      let m = moved_alike f g w.well x.well b a.well in
      let n = moved_alike f g w.hurt x.hurt b a.hurt in
      let z = moved_alike k l (f w.well).well (g x.well).well c m.well in
      let p = (k (f w.well).well).visits in
      let q = (l (g x.well).well).visits in
      record {
        visits = appended_alike w.visits x.visits ((f w.well).visits ++ ((f w.hurt).visits ++ p)) ((g x.well).visits ++ ((g x.hurt).visits ++ q)) a.visits
            (appended_alike (f w.well).visits (g x.well).visits ((f w.hurt).visits ++ p) ((g x.hurt).visits ++ q) m.visits (appended_alike (f w.hurt).visits (g x.hurt).visits p q n.visits z.visits));
        well = z.well;
        hurt = z.hurt;
      }

  -- a body, its rescue, the always in each mode, and what follows
  always_alike : (w x s t : Walked) (f g k l : Exit → Walked) → WalksAlike q w x → WalksAlike q s t → GoAlike f g → GoAlike k l → WalksAlike q (then_always w s f k) (then_always x t g l)
  always_alike w x s t f g k l a b c d =
      let e = meet w.well s.well in
      let i = meet x.well t.well in
      let m = moved_alike f g e i c (both meet w.well x.well s.well t.well a.well b.well) in
      let n = moved_alike f g s.hurt t.hurt c b.hurt in
      let z = moved_alike k l (f e).well (g i).well d m.well in
      let w4 = (k (f e).well).visits in
      let x4 = (l (g i).well).visits in
      let w3 = (f s.hurt).visits in
      let x3 = (g t.hurt).visits in
      let w2 = (f e).visits in
      let x2 = (g i).visits in
      record {
        visits = appended_alike w.visits x.visits (s.visits ++ (w2 ++ (w3 ++ w4))) (t.visits ++ (x2 ++ (x3 ++ x4))) a.visits
            (appended_alike s.visits t.visits (w2 ++ (w3 ++ w4)) (x2 ++ (x3 ++ x4)) b.visits
            (appended_alike w2 x2 (w3 ++ w4) (x3 ++ x4) m.visits (appended_alike w3 x3 w4 x4 n.visits z.visits)));
        well = z.well;
        hurt = both meet _ _ _ _ z.hurt (both meet _ _ _ _ m.hurt (both meet _ _ _ _ n.well n.hurt));
      }

  saved_alike : (saves : Bool) (e i : Exit) (f g : Exit → Walked) → e ≡ i → GoAlike f g → WalksAlike q (cond saves (f e) (unsaved e)) (cond saves (g i) (unsaved i))
  saved_alike true e i f g h a = moved_alike f g e i a h
  saved_alike false e i f g h a = record { visits = tt; well = refl; hurt = h }

  rescue_alike : (saves : Bool) (w x : Walked) (r s f g k l : Exit → Walked) → WalksAlike q w x → GoAlike r s → GoAlike f g → GoAlike k l → WalksAlike q (then_rescue w saves r f k) (then_rescue x saves s g l)
  rescue_alike saves w x r s f g k l a b c d =
      always_alike w x (cond saves (r w.hurt) (unsaved w.hurt)) (cond saves (s x.hurt) (unsaved x.hurt)) f g k l a (saved_alike saves w.hurt x.hurt r s a.hurt b) c d

module _ (q : Root → Bool) (vs : List View) (st : Setting) (s : SameBut q vs st.views) where
  here_alike : (t : Task) (e : Exit) → task_has_root q t ≡ false → AllVisitsAlike q (visits_at st t e) (visits_at (among vs st) t e)
  here_alike t dead n = tt
  here_alike t (live env) n = (
    record {
      visited = refl;
      faults = sym (fault_among q vs st t env s n);
      writes = sym (writes_among q vs st t env s n);
      lengths = λ e h. sym (length_among q vs st t env s e h);
    },
    tt,
  )

  going_alike : (t : Task) (e : Exit) → task_has_root q t ≡ false → going_from st t e ≡ going_from (among vs st) t e
  going_alike t dead n = refl
  going_alike t (live env) n = sym (going_among q vs st t env s n)

  failing_alike : (t : Task) (e : Exit) → task_has_root q t ≡ false → failing_from st t e ≡ failing_from (among vs st) t e
  failing_alike t dead n = refl
  failing_alike t (live env) n = sym (failing_among q vs st t env s n)

  flush_alike : (hs : Handlers) (e : Exit) → handlers_have_root q hs ≡ false → WalksAlike q (flush_walk st hs e) (flush_walk (among vs st) hs e)
  flush_alike no_handlers e n = record { visits = tt; well = refl; hurt = refl }
  flush_alike (handler i t hs) e n =
      let su = among vs st in
      let l = neither-left (task_has_root q t) (handlers_have_root q hs) n in
      let r = neither-right (task_has_root q t) (handlers_have_root q hs) n in
      let x = meet e (going_from st t e) in
      let y = meet e (going_from su t e) in
      after_alike q (visits_at st t e) (visits_at su t e) dead dead (flush_walk st hs x) (flush_walk su hs y) (here_alike t e l) refl
      (moved_alike q (flush_walk st hs) (flush_walk su hs) x y (λ z. flush_alike hs z r) (both meet e e (going_from st t e) (going_from su t e) refl (going_alike t e l)))

  pub walk_alike : (row : Row) (e : Exit) → row_has_root q row ≡ false → WalksAlike q (walk st row e) (walk (among vs st) row e)
  walk_alike end e n = record { visits = tt; well = refl; hurt = refl }
  walk_alike (task t row) e n =
      let su = among vs st in
      let l = neither-left (task_has_root q t) (row_has_root q row) n in
      let r = neither-right (task_has_root q t) (row_has_root q row) n in
      let x = going_from st t e in
      let y = going_from su t e in
      after_alike q (visits_at st t e) (visits_at su t e) (failing_from st t e) (failing_from su t e) (walk st row x) (walk su row y) (here_alike t e l) (failing_alike t e l)
      (moved_alike q (walk st row) (walk su row) x y (λ z. walk_alike row z r) (going_alike t e l))
  walk_alike (flush hs row) e n =
      let su = among vs st in
      then_alike q (flush_walk st hs e) (flush_walk su hs e) (walk st row) (walk su row) (flush_alike hs e (neither-left (handlers_have_root q hs) (row_has_root q row) n))
      (λ z. walk_alike row z (neither-right (handlers_have_root q hs) (row_has_root q row) n))
  walk_alike (section body hs row) e n =
      let su = among vs st in
      let m = neither-right (row_has_root q body) (handlers_have_root q hs || row_has_root q row) n in
      flushes_alike q (walk st body e) (walk su body e) (flush_walk st hs) (flush_walk su hs) (walk st row) (walk su row)
      (walk_alike body e (neither-left (row_has_root q body) (handlers_have_root q hs || row_has_root q row) n))
      (λ z. flush_alike hs z (neither-left (handlers_have_root q hs) (row_has_root q row) m))
      (λ z. walk_alike row z (neither-right (handlers_have_root q hs) (row_has_root q row) m))
  walk_alike (block d body saves rescued always row) e n =
      let su = among vs st in
      let m = neither-right (row_has_root q body) (row_has_root q rescued || (row_has_root q always || row_has_root q row)) n in
      let o = neither-right (row_has_root q rescued) (row_has_root q always || row_has_root q row) m in
      rescue_alike q saves (walk st body e) (walk su body e) (walk st rescued) (walk su rescued) (walk st always) (walk su always) (walk st row) (walk su row)
      (walk_alike body e (neither-left (row_has_root q body) (row_has_root q rescued || (row_has_root q always || row_has_root q row)) n))
      (λ z. walk_alike rescued z (neither-left (row_has_root q rescued) (row_has_root q always || row_has_root q row) m))
      (λ z. walk_alike always z (neither-left (row_has_root q always) (row_has_root q row) o))
      (λ z. walk_alike row z (neither-right (row_has_root q always) (row_has_root q row) o))
