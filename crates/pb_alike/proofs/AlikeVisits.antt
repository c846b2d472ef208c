-- Walks of rows whose texts read neither other hosts nor the host's name, in settings that are alike.
use Rattle.std.proofs.Common.{◌≡◌, List, [], ◌∷◌, ◌++◌, Bool, true, false, ◌||◌, cond, refl, subst}
use Rattle.pb_semantics.proofs.Bools.{neither-left, neither-right}
use Rattle.pb_language.specs.Task.{Task, Handlers, no_handlers, handler, Row, end, task, flush, section, block}
use Rattle.pb_language.specs.Setting.{Setting}
use Rattle.pb_language.specs.Judgement.{Exit, dead, live}
use Rattle.pb_language.specs.Walk.{Visit, Walked, meet, visits_at, going_from, failing_from, unsaved, after_visits, then_walk, flush_walk, then_always, then_rescue, then_flushes, walk}
use Rattle.pb_walks.specs.Alone.{task_reads_others, handlers_read_others, row_reads_others}
use Rattle.pb_walks.proofs.AloneFaults.{both}
use Rattle.pb_alike.specs.Alike.{SettingsAlike, AllVisitsAlike}
use Rattle.pb_alike.specs.Named.{task_reads_name, handlers_read_name, row_reads_name}
use Rattle.pb_alike.proofs.ReadsNeither.{task_neither}
use Rattle.pb_alike.proofs.AlikeTasks.{going_same, failing_same}

pub record WalksAlike (w x : Walked) : Type 0 where
  pub visits : AllVisitsAlike w.visits x.visits
  pub well : w.well ≡ x.well
  pub hurt : w.hurt ≡ x.hurt

appended_alike : (vs us ws xs : List Visit) → AllVisitsAlike vs us → AllVisitsAlike ws xs → AllVisitsAlike (vs ++ ws) (us ++ xs)
appended_alike [] [] ws xs a b = b
appended_alike [] (u ∷ us) ws xs a b = absurd a
appended_alike (v ∷ vs) [] ws xs a b = absurd a
appended_alike (v ∷ vs) (u ∷ us) ws xs a b = (a.0, appended_alike vs us ws xs a.1 b)

-- what goes on from exits that are the same
abbrev GoAlike : (Exit → Walked) → (Exit → Walked) → Type 0
GoAlike f g = (e : Exit) → WalksAlike (f e) (g e)

moved_alike : (f g : Exit → Walked) (e i : Exit) → GoAlike f g → e ≡ i → WalksAlike (f e) (g i)
moved_alike f g e i a x = subst (λ y. WalksAlike (f e) (g y)) x (a e)

after_alike : (vs us : List Visit) (e i : Exit) (w x : Walked) → AllVisitsAlike vs us → e ≡ i → WalksAlike w x → WalksAlike (after_visits vs e w) (after_visits us i x)
after_alike vs us e i w x a h b = record { visits = appended_alike vs us w.visits x.visits a b.visits; well = b.well; hurt = both meet e i w.hurt x.hurt h b.hurt }

then_alike : (w x : Walked) (f g : Exit → Walked) → WalksAlike w x → GoAlike f g → WalksAlike (then_walk w f) (then_walk x g)
then_alike w x f g a b = after_alike w.visits x.visits dead dead (f w.well) (g x.well) a.visits refl (moved_alike f g w.well x.well b a.well)

flushes_alike : (w x : Walked) (f g k l : Exit → Walked) → WalksAlike w x → GoAlike f g → GoAlike k l → WalksAlike (then_flushes w f k) (then_flushes x g l)
flushes_alike w x f g k l a b c =
    let m = moved_alike f g w.well x.well b a.well in
    let n = moved_alike f g w.hurt x.hurt b a.hurt in
    let z = moved_alike k l (f w.well).well (g x.well).well c m.well in
    let p = (k (f w.well).well).visits in
    let q = (l (g x.well).well).visits in
    record {
      visits = appended_alike w.visits x.visits ((f w.well).visits ++ ((f w.hurt).visits ++ p)) ((g x.well).visits ++ ((g x.hurt).visits ++ q)) a.visits
          (appended_alike (f w.well).visits (g x.well).visits ((f w.hurt).visits ++ p) ((g x.hurt).visits ++ q) m.visits (appended_alike (f w.hurt).visits (g x.hurt).visits p q n.visits z.visits));
      well = z.well;
      hurt = z.hurt;
    }

-- a body, its rescue, the always in each mode, and what follows
always_alike : (w x s t : Walked) (f g k l : Exit → Walked) → WalksAlike w x → WalksAlike s t → GoAlike f g → GoAlike k l → WalksAlike (then_always w s f k) (then_always x t g l)
always_alike w x s t f g k l a b c d =
    let e = meet w.well s.well in
    let i = meet x.well t.well in
    let m = moved_alike f g e i c (both meet w.well x.well s.well t.well a.well b.well) in
    let n = moved_alike f g s.hurt t.hurt c b.hurt in
    let z = moved_alike k l (f e).well (g i).well d m.well in
    let w4 = (k (f e).well).visits in
    let x4 = (l (g i).well).visits in
    let w3 = (f s.hurt).visits in
    let x3 = (g t.hurt).visits in
    let w2 = (f e).visits in
    let x2 = (g i).visits in
    record {
      visits = appended_alike w.visits x.visits (s.visits ++ (w2 ++ (w3 ++ w4))) (t.visits ++ (x2 ++ (x3 ++ x4))) a.visits
          (appended_alike s.visits t.visits (w2 ++ (w3 ++ w4)) (x2 ++ (x3 ++ x4)) b.visits
          (appended_alike w2 x2 (w3 ++ w4) (x3 ++ x4) m.visits (appended_alike w3 x3 w4 x4 n.visits z.visits)));
      well = z.well;
      hurt = both meet _ _ _ _ z.hurt (both meet _ _ _ _ m.hurt (both meet _ _ _ _ n.well n.hurt));
    }

saved_alike : (saves : Bool) (e i : Exit) (f g : Exit → Walked) → e ≡ i → GoAlike f g → WalksAlike (cond saves (f e) (unsaved e)) (cond saves (g i) (unsaved i))
saved_alike true e i f g h a = moved_alike f g e i a h
saved_alike false e i f g h a = record { visits = tt; well = refl; hurt = h }

rescue_alike : (saves : Bool) (w x : Walked) (r s f g k l : Exit → Walked) → WalksAlike w x → GoAlike r s → GoAlike f g → GoAlike k l → WalksAlike (then_rescue w saves r f k) (then_rescue x saves s g l)
rescue_alike saves w x r s f g k l a b c d =
    always_alike w x (cond saves (r w.hurt) (unsaved w.hurt)) (cond saves (s x.hurt) (unsaved x.hurt)) f g k l a (saved_alike saves w.hurt x.hurt r s a.hurt b) c d

module _ (st su : Setting) (a : SettingsAlike st su) where
  here_alike : (t : Task) (e : Exit) → task_reads_others t ≡ false → task_reads_name t ≡ false → AllVisitsAlike (visits_at st t e) (visits_at su t e)
  here_alike t dead n m = tt
  here_alike t (live env) n m = (record { settings = a; visited = refl; envs = refl; no_others = n; no_name = m }, tt)

  going_alike : (t : Task) (e : Exit) → task_reads_others t ≡ false → task_reads_name t ≡ false → going_from st t e ≡ going_from su t e
  going_alike t dead n m = refl
  going_alike t (live env) n m = going_same st su a t env (task_neither t n m)

  failing_alike : (t : Task) (e : Exit) → task_reads_others t ≡ false → task_reads_name t ≡ false → failing_from st t e ≡ failing_from su t e
  failing_alike t dead n m = refl
  failing_alike t (live env) n m = failing_same st su a t env (task_neither t n m)

  flush_alike : (hs : Handlers) (e : Exit) → handlers_read_others hs ≡ false → handlers_read_name hs ≡ false → WalksAlike (flush_walk st hs e) (flush_walk su hs e)
  flush_alike no_handlers e n m = record { visits = tt; well = refl; hurt = refl }
  flush_alike (handler i t hs) e n m =
      let n1 = neither-left (task_reads_others t) (handlers_read_others hs) n in
      let m1 = neither-left (task_reads_name t) (handlers_read_name hs) m in
      let n2 = neither-right (task_reads_others t) (handlers_read_others hs) n in
      let m2 = neither-right (task_reads_name t) (handlers_read_name hs) m in
      let x = meet e (going_from st t e) in
      let y = meet e (going_from su t e) in
      after_alike (visits_at st t e) (visits_at su t e) dead dead (flush_walk st hs x) (flush_walk su hs y) (here_alike t e n1 m1) refl
      (moved_alike (flush_walk st hs) (flush_walk su hs) x y (λ z. flush_alike hs z n2 m2) (both meet e e (going_from st t e) (going_from su t e) refl (going_alike t e n1 m1)))

  pub walk_alike : (row : Row) (e : Exit) → row_reads_others row ≡ false → row_reads_name row ≡ false → WalksAlike (walk st row e) (walk su row e)
  walk_alike end e n m = record { visits = tt; well = refl; hurt = refl }
  walk_alike (task t row) e n m =
      let n1 = neither-left (task_reads_others t) (row_reads_others row) n in
      let m1 = neither-left (task_reads_name t) (row_reads_name row) m in
      let n2 = neither-right (task_reads_others t) (row_reads_others row) n in
      let m2 = neither-right (task_reads_name t) (row_reads_name row) m in
      let x = going_from st t e in
      let y = going_from su t e in
      after_alike (visits_at st t e) (visits_at su t e) (failing_from st t e) (failing_from su t e) (walk st row x) (walk su row y) (here_alike t e n1 m1) (failing_alike t e n1 m1)
      (moved_alike (walk st row) (walk su row) x y (λ z. walk_alike row z n2 m2) (going_alike t e n1 m1))
  walk_alike (flush hs row) e n m =
      then_alike (flush_walk st hs e) (flush_walk su hs e) (walk st row) (walk su row)
      (flush_alike hs e (neither-left (handlers_read_others hs) (row_reads_others row) n) (neither-left (handlers_read_name hs) (row_reads_name row) m))
      (λ z. walk_alike row z (neither-right (handlers_read_others hs) (row_reads_others row) n) (neither-right (handlers_read_name hs) (row_reads_name row) m))
  walk_alike (section body hs row) e n m =
      let n2 = neither-right (row_reads_others body) (handlers_read_others hs || row_reads_others row) n in
      let m2 = neither-right (row_reads_name body) (handlers_read_name hs || row_reads_name row) m in
      flushes_alike (walk st body e) (walk su body e) (flush_walk st hs) (flush_walk su hs) (walk st row) (walk su row)
      (walk_alike body e (neither-left (row_reads_others body) (handlers_read_others hs || row_reads_others row) n) (neither-left (row_reads_name body) (handlers_read_name hs || row_reads_name row) m))
      (λ z. flush_alike hs z (neither-left (handlers_read_others hs) (row_reads_others row) n2) (neither-left (handlers_read_name hs) (row_reads_name row) m2))
      (λ z. walk_alike row z (neither-right (handlers_read_others hs) (row_reads_others row) n2) (neither-right (handlers_read_name hs) (row_reads_name row) m2))
  walk_alike (block d body saves rescued always row) e n m =
      let n2 = neither-right (row_reads_others body) (row_reads_others rescued || (row_reads_others always || row_reads_others row)) n in
      let m2 = neither-right (row_reads_name body) (row_reads_name rescued || (row_reads_name always || row_reads_name row)) m in
      let n3 = neither-right (row_reads_others rescued) (row_reads_others always || row_reads_others row) n2 in
      let m3 = neither-right (row_reads_name rescued) (row_reads_name always || row_reads_name row) m2 in
      rescue_alike saves (walk st body e) (walk su body e) (walk st rescued) (walk su rescued) (walk st always) (walk su always) (walk st row) (walk su row)
      (walk_alike body e (neither-left (row_reads_others body) (row_reads_others rescued || (row_reads_others always || row_reads_others row)) n)
      (neither-left (row_reads_name body) (row_reads_name rescued || (row_reads_name always || row_reads_name row)) m))
      (λ z. walk_alike rescued z (neither-left (row_reads_others rescued) (row_reads_others always || row_reads_others row) n2) (neither-left (row_reads_name rescued) (row_reads_name always || row_reads_name row) m2))
      (λ z. walk_alike always z (neither-left (row_reads_others always) (row_reads_others row) n3) (neither-left (row_reads_name always) (row_reads_name row) m3))
      (λ z. walk_alike row z (neither-right (row_reads_others always) (row_reads_others row) n3) (neither-right (row_reads_name always) (row_reads_name row) m3))
