-- A walk goes up with where it begins, and with what hosts' variables look like to others.
use Rattle.std.proofs.Common.{true, false}
use Rattle.pb_language.specs.Task.{Task, Handlers, no_handlers, handler, Row, end, task, flush, section, block}
use Rattle.pb_language.specs.Setting.{Setting}
use Rattle.pb_language.specs.Judgement.{Exit, dead, live}
use Rattle.pb_language.specs.Walk.{going_from, failing_from, walk}
use Rattle.pb_language.specs.Ordered.{SettingLe, ExitLe}
use Rattle.pb_language.specs.Wells.{WellViews, WellExit}
use Rattle.pb_language.specs.Nodes.{FlushValues, Values, FlushEnters, Enters, FlushInner, Inner, Leaves, WellFlush, WellValues, values}
use Rattle.pb_language.proofs.After.{after_claim}
use Rattle.pb_language.proofs.Rounds.{going_well, failing_well}
use Rattle.pb_language.proofs.ExitsUp.{exits_up}
use Rattle.pb_language.proofs.Walks.{Closed, closed_below, closed_enters, exit_own, covers_play, least_play, walk_well, values_well}
use Rattle.pb_walks.specs.Laws.{WalksGoUp}

closed_leaves : Closed Leaves
closed_leaves = record { none = tt; down = λ e f w v x y. tt; both = λ e f w v x y. tt }

closed_flush : (hs : Handlers) (vs : FlushValues hs) (after : Exit → Type 0) → WellFlush hs vs → Closed after → Closed (FlushEnters hs vs after)
closed_flush hs vs after w c = closed_enters (flush hs end) (vs, tt) after (w, tt) c

module _ (st su : Setting) (a : WellViews st.views) (b : WellViews su.views) (s : SettingLe st su) where
  going_up : (t : Task) (e : Exit) → WellExit e → ExitLe (going_from st t e) (going_from su t e)
  going_up t dead w = tt
  going_up t (live env) w = (exits_up st su t env env a b w w s (exit_own (live env) w)).0

  failing_up : (t : Task) (e : Exit) → WellExit e → ExitLe (failing_from st t e) (failing_from su t e)
  failing_up t dead w = tt
  failing_up t (live env) w = (exits_up st su t env env a b w w s (exit_own (live env) w)).1

  goes_down : (t : Task) (e : Exit) (P : Exit → Type 0) → WellExit e → Closed P → P (going_from su t e) → P (going_from st t e)
  goes_down t e P w c x = c.down (going_from st t e) (going_from su t e) (going_well after_claim st a t e w) (going_well after_claim su b t e w) (going_up t e w) x

  fails_down : (t : Task) (e : Exit) (P : Exit → Type 0) → WellExit e → Closed P → P (failing_from su t e) → P (failing_from st t e)
  fails_down t e P w c x = c.down (failing_from st t e) (failing_from su t e) (failing_well after_claim st a t e w) (failing_well after_claim su b t e w) (failing_up t e w) x

  -- what covers the edges of the higher setting covers those of the lower one
  flush_covered : (hs : Handlers) (vs : FlushValues hs) (after : Exit → Type 0) → WellFlush hs vs → Closed after → FlushInner su hs vs after → FlushInner st hs vs after
  flush_covered no_handlers vs after w p x = tt
  flush_covered (handler n t hs) vs after w p x = (x.0, goes_down t vs.0 (FlushEnters hs vs.1 after) w.0 (closed_flush hs vs.1 after w.1 p) x.1, flush_covered hs vs.1 after w.1 p x.2)

  row_covered : (row : Row) (vs : Values row) (after hurt : Exit → Type 0) → WellValues row vs → Closed after → Closed hurt → Inner su row vs after hurt → Inner st row vs after hurt
  row_covered end vs after hurt w p q x = tt
  row_covered (task t row) vs after hurt w p q x = (
    goes_down t vs.0 (Enters row vs.1 after) w.0 (closed_enters row vs.1 after w.1 p) x.0,
    fails_down t vs.0 hurt w.0 q x.1,
    row_covered row vs.1 after hurt w.1 p q x.2,
  )
  row_covered (flush hs row) vs after hurt w p q x = (flush_covered hs vs.0 (Enters row vs.1 after) w.0 (closed_enters row vs.1 after w.1 p) x.0, row_covered row vs.1 after hurt w.1 p q x.1)
  row_covered (section body hs row) vs after hurt w p q x =
      let K = Enters row vs.3 after in
      let cK = closed_enters row vs.3 after w.3 p in (
        row_covered body vs.0 (FlushEnters hs vs.1 K) (FlushEnters hs vs.2 Leaves) w.0 (closed_flush hs vs.1 K w.1 cK) (closed_flush hs vs.2 Leaves w.2 closed_leaves) x.0,
        flush_covered hs vs.1 K w.1 cK x.1,
        flush_covered hs vs.2 Leaves w.2 closed_leaves x.2,
        row_covered row vs.3 after hurt w.3 p q x.3,
      )
  row_covered (block d body true rescued always row) vs after hurt w p q x =
      let K = Enters row vs.4 after in
      let cK = closed_enters row vs.4 after w.4 p in
      let A = Enters always vs.2 K in
      let cA = closed_enters always vs.2 K w.2 cK in
      let B = Enters always vs.3 hurt in
      let cB = closed_enters always vs.3 hurt w.3 q in (
        row_covered body vs.0 A (Enters rescued vs.1 A) w.0 cA (closed_enters rescued vs.1 A w.1 cA) x.0,
        row_covered rescued vs.1 A B w.1 cA cB x.1,
        row_covered always vs.2 K hurt w.2 cK q x.2,
        row_covered always vs.3 hurt hurt w.3 q q x.3,
        row_covered row vs.4 after hurt w.4 p q x.4,
      )
  row_covered (block d body false rescued always row) vs after hurt w p q x =
      let K = Enters row vs.4 after in
      let cK = closed_enters row vs.4 after w.4 p in
      let A = Enters always vs.2 K in
      let cA = closed_enters always vs.2 K w.2 cK in
      let B = Enters always vs.3 hurt in
      let cB = closed_enters always vs.3 hurt w.3 q in (
        row_covered body vs.0 A B w.0 cA cB x.0,
        row_covered rescued vs.1 A B w.1 cA cB x.1,
        row_covered always vs.2 K hurt w.2 cK q x.2,
        row_covered always vs.3 hurt hurt w.3 q q x.3,
        row_covered row vs.4 after hurt w.4 p q x.4,
      )

pub walks_up : WalksGoUp
walks_up st su row e f a b w v s l =
    let us = values su row f in
    let top = (walk su row f).well in
    let wu = values_well su b row f v in
    let wt = (walk_well su b row f v).0 in
    let below_top = closed_below top wt in
    let k = covers_play su row f b v in
    least_play st row e us top a w wu wt
    ((closed_enters row us (λ x. ExitLe x top) wu below_top).down e f w v l k.0, row_covered st su a b s row us (λ x. ExitLe x top) Leaves wu below_top closed_leaves k.1)
