-- Values that are below each other at each node have visits that agree.
use Rattle.std.proofs.Common.{List, [], ◌∷◌, ◌++◌, refl, sym, subst}
use Rattle.pb_semantics.proofs.Bools.{untrue}
use Rattle.pb_language.specs.Task.{Task, Handlers, no_handlers, handler, Row, end, task, flush, section, block}
use Rattle.pb_language.specs.Setting.{Setting}
use Rattle.pb_language.specs.Judgement.{Exit, dead, live}
use Rattle.pb_language.specs.Walk.{Visit, visits_at, walk}
use Rattle.pb_language.specs.Ordered.{ExitLe}
use Rattle.pb_language.specs.Wells.{WellExit}
use Rattle.pb_language.specs.Nodes.{FlushValues, Values, FlushLe, ValuesLe, WellFlush, WellValues, values, flush_visits, visits_of}
use Rattle.pb_language.proofs.Walks.{exit_through, values_well, walk_visits}
use Rattle.pb_walks.specs.Agree.{SettingsAgree, ExitsAgree, AllVisitsAgree}
use Rattle.pb_walks.specs.Laws.{ValuesAreVisits}
use Rattle.pb_walks.proofs.WalksUp.{walks_up}

flush_through : (hs : Handlers) (vs us ws : FlushValues hs) → WellFlush hs vs → WellFlush hs us → WellFlush hs ws → FlushLe hs vs us → FlushLe hs us ws → FlushLe hs vs ws
flush_through no_handlers vs us ws a b c x y = tt
flush_through (handler n t hs) vs us ws a b c x y = (exit_through vs.0 us.0 ws.0 a.0 b.0 c.0 x.0 y.0, flush_through hs vs.1 us.1 ws.1 a.1 b.1 c.1 x.1 y.1)

values_through : (row : Row) (vs us ws : Values row) → WellValues row vs → WellValues row us → WellValues row ws → ValuesLe row vs us → ValuesLe row us ws → ValuesLe row vs ws
values_through end vs us ws a b c x y = tt
values_through (task t row) vs us ws a b c x y = (exit_through vs.0 us.0 ws.0 a.0 b.0 c.0 x.0 y.0, values_through row vs.1 us.1 ws.1 a.1 b.1 c.1 x.1 y.1)
values_through (flush hs row) vs us ws a b c x y = (flush_through hs vs.0 us.0 ws.0 a.0 b.0 c.0 x.0 y.0, values_through row vs.1 us.1 ws.1 a.1 b.1 c.1 x.1 y.1)
values_through (section body hs row) vs us ws a b c x y = (
  values_through body vs.0 us.0 ws.0 a.0 b.0 c.0 x.0 y.0,
  flush_through hs vs.1 us.1 ws.1 a.1 b.1 c.1 x.1 y.1,
  flush_through hs vs.2 us.2 ws.2 a.2 b.2 c.2 x.2 y.2,
  values_through row vs.3 us.3 ws.3 a.3 b.3 c.3 x.3 y.3,
)
values_through (block d body saves rescued always row) vs us ws a b c x y = (
  values_through body vs.0 us.0 ws.0 a.0 b.0 c.0 x.0 y.0,
  values_through rescued vs.1 us.1 ws.1 a.1 b.1 c.1 x.1 y.1,
  values_through always vs.2 us.2 ws.2 a.2 b.2 c.2 x.2 y.2,
  values_through always vs.3 us.3 ws.3 a.3 b.3 c.3 x.3 y.3,
  values_through row vs.4 us.4 ws.4 a.4 b.4 c.4 x.4 y.4,
)

appended_agree : (vs us ws xs : List Visit) → AllVisitsAgree vs us → AllVisitsAgree ws xs → AllVisitsAgree (vs ++ ws) (us ++ xs)
appended_agree [] [] ws xs a b = b
appended_agree [] (u ∷ us) ws xs a b = absurd a
appended_agree (v ∷ vs) [] ws xs a b = absurd a
appended_agree (v ∷ vs) (u ∷ us) ws xs a b = (a.0, appended_agree vs us ws xs a.1 b)

module _ (st su : Setting) (s : SettingsAgree st su) where
  here_agree : (t : Task) (e f : Exit) → WellExit e → WellExit f → ExitLe e f → ExitLe f e → AllVisitsAgree (visits_at st t e) (visits_at su t f)
  here_agree t dead dead w v x y = tt
  here_agree t dead (live ts) w v x y = untrue y
  here_agree t (live ss) dead w v x y = untrue x
  here_agree t (live ss) (live ts) w v x y = (record { settings = s; visited = refl; envs = (x, y); well = w; well_too = v }, tt)

  flush_agrees : (hs : Handlers) (vs us : FlushValues hs) → WellFlush hs vs → WellFlush hs us → FlushLe hs vs us → FlushLe hs us vs → AllVisitsAgree (flush_visits st hs vs) (flush_visits su hs us)
  flush_agrees no_handlers vs us w v x y = tt
  flush_agrees (handler n t hs) vs us w v x y =
      appended_agree (visits_at st t vs.0) (visits_at su t us.0) (flush_visits st hs vs.1) (flush_visits su hs us.1) (here_agree t vs.0 us.0 w.0 v.0 x.0 y.0) (flush_agrees hs vs.1 us.1 w.1 v.1 x.1 y.1)

  row_agrees : (row : Row) (vs us : Values row) → WellValues row vs → WellValues row us → ValuesLe row vs us → ValuesLe row us vs → AllVisitsAgree (visits_of st row vs) (visits_of su row us)
  row_agrees end vs us w v x y = tt
  row_agrees (task t row) vs us w v x y =
      appended_agree (visits_at st t vs.0) (visits_at su t us.0) (visits_of st row vs.1) (visits_of su row us.1) (here_agree t vs.0 us.0 w.0 v.0 x.0 y.0) (row_agrees row vs.1 us.1 w.1 v.1 x.1 y.1)
  row_agrees (flush hs row) vs us w v x y =
      appended_agree (flush_visits st hs vs.0) (flush_visits su hs us.0) (visits_of st row vs.1) (visits_of su row us.1) (flush_agrees hs vs.0 us.0 w.0 v.0 x.0 y.0) (row_agrees row vs.1 us.1 w.1 v.1 x.1 y.1)
  row_agrees (section body hs row) vs us w v x y =
      let v3 = visits_of st row vs.3 in
      let u3 = visits_of su row us.3 in
      let v2 = flush_visits st hs vs.2 in
      let u2 = flush_visits su hs us.2 in
      let v1 = flush_visits st hs vs.1 in
      let u1 = flush_visits su hs us.1 in
      appended_agree (visits_of st body vs.0) (visits_of su body us.0) (v1 ++ (v2 ++ v3)) (u1 ++ (u2 ++ u3)) (row_agrees body vs.0 us.0 w.0 v.0 x.0 y.0)
      (appended_agree v1 u1 (v2 ++ v3) (u2 ++ u3) (flush_agrees hs vs.1 us.1 w.1 v.1 x.1 y.1)
      (appended_agree v2 u2 v3 u3 (flush_agrees hs vs.2 us.2 w.2 v.2 x.2 y.2) (row_agrees row vs.3 us.3 w.3 v.3 x.3 y.3)))
  row_agrees (block d body saves rescued always row) vs us w v x y =
      let v4 = visits_of st row vs.4 in
      let u4 = visits_of su row us.4 in
      let v3 = visits_of st always vs.3 in
      let u3 = visits_of su always us.3 in
      let v2 = visits_of st always vs.2 in
      let u2 = visits_of su always us.2 in
      let v1 = visits_of st rescued vs.1 in
      let u1 = visits_of su rescued us.1 in
      appended_agree (visits_of st body vs.0) (visits_of su body us.0) (v1 ++ (v2 ++ (v3 ++ v4))) (u1 ++ (u2 ++ (u3 ++ u4))) (row_agrees body vs.0 us.0 w.0 v.0 x.0 y.0)
      (appended_agree v1 u1 (v2 ++ (v3 ++ v4)) (u2 ++ (u3 ++ u4)) (row_agrees rescued vs.1 us.1 w.1 v.1 x.1 y.1)
      (appended_agree v2 u2 (v3 ++ v4) (u3 ++ u4) (row_agrees always vs.2 us.2 w.2 v.2 x.2 y.2)
      (appended_agree v3 u3 v4 u4 (row_agrees always vs.3 us.3 w.3 v.3 x.3 y.3) (row_agrees row vs.4 us.4 w.4 v.4 x.4 y.4))))

  -- two walks that begin where as much is known have values that are below each other
  both_up : (row : Row) (e f : Exit) → WellExit e → WellExit f → ExitsAgree e f → ValuesLe row (values st row e) (values su row f) × ValuesLe row (values su row f) (values st row e)
  both_up row e f w v x = ((walks_up st su row e f s.well s.well_too w v s.first x.0).0, (walks_up su st row f e s.well_too s.well v w s.second x.1).0)

pub values_are_visits : ValuesAreVisits
values_are_visits st su row e f vs s w v x u low high =
    let ws = values st row e in
    let us = values su row f in
    let ww = values_well st s.well row e w in
    let wu = values_well su s.well_too row f v in
    let both = both_up st su s row e f w v x in
    subst (λ z. AllVisitsAgree (visits_of st row vs) z) (sym (walk_visits su row f))
    (row_agrees st su s row vs us u wu (values_through row vs ws us u ww wu low both.0) (values_through row us ws vs wu ww u both.1 high))

-- and visits that agree
pub walks_visit : (st su : Setting) (row : Row) (e f : Exit) → SettingsAgree st su → WellExit e → WellExit f → ExitsAgree e f → AllVisitsAgree (walk st row e).visits (walk su row f).visits
walks_visit st su row e f s w v x =
    let both = both_up st su s row e f w v x in
    let same = row_agrees st su s row (values st row e) (values su row f) (values_well st s.well row e w) (values_well su s.well_too row f v) both.0 both.1 in
    subst (λ z. AllVisitsAgree z (walk su row f).visits) (sym (walk_visits st row e)) (subst (λ z. AllVisitsAgree (visits_of st row (values st row e)) z) (sym (walk_visits su row f)) same)
