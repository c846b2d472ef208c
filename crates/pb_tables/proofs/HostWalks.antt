-- A host's way through all plays, put together play by play.
use Rattle.std.proofs.Common.{◌≡◌, List, [], ◌∷◌, Bool, true, false, cond, refl, ap, ◌∙◌}
use Rattle.pb_semantics.specs.Keeps.{is_among}
use Rattle.pb_semantics.proofs.Order.{own_below}
use Rattle.pb_semantics.specs.Kind.{recs}
use Rattle.pb_language.specs.Expression.{Name}
use Rattle.pb_language.specs.Judgement.{Exit, dead, live}
use Rattle.pb_language.specs.Ordered.{SettingLe}
use Rattle.pb_language.specs.Program.{Inventory, Play, Program, setting_of}
use Rattle.pb_language.specs.Scope.{Later, View, view_of}
use Rattle.pb_language.specs.Setting.{Setting}
use Rattle.pb_language.specs.Tables.{PlayWalk, first_laters, other_laters, then_plays, plays_walked}
use Rattle.pb_language.specs.Walk.{Visit, Walked, walk}
use Rattle.pb_language.specs.Wells.{WellExit, WellViews}
use Rattle.pb_language.proofs.Spots.{slots_le}
use Rattle.pb_language.proofs.Walks.{exit_own, exit_through, walk_well}
use Rattle.pb_walks.specs.Agree.{SettingsAgree, ExitsAgree, VisitsAgree, AllVisitsAgree, PlaysAgree, AllPlaysAgree}
use Rattle.pb_walks.proofs.Agreeing.{slots_through}
use Rattle.pb_walks.proofs.SameVisits.{walks_visit}
use Rattle.pb_walks.proofs.WalksUp.{walks_up}

-- what agrees with itself, and through others
pub exits_own : (e : Exit) → WellExit e → ExitsAgree e e
exits_own e w = (exit_own e w, exit_own e w)

pub exits_through : (e f g : Exit) → WellExit e → WellExit f → WellExit g → ExitsAgree e f → ExitsAgree f g → ExitsAgree e g
exits_through e f g w v u x y = (exit_through e f g w v u x.0 y.0, exit_through g f e u v w y.1 x.1)

setting_through : (a b c : Setting) → WellViews a.views → WellViews b.views → WellViews c.views → SettingLe a b → SettingLe b c → SettingLe a c
setting_through a b c w v u x y = record {
  same = y.same ∙ ap (λ (s : Setting). record s { views = c.views; laters = c.laters }) x.same;
  views = λ g. exit_through (live (view_of g a.views)) (live (view_of g b.views)) (live (view_of g c.views)) (w g) (v g) (u g) (x.views g) (y.views g);
  hosts = λ g. x.hosts g ∙ y.hosts g;
  laters = λ p g n. x.laters p g n ∙ y.laters p g n;
}

visit_through : (v w x : Visit) → VisitsAgree v w → VisitsAgree w x → VisitsAgree v x
visit_through v w x a b =
    let s = a.settings in
    let t = b.settings in
    record {
      settings = record {
        first = setting_through v.setting w.setting x.setting s.well s.well_too t.well_too s.first t.first;
        second = setting_through x.setting w.setting v.setting t.well_too s.well_too s.well t.second s.second;
        well = s.well;
        well_too = t.well_too;
      };
      visited = a.visited ∙ b.visited;
      envs = slots_through v.env w.env x.env a.well a.well_too b.well_too a.envs b.envs;
      well = a.well;
      well_too = b.well_too;
    }

pub visits_through : (vs ws xs : List Visit) → AllVisitsAgree vs ws → AllVisitsAgree ws xs → AllVisitsAgree vs xs
visits_through [] [] [] a b = tt
visits_through [] [] (x ∷ xs) a b = absurd b
visits_through [] (w ∷ ws) xs a b = absurd a
visits_through (v ∷ vs) [] xs a b = absurd a
visits_through (v ∷ vs) (w ∷ ws) [] a b = absurd b
visits_through (v ∷ vs) (w ∷ ws) (x ∷ xs) a b = (visit_through v w x a.0 b.0, visits_through vs ws xs a.1 b.1)

-- a setting agrees with itself
own_setting : (st : Setting) → WellViews st.views → SettingsAgree st st
own_setting st w =
    let own : SettingLe st st = record { same = refl; views = λ g. slots_le (view_of g st.views) (view_of g st.views) (own_below (recs (view_of g st.views)) (w g)); hosts = λ g. refl; laters = λ p g x. refl } in
    record { first = own; second = own; well = w; well_too = w }

-- a way through a play that agrees with the walk from one exit agrees with that from one that agrees with it
pub play_from : (st : Setting) (p : Play) (e f to : Exit) (vs : List Visit) → WellViews st.views → WellExit e → WellExit f → WellExit to → ExitsAgree e f
    → AllVisitsAgree vs (walk st p.row e).visits → ExitsAgree to (walk st p.row e).well
    → PlaysAgree (record { play = p; walked = record { visits = vs; well = to; hurt = dead } }) (record { play = p; walked = walk st p.row f })
play_from st p e f to vs views w v u x a ends =
    let mine = walk st p.row e in
    let theirs = walk st p.row f in
    let own = own_setting st views in
    let wm = (walk_well st views p.row e w).0 in
    let wt = (walk_well st views p.row f v).0 in
    let same : ExitsAgree mine.well theirs.well = ((walks_up st st p.row e f views views w v own.first x.0).1, (walks_up st st p.row f e views views v w own.second x.1).1) in
    record {
      play = refl;
      visits = visits_through vs mine.visits theirs.visits a (walks_visit st st p.row e f own w v x);
      ends = exits_through to mine.well theirs.well u wm wt ends same;
      well = u;
      well_too = wt;
    }

first_step : (q : Bool) (p : Play) (w : PlayWalk) (ws : List PlayWalk) (x : Walked) (more : Exit → List PlayWalk) (rest : List PlayWalk) → q ≡ true → PlaysAgree w (record { play = p; walked = x }) → AllPlaysAgree ws (more x.well)
    → AllPlaysAgree (w ∷ ws) (cond q (then_plays p x more) rest)
first_step true p w ws x more rest h a b = (a, b)
first_step false p w ws x more rest h a b = absurd (cc)

other_step : (q : Bool) (p : Play) (ws : List PlayWalk) (x : Walked) (more : Exit → List PlayWalk) (rest : List PlayWalk) → q ≡ false → AllPlaysAgree ws rest → AllPlaysAgree ws (cond q (then_plays p x more) rest)
other_step true p ws x more rest h a = absurd (cc)
other_step false p ws x more rest h a = a

module _ (i : Inventory) (views : List View) (h : Name) where
  -- ways that agree with the host's through plays, from wherever as much is known
  abbrev pub WaysFrom : Program → List (List Later) → Exit → List PlayWalk → Type 0
  WaysFrom ps ls e ws = (f : Exit) → WellExit f → ExitsAgree e f → AllPlaysAgree ws (plays_walked i views h f ps ls)

  pub no_ways : (ls : List (List Later)) (e : Exit) → WaysFrom [] ls e []
  no_ways ls e f w x = tt

  -- a play that names the host
  pub ways_named : (p : Play) (ps : Program) (ls : List (List Later)) (e to : Exit) (vs : List Visit) (ws : List PlayWalk) → WellViews views → WellExit e → WellExit to → is_among h p.hosts ≡ true
      → AllVisitsAgree vs (walk (setting_of i p views (first_laters ls) h) p.row e).visits → ExitsAgree to (walk (setting_of i p views (first_laters ls) h) p.row e).well → WaysFrom ps (other_laters ls) to ws
      → WaysFrom (p ∷ ps) ls e (record { play = p; walked = record { visits = vs; well = to; hurt = dead } } ∷ ws)
  ways_named p ps ls e to vs ws wv w u named a ends rest f v x =
      let st = setting_of i p views (first_laters ls) h in
      let first = play_from st p e f to vs wv w v u x a ends in
      let theirs = walk st p.row f in
      first_step (is_among h p.hosts) p (record { play = p; walked = record { visits = vs; well = to; hurt = dead } }) ws theirs (λ y. plays_walked i views h y ps (other_laters ls)) (plays_walked i views h f ps (other_laters ls)) named first
      (rest theirs.well first.well_too first.ends)

  -- one that doesn't
  pub ways_unnamed : (p : Play) (ps : Program) (ls : List (List Later)) (e : Exit) (ws : List PlayWalk) → is_among h p.hosts ≡ false → WaysFrom ps (other_laters ls) e ws → WaysFrom (p ∷ ps) ls e ws
  ways_unnamed p ps ls e ws unnamed rest f v x =
      other_step (is_among h p.hosts) p ws (walk (setting_of i p views (first_laters ls) h) p.row f) (λ y. plays_walked i views h y ps (other_laters ls)) (plays_walked i views h f ps (other_laters ls)) unnamed (rest f v x)
