-- Walks that agree: the same tasks are visited, in environments that are below each other (this
-- project's own).
use Rattle.std.specs.Prelude.{◌≡◌, ℕ, List, [], ◌∷◌}
use Rattle.pb_semantics.specs.Kind.{Slots, recs}
use Rattle.pb_semantics.specs.Well.{Well}
use Rattle.pb_language.specs.Expression.{Name}
use Rattle.pb_language.specs.Judgement.{Exit}
use Rattle.pb_language.specs.Ordered.{ExitLe, SettingLe, SlotsLe}
use Rattle.pb_language.specs.Scope.{Later, View, has_view, is_later, later_of, view_of}
use Rattle.pb_language.specs.Setting.{Setting}
use Rattle.pb_language.specs.Tables.{HostWalk, PlayWalk}
use Rattle.pb_language.specs.Walk.{Visit}
use Rattle.pb_language.specs.Wells.{WellExit, WellViews}

abbrev pub SlotsAgree : Slots → Slots → Type 0
SlotsAgree ss ts = SlotsLe ss ts × SlotsLe ts ss

abbrev pub ExitsAgree : Exit → Exit → Type 0
ExitsAgree e f = ExitLe e f × ExitLe f e

-- what hosts' variables look like to others
pub record ViewsAgree (vs us : List View) : Type 0 where
  pub hosts : (g : Name) → has_view g vs ≡ has_view g us
  pub slots : (g : Name) → SlotsAgree (view_of g vs) (view_of g us)
  pub well : WellViews vs
  pub well_too : WellViews us

-- what hosts have at their later places, however that is listed
abbrev pub LaterAgrees : List Later → List Later → Type 0
LaterAgrees ls ms = (p : ℕ) (g x : Name)
    → is_later (later_of g ls) p x ≡ is_later (later_of g ms) p x

-- play by play; of a play that isn't listed nothing is said
abbrev pub LatersAgree : List (List Later) → List (List Later) → Type 0
LatersAgree [] [] = Unit {0}
LatersAgree [] (m ∷ ms) = LaterAgrees [] m × LatersAgree [] ms
LatersAgree (l ∷ ls) [] = LaterAgrees l [] × LatersAgree ls []
LatersAgree (l ∷ ls) (m ∷ ms) = LaterAgrees l m × LatersAgree ls ms

-- two hosts in a play that differ in nothing but in how these are listed
pub record SettingsAgree (st su : Setting) : Type 0 where
  pub first : SettingLe st su
  pub second : SettingLe su st
  pub well : WellViews st.views
  pub well_too : WellViews su.views

-- one way to a task, and another
pub record VisitsAgree (v w : Visit) : Type 0 where
  pub settings : SettingsAgree v.setting w.setting
  pub visited : v.visited ≡ w.visited
  pub envs : SlotsAgree v.env w.env
  pub well : Well (recs v.env)
  pub well_too : Well (recs w.env)

abbrev pub AllVisitsAgree : List Visit → List Visit → Type 0
AllVisitsAgree [] [] = Unit {0}
AllVisitsAgree [] (w ∷ ws) = ⊥
AllVisitsAgree (v ∷ vs) [] = ⊥
AllVisitsAgree (v ∷ vs) (w ∷ ws) = VisitsAgree v w × AllVisitsAgree vs ws

-- a host's way through a play, and another
pub record PlaysAgree (w x : PlayWalk) : Type 0 where
  pub play : w.play ≡ x.play
  pub visits : AllVisitsAgree w.walked.visits x.walked.visits
  pub ends : ExitsAgree w.walked.well x.walked.well
  pub well : WellExit w.walked.well
  pub well_too : WellExit x.walked.well

abbrev pub AllPlaysAgree : List PlayWalk → List PlayWalk → Type 0
AllPlaysAgree [] [] = Unit {0}
AllPlaysAgree [] (x ∷ xs) = ⊥
AllPlaysAgree (w ∷ ws) [] = ⊥
AllPlaysAgree (w ∷ ws) (x ∷ xs) = PlaysAgree w x × AllPlaysAgree ws xs

-- a host's way through all plays, and another
pub record HostsAgree (w x : HostWalk) : Type 0 where
  pub host : w.host ≡ x.host
  pub plays : AllPlaysAgree w.plays x.plays

abbrev pub AllHostsAgree : List HostWalk → List HostWalk → Type 0
AllHostsAgree [] [] = Unit {0}
AllHostsAgree [] (x ∷ xs) = ⊥
AllHostsAgree (w ∷ ws) [] = ⊥
AllHostsAgree (w ∷ ws) (x ∷ xs) = HostsAgree w x × AllHostsAgree ws xs
