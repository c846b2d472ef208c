-- Hosts that look alike to plays whose texts read no other host and not the host's own name, and
-- walks that are alike: they differ at most in what such texts don't read (this project's own).
use Rattle.std.specs.Prelude.{◌≡◌, List, [], ◌∷◌, false, Option, Some, None, length}
use Rattle.pb_semantics.specs.Keeps.{is_among}
use Rattle.pb_language.specs.Expression.{Name}
use Rattle.pb_language.specs.Judgement.{live}
use Rattle.pb_language.specs.Kinds.{known_slots}
use Rattle.pb_language.specs.Program.{Inventory, Program, memberships_of}
use Rattle.pb_language.specs.Scope.{Later, View}
use Rattle.pb_language.specs.Setting.{Setting}
use Rattle.pb_language.specs.Tables.{PlayWalk, plays_walked}
use Rattle.pb_language.specs.Verdict.{Refusal}
use Rattle.pb_language.specs.Walk.{Visit}
use Rattle.pb_language.specs.World.{HostVariables}
use Rattle.pb_walks.specs.Alone.{row_reads_others, task_reads_others}
use Rattle.pb_alike.specs.Named.{row_reads_name, task_reads_name}

-- each play names both hosts or neither
abbrev pub SamePlays : Program → Name → Name → Type 0
SamePlays [] h g = Unit {0}
SamePlays (p ∷ ps) h g = (is_among h p.hosts ≡ is_among g p.hosts) × SamePlays ps h g

-- two hosts of which the same is known, in the same plays and in equally many groups
pub record LookAlike (inventory : Inventory) (ps : Program) (x y : HostVariables) : Type 0 where
  pub known : known_slots x.variables ≡ known_slots y.variables
  pub memberships : length (memberships_of x.name inventory.groups)
      ≡ length (memberships_of y.name inventory.groups)
  pub plays : SamePlays ps x.name y.name

-- a host's ways through the plays that name it
abbrev pub ways_of : Inventory → Program → List View → List (List Later) → HostVariables
    → List PlayWalk
ways_of inventory ps views ls x =
    plays_walked inventory views x.name (live (known_slots x.variables)) ps ls

-- one host in a play, and another
pub record SettingsAlike (st su : Setting) : Type 0 where
  pub groups : st.groups ≡ su.groups
  pub memberships : length st.memberships ≡ length su.memberships
  pub play_hosts : st.play_hosts ≡ su.play_hosts
  pub handlers : st.handlers ≡ su.handlers

-- ways to one task that reads neither other hosts nor the name
pub record VisitsAlike (v w : Visit) : Type 0 where
  pub settings : SettingsAlike v.setting w.setting
  pub visited : v.visited ≡ w.visited
  pub envs : v.env ≡ w.env
  pub no_others : task_reads_others v.visited ≡ false
  pub no_name : task_reads_name v.visited ≡ false

abbrev pub AllVisitsAlike : List Visit → List Visit → Type 0
AllVisitsAlike [] [] = Unit {0}
AllVisitsAlike [] (w ∷ ws) = ⊥
AllVisitsAlike (v ∷ vs) [] = ⊥
AllVisitsAlike (v ∷ vs) (w ∷ ws) = VisitsAlike v w × AllVisitsAlike vs ws

-- a host's way through a play, and another's
pub record PlaysAlike (w x : PlayWalk) : Type 0 where
  pub play : w.play ≡ x.play
  pub visits : AllVisitsAlike w.walked.visits x.walked.visits
  pub ends : w.walked.well ≡ x.walked.well
  pub no_others : row_reads_others w.play.row ≡ false
  pub no_name : row_reads_name w.play.row ≡ false

abbrev pub AllPlaysAlike : List PlayWalk → List PlayWalk → Type 0
AllPlaysAlike [] [] = Unit {0}
AllPlaysAlike [] (x ∷ xs) = ⊥
AllPlaysAlike (w ∷ ws) [] = ⊥
AllPlaysAlike (w ∷ ws) (x ∷ xs) = PlaysAlike w x × AllPlaysAlike ws xs

-- the refusal, with that host in place of its own
abbrev pub refused_on : Name → Option Refusal → Option Refusal
refused_on h None = None
refused_on h (Some r) = Some (record r { host = Some h })
