-- A way to a task: what is known there, and what is made of it.
use Rattle.std.specs.Prelude.{◌≡◌, ◌&&◌, false, true, cond, Option, Some, None, option_map}
use Rattle.pb_semantics.specs.Kind.{KindData, Slots}
use Rattle.pb_semantics.specs.Below.{below}
use Rattle.pb_semantics.specs.Well.{Well}
use Rattle.pb_language.specs.Cases.{Sets, no_sets, append_sets, failing_cases, going_cases}
use Rattle.pb_language.specs.Cases.{registered_kind}
use Rattle.pb_language.specs.Expansion.{trees}
use Rattle.pb_language.specs.Expression.{Name}
use Rattle.pb_language.specs.Fit.{Fault}
use Rattle.pb_language.specs.Judgement.{has_case, has_going, register_writes}
use Rattle.pb_language.specs.Setting.{Setting, item_scope}
use Rattle.pb_language.specs.Task.{Task}
use Rattle.pb_lattice.specs.Environments.{Stands, exit_of, is_dead}
use Rattle.pb_kind.specs.KindView.{kind_view}
use Rattle.pb_vars.specs.InScope.{in_scope}
use Rattle.pb_taught.specs.Before.{Before}
use Rattle.pb_forms.specs.FitView.{fault_view}
use Rattle.pb_forms.specs.declared.inferred.Inferred.{Inferred}
use Rattle.pb_outlook.specs.Standing.{known_of}
use Rattle.pb_transfer.specs.Written.{sets_view}
use Rattle.pb_route.specs.Station.{station_task}
use Rattle.pb_visit.specs.declared.visit.Visit.{Visit}
use Rattle.pb_visit.specs.declared.writes.Writes.{Writes}

-- a way leads there, in the table
pub record IsReached (v : Visit) : Type 0 where
  pub stands : Stands v.space.now v.at
  pub alive : is_dead (exit_of v.space.now v.at) ≡ false

-- what is known of the host's variables there
abbrev pub env_of : Visit → Slots
env_of v = known_of (exit_of v.space.now v.at)

abbrev pub task_there : Visit → Task
task_there v = station_task v.station.now

-- what is found of a loop, where there is one
abbrev pub loop_found : Option Inferred → Option KindData
loop_found o = option_map (λ i. kind_view i.kind) o

abbrev pub unfit_found : Option Inferred → Option Fault
unfit_found None = None
unfit_found (Some i) = option_map fault_view i.unfit

-- what is known of an item, before any test
abbrev pub item_before : Setting → Visit → Before
item_before st v = record {
  scope = item_scope st (task_there v) (env_of v);
  trees = trees (in_scope v.station.now.vars);
}

-- the kind of what is registered where the task goes on, if it ever does, and where it fails; given
-- the kind of the loop
abbrev pub going_kind : Task → Option KindData → Option KindData
going_kind t over =
    cond (has_going t t.loop) (Some (registered_kind t over (going_cases t))) None

abbrev pub failing_kind : Task → Option KindData → Option KindData
failing_kind t over =
    cond (has_case (failing_cases t)) (Some (registered_kind t over (failing_cases t))) None

-- the kind of what is registered in either of two ways: one that is below a kind where both are
abbrev pub IsEither : Option KindData → Option KindData → Option KindData → Type 0
IsEither None b o = o ≡ b
IsEither (Some j) None o = o ≡ Some j
IsEither (Some j) (Some k) None = ⊥
IsEither (Some j) (Some k) (Some h) =
    Well h × ((m : KindData) → below h m ≡ below j m && below k m)

-- what is registered of that kind, where there is one
abbrev pub registered : Option Name → Option KindData → Sets
registered n None = no_sets
registered n (Some k) = register_writes n true k

-- all that is written: what is registered where the task goes on, where it fails, and what is set
abbrev pub writes_view : Option Name → Writes → Sets
writes_view n w = append_sets (registered n (option_map kind_view w.going))
    (append_sets (registered n (option_map kind_view w.failing)) (sets_view w.sets.items))
