-- A task where it stands in its play.
use Rattle.std.specs.Prelude.{◌≡◌, [], ◌∷◌, false, option_map}
use Rattle.pb_language.specs.Book.{Registry}
use Rattle.pb_language.specs.Cases.{Sets, no_sets, action_sets, all_results, answered_cases}
use Rattle.pb_language.specs.Cases.{failing_cases, going_cases, is_certain_to_run, judged_cases}
use Rattle.pb_language.specs.Expansion.{trees}
use Rattle.pb_language.specs.Expression.{no_parts}
use Rattle.pb_language.specs.Narrow.{results_of}
use Rattle.pb_language.specs.Plays.{Surroundings, task_with}
use Rattle.pb_language.specs.Rules.{any_too_long}
use Rattle.pb_language.specs.Scope.{Scope}
use Rattle.pb_language.specs.Task.{Action, Task, call_of}
use Rattle.pb_kind.specs.KindView.{kind_view}
use Rattle.pb_sig.specs.ModuleView.{known_view}
use Rattle.pb_task.specs.Tasks.{task_view}
use Rattle.pb_task.specs.declared.task.Work.{Work}
use Rattle.pb_task.specs.declared.task.Work.TheVariants.{Module}
use Rattle.pb_vars.specs.InScope.{in_scope}
use Rattle.pb_flow.specs.Nodes.{around_view}
use Rattle.pb_judgement.specs.Ends.{case_kind}
use Rattle.pb_transfer.specs.Written.{sets_view}
use Rattle.pb_route.specs.declared.station.Station.{Station}

-- the module that is called, alone
abbrev pub lone_registry : Work → Registry
lone_registry (Module m) = known_view m.value ∷ []
lone_registry w = []

abbrev pub stands_round : Station → Surroundings
stands_round s = around_view (lone_registry s.task.now.work) no_parts s.around.value

-- the task in its surroundings, at its place
abbrev pub station_task : Station → Task
station_task s =
    task_with (stands_round s) s.place (task_view s.task.now) (trees (in_scope s.vars))

-- what is set by a module, on whatever host
abbrev pub facts_of : Task → Action → Scope → Sets
facts_of t (call_of m ps) c = action_sets c t (call_of m ps)
facts_of t a c = no_sets

-- what is kept of a task is so of it
pub record IsStation (s : Station) : Type 0 where
  pub certain : s.is_certain ≡ is_certain_to_run (station_task s)
  pub short : any_too_long (in_scope s.vars) (in_scope s.vars) ≡ false
  pub going : option_map kind_view s.ends.going ≡ case_kind (going_cases (station_task s))
  pub failing : option_map kind_view s.ends.failing ≡ case_kind (failing_cases (station_task s))
  pub all : kind_view s.ends.all ≡ results_of (all_results (station_task s))
  pub answered : kind_view s.own.answered
      ≡ results_of (answered_cases (station_task s).action)
  pub judged : kind_view s.own.judged
      ≡ results_of (judged_cases (station_task s).action (station_task s).failed_when)
  pub facts : (c : Scope)
      → sets_view s.facts.items ≡ facts_of (station_task s) (station_task s).action c
