-- Books as they are read (Ansible's page on playbook keywords).
use Rattle.std.specs.Prelude.{ℕ, List, Bool, Option}
use Rattle.pb_semantics.specs.Signature.{ModuleData}
use Rattle.pb_language.specs.Expression.{Name, Expression, Expressions, Parts}
use Rattle.pb_language.specs.Task.{Attempts}

-- the asserted conditions of a task, where they are given and well formed
pub data Asserted : Type 0 where
  not_given : Asserted
  not_well_formed : Asserted
  conditions_are : Expressions → Asserted

-- an action or module with its arguments by name
pub data Work : Type 0 where
  module_work : Name → Parts → Work
  debug_work : Parts → Work
  set_fact_work : Parts → Work
  assert_work : Asserted → Parts → Work
  fail_work : Parts → Work

pub record TaskData : Type 0 where
  pub line : ℕ
  pub work : Work
  pub condition : Expressions
  pub loop : Option Expression
  pub register : Option Name
  pub vars : Parts
  pub notify : List Name
  pub changed_when : Option Expressions
  pub failed_when : Option Expressions
  pub attempts : Option Attempts
  pub ignore_errors : Option Bool

pub record BlockData : Type 0 where
  pub line : ℕ
  pub condition : Expressions
  pub vars : Parts
  pub ignore_errors : Option Bool

-- a list of tasks, blocks (with body, rescue and always) and flushes
pub data Steps : Type 0 where
  no_steps : Steps
  task_step : TaskData → Steps → Steps
  block_step : BlockData → Steps → Steps → Steps → Steps → Steps
  flush_step : ℕ → Steps → Steps

pub record HandlerData : Type 0 where
  pub work : TaskData
  pub name : Option Name
  pub topics : List Name

-- an entry of `serial`
pub data Cut : Type 0 where
  host_count : ℕ → Cut
  percentage : ℕ → Cut

pub record PlayData : Type 0 where
  pub line : ℕ
  -- the words of the pattern
  pub pattern : List Name
  -- the line of the gathering, where there is one
  pub gathering : Option ℕ
  pub vars : Parts
  pub is_linear : Bool
  pub serial : List Cut
  pub pre_tasks : Steps
  pub tasks : Steps
  pub post_tasks : Steps
  pub handlers : List HandlerData
  -- a failure in a section runs its flush all the same
  pub forces : Bool

abbrev pub Book : Type 0
Book = List PlayData

abbrev pub Registry : Type 0
Registry = List ModuleData
