-- What is kept of a step of a flat plan: all but what its task does.
use Rattle.std.specs.Prelude.{ℕ, List, map, Option}
use Rattle.pb_language.specs.Book.{PlayData, Registry}
use Rattle.pb_language.specs.Plays.{play_row}
use Rattle.pb_machine.specs.Steps.{Target, Step as FlatStep, play_begin, play_steps}
use Rattle.pb_flow.specs.Nodes.{target_view}
use Rattle.pb_steps.specs.declared.step.Step.{Step}
use Rattle.pb_steps.specs.declared.step.PlaySteps.{PlaySteps}

pub record Outline : Type 0 where
  pub line : ℕ
  pub place : ℕ
  pub handler : Option ℕ
  pub ok : Target
  pub failed : Target

abbrev pub outline : FlatStep → Outline
outline s = record {
  line = s.task.line;
  place = s.task.place;
  handler = s.handler;
  ok = s.ok;
  failed = s.failed;
}

abbrev pub outline_view : Step → Outline
outline_view s = record {
  line = s.line;
  place = s.place;
  handler = s.handler;
  ok = target_view s.ok;
  failed = target_view s.failed;
}

-- where a host begins a play, and its steps
pub record PlayPlan : Type 0 where
  pub begin : Target
  pub steps : List Outline

-- the plan of the play as a row
abbrev pub play_plan : Registry → PlayData → PlayPlan
play_plan ms p = record {
  begin = play_begin (play_row ms p);
  steps = map outline (play_steps (play_row ms p));
}

abbrev pub plan_view : PlaySteps → PlayPlan
plan_view p = record { begin = target_view p.begin; steps = map outline_view p.steps.items }
