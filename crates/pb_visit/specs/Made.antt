-- What a task makes that goes on, or that fails.
use Rattle.std.specs.Prelude.{◌≡◌, true, false, Option, Some, None}
use Rattle.pb_semantics.specs.Kind.{KindData, Slots}
use Rattle.pb_semantics.specs.Well.{Well}
use Rattle.pb_language.specs.Cases.{failing_cases, going_cases}
use Rattle.pb_language.specs.Judgement.{has_case, has_going, task_kind, task_sets}
use Rattle.pb_language.specs.Setting.{Setting}
use Rattle.pb_language.specs.Task.{Task}
use Rattle.pb_language.specs.Wells.{WellSets}
use Rattle.pb_transfer.specs.Written.{sets_view}
use Rattle.pb_kind.specs.KindView.{kind_view}
use Rattle.pb_visit.specs.declared.transfer.Made.{Made}

-- its result and its sets, of well formed kinds
pub record Makes (st : Setting) (t : Task) (env : Slots) (m : Made) : Type 0 where
  pub result : kind_view m.result ≡ task_kind st t env (going_cases t)
  pub sets : sets_view m.sets.items ≡ task_sets st t env
  pub well : Well (kind_view m.result)
  pub well_sets : WellSets (sets_view m.sets.items)

abbrev pub IsGoing : Setting → Task → Slots → Option Made → Type 0
IsGoing st t env None = has_going t t.loop ≡ false
IsGoing st t env (Some m) = (has_going t t.loop ≡ true) × Makes st t env m

abbrev pub IsFailing : Setting → Task → Slots → Option KindData → Type 0
IsFailing st t env None = has_case (failing_cases t) ≡ false
IsFailing st t env (Some k) =
    (has_case (failing_cases t) ≡ true) × (k ≡ task_kind st t env (failing_cases t)) × Well k
