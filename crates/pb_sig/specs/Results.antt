-- The kinds of what a task of a module or an action registers where it goes on.
use Rattle.std.specs.Prelude.{Bool, true, false, cond}
use Rattle.pb_semantics.specs.Kind.{KindData, Slots, Cases, recs, no_cases, one, skipped_shape}
use Rattle.pb_semantics.specs.Join.{append_cases}
use Rattle.pb_language.specs.Expression.{Name}
use Rattle.pb_language.specs.Cases.{ok_case, skipped_slots}
use Rattle.pb_kind.specs.KindView.{kind_view}
use Rattle.pb_sig.specs.declared.results.Results.{Results}

-- skipped, where that may be, or ok and not failed
abbrev pub result_cases : Bool → Name → Slots → Cases
result_cases may_skip n ss = append_cases
    (cond may_skip (one n skipped_shape false (recs skipped_slots) no_cases) no_cases)
    (ok_case n ss)

-- the kind where the task may be skipped or not
abbrev pub result_kind : Results → Bool → KindData
result_kind r true = kind_view r.perhaps_skipped
result_kind r false = kind_view r.ran
