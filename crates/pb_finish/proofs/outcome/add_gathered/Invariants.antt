use Rattle.std.proofs.Common.{◌≡◌, drop}
use Rattle.pb_semantics.specs.Data.{Fields, put_all}
use Rattle.pb_language.specs.Give.{with_changes}
use Rattle.pb_value.specs.View.{fields_view}
use Rattle.pb_finish.specs.Results.{changes_view}
use Rattle.pb_finish.proofs.outcome.add_gathered.Given as goal

abbrev pub invariant-loop-fact : goal.invariant-loop-fact
invariant-loop-fact l =
    (vars : Fields) → with_changes (changes_view l.facts) (put_all (fields_view l.fn.writes.items) vars)
    ≡ with_changes (changes_view (drop l.fact-index l.facts)) (put_all (fields_view l.writes.items) vars)
