use Rattle.std.proofs.Common.{◌≡◌, map, drop}
use Rattle.pb_semantics.specs.Data.{Fields, put_all}
use Rattle.pb_language.specs.Give.{with_all_sets}
use Rattle.pb_value.specs.View.{fields_view}
use Rattle.pb_finish.specs.Endings.{final_view}
use Rattle.pb_finish.proofs.outcome.add_results.Given as goal

abbrev pub invariant-loop-item : goal.invariant-loop-item
invariant-loop-item l =
    (vars : Fields) → with_all_sets (map final_view l.results) (put_all (fields_view l.fn.writes.items) vars)
    ≡ with_all_sets (map final_view (drop l.item-index l.results)) (put_all (fields_view l.writes.items) vars)
