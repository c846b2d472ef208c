use Rattle.std.proofs.Common.{◌≡◌, List, map, drop}
use Rattle.pb_language.specs.Start as language
use Rattle.pb_language.specs.Start.{planned, plan_items}
use Rattle.pb_language.specs.Task.{Task}
use Rattle.pb_value.specs.View.{items_view}
use Rattle.pb_start.specs.Prepared.{Prepares}
use Rattle.pb_start.specs.Passes.{pass_view}
use Rattle.pb_start.proofs.Passed.{after_passes}
use Rattle.pb_start.proofs.passes.passes_of.Given as goal

abbrev pub invariant-loop-item : goal.invariant-loop-item
invariant-loop-item g l =
    (t : Task) → Prepares l.prepared t → (qs : List language.Pass) → plan_items (g.V.Vars.world l.vars) t (items_view l.items) ≡ planned qs
    → after_passes (map pass_view l.passes.items) (plan_items (g.V.Vars.world l.vars) t (items_view (drop l.item-index l.items))) ≡ planned qs
