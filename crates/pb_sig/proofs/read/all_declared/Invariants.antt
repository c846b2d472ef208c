use Rattle.std.proofs.Common.{◌≡◌, [], drop, map, true}
use Rattle.pb_value.specs.View.{items_view}
use Rattle.pb_sig.specs.ModuleView.{are_lawful_modules, shared_view}
use Rattle.pb_sig.specs.Signatures.{modules_after}
use Rattle.pb_sig.proofs.read.all_declared.Given as goal

abbrev pub invariant-loop-item : goal.invariant-loop-item
invariant-loop-item l = record {
  given : modules_after (map shared_view l.found.items) (items_view (drop l.item-index l.items)) ≡ modules_after [] (items_view l.items);
  lawful : are_lawful_modules (map shared_view l.found.items) ≡ true;
}
