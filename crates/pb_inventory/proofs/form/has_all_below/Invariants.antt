use Rattle.std.proofs.Common.{◌≡◌, drop, map}
use Rattle.std.specs.List.{list_any}
use Rattle.pb_semantics.specs.Keeps.{is_among}
use Rattle.pb_language.specs.Written.{all_group}
use Rattle.pb_inventory.specs.Documents.{written_view}
use Rattle.pb_inventory.proofs.form.has_all_below.Given as goal

abbrev pub invariant-loop-group : goal.invariant-loop-group
invariant-loop-group l = list_any (λ w. is_among all_group w.children) (map written_view l.groups) ≡ list_any (λ w. is_among all_group w.children) (map written_view (drop l.group-index l.groups))
