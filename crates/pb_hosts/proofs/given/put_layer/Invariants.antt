use Rattle.std.proofs.Common.{◌≡◌}
use Rattle.pb_kind.specs.KindView.{slots_view}
use Rattle.pb_value.specs.View.{fields_view}
use Rattle.pb_hosts.specs.Tables.{with_layer}
use Rattle.pb_hosts.proofs.given.put_layer.Given as goal

abbrev pub invariant-loop-name : goal.invariant-loop-name
invariant-loop-name l =
    with_layer (slots_view l.known.entries) (fields_view l.name-iterator) ≡ with_layer (slots_view l.fn.known.entries) (fields_view l.layer.entries)
