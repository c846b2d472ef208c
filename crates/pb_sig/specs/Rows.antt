-- The slots and the parameters that rows describe.
use Rattle.std.specs.Prelude.{List, [], ◌∷◌}
use Rattle.pb_semantics.specs.Kind.{Slots, put_slot}
use Rattle.pb_kind.specs.KindView.{kind_view, is_always}
use Rattle.pb_semantics.specs.Signature.{ParameterData}
use Rattle.pb_sig.specs.declared.rows.Row.{Row}

abbrev pub row_parameter : Row → ParameterData
row_parameter r =
    record { name = r.name.now; kind = kind_view r.kind; required = is_always r.presence }

-- the slots with those of the rows, one after the other
abbrev pub with_rows : List Row → Slots → Slots
with_rows [] ss = ss
with_rows (r ∷ rs) ss =
    with_rows rs (put_slot r.name.now (is_always r.presence) (kind_view r.kind) ss)
