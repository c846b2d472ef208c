-- The weight that a kind carries, and what its parts weigh.
use Rattle.std.specs.Prelude.{List, [], ◌∷◌, String, string_bytes, length}
use Rattle.std.specs.declared.alloc.Global.{Global}
use Rattle.pb_value.specs.Weights.{leaf, text_weight, names_weight, both}
use Rattle.pb_value.specs.declared.weight.Weight.{Weight}
use Rattle.pb_kind.specs.declared.kind.Slot.{Slot}
use Rattle.pb_kind.specs.declared.kind.Case.{Case}
use Rattle.pb_kind.specs.declared.kind.Kind.{Kind, fold-Kind}
use Rattle.pb_kind.specs.declared.kind.Kind.TheOpen.{Kind-F}

abbrev pub kind_weight_step : Kind-F Weight → Weight
kind_weight_step (Kind-F.Host s) = names_weight (length s.value.keys)
kind_weight_step (Kind-F.List k n) = k.value.weight
kind_weight_step (Kind-F.Rec m) = m.value.weight
kind_weight_step (Kind-F.Result cs r) = cs.value.weight
kind_weight_step k = leaf

abbrev pub kind_weight : Kind → Weight
kind_weight = fold-Kind Weight kind_weight_step

abbrev pub slots_onto : Weight → List (String Global × Slot Kind) → Weight
slots_onto w [] = w
slots_onto w (m ∷ ms) =
    slots_onto (both (both w (text_weight (length (string_bytes m.0)))) (kind_weight m.1.kind)) ms

abbrev pub cases_onto : Weight → List (Case Kind) → Weight
cases_onto w [] = w
cases_onto w (c ∷ cs) = cases_onto (both w (kind_weight c.fields)) cs
