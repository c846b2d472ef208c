-- The weight that a value carries, and what its parts weigh.
use Rattle.std.specs.Prelude.{List, [], ◌∷◌, String, string_bytes, length}
use Rattle.std.specs.declared.alloc.Global.{Global}
use Rattle.pb_value.specs.Weights.{leaf, text_weight, both}
use Rattle.pb_value.specs.declared.weight.Weight.{Weight}
use Rattle.pb_value.specs.declared.value.Value.{Value, fold-Value}
use Rattle.pb_value.specs.declared.value.Value.TheOpen.{Value-F}

abbrev pub weight_step : Value-F Weight → Weight
weight_step (Value-F.Text s) = text_weight (length (string_bytes s.value))
weight_step (Value-F.List v) = v.value.weight
weight_step (Value-F.Rec m) = m.value.weight
weight_step v = leaf

abbrev pub weight_of : Value → Weight
weight_of = fold-Value Weight weight_step

abbrev pub items_onto : Weight → List Value → Weight
items_onto w [] = w
items_onto w (v ∷ vs) = items_onto (both w (weight_of v)) vs

abbrev pub fields_onto : Weight → List (String Global × Value) → Weight
fields_onto w [] = w
fields_onto w (m ∷ ms) =
    fields_onto (both (both w (text_weight (length (string_bytes m.0)))) (weight_of m.1)) ms
