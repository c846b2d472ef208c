-- What is known of a module, and which shapes its answers can have.
use Rattle.std.specs.Prelude.{ℕ, List, Bool, true, false, not, ◌&&◌, Option, codes}
use Rattle.pb_semantics.specs.Kind.{KindData, Slots, Spot, booleans, texts, lists, recs, results}
use Rattle.pb_semantics.specs.Kind.{no_slots, slot, spot, slot_at, is_listed}

pub record ParameterData : Type 0 where
  pub name : List ℕ
  pub kind : KindData
  pub required : Bool

pub record ModuleData : Type 0 where
  pub name : List ℕ
  pub params : List ParameterData
  pub ok : KindData
  pub failure : KindData
  -- the parameter that a text in place of the arguments stands for
  pub free : Option (List ℕ)

-- no result at any depth
abbrev mutual
  pub is_free : KindData → Bool
  is_free (lists k n) = is_free k
  is_free (recs ss) = are_free ss
  is_free (results cs r) = false
  is_free k = true

  pub are_free : Slots → Bool
  are_free no_slots = true
  are_free (slot n a k ss) = is_free k && are_free ss

abbrev pub is_certain_boolean : Spot → Bool
is_certain_boolean (spot true booleans) = true
is_certain_boolean s = false

abbrev pub is_certain_text : Spot → Bool
is_certain_text (spot true texts) = true
is_certain_text s = false

-- a record that holds no result, with `changed` always there, and no field `failed`
abbrev pub is_shape : KindData → Bool
is_shape (recs ss) = are_free ss
    && (is_certain_boolean (slot_at (codes "changed") ss) && not (is_listed (codes "failed") ss))
is_shape k = false

abbrev pub has_message : KindData → Bool
has_message (recs ss) = is_certain_text (slot_at (codes "msg") ss)
has_message k = false

-- a shape with `msg` always there
abbrev pub is_failure_shape : KindData → Bool
is_failure_shape k = is_shape k && has_message k
