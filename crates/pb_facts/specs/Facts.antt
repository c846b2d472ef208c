-- What hosts hold in numbered slots: a finite map from a host and a slot to a value.
use Rattle.std.specs.Prelude.{◌≡◌, ℕ, List, [], length, Option, Some, None, replicate}
use Rattle.std.specs.Prelude.{slice_index_or, slice_set}
use Rattle.std.specs.List.{All}
use Rattle.pb_value.specs.declared.value.Value.{Value}

-- how many hosts and slots there are, and of each host, slot by slot, the value that was set, or
-- none
pub record Held : Type 0 where
  pub hosts : ℕ
  pub slots : ℕ
  pub rows : List (List (Option Value))

-- there is a row for each host, and in it an entry for each slot
pub record IsBlock (held : Held) : Type 0 where
  pub hosts : length held.rows ≡ held.hosts
  pub slots : All (λ row. length row ≡ held.slots) held.rows

abbrev pub empty_held : ℕ → ℕ → Held
empty_held hosts slots =
    record { hosts = hosts; slots = slots; rows = replicate hosts (replicate slots None) }

-- what a host holds, slot by slot
abbrev pub row_of : Held → ℕ → List (Option Value)
row_of held host = slice_index_or held.rows host []

abbrev pub value_at : Held → ℕ → ℕ → Option Value
value_at held host slot = slice_index_or (row_of held host) slot None

-- the same but for one entry, where that value now is
abbrev pub with_value : Held → ℕ → ℕ → Value → Held
with_value held host slot value = record held {
  rows = slice_set held.rows host (slice_set (row_of held host) slot (Some value));
}
