-- The slots of names: their places in a list.
use Rattle.std.specs.Prelude.{ℕ, nat_lt, List, Option, Some, None, is_some, cond}
use Rattle.std.specs.List.{position}
use Rattle.std.specs.Str.{bytes_eq}
use Rattle.pb_language.specs.Expansion.{part_named}
use Rattle.pb_language.specs.Expression.{Name, Parts}
use Rattle.pb_syntax.specs.Slots.{Slots as SlotsOfNames}

-- where the first name stands that is equal
abbrev pub slot_in : List Name → Name → Option ℕ
slot_in ns n = position (bytes_eq n) ns

-- what a path keeps of a slot: those from 2 ^ 32 on are looked for by their names
abbrev pub kept_slot : Option ℕ → Option ℕ
kept_slot None = None
kept_slot (Some i) = cond (nat_lt i 4294967296) (Some i) None

-- a name that `vars` has isn't the host's own
abbrev pub slots_in_scope : List Name → Parts → SlotsOfNames
slots_in_scope ns scope = record {
  own = λ n. cond (is_some (part_named n scope)) None (kept_slot (slot_in ns n));
  other = λ n. kept_slot (slot_in ns n);
}
