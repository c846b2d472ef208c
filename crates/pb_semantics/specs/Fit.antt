-- Which kinds are that of all values, hold it at any depth, or have truth values alone.
use Rattle.std.specs.Prelude.{Bool, true, false, ◌||◌}
use Rattle.pb_semantics.specs.Kind.{KindData, Slots, Cases, never, booleans, lists, recs, results}
use Rattle.pb_semantics.specs.Kind.{anything, no_slots, slot, no_cases, one}

abbrev pub is_any : KindData → Bool
is_any anything = true
is_any k = false

abbrev pub is_boolean : KindData → Bool
is_boolean never = true
is_boolean booleans = true
is_boolean k = false

abbrev mutual
  pub holds_any : KindData → Bool
  holds_any anything = true
  holds_any (lists k n) = holds_any k
  holds_any (recs ss) = any_slot_holds ss
  holds_any (results cs r) = any_case_holds cs
  holds_any k = false

  pub any_slot_holds : Slots → Bool
  any_slot_holds no_slots = false
  any_slot_holds (slot n a k ss) = holds_any k || any_slot_holds ss

  pub any_case_holds : Cases → Bool
  any_case_holds no_cases = false
  any_case_holds (one m sh fl k cs) = holds_any k || any_case_holds cs
