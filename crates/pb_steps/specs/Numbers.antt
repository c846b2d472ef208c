-- Names and texts by numbers.
use Rattle.std.specs.Prelude.{ℕ, List, [], ◌∷◌, ◌++◌, Option, Some, None}
use Rattle.pb_language.specs.Expression.{Name}
use Rattle.pb_language.specs.Notify.{HandlerNames, notified}
use Rattle.pb_slots.specs.Slots.{slot_in}

abbrev pub as_list : Option ℕ → List ℕ
as_list None = []
as_list (Some i) = i ∷ []

-- the slots of those that have one
abbrev pub slots_named : List Name → List Name → List ℕ
slots_named names [] = []
slots_named names (n ∷ ns) = as_list (slot_in names n) ++ slots_named names ns

-- the handlers that the texts notify, text by text
abbrev pub handlers_named : List HandlerNames → List Name → List ℕ
handlers_named hs [] = []
handlers_named hs (n ∷ ns) = notified 0 n hs ++ handlers_named hs ns
