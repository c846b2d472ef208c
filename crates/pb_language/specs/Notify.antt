-- Which handlers a text notifies (Ansible's page on handlers).
use Rattle.std.specs.Prelude.{ℕ, suc, List, [], ◌∷◌, ◌++◌, Bool, true, false, ◌||◌, cond, Option}
use Rattle.std.specs.Prelude.{Some, None}
use Rattle.std.specs.Str.{bytes_eq}
use Rattle.pb_semantics.specs.Keeps.{is_among}
use Rattle.pb_language.specs.Expression.{Name}

-- what a notify text names a handler by
pub record HandlerNames : Type 0 where
  pub name : Option Name
  pub topics : List Name

abbrev pub is_name : Name → Option Name → Bool
is_name n None = false
is_name n (Some m) = bytes_eq n m

abbrev pub is_named : Name → HandlerNames → Bool
is_named n h = is_name n h.name || is_among n h.topics

-- the numbers of the handlers that the text notifies
abbrev pub notified : ℕ → Name → List HandlerNames → List ℕ
notified i n [] = []
notified i n (h ∷ hs) = cond (is_named n h) (i ∷ notified (suc i) n hs) (notified (suc i) n hs)

-- all handlers that the texts notify; a text that names none is where a run is stuck
pub data Notified : Type 0 where
  handlers_are : List ℕ → Notified
  names_nothing : Notified

abbrev pub with_numbers : List ℕ → Notified → Notified
with_numbers [] r = names_nothing
with_numbers (i ∷ is) names_nothing = names_nothing
with_numbers (i ∷ is) (handlers_are js) = handlers_are (i ∷ is ++ js)

abbrev pub all_notified : List HandlerNames → List Name → Notified
all_notified hs [] = handlers_are []
all_notified hs (n ∷ ns) = with_numbers (notified 0 n hs) (all_notified hs ns)

abbrev pub names_something : Notified → Bool
names_something (handlers_are ms) = true
names_something names_nothing = false
