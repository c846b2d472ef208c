-- The hosts that patterns of plays find.
use Rattle.std.specs.Prelude.{ℕ, zero, suc, List, [], ◌∷◌, Option, Some, None, cond}
use Rattle.std.specs.List.{flat_map}
use Rattle.pb_language.specs.BookForm.{words_from}
use Rattle.pb_language.specs.Expression.{Name}
use Rattle.pb_language.specs.Plays.{pattern_hosts}
use Rattle.pb_language.specs.Program.{Inventory}
use Rattle.pb_language.specs.Rules.{words_known}
use Rattle.pb_inventory.specs.declared.fault.PatternFault.{PatternFault}
use Rattle.pb_inventory.specs.declared.fault.PatternFault.TheVariants.{NoMemory, Unknown}
-- the names of the hosts at these places
pub use Rattle.pb_inventory.specs.Numbered.{named as names_at}

-- the words of several texts, in their order
abbrev pub patterns_words : List (List ℕ) → List Name
patterns_words bss = flat_map (words_from []) bss

-- the words of what stands from a place on; behind the end there is none
abbrev pub words_left : ℕ → List ℕ → List Name
words_left zero bs = words_from [] bs
words_left (suc k) [] = []
words_left (suc k) (b ∷ bs) = words_left k bs

-- some hosts and those of the words, where each word names a group or a host
abbrev pub hosts_found : Inventory → List Name → List Name → Option (List Name)
hosts_found v ns ws = cond (words_known v ws) (Some (pattern_hosts v ns ws)) None

-- what a fault says of the hosts that are found, which is nothing for want of memory
abbrev pub no_hosts : PatternFault → Option (Option (List Name))
no_hosts Unknown = Some None
no_hosts NoMemory = None
