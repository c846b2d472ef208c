-- Names of `vars` whose values don't read the item of a loop.
use Rattle.std.specs.Prelude.{◌≡◌, Bool, true, false, not, ◌&&◌, codes}
use Rattle.std.specs.Str.{bytes_eq}
use Rattle.pb_language.specs.Expansion.{expanded}
use Rattle.pb_language.specs.Expression.{Root, variable, alias, other, member, Term}
use Rattle.pb_language.specs.Expression.{named_host, this_host, item_host, group_member, Parts}
use Rattle.pb_language.specs.Expression.{no_parts, part}
use Rattle.pb_syntax.specs.Aliases.{no_trees}
use Rattle.pb_vars.specs.Reads.{Read, value_at, tested_at, alone, looked_for, every_read}

abbrev pub is_other_host : Term → Bool
is_other_host (named_host n) = true
is_other_host this_host = true
is_other_host item_host = false
is_other_host (group_member g n) = true

abbrev pub is_other_root : Root → Bool
is_other_root (variable n) = not (bytes_eq n (codes "item"))
is_other_root (alias n e) = true
is_other_root (other t x) = is_other_host t
is_other_root (member g n) = true

-- a place that reads something else than the item, and no host that the item names
abbrev pub is_other : Read → Bool
is_other (value_at r ns) = is_other_root r
is_other (tested_at r) = is_other_root r
is_other (alone o) = true
is_other (looked_for t) = is_other_host t

-- the value of each name, where no other name stands for its value, reads other things alone
abbrev pub read_no_item : Parts → Bool
read_no_item no_parts = true
read_no_item (part n e ps) = every_read is_other (expanded no_trees e) && read_no_item ps
