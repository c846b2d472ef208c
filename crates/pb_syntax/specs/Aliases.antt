-- The names that are values of `vars`, in the order in which they are worked out.
use Rattle.std.specs.Prelude.{◌≡◌, ◌≤◌, ℕ, List, ◌∷◌, true, not, ◌||◌, cond, Option, Some, None}
use Rattle.std.specs.Prelude.{is_some}
use Rattle.std.specs.Str.{bytes_eq}
use Rattle.pb_semantics.specs.Keeps.{is_among}
use Rattle.pb_language.specs.Expression.{Name, Expression, Parts, no_parts, part}
use Rattle.pb_language.specs.Expansion.{expanded, part_named, depth_in}

-- the whole tree of each name of `vars`
abbrev pub Trees : Type 0
Trees = Name → Option Expression

-- where there are no `vars`
abbrev pub no_trees : Trees
no_trees n = None

-- one name more, which hides an earlier one
abbrev pub with_tree : Trees → Name → Expression → Trees
with_tree f n e m = cond (bytes_eq m n) (Some e) (f m)

-- each name's tree, expanded by those that stand before it
abbrev pub trees_after : Trees → Parts → Trees
trees_after f no_parts = f
trees_after f (part n e ps) = trees_after (with_tree f n (expanded f e)) ps

abbrev pub trees_in : Parts → Trees
trees_in ps = trees_after no_trees ps

-- 0 of a name that is known so far, and of one that is no name of `vars`
abbrev pub unknown_in : Parts → List Name → Name → ℕ
unknown_in scope seen n = cond (is_among n seen || not (is_some (part_named n scope))) 0 1

-- every name of `vars` with its tree, each of which reads names that are known before it
abbrev pub IsInOrder : Parts → List Name → Parts → Type 0
IsInOrder scope seen no_parts =
    (n : Name) → is_some (part_named n scope) ≡ true → is_among n seen ≡ true
IsInOrder scope seen (part n e ps) =
    (part_named n scope ≡ Some e) × (depth_in (unknown_in scope seen) e ≤ 0)
    × IsInOrder scope (n ∷ seen) ps
