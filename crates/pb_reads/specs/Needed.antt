-- The names of `vars` that roots reach, and trees that are the same at roots.
use Rattle.std.specs.Prelude.{◌≡◌, List, Bool, cond, Some, Contains}
use Rattle.pb_language.specs.Expansion.{expanded_root, part_named}
use Rattle.pb_language.specs.Expression.{Name, Expression, Root, variable, Parts, no_parts, part}
use Rattle.pb_syntax.specs.Aliases.{Trees}
use Rattle.pb_reads.specs.Roots.{roots_in}

-- one of these roots has that name, or the value of a name that one of them has reaches it
pub data IsReached (scope : Parts) : List Root → Name → Type 0 where
  itself : {rs : List Root} {n : Name} → Contains rs (variable n) → IsReached scope rs n
  behind : {rs : List Root} {n : Name} (m : Name) (e : Expression) → Contains rs (variable m)
      → part_named m scope ≡ Some e → IsReached scope (roots_in e) n → IsReached scope rs n

-- each of these roots is the same with either trees
abbrev pub AreSameAt : List Root → Trees → Trees → Type 0
AreSameAt rs f g = (r : Root) → Contains rs r → expanded_root f r ≡ expanded_root g r

-- those of which this is so
abbrev pub parts_among : (Name → Bool) → Parts → Parts
parts_among f no_parts = no_parts
parts_among f (part n e ps) = cond (f n) (part n e (parts_among f ps)) (parts_among f ps)
