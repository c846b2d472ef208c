-- The variables that are read where a task stands.
use Rattle.std.specs.Prelude.{◌≡◌, List, Some, None, Contains}
use Rattle.pb_language.specs.Expansion.{part_named}
use Rattle.pb_language.specs.Expression.{Name, Expression, Term, Root, variable, alias, other}
use Rattle.pb_language.specs.Expression.{Parts}
use Rattle.pb_reads.specs.Roots.{roots_in}

-- one of these roots is that variable, of the host, where no name of `vars` hides it, or of another
-- host; or what a name of `vars` stands for that one of them is reads it, its value in scope or the
-- tree beside it
pub data IsRead (scope : Parts) : List Root → Name → Type 0 where
  of_the_host : {rs : List Root} {n : Name} → Contains rs (variable n)
      → part_named n scope ≡ None → IsRead scope rs n
  of_another : {rs : List Root} {n : Name} (t : Term) → Contains rs (other t n)
      → IsRead scope rs n
  through : {rs : List Root} {n : Name} (m : Name) (e : Expression) → Contains rs (variable m)
      → part_named m scope ≡ Some e → IsRead scope (roots_in e) n → IsRead scope rs n
  in_a_tree : {rs : List Root} {n : Name} (m : Name) (e : Expression) → Contains rs (alias m e)
      → IsRead scope (roots_in e) n → IsRead scope rs n
