-- The roots that are reached through names of `vars`, and the names that they tell.
use denote.Ref.{Bor}
use Rattle.std.specs.Prelude.{ℕ, List, [], ◌∷◌, ◌++◌, cond, map, Option, Some, None, is_some}
use Rattle.std.specs.BTreeSet.{BTreeSet}
use Rattle.pb_semantics.specs.Keeps.{is_among}
use Rattle.pb_language.specs.Expansion.{part_named}
use Rattle.pb_language.specs.Expression.{Name, Expression, Root, variable, alias, other, member}
use Rattle.pb_language.specs.Expression.{Parts, no_parts, part}
use Rattle.pb_reads.specs.Roots.{roots_in}

-- the names in a set
abbrev pub names_in : BTreeSet (Bor (List ℕ)) → List Name
names_in ns = map (λ n. n.now) ns.keys

abbrev pub own_name : Root → List Name
own_name (variable n) = n ∷ []
own_name (alias n e) = []
own_name (other t n) = []
own_name (member g i) = []

-- the variables of the host itself, and names of `vars`
abbrev pub own_names : List Root → List Name
own_names [] = []
own_names (r ∷ rs) = own_name r ++ own_names rs

abbrev pub value_roots : Option Expression → List Root
value_roots None = []
value_roots (Some e) = roots_in e

-- with the roots of the value of a name that they have
abbrev pub with_value : Parts → Name → List Root → List Root
with_value scope n rs =
    cond (is_among n (own_names rs)) (rs ++ value_roots (part_named n scope)) rs

-- from the last of these names to the first
abbrev pub reached : Parts → Parts → List Root → List Root
reached scope no_parts rs = rs
reached scope (part n e ps) rs = with_value scope n (reached scope ps rs)

abbrev pub told_name : Parts → Root → List Name
told_name scope (variable n) = cond (is_some (part_named n scope)) [] (n ∷ [])
told_name scope (alias n e) = []
told_name scope (other t n) = n ∷ []
told_name scope (member g i) = []

-- the variables that they are, of any host, without names of `vars`
abbrev pub told_names : Parts → List Root → List Name
told_names scope [] = []
told_names scope (r ∷ rs) = told_name scope r ++ told_names scope rs
