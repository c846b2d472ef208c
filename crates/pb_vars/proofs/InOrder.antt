-- Names of `vars` that are worked out in an order, beside the trees that they have in the definitions.
use Rattle.std.proofs.Common.{◌≡◌, ℕ, suc, ◌≤◌, List, [], ◌∷◌, Bool, true, false, not, ◌||◌, cond, Option, Some, None, option_map, is_some, refl, sym, ap, ◌∙◌, arith}
use Rattle.std.specs.Str.{bytes_eq}
use Rattle.pb_semantics.specs.Keeps.{is_among}
use Rattle.pb_semantics.proofs.Bools.{untrue}
use Rattle.pb_semantics.proofs.Names.{same_name}
use Rattle.pb_language.specs.Expression.{Name, Expression, Parts, no_parts, part}
use Rattle.pb_language.specs.Expansion.{expanded, part_named, trees, chain_length}
use Rattle.pb_syntax.specs.Aliases.{Trees, no_trees, with_tree, trees_after, trees_in, unknown_in, IsInOrder}
use Rattle.pb_vars.specs.Order.{StandBehind}
use Rattle.pb_vars.proofs.Whole.{same-expanded, trees-whole}

-- the same names under a tree's roots make the same whole tree
abbrev Same : Trees → Trees → (Name → ℕ) → ℕ → Type 0
Same f g h b = (m : Name) → h m ≤ b → f m ≡ g m

not-least : (m : ℕ) → suc m ≤ 0 → ⊥
not-least m h = omega (arith, h)

zero-least : (m : ℕ) → 0 ≤ m
zero-least m = omega arith

-- names that are known so far
known-none : (scope : Parts) (m : Name) (t : Option Expression) → cond (false || not (is_some t)) 0 1 ≤ 0 → t ≡ None
known-none scope m None l = refl
known-none scope m (Some e) l = absurd (not-least 0 l)

nothing-known : (T : Trees) (scope : Parts) (m : Name) → T m ≡ option_map (expanded T) (part_named m scope) → unknown_in scope [] m ≤ 0 → no_trees m ≡ T m
nothing-known T scope m whole l = sym (whole ∙ ap (option_map (expanded T)) (known-none scope m (part_named m scope) l))

one-known : (f T : Trees) (scope : Parts) (seen : List Name) (n m : Name) (x : Expression) (b : Bool) → bytes_eq m n ≡ b → Some x ≡ T n
    → (unknown_in scope seen m ≤ 0 → f m ≡ T m) → cond ((b || is_among m seen) || not (is_some (part_named m scope))) 0 1 ≤ 0 → cond b (Some x) (f m) ≡ T m
one-known f T scope seen n m x true q here old l = here ∙ ap T (sym (same_name m n q))
one-known f T scope seen n m x false q here old l = old l

all-known : (b : Bool) (t : Bool) → (t ≡ true → b ≡ true) → cond (b || not t) 0 1 ≤ 0
all-known true t h = zero-least 0
all-known false true h = untrue (h refl)
all-known false false h = zero-least 0

pub in-order : (T : Trees) (scope : Parts) → ((n : Name) → T n ≡ option_map (expanded T) (part_named n scope)) → (seen : List Name) (f : Trees) → Same f T (unknown_in scope seen) 0
    → (ps : Parts) → IsInOrder scope seen ps → (n : Name) → trees_after f ps n ≡ T n
in-order T scope whole seen f known no_parts h n = known n (all-known (is_among n seen) (is_some (part_named n scope)) (h n))
in-order T scope whole seen f known (part m e ps) h n =
    let tree : Some (expanded f e) ≡ T m = ap Some (same-expanded f T (unknown_in scope seen) 0 known e h.1) ∙ sym (whole m ∙ ap (option_map (expanded T)) h.0) in
    in-order T scope whole (m ∷ seen) (with_tree f m (expanded f e))
    (λ p l. one-known f T scope seen m p (expanded f e) (bytes_eq p m) refl tree (known p) l) ps h.2 n

-- names that stand behind those that they read are in order where each name of the scope is there
one-there : (b a : Bool) (e : Expression) (t : Option Expression) → a || is_some (cond b (Some e) t) ≡ true → (b || a) || is_some t ≡ true
one-there true a e t h = refl
one-there false a e t h = h

none-left : (a : Bool) → a || false ≡ true → a ≡ true
none-left true h = refl
none-left false h = h

pub all-in-order : (scope : Parts) (seen : List Name) (ps : Parts) → StandBehind scope seen ps
    → ((n : Name) → is_some (part_named n scope) ≡ true → is_among n seen || is_some (part_named n ps) ≡ true) → IsInOrder scope seen ps
all-in-order scope seen no_parts h all = λ n i. none-left (is_among n seen) (all n i)
all-in-order scope seen (part m e ps) h all =
    (h.0, h.1, all-in-order scope (m ∷ seen) ps h.2 (λ n i. one-there (bytes_eq n m) (is_among n seen) e (part_named n ps) (all n i)))

-- the trees of names in an order are those of the definitions
pub trees-in-order : (scope ps : Parts) → ((n : Name) → chain_length 9 scope n ≤ 8) → IsInOrder scope [] ps → (n : Name) → trees_in ps n ≡ trees scope n
trees-in-order scope ps short h =
    let whole : (n : Name) → trees scope n ≡ option_map (expanded (trees scope)) (part_named n scope) = trees-whole scope short in
    in-order (trees scope) scope whole [] no_trees (λ m l. nothing-known (trees scope) scope m (whole m) l) ps h
