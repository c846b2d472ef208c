-- Names in scope: whether a chain is too long, and values that come to the same.
use Rattle.std.proofs.Common.{◌≡◌, ℕ, zero, suc, ◌≤◌, Bool, true, false, cond, nat_lt, Option, Some, None, option_map, is_some, bytes_eq, refl, sym, ap, ◌∙◌, arith}
use Rattle.std.proofs.Math.Path.{fun_ext}
use Rattle.pb_semantics.proofs.Bools.{untrue, neither-left, neither-right, neither-both}
use Rattle.pb_semantics.proofs.Names.{same_name}
use Rattle.pb_language.specs.Expression.{Name, Expression, Parts, no_parts, part}
use Rattle.pb_language.specs.Expansion.{expanded, part_named, tree_of, trees, depth_in, suc_depth, chain_length}
use Rattle.pb_language.specs.Rules.{any_too_long}
use Rattle.pb_vars.specs.Same.{HaveSame}
use Rattle.pb_vars.proofs.Whole.{trees-whole}

abbrev pub is_long : Parts → Name → Bool
is_long scope n = nat_lt 8 (chain_length 9 scope n)

-- no chain is too long: of the names that a list has, and of all
short-found : (scope : Parts) (n m : Name) (b : Bool) (e : Expression) (t : Option Expression) → bytes_eq n m ≡ b → is_some (cond b (Some e) t) ≡ true
    → is_long scope m ≡ false → (is_some t ≡ true → is_long scope n ≡ false) → is_long scope n ≡ false
short-found scope n m true e t q i here later = ap (is_long scope) (same_name n m q) ∙ here
short-found scope n m false e t q i here later = later i

short-listed : (scope ps : Parts) → any_too_long scope ps ≡ false → (n : Name) → is_some (part_named n ps) ≡ true → is_long scope n ≡ false
short-listed scope no_parts h n i = untrue i
short-listed scope (part m e ps) h n i =
    short-found scope n m (bytes_eq n m) e (part_named n ps) refl i (neither-left (is_long scope m) (any_too_long scope ps) h)
    (short-listed scope ps (neither-right (is_long scope m) (any_too_long scope ps) h) n)

short-under : (f : Expression → ℕ) (t : Option Expression) → (is_some t ≡ true → nat_lt 8 (suc_depth f t) ≡ false) → nat_lt 8 (suc_depth f t) ≡ false
short-under f None h = refl
short-under f (Some e) h = h refl

pub all-short : (scope : Parts) → any_too_long scope scope ≡ false → (n : Name) → is_long scope n ≡ false
all-short scope h n = short-under (depth_in (chain_length 8 scope)) (part_named n scope) (short-listed scope scope h n)

none-long : (scope ps : Parts) → ((n : Name) → is_long scope n ≡ false) → any_too_long scope ps ≡ false
none-long scope no_parts h = refl
none-long scope (part m e ps) h = neither-both (is_long scope m) (any_too_long scope ps) (h m) (none-long scope ps h)

at-most : (m : ℕ) → nat_lt 8 m ≡ false → m ≤ 8
at-most m h = grind (arith, h)

pub short-chains : (scope : Parts) → any_too_long scope scope ≡ false → (n : Name) → chain_length 9 scope n ≤ 8
short-chains scope h n = at-most (chain_length 9 scope n) (all-short scope h n)

pub whole-trees : (scope : Parts) → any_too_long scope scope ≡ false → (n : Name) → trees scope n ≡ option_map (expanded (trees scope)) (part_named n scope)
whole-trees scope h = trees-whole scope (short-chains scope h)

-- the same values have the same trees and chains

same-tree : (k : ℕ) (ps qs : Parts) → HaveSame ps qs → tree_of k ps ≡ tree_of k qs
same-tree zero ps qs h = refl
same-tree (suc k) ps qs h = fun_ext (λ n. ap (λ f. option_map (expanded f) (part_named n ps)) (same-tree k ps qs h) ∙ ap (option_map (expanded (tree_of k qs))) (h.at n))

pub same-trees : (ps qs : Parts) → HaveSame ps qs → trees ps ≡ trees qs
same-trees ps qs h = same-tree 17 ps qs h

same-chains : (k : ℕ) (ps qs : Parts) → HaveSame ps qs → chain_length k ps ≡ chain_length k qs
same-chains zero ps qs h = refl
same-chains (suc k) ps qs h = fun_ext (λ n. ap (λ f. suc_depth (depth_in f) (part_named n ps)) (same-chains k ps qs h) ∙ ap (suc_depth (depth_in (chain_length k qs))) (h.at n))

short-too : (ps qs : Parts) → HaveSame ps qs → any_too_long ps ps ≡ false → any_too_long qs qs ≡ false
short-too ps qs h s = none-long qs qs (λ n. ap (λ f. nat_lt 8 (f n)) (sym (same-chains 9 ps qs h)) ∙ all-short ps s n)

same-answers : (a b : Bool) → (a ≡ false → b ≡ false) → (b ≡ false → a ≡ false) → a ≡ b
same-answers true true f g = refl
same-answers true false f g = g refl
same-answers false b f g = sym (f refl)

turned : (ps qs : Parts) → HaveSame ps qs → HaveSame qs ps
turned ps qs h = record { at = λ n. sym (h.at n) }

pub same-lengths : (ps qs : Parts) → HaveSame ps qs → any_too_long ps ps ≡ any_too_long qs qs
same-lengths ps qs h = same-answers (any_too_long ps ps) (any_too_long qs qs) (short-too ps qs h) (short-too qs ps (turned ps qs h))
