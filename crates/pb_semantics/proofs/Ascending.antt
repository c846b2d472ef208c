-- Names in the order of their bytes, one below the other.
use Rattle.std.proofs.Common.{◌≡◌, ℕ, List, [], ◌∷◌, true, refl, ap, ◌∙◌, nat_cmp}
use Rattle.std.specs.Cmp.Lexicographic.{slice_cmp}
use Rattle.std.specs.Ordering.{is_lt, ordering_reverse, match_ordering}
use Rattle.std.specs.List.{fold}
use Rattle.std.specs.declared.cmp.Ordering.{Ordering}
use Rattle.std.specs.declared.cmp.Ordering.TheVariants.{Less, Equal, Greater}
use Rattle.std.proofs.lemmas.Cmp.{nat_list_cmp_total}
use Rattle.pb_semantics.specs.Ascending.{are_ascending, is_below}
use Rattle.pb_semantics.proofs.Bools.{untrue, and-left, and-right, and-both}

pub is-less : (o : Ordering) → is_lt o ≡ true → o ≡ Less
is-less Less h = refl
is-less Equal h = untrue h
is-less Greater h = untrue h

pub below-first : (n m : List ℕ) (ms : List (List ℕ)) → is_below n (m ∷ ms) ≡ true → slice_cmp nat_cmp n m ≡ Less
below-first n m ms h = is-less (slice_cmp nat_cmp n m) (and-left (is_lt (slice_cmp nat_cmp n m)) (is_below n ms) h)

pub below-rest : (n m : List ℕ) (ms : List (List ℕ)) → is_below n (m ∷ ms) ≡ true → is_below n ms ≡ true
below-rest n m ms h = and-right (is_lt (slice_cmp nat_cmp n m)) (is_below n ms) h

pub below-both : (n m : List ℕ) (ms : List (List ℕ)) → slice_cmp nat_cmp n m ≡ Less → is_below n ms ≡ true → is_below n (m ∷ ms) ≡ true
below-both n m ms h b = and-both (is_lt (slice_cmp nat_cmp n m)) (is_below n ms) (ap is_lt h) b

-- what is below a name is below those that the name is below
pub below-through : (n m : List ℕ) (ms : List (List ℕ)) → slice_cmp nat_cmp n m ≡ Less → is_below m ms ≡ true → is_below n ms ≡ true
below-through n m [] h b = refl
below-through n m (k ∷ ks) h b =
    below-both n k ks (nat_list_cmp_total.trans n m k h (below-first m k ks b)) (below-through n m ks h (below-rest m k ks b))
