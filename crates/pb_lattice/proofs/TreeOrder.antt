-- Trees in order.
use Rattle.std.proofs.Common.{◌≡◌, ℕ, ◌==◌, List, length, nat_le, Bool, true, false, not, ◌&&◌, ◌||◌, refl, arith}
use Rattle.std.proofs.lemmas.Bool.Decides.{nat_tests}
use Rattle.pb_semantics.specs.Kind.{KindData}
use Rattle.pb_semantics.specs.Below.{below}
use Rattle.pb_semantics.specs.Join.{join}
use Rattle.pb_semantics.specs.Well.{Well}
use Rattle.pb_semantics.proofs.Bools.{untrue, and-left, and-right, and-both, or-right, own_presence}
use Rattle.pb_semantics.proofs.Order.{own_below}
use Rattle.pb_semantics.proofs.JoinAbove.{joins_above}
use Rattle.pb_semantics.proofs.JoinWell.{joins_well}
use Rattle.pb_language.specs.Expression.{Name}
use Rattle.pb_lattice.specs.Trees.{Tree, bare, known, fork, fits, left_half, right_half, WellTree, is_uncertain, tree_below, uncertain, tree_join, are_alike, IsJoin}

pub tree_own : (t : Tree) → WellTree t → tree_below t t ≡ true
tree_own bare w = refl
tree_own (known a k) w = and-both (a || not a) (below k k) (own_presence a) (own_below k w)
tree_own (fork l r) w = and-both (tree_below l l) (tree_below r r) (tree_own l w.0) (tree_own r w.1)

uncertain_own : (t : Tree) → WellTree t → (is_uncertain (uncertain t) ≡ true) × (tree_below t (uncertain t) ≡ true)
uncertain_own bare w = (refl, refl)
uncertain_own (known a k) w = (refl, and-both (a || true) (below k k) (or-right a true refl) (own_below k w))
uncertain_own (fork l r) w =
    let x = uncertain_own l w.0 in
    let y = uncertain_own r w.1 in
    (and-both (is_uncertain (uncertain l)) (is_uncertain (uncertain r)) x.0 y.0, and-both (tree_below l (uncertain l)) (tree_below r (uncertain r)) x.1 y.1)

first_certain : (a b : Bool) → a || not (a && b) ≡ true
first_certain true b = refl
first_certain false b = refl

second_certain : (a b : Bool) → b || not (a && b) ≡ true
second_certain true true = refl
second_certain true false = refl
second_certain false b = or-right b true refl

-- the join is above both
pub trees_above : (t u : Tree) → are_alike t u ≡ true → WellTree t → WellTree u → (tree_below t (tree_join t u) ≡ true) × (tree_below u (tree_join t u) ≡ true)
trees_above bare u a w v = uncertain_own u v
trees_above (known a k) bare c w v = (and-both (a || true) (below k k) (or-right a true refl) (own_below k w), refl)
trees_above (known a k) (known b m) c w v =
    let both = joins_above k m w v in
    (and-both (a || not (a && b)) (below k (join k m)) (first_certain a b) both.0, and-both (b || not (a && b)) (below m (join k m)) (second_certain a b) both.1)
trees_above (known a k) (fork p q) c w v = untrue c
trees_above (fork l r) bare c w v = let x = uncertain_own (fork l r) w in (x.1, x.0)
trees_above (fork l r) (known b m) c w v = untrue c
trees_above (fork l r) (fork p q) c w v =
    let x = trees_above l p (and-left (are_alike l p) (are_alike r q) c) w.0 v.0 in
    let y = trees_above r q (and-right (are_alike l p) (are_alike r q) c) w.1 v.1 in
    (and-both (tree_below l (tree_join l p)) (tree_below r (tree_join r q)) x.0 y.0, and-both (tree_below p (tree_join l p)) (tree_below q (tree_join r q)) x.1 y.1)

-- where the first is below the second, that is the join
pub second_joins : (t u : Tree) → are_alike t u ≡ true → WellTree t → WellTree u → tree_below t u ≡ true → IsJoin t u u
second_joins t u a w v h = record { first = h; second = tree_own u v; least = (trees_above t u a w v).1; fitting = λ ns f g. g }

pub first_joins : (t u : Tree) → are_alike t u ≡ true → WellTree t → WellTree u → tree_below u t ≡ true → IsJoin t u t
first_joins t u a w v h = record { first = tree_own t w; second = h; least = (trees_above t u a w v).0; fitting = λ ns f g. f }

-- of one name
pub bare_join : IsJoin bare bare bare
bare_join = record { first = refl; second = refl; least = refl; fitting = λ ns f g. refl }

own_known : (a : Bool) (k : KindData) → Well k → tree_below (known a k) (known a k) ≡ true
own_known a k w = tree_own (known a k) w

pub known_join : (a b : Bool) (k m : KindData) → Well k → Well m → IsJoin (known a k) (known b m) (known (a && b) (join k m))
known_join a b k m w v =
    let up = trees_above (known a k) (known b m) refl w v in
    record { first = up.0; second = up.1; least = own_known (a && b) (join k m) (joins_well k m w v); fitting = λ ns f g. f }

pub bare_known_join : (b : Bool) (m : KindData) → Well m → IsJoin bare (known b m) (known false m)
bare_known_join b m v = let up = trees_above bare (known b m) refl tt v in record { first = up.0; second = up.1; least = own_known false m v; fitting = λ ns f g. g }

pub known_bare_join : (a : Bool) (k : KindData) → Well k → IsJoin (known a k) bare (known false k)
known_bare_join a k w = let up = trees_above (known a k) bare refl w tt in record { first = up.0; second = up.1; least = own_known false k w; fitting = λ ns f g. f }

-- of halves
pub fits_two : (l r : Tree) (ns : List Name) → fits (fork l r) ns ≡ true → nat_le 2 (length ns) ≡ true
fits_two l r ns h = and-left (nat_le 2 (length ns)) (fits l (left_half ns) && fits r (right_half ns)) h

pub fits_left : (l r : Tree) (ns : List Name) → fits (fork l r) ns ≡ true → fits l (left_half ns) ≡ true
fits_left l r ns h =
    and-left (fits l (left_half ns)) (fits r (right_half ns)) (and-right (nat_le 2 (length ns)) (fits l (left_half ns) && fits r (right_half ns)) h)

pub fits_right : (l r : Tree) (ns : List Name) → fits (fork l r) ns ≡ true → fits r (right_half ns) ≡ true
fits_right l r ns h =
    and-right (fits l (left_half ns)) (fits r (right_half ns)) (and-right (nat_le 2 (length ns)) (fits l (left_half ns) && fits r (right_half ns)) h)

pub fits_fork : (l r : Tree) (ns : List Name) → nat_le 2 (length ns) ≡ true → fits l (left_half ns) ≡ true → fits r (right_half ns) ≡ true → fits (fork l r) ns ≡ true
fits_fork l r ns t x y =
    and-both (nat_le 2 (length ns)) (fits l (left_half ns) && fits r (right_half ns)) t (and-both (fits l (left_half ns)) (fits r (right_half ns)) x y)

pub fork_join : (l r p q v w : Tree) → IsJoin l p v → IsJoin r q w → IsJoin (fork l r) (fork p q) (fork v w)
fork_join l r p q v w x y = record {
  first = and-both (tree_below l v) (tree_below r w) x.first y.first;
  second = and-both (tree_below p v) (tree_below q w) x.second y.second;
  least = and-both (tree_below v (tree_join l p)) (tree_below w (tree_join r q)) x.least y.least;
  fitting = λ ns f g. fits_fork v w ns (fits_two l r ns f) (x.fitting (left_half ns) (fits_left l r ns f) (fits_left p q ns g)) (y.fitting (right_half ns) (fits_right l r ns f) (fits_right p q ns g));
}

pub bare_fork_join : (p q v w : Tree) → IsJoin bare p v → IsJoin bare q w → IsJoin bare (fork p q) (fork v w)
bare_fork_join p q v w x y = record {
  first = and-both (is_uncertain v) (is_uncertain w) x.first y.first;
  second = and-both (tree_below p v) (tree_below q w) x.second y.second;
  least = and-both (tree_below v (uncertain p)) (tree_below w (uncertain q)) x.least y.least;
  fitting = λ ns f g. fits_fork v w ns (fits_two p q ns g) (x.fitting (left_half ns) refl (fits_left p q ns g)) (y.fitting (right_half ns) refl (fits_right p q ns g));
}

join_with_bare : (t : Tree) → tree_join t bare ≡ uncertain t
join_with_bare bare = refl
join_with_bare (known a k) = refl
join_with_bare (fork l r) = refl

pub fork_bare_join : (l r v w : Tree) → IsJoin l bare v → IsJoin r bare w → IsJoin (fork l r) bare (fork v w)
fork_bare_join l r v w x y = record {
  first = and-both (tree_below l v) (tree_below r w) x.first y.first;
  second = and-both (is_uncertain v) (is_uncertain w) x.second y.second;
  least = and-both (tree_below v (uncertain l)) (tree_below w (uncertain r)) (rw join_with_bare at x.least) (rw join_with_bare at y.least);
  fitting = λ ns f g. fits_fork v w ns (fits_two l r ns f) (x.fitting (left_half ns) (fits_left l r ns f) refl) (y.fitting (right_half ns) (fits_right l r ns f) refl);
}

apart : (n : ℕ) → nat_le 2 n ≡ true → n == 1 ≡ true → ⊥
apart n h e = grind (arith, nat_tests)

-- trees over the same names are alike
pub fits_alike : (t u : Tree) (ns : List Name) → fits t ns ≡ true → fits u ns ≡ true → are_alike t u ≡ true
fits_alike bare u ns f g = refl
fits_alike (known a k) bare ns f g = refl
fits_alike (known a k) (known b m) ns f g = refl
fits_alike (known a k) (fork p q) ns f g = absurd (apart (length ns) (fits_two p q ns g) f)
fits_alike (fork l r) bare ns f g = refl
fits_alike (fork l r) (known b m) ns f g = absurd (apart (length ns) (fits_two l r ns f) g)
fits_alike (fork l r) (fork p q) ns f g =
    and-both (are_alike l p) (are_alike r q) (fits_alike l p (left_half ns) (fits_left l r ns f) (fits_left p q ns g)) (fits_alike r q (right_half ns) (fits_right l r ns f) (fits_right p q ns g))
