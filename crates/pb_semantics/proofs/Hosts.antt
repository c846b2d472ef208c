-- Lists of names.
use Rattle.std.proofs.Common.{◌≡◌, ℕ, List, [], ◌∷◌, true, bytes_eq, ⊎_elim, refl}
use Rattle.pb_semantics.specs.Keeps.{is_among}
use Rattle.pb_semantics.specs.Below.{are_among}
use Rattle.pb_semantics.proofs.Bools.{untrue, and-left, and-right, and-both, or-left, or-right, or-cases}
use Rattle.pb_semantics.proofs.Names.{same_name, own_name}

pub among_up : (n : List ℕ) (ns ms : List (List ℕ)) → are_among ns ms ≡ true → is_among n ns ≡ true → is_among n ms ≡ true
among_up n [] ms h i = untrue i
among_up n (m ∷ ns) ms h i =
    ⊎_elim (λ x. rw (same_name n m x) (and-left (is_among m ms) (are_among ns ms) h)) (λ y. among_up n ns ms (and-right (is_among m ms) (are_among ns ms) h) y) (or-cases (bytes_eq n m) (is_among n ns) i)

pub all_among : (ns ms : List (List ℕ)) → ((n : List ℕ) → is_among n ns ≡ true → is_among n ms ≡ true) → are_among ns ms ≡ true
all_among [] ms f = refl
all_among (n ∷ ns) ms f =
    and-both (is_among n ms) (are_among ns ms) (f n (or-left (bytes_eq n n) (is_among n ns) (own_name n))) (all_among ns ms (λ m i. f m (or-right (bytes_eq m n) (is_among m ns) i)))

pub own_among : (ns : List (List ℕ)) → are_among ns ns ≡ true
own_among ns = all_among ns ns (λ n h. h)

pub among_through : (ns ms os : List (List ℕ)) → are_among ns ms ≡ true → are_among ms os ≡ true → are_among ns os ≡ true
among_through ns ms os h i = all_among ns os (λ n j. among_up n ms os i (among_up n ns ms h j))
