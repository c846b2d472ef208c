-- Names of which each stands once.
use Rattle.std.proofs.Common.{◌≡◌, List, [], ◌∷◌, ◌++◌, Bool, true, false, not, ◌||◌, cond, bytes_eq, refl, sym, ap, ◌∙◌}
use Rattle.std.specs.List.{list_all}
use Rattle.pb_semantics.specs.Keeps.{is_among}
use Rattle.pb_semantics.proofs.Bools.{and-left, and-right, and-both, neither-both, neither-left, neither-right, not-true, or-left, or-right, true-false, untrue}
use Rattle.pb_semantics.proofs.Names.{own_name, same_name}
use Rattle.pb_semantics.proofs.PutSlots.{is_not}
use Rattle.pb_language.specs.Expression.{Name}
use Rattle.pb_language.specs.Plays.{add_hosts}
use Rattle.pb_language.specs.Theorem.{are_distinct}

pub turned : (n m : Name) → bytes_eq n m ≡ false → bytes_eq m n ≡ false
turned n m h = either (bytes_eq m n) refl where
  either : (q : Bool) → bytes_eq m n ≡ q → q ≡ false
  either true e = true-false (bytes_eq n m) (ap (λ x. bytes_eq x m) (sym (same_name m n e)) ∙ own_name m) h
  either false e = refl

-- a name behind others that are distinct is none of them

in_middle : (n : Name) (ks ns : List Name) → is_among n (ks ++ n ∷ ns) ≡ true
in_middle n [] ns = or-left (bytes_eq n n) (is_among n ns) (own_name n)
in_middle n (k ∷ ks) ns = or-right (bytes_eq n k) (is_among n (ks ++ n ∷ ns)) (in_middle n ks ns)

pub none_before : (n : Name) (ks ns : List Name) → are_distinct (ks ++ n ∷ ns) ≡ true → is_among n ks ≡ false
none_before n [] ns h = refl
none_before n (k ∷ ks) ns h =
    let later = ks ++ n ∷ ns in
    let first = not-true (is_among k later) (and-left (not (is_among k later)) (are_distinct later) h) in
    neither-both (bytes_eq n k) (is_among n ks) (other (bytes_eq n k) refl first) (none_before n ks ns (and-right (not (is_among k later)) (are_distinct later) h)) where
      other : (q : Bool) → bytes_eq n k ≡ q → is_among k (ks ++ n ∷ ns) ≡ false → q ≡ false
      other true e i = true-false (is_among n (ks ++ n ∷ ns)) (in_middle n ks ns) (ap (λ x. is_among x (ks ++ n ∷ ns)) (same_name n k e) ∙ i)
      other false e i = refl

-- the first of distinct names is none of the others, which are distinct

pub first_apart : (n : Name) (ns : List Name) → are_distinct (n ∷ ns) ≡ true → is_among n ns ≡ false
first_apart n ns h = not-true (is_among n ns) (and-left (not (is_among n ns)) (are_distinct ns) h)

pub rest_apart : (n : Name) (ns : List Name) → are_distinct (n ∷ ns) ≡ true → are_distinct ns ≡ true
rest_apart n ns h = and-right (not (is_among n ns)) (are_distinct ns) h

-- hosts that are added are distinct

among_last : (x : Name) (ns : List Name) (m : Name) → is_among x ns ≡ false → bytes_eq x m ≡ false → is_among x (ns ++ m ∷ []) ≡ false
among_last x [] m h i = neither-both (bytes_eq x m) false i refl
among_last x (n ∷ ns) m h i = neither-both (bytes_eq x n) (is_among x (ns ++ m ∷ [])) (neither-left (bytes_eq x n) (is_among x ns) h) (among_last x ns m (neither-right (bytes_eq x n) (is_among x ns) h) i)

last_distinct : (ns : List Name) (m : Name) → are_distinct ns ≡ true → is_among m ns ≡ false → are_distinct (ns ++ m ∷ []) ≡ true
last_distinct [] m h i = refl
last_distinct (n ∷ ns) m h i =
    let all = ns ++ m ∷ [] in
    and-both (not (is_among n all)) (are_distinct all) (is_not (is_among n all) (among_last n ns m (first_apart n ns h) (turned m n (neither-left (bytes_eq m n) (is_among m ns) i)))) (last_distinct ns m (rest_apart n ns h) (neither-right (bytes_eq m n) (is_among m ns) i))

pub added_distinct : (ns ms : List Name) → are_distinct ns ≡ true → are_distinct (add_hosts ns ms) ≡ true
added_distinct ns [] h = h
added_distinct ns (m ∷ ms) h = added_distinct (cond (is_among m ns) ns (ns ++ m ∷ [])) ms (either (is_among m ns) refl) where
  either : (q : Bool) → is_among m ns ≡ q → are_distinct (cond q ns (ns ++ m ∷ [])) ≡ true
  either true e = h
  either false e = last_distinct ns m h e

-- what holds of each of them holds of each that was added

all_first : (f : Name → Bool) (ns ms : List Name) → list_all f (ns ++ ms) ≡ true → list_all f ns ≡ true
all_first f [] ms h = refl
all_first f (n ∷ ns) ms h = and-both (f n) (list_all f ns) (and-left (f n) (list_all f (ns ++ ms)) h) (all_first f ns ms (and-right (f n) (list_all f (ns ++ ms)) h))

last_of_all : (f : Name → Bool) (ns : List Name) (m : Name) → list_all f (ns ++ m ∷ []) ≡ true → f m ≡ true
last_of_all f [] m h = and-left (f m) true h
last_of_all f (n ∷ ns) m h = last_of_all f ns m (and-right (f n) (list_all f (ns ++ m ∷ [])) h)

among_all : (f : Name → Bool) (x : Name) (ns : List Name) → is_among x ns ≡ true → list_all f ns ≡ true → f x ≡ true
among_all f x [] h a = untrue h
among_all f x (n ∷ ns) h a = either (bytes_eq x n) refl (λ k. among_all f x ns k (and-right (f n) (list_all f ns) a)) where
  either : (q : Bool) → bytes_eq x n ≡ q → (is_among x ns ≡ true → f x ≡ true) → f x ≡ true
  either true e k = ap f (same_name x n e) ∙ and-left (f n) (list_all f ns) a
  either false e k = k (sym (ap (λ q. q || is_among x ns) e) ∙ h)

-- of those before, and of those that are added
record Both (f : Name → Bool) (ns ms : List Name) : Type 0 where
  before : list_all f ns ≡ true
  added : list_all f ms ≡ true

both_all : (f : Name → Bool) (ns ms : List Name) → list_all f (add_hosts ns ms) ≡ true → Both f ns ms
both_all f ns [] h = record { before = h; added = refl }
both_all f ns (m ∷ ms) h = either (is_among m ns) refl (both_all f (cond (is_among m ns) ns (ns ++ m ∷ [])) ms h) where
  either : (q : Bool) → is_among m ns ≡ q → Both f (cond q ns (ns ++ m ∷ [])) ms → Both f ns (m ∷ ms)
  either true e b = record { before = b.before; added = and-both (f m) (list_all f ms) (among_all f m ns e b.before) b.added }
  either false e b = record { before = all_first f ns (m ∷ []) b.before; added = and-both (f m) (list_all f ms) (last_of_all f ns m b.before) b.added }

pub all_added : (f : Name → Bool) (ms : List Name) → list_all f (add_hosts [] ms) ≡ true → list_all f ms ≡ true
all_added f ms h = let b = both_all f [] ms h in b.added
