-- The names of `vars` that are worked out, each once.
use denote.Ref.{Bor}
use Rattle.std.proofs.Common.{◌≡◌, ◌∙◌, suc, ◌≤◌, List, [], ◌∷◌, length, Bool, true, false, not, ◌||◌, bytes_eq, cond, Option, Some, is_some, refl, sym, ap, ⊎_elim, arith}
use Rattle.std.specs.Cmp.{IsEquivalence}
use Rattle.std.specs.List.{AllByRecursion, IsDistinct}
use Rattle.std.specs.Set.{distinct_count, is_member}
use Rattle.std.proofs.lemmas.Map.Keys.{IsDistinct-head, IsDistinct-tail}
use Rattle.std.proofs.lemmas.Map.Made.{IsDistinct-from_count, distinct_count-le, length-from_keys}
use Rattle.pb_semantics.specs.Ascending.{are_ascending, is_below}
use Rattle.pb_semantics.specs.Keeps.{is_among}
use Rattle.pb_semantics.proofs.Ascending.{below-first, below-rest}
use Rattle.pb_semantics.proofs.Bools.{untrue, and-both, and-left, and-right, neither-both, neither-left, neither-right, not-true, or-cases, same_tests}
use Rattle.pb_semantics.proofs.Names.{own_name, same_name}
use Rattle.pb_language.specs.Expansion.{part_named}
use Rattle.pb_language.specs.Expression.{Name, Expression, Parts, no_parts, part}
use Rattle.pb_language.specs.Rules.{part_names}
use Rattle.pb_language.specs.Theorem.{are_distinct}
use Rattle.pb_template.specs.declared.entry.Entry.{Entry}
use Rattle.pb_vars.specs.Borrowed.{borrowed_view}
use Rattle.pb_vars.specs.Merging.{IsOrdered}
use Rattle.pb_vars.specs.Order.{StandBehind}
use Rattle.pb_vars.proofs.Ordered.{less-differs}
use Rattle.pb_reads.specs.Needed.{parts_among}

-- names are compared by their bytes
turned : (n m : Name) → bytes_eq n m ≡ true → bytes_eq m n ≡ true
turned n m h = ap (λ k. bytes_eq k n) (sym (same_name n m h)) ∙ own_name n

names-compare : IsEquivalence bytes_eq
names-compare = record {
  refl = own_name;
  symm = λ n m. same_tests (bytes_eq n m) (bytes_eq m n) (turned n m) (turned m n);
  congr = λ n m k h. ap (λ x. bytes_eq x k) (same_name n m h);
}

member-is : (n : Name) (ns : List Name) → is_member bytes_eq ns n ≡ is_among n ns
member-is n [] = refl
member-is n (m ∷ ms) = ap (λ q. bytes_eq n m || q) (member-is n ms)

-- names in the order of their bytes differ
apart : (n : Name) (ms : List Name) → is_below n ms ≡ true → AllByRecursion (λ m. bytes_eq n m ≡ false) ms
apart n [] h = tt
apart n (m ∷ ms) h = (less-differs n m (below-first n m ms h), apart n ms (below-rest n m ms h))

differ-ordered : (ns : List Name) → are_ascending ns ≡ true → IsDistinct bytes_eq ns
unfolding IsDistinct
differ-ordered [] h = tt
differ-ordered (n ∷ ns) h = (apart n ns (and-left (is_below n ns) (are_ascending ns) h), differ-ordered ns (and-right (is_below n ns) (are_ascending ns) h))

-- in the words of the definitions
none-here : (n : Name) (ms : List Name) → AllByRecursion (λ m. bytes_eq n m ≡ false) ms → is_among n ms ≡ false
none-here n [] h = refl
none-here n (m ∷ ms) h = ap (λ q. q || is_among n ms) h.0 ∙ none-here n ms h.1

distinct-are : (ns : List Name) → IsDistinct bytes_eq ns → are_distinct ns ≡ true
distinct-are [] h = refl
distinct-are (n ∷ ns) h =
    and-both (not (is_among n ns)) (are_distinct ns) (ap not (none-here n ns (IsDistinct-head bytes_eq n ns h))) (distinct-are ns (IsDistinct-tail bytes_eq n ns h))

-- a name has a value where it is among the names
named-here : (q : Bool) (e : Expression) (o : Option Expression) (b : Bool) → is_some o ≡ b → is_some (cond q (Some e) o) ≡ q || b
named-here true e o b h = refl
named-here false e o b h = h

named-is : (n : Name) (ps : Parts) → is_some (part_named n ps) ≡ is_among n (part_names ps)
named-is n no_parts = refl
named-is n (part m e ps) = named-here (bytes_eq n m) e (part_named n ps) (is_among n (part_names ps)) (named-is n ps)

behind-in : (scope : Parts) (seen : List Name) (ps : Parts) → StandBehind scope seen ps → (n : Name) → is_among n (part_names ps) ≡ true → is_among n (part_names scope) ≡ true
behind-in scope seen no_parts h n i = untrue i
behind-in scope seen (part m e ps) h n i =
    ⊎_elim
    (λ q. ap (λ k. is_among k (part_names scope)) (same_name n m q) ∙ sym (named-is m scope) ∙ ap is_some h.0)
    (λ rest. behind-in scope (m ∷ seen) ps h.2 n rest)
    (or-cases (bytes_eq n m) (is_among n (part_names ps)) i)

-- all names of the scope, and no more than there are: each is there once
order-once : (scope ps : Parts) → IsOrdered scope → StandBehind scope [] ps → ((n : Name) → is_some (part_named n scope) ≡ true → is_some (part_named n ps) ≡ true)
    → length (part_names ps) ≤ length (part_names scope) → are_distinct (part_names ps) ≡ true
order-once scope ps ordered behind all few =
    let ns = part_names scope in
    let ms = part_names ps in
    let same : (n : Name) → is_member bytes_eq ns n ≡ is_member bytes_eq ms n = λ n.
    member-is n ns
    ∙ same_tests (is_among n ns) (is_among n ms) (λ h. sym (named-is n ps) ∙ all n (named-is n scope ∙ h)) (behind-in scope [] ps behind n)
    ∙ sym (member-is n ms) in
    let count : length ns ≡ distinct_count bytes_eq ms = length-from_keys names-compare ns ms (differ-ordered ns ordered) same in
    let most : distinct_count bytes_eq ms ≤ length ms = distinct_count-le bytes_eq ms in
    distinct-are ms (IsDistinct-from_count names-compare ms (omega (arith, few, count, most)))

-- those of them that are kept
kept-apart : (f : Name → Bool) (n : Name) (ps : Parts) → is_among n (part_names ps) ≡ false → is_among n (part_names (parts_among f ps)) ≡ false
kept-apart f n no_parts h = refl
kept-apart f n (part m e ps) h = by (f m) (kept-apart f n ps (neither-right (bytes_eq n m) (is_among n (part_names ps)) h)) where
  by : (b : Bool) → is_among n (part_names (parts_among f ps)) ≡ false → is_among n (part_names (cond b (part m e (parts_among f ps)) (parts_among f ps))) ≡ false
  by true rest = neither-both (bytes_eq n m) (is_among n (part_names (parts_among f ps))) (neither-left (bytes_eq n m) (is_among n (part_names ps)) h) rest
  by false rest = rest

kept-once : (f : Name → Bool) (ps : Parts) → are_distinct (part_names ps) ≡ true → are_distinct (part_names (parts_among f ps)) ≡ true
kept-once f no_parts h = refl
kept-once f (part m e ps) h =
    by (f m) (kept-apart f m ps (not-true (is_among m (part_names ps)) (and-left (not (is_among m (part_names ps))) (are_distinct (part_names ps)) h)))
    (kept-once f ps (and-right (not (is_among m (part_names ps))) (are_distinct (part_names ps)) h)) where
      by : (b : Bool) → is_among m (part_names (parts_among f ps)) ≡ false → are_distinct (part_names (parts_among f ps)) ≡ true
          → are_distinct (part_names (cond b (part m e (parts_among f ps)) (parts_among f ps))) ≡ true
      by true out rest = and-both (not (is_among m (part_names (parts_among f ps)))) (are_distinct (part_names (parts_among f ps))) (ap not out) rest
      by false out rest = rest

names-many : (es : List (Bor Entry)) → length (part_names (borrowed_view es)) ≡ length es
names-many [] = refl
names-many (e ∷ es) = ap suc (names-many es)

pub needed-once : (scope : Parts) (es : List (Bor Entry)) (f : Name → Bool) → IsOrdered scope → StandBehind scope [] (borrowed_view es)
    → ((n : Name) → is_some (part_named n scope) ≡ true → is_some (part_named n (borrowed_view es)) ≡ true) → length es ≤ length (part_names scope)
    → are_distinct (part_names (parts_among f (borrowed_view es))) ≡ true
needed-once scope es f ordered behind all few =
    let many = names-many es in
    let most : length (part_names (borrowed_view es)) ≤ length (part_names scope) = omega (arith, many, few) in
    kept-once f (borrowed_view es) (order-once scope (borrowed_view es) ordered behind all most)
