-- Names in the order of their bytes, each once.
use Rattle.std.proofs.Common.{◌≡◌, List, [], ◌∷◌, Bool, true, false, ◌||◌, bytes_eq, fold, refl, sym, ap, ◌∙◌}
use Rattle.std.specs.List.{list_all}
use Rattle.std.specs.Ordering.{is_eq, is_lt, match_ordering, nat_cmp, ordering_reverse}
use Rattle.std.specs.declared.cmp.Ordering.{Ordering}
use Rattle.std.specs.declared.cmp.Ordering.TheVariants.{Less, Equal, Greater}
use Rattle.std.specs.Cmp.Lexicographic.{slice_cmp}
use Rattle.std.proofs.lemmas.Cmp.{nat_list_cmp_total}
use Rattle.std.proofs.lemmas.Map.Text.{is_eq-slice_cmp}
use Rattle.pb_semantics.specs.Keeps.{is_among}
use Rattle.pb_semantics.proofs.Bools.{and-left, and-right, and-both, neither-both, or-left, true-false, untrue}
use Rattle.pb_semantics.proofs.Names.{own_name, same_name}
use Rattle.pb_semantics.proofs.PutSlots.{among_put, equal_name, is_not}
use Rattle.pb_language.specs.Expression.{Name}
use Rattle.pb_language.specs.Families.{put_name}
use Rattle.pb_language.specs.Theorem.{are_distinct}
use Rattle.pb_language.specs.Written.{all_group, ungrouped_group}
use Rattle.pb_laws.specs.PrintableInventory.{AreNames, are_ordered, is_before}

-- a name ahead of each of those
abbrev Ahead : Name → List Name → Type 0
Ahead n [] = Unit {0}
Ahead n (m ∷ ms) = (slice_cmp nat_cmp n m ≡ Less) × Ahead n ms

abbrev Ascend : List Name → Type 0
Ascend [] = Unit {0}
Ascend (n ∷ ns) = Ahead n ns × Ascend ns

is_less : (o : Ordering) → is_lt o ≡ true → o ≡ Less
is_less Less h = refl
is_less Equal h = untrue h
is_less Greater h = untrue h

pub less : (n m : Name) → is_before n m ≡ true → slice_cmp nat_cmp n m ≡ Less
less n m h = is_less (slice_cmp nat_cmp n m) h

pub back : (n m : Name) → slice_cmp nat_cmp n m ≡ Less → slice_cmp nat_cmp m n ≡ Greater
back n m h = nat_list_cmp_total.antisymm m n ∙ ap ordering_reverse h

ahead : (n : Name) (ns : List Name) → list_all (is_before n) ns ≡ true → Ahead n ns
ahead n [] h = tt
ahead n (m ∷ ms) h = (less n m (and-left (is_before n m) (list_all (is_before n) ms) h), ahead n ms (and-right (is_before n m) (list_all (is_before n) ms) h))

ascend : (ns : List Name) → are_ordered ns ≡ true → Ascend ns
ascend [] h = tt
ascend (n ∷ ns) h = (ahead n ns (and-left (list_all (is_before n) ns) (are_ordered ns) h), ascend ns (and-right (list_all (is_before n) ns) (are_ordered ns) h))

further : (n m : Name) (ms : List Name) → slice_cmp nat_cmp n m ≡ Less → Ahead m ms → Ahead n ms
further n m [] h a = tt
further n m (p ∷ ms) h a = (nat_list_cmp_total.trans n m p h a.0, further n m ms h a.1)

none_ahead : (n : Name) (ms : List Name) → Ahead n ms → is_among n ms ≡ false
none_ahead n [] a = refl
none_ahead n (m ∷ ms) a = neither-both (bytes_eq n m) (is_among n ms) (sym (is_eq-slice_cmp n m) ∙ ap is_eq a.0) (none_ahead n ms a.1)

apart : (ns : List Name) → Ascend ns → are_distinct ns ≡ true
apart [] a = refl
apart (n ∷ ns) a = and-both _ (are_distinct ns) (is_not (is_among n ns) (none_ahead n ns a.0)) (apart ns a.1)

pub ordered_apart : (ns : List Name) → are_ordered ns ≡ true → are_distinct ns ≡ true
ordered_apart ns h = apart ns (ascend ns h)

-- names that are put in keep the order

ahead_step : (o : Ordering) (q n m : Name) (ms os : List Name) → slice_cmp nat_cmp q n ≡ Less → Ahead q (m ∷ ms) → Ahead q os → Ahead q (match_ordering o (n ∷ m ∷ ms) (m ∷ ms) (m ∷ os))
ahead_step Less q n m ms os h a b = (h, a)
ahead_step Equal q n m ms os h a b = a
ahead_step Greater q n m ms os h a b = (a.0, b)

ahead_put : (q n : Name) (ms : List Name) → slice_cmp nat_cmp q n ≡ Less → Ahead q ms → Ahead q (put_name n ms)
ahead_put q n [] h a = (h, tt)
ahead_put q n (m ∷ ms) h a = ahead_step (slice_cmp nat_cmp n m) q n m ms (put_name n ms) h a (ahead_put q n ms h a.1)

reverse_less : (n m : Name) → slice_cmp nat_cmp n m ≡ Greater → slice_cmp nat_cmp m n ≡ Less
reverse_less n m h = nat_list_cmp_total.antisymm m n ∙ ap ordering_reverse h

ascend_step : (o : Ordering) (n m : Name) (ms os : List Name) → slice_cmp nat_cmp n m ≡ o → Ascend (m ∷ ms) → (slice_cmp nat_cmp m n ≡ Less → Ahead m os) → Ascend os
    → Ascend (match_ordering o (n ∷ m ∷ ms) (m ∷ ms) (m ∷ os))
ascend_step Less n m ms os e a b c = ((e, further n m ms e a.0), a)
ascend_step Equal n m ms os e a b c = a
ascend_step Greater n m ms os e a b c = (b (reverse_less n m e), c)

ascend_put : (n : Name) (ms : List Name) → Ascend ms → Ascend (put_name n ms)
ascend_put n [] a = (tt, tt)
ascend_put n (m ∷ ms) a = ascend_step (slice_cmp nat_cmp n m) n m ms (put_name n ms) refl a (λ h. ahead_put m n ms h a.0) (ascend_put n ms a.1)

abbrev put_names : List Name → List Name → List Name
put_names ms ns = fold (λ os n. put_name n os) ms ns

ascend_puts : (ms ns : List Name) → Ascend ms → Ascend (put_names ms ns)
ascend_puts ms [] a = a
ascend_puts ms (n ∷ ns) a = ascend_puts (put_name n ms) ns (ascend_put n ms a)

or_none : (a : Bool) → a ≡ a || false
or_none true = refl
or_none false = refl

or_mixed : (a b c : Bool) → (a || b) || c ≡ b || (a || c)
or_mixed true true c = refl
or_mixed true false c = refl
or_mixed false true c = refl
or_mixed false false c = refl

among_puts : (q : Name) (ms ns : List Name) → is_among q (put_names ms ns) ≡ is_among q ms || is_among q ns
among_puts q ms [] = or_none (is_among q ms)
among_puts q ms (n ∷ ns) = among_puts q (put_name n ms) ns ∙ ap (λ b. b || is_among q ns) (among_put q n ms) ∙ or_mixed (bytes_eq q n) (is_among q ms) (is_among q ns)

-- names in order are the same where each stands among both

own : (n : Name) (ns : List Name) → is_among n (n ∷ ns) ≡ true
own n ns = or-left (bytes_eq n n) (is_among n ns) (own_name n)

same_names : (ns ms : List Name) → Ascend ns → Ascend ms → ((q : Name) → is_among q ns ≡ is_among q ms) → ns ≡ ms
same_names [] [] a b h = refl
same_names [] (m ∷ ms) a b h = untrue (h m ∙ own m ms)
same_names (n ∷ ns) [] a b h = untrue (sym (h n) ∙ own n ns)
same_names (n ∷ ns) (m ∷ ms) a b h = by_order (slice_cmp nat_cmp n m) refl (same_names ns ms a.1 b.1) where
  tails : n ≡ m → (q : Name) (r : Bool) → bytes_eq q n ≡ r → is_among q ns ≡ is_among q ms
  tails e q true x = ap (λ y. is_among y ns) (same_name q n x) ∙ none_ahead n ns a.0 ∙ sym (ap (λ y. is_among y ms) (same_name q n x ∙ e) ∙ none_ahead m ms b.0)
  tails e q false x = sym (ap (λ r. r || is_among q ns) x) ∙ h q ∙ ap (λ r. r || is_among q ms) (ap (bytes_eq q) (sym e) ∙ x)

  by_order : (o : Ordering) → slice_cmp nat_cmp n m ≡ o → (((q : Name) → is_among q ns ≡ is_among q ms) → ns ≡ ms) → n ∷ ns ≡ m ∷ ms
  by_order Less e more = true-false (is_among n (m ∷ ms)) (sym (h n) ∙ own n ns) (none_ahead n (m ∷ ms) (e, further n m ms e b.0))
  by_order Equal e more = let one = equal_name n m e in λ j. one j ∷ more (λ q. tails one q (bytes_eq q n) refl) j
  by_order Greater e more = let first = reverse_less n m e in true-false (is_among m (n ∷ ns)) (h m ∙ own m ms) (none_ahead m (n ∷ ns) (first, further m n ns first a.0))

-- the names of groups with the two that are always there are those names

there : (a b : Bool) → (a ≡ true → b ≡ true) → a || b ≡ b
there true b h = sym (h refl)
there false b h = refl

is_there : (q n : Name) (ns : List Name) → is_among n ns ≡ true → bytes_eq q n ≡ true → is_among q ns ≡ true
is_there q n ns h e = ap (λ x. is_among x ns) (same_name q n e) ∙ h

pub names_put : (ns : List Name) → AreNames ns → fold (λ os n. put_name n os) [] (all_group ∷ ungrouped_group ∷ ns) ≡ ns
names_put ns h =
    let all = all_group ∷ ungrouped_group ∷ ns in
    same_names (put_names [] all) ns (ascend_puts [] all tt) (ascend ns h.ordered)
    (λ q. among_puts q [] all
    ∙ ap (λ b. bytes_eq q all_group || b) (there (bytes_eq q ungrouped_group) (is_among q ns) (is_there q ungrouped_group ns h.ungrouped))
    ∙ there (bytes_eq q all_group) (is_among q ns) (is_there q all_group ns h.all))
