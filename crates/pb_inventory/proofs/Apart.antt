-- Names of which each stands once: those of groups and of hosts, and how many they can be.
use Rattle.std.proofs.Common.{◌≡◌, ◌≢◌, ℕ, zero, suc, ◌<◌, ◌≤◌, List, [], ◌∷◌, ◌++◌, length, Bool, true, false, not, ◌||◌, cond, bytes_eq, nat_cmp, refl, sym, ap, ◌∙◌, inl, inr, arith}
use Rattle.std.specs.List.{flat_map, fold, list_any}
use Rattle.std.specs.Cmp.Lexicographic.{slice_cmp}
use Rattle.std.specs.Ordering.{match_ordering, ordering_reverse, is_eq}
use Rattle.std.specs.declared.cmp.Ordering.{Ordering}
use Rattle.std.specs.declared.cmp.Ordering.TheVariants.{Less, Equal, Greater}
use Rattle.std.proofs.lemmas.Bool.{and_from, and_parts, cases_Bool, cond_both, cond-false, false≢true, not-true, not_from_false, or_cases, or_from, or_left, or_parts, or_right}
use Rattle.std.proofs.lemmas.Cmp.{nat_list_cmp_total}
use Rattle.std.proofs.lemmas.List.{length-map}
use Rattle.std.proofs.lemmas.Map.Text.{is_eq-slice_cmp}
use Rattle.pb_semantics.specs.Keeps.{is_among}
use Rattle.pb_semantics.proofs.Names.{own_name, same_name}
use Rattle.pb_semantics.proofs.PutSlots.{among_put}
use Rattle.pb_language.specs.Expression.{Name}
use Rattle.pb_language.specs.Families.{group_names, host_order, own_children, put_name}
use Rattle.pb_language.specs.Plays.{add_hosts}
use Rattle.pb_language.specs.Written.{Written, all_group, listed_hosts, ungrouped_group}
use Rattle.pb_inventory.specs.Numbered.{are_apart, name_of, written_names}

is_among-joined : (q : Name) (ns ms : List Name) → is_among q (ns ++ ms) ≡ (is_among q ns || is_among q ms)
is_among-joined q [] ms = refl
is_among-joined q (n ∷ ns) ms = elim (bytes_eq q n) as (λ b. (b || is_among q (ns ++ ms)) ≡ (b || is_among q ns || is_among q ms)) [ true ↦ refl | false ↦ is_among-joined q ns ms ]

-- a name stands among those that it begins
pub is_among-head : (n : Name) (ns : List Name) → is_among n (n ∷ ns) ≡ true
is_among-head n ns = or_left (bytes_eq n n) (is_among n ns) (own_name n)

-- the name at a place of a list stands among it
pub is_among-name_of : (ns : List Name) (i : ℕ) → i < length ns → is_among (name_of ns i) ns ≡ true
is_among-name_of [] i lt = absurd (omega (arith, lt))
is_among-name_of (n ∷ ns) zero lt = is_among-head n ns
is_among-name_of (n ∷ ns) (suc i) lt = or_right (bytes_eq (name_of ns i) n) (is_among (name_of ns i) ns) (is_among-name_of ns i (omega (arith, lt)))

-- a name that stands among others has a place there
pub place-of_name : (n : Name) (ns : List Name) → is_among n ns ≡ true → (i : ℕ) × (i < length ns) × (name_of ns i ≡ n)
place-of_name n [] h = absurd (false≢true h)
place-of_name n (m ∷ ms) h = elim (or_cases (bytes_eq n m) (is_among n ms) h) [
  | inl e ↦ (0, (omega arith), sym (same_name n m e))
  | inr r ↦ let p = place-of_name n ms r in (suc p.0, (omega (arith, p.1)), p.2)
]

-- a name that stands among some is not one that doesn't
pub differs : (n m : Name) (ns : List Name) → is_among n ns ≡ true → is_among m ns ≡ false → bytes_eq n m ≡ false
differs n m ns h none = elim (bytes_eq n m) as (λ b. bytes_eq n m ≡ b → b ≡ false) [
  | true ↦ λ e. absurd (false≢true (sym none ∙ ap (λ x. is_among x ns) (sym (same_name n m e)) ∙ h))
  | false ↦ λ e. refl
] refl

-- names that are not the same have not the same bytes
pub unlike : (n m : Name) → n ≢ m → bytes_eq n m ≡ false
unlike n m h = elim (bytes_eq n m) as (λ b. bytes_eq n m ≡ b → b ≡ false) [
  | true ↦ λ e. absurd (h (same_name n m e))
  | false ↦ λ e. refl
] refl

-- the first of names that are apart doesn't stand among the rest
pub apart_first : (n : Name) (ns : List Name) → are_apart (n ∷ ns) ≡ true → is_among n ns ≡ false
apart_first n ns h = not-true (is_among n ns) (and_parts (not (is_among n ns)) (are_apart ns) h).0

-- the rest of names that are apart are apart
pub apart_rest : (n : Name) (ns : List Name) → are_apart (n ∷ ns) ≡ true → are_apart ns ≡ true
apart_rest n ns h = (and_parts (not (is_among n ns)) (are_apart ns) h).1

-- names stay apart with one that doesn't stand among them
pub apart_more : (n : Name) (ns : List Name) → is_among n ns ≡ false → are_apart ns ≡ true → are_apart (n ∷ ns) ≡ true
apart_more n ns none h = and_from (not (is_among n ns)) (are_apart ns) (not_from_false (is_among n ns) none) h

-- names that are apart are the same only at one place
pub name_of-same : (ns : List Name) → are_apart ns ≡ true → (i j : ℕ) → i < length ns → j < length ns → name_of ns i ≡ name_of ns j → i ≡ j
name_of-same [] h i j lt gt e = absurd (omega (arith, lt))
name_of-same (n ∷ ns) h zero zero lt gt e = refl
name_of-same (n ∷ ns) h zero (suc j) lt gt e =
    absurd (false≢true (sym (apart_first n ns h) ∙ ap (λ x. is_among x ns) e ∙ is_among-name_of ns j (omega (arith, gt))))
name_of-same (n ∷ ns) h (suc i) zero lt gt e =
    absurd (false≢true (sym (apart_first n ns h) ∙ ap (λ x. is_among x ns) (sym e) ∙ is_among-name_of ns i (omega (arith, lt))))
name_of-same (n ∷ ns) h (suc i) (suc j) lt gt e = ap suc (name_of-same ns (apart_rest n ns h) i j (omega (arith, lt)) (omega (arith, gt)) e)

-- names in the order of their bytes, each ahead of those behind it
abbrev Ahead : Name → List Name → Type 0
Ahead n [] = Unit {0}
Ahead n (m ∷ ms) = (slice_cmp nat_cmp n m ≡ Less) × Ahead n ms

abbrev Ascend : List Name → Type 0
Ascend [] = Unit {0}
Ascend (n ∷ ns) = Ahead n ns × Ascend ns

ahead_trans : (n m : Name) (ms : List Name) → slice_cmp nat_cmp n m ≡ Less → Ahead m ms → Ahead n ms
ahead_trans n m [] h a = tt
ahead_trans n m (p ∷ ms) h a = (nat_list_cmp_total.trans n m p h a.0, ahead_trans n m ms h a.1)

ahead_none : (n : Name) (ms : List Name) → Ahead n ms → is_among n ms ≡ false
ahead_none n [] a = refl
ahead_none n (m ∷ ms) a = or_from (bytes_eq n m) (is_among n ms) (sym (is_eq-slice_cmp n m) ∙ ap is_eq a.0) (ahead_none n ms a.1)

apart-ascend : (ns : List Name) → Ascend ns → are_apart ns ≡ true
apart-ascend [] a = refl
apart-ascend (n ∷ ns) a = apart_more n ns (ahead_none n ns a.0) (apart-ascend ns a.1)

ahead_step : (o : Ordering) (q n m : Name) (ms os : List Name) → slice_cmp nat_cmp q n ≡ Less → Ahead q (m ∷ ms) → Ahead q os → Ahead q (match_ordering o (n ∷ m ∷ ms) (m ∷ ms) (m ∷ os))
ahead_step Less q n m ms os h a b = (h, a)
ahead_step Equal q n m ms os h a b = a
ahead_step Greater q n m ms os h a b = (a.0, b)

ahead-put_name : (q n : Name) (ms : List Name) → slice_cmp nat_cmp q n ≡ Less → Ahead q ms → Ahead q (put_name n ms)
ahead-put_name q n [] h a = (h, tt)
ahead-put_name q n (m ∷ ms) h a = ahead_step (slice_cmp nat_cmp n m) q n m ms (put_name n ms) h a (ahead-put_name q n ms h a.1)

ascend_step : (o : Ordering) (n m : Name) (ms os : List Name) → slice_cmp nat_cmp n m ≡ o → Ascend (m ∷ ms) → (slice_cmp nat_cmp m n ≡ Less → Ahead m os) → Ascend os
    → Ascend (match_ordering o (n ∷ m ∷ ms) (m ∷ ms) (m ∷ os))
ascend_step Less n m ms os e a b c = ((e, ahead_trans n m ms e a.0), a)
ascend_step Equal n m ms os e a b c = a
ascend_step Greater n m ms os e a b c = (b (nat_list_cmp_total.antisymm m n ∙ ap ordering_reverse e), c)

ascend-put_name : (n : Name) (ms : List Name) → Ascend ms → Ascend (put_name n ms)
ascend-put_name n [] a = (tt, tt)
ascend-put_name n (m ∷ ms) a = ascend_step (slice_cmp nat_cmp n m) n m ms (put_name n ms) refl a (λ h. ahead-put_name m n ms h a.0) (ascend-put_name n ms a.1)

abbrev put_names : List Name → List Name → List Name
put_names ms ns = fold (λ os n. put_name n os) ms ns

ascend-put_names : (ms ns : List Name) → Ascend ms → Ascend (put_names ms ns)
ascend-put_names ms [] a = a
ascend-put_names ms (n ∷ ns) a = ascend-put_names (put_name n ms) ns (ascend-put_name n ms a)

-- the names of all groups are apart
pub group_names-apart : (ws : List Written) → are_apart (group_names ws) ≡ true
group_names-apart ws =
    apart-ascend (group_names ws) (ascend-put_names [] (all_group ∷ ungrouped_group ∷ flat_map (λ w. w.name ∷ w.children) ws) tt)

-- what stands among names with one more at its place in the order of the bytes
pub is_among-put_name : (q n : Name) (ns : List Name) → is_among q (put_name n ns) ≡ (bytes_eq q n || is_among q ns)
is_among-put_name q n ns = among_put q n ns

or-mixed : (a b c : Bool) → (a || b) || c ≡ b || (a || c)
or-mixed true true c = refl
or-mixed true false c = refl
or-mixed false true c = refl
or-mixed false false c = refl

is_among-put_names : (q : Name) (ms ns : List Name) → is_among q (put_names ms ns) ≡ (is_among q ms || is_among q ns)
is_among-put_names q ms [] = or-none (is_among q ms)
  where
    or-none : (a : Bool) → a ≡ a || false
    or-none true = refl
    or-none false = refl
is_among-put_names q ms (n ∷ ns) =
    is_among-put_names q (put_name n ms) ns ∙ ap (λ b. b || is_among q ns) (is_among-put_name q n ms) ∙ or-mixed (bytes_eq q n) (is_among q ms) (is_among q ns)

-- `all` is among the groups
pub group_names-all : (ws : List Written) → is_among all_group (group_names ws) ≡ true
group_names-all ws = is_among-put_names all_group [] (all_group ∷ ungrouped_group ∷ flat_map (λ w. w.name ∷ w.children) ws)

-- `ungrouped` is
pub group_names-ungrouped : (ws : List Written) → is_among ungrouped_group (group_names ws) ≡ true
group_names-ungrouped ws = is_among-put_names ungrouped_group [] (all_group ∷ ungrouped_group ∷ flat_map (λ w. w.name ∷ w.children) ws)

named_in : (n : Name) (ws : List Written) → is_among n (flat_map (λ w. w.name ∷ w.children) ws) ≡ true → is_among n (group_names ws) ≡ true
named_in n ws h =
    let named = flat_map (λ (w : Written). w.name ∷ w.children) ws in
    is_among-put_names n [] (all_group ∷ ungrouped_group ∷ named)
    ∙ or_right (bytes_eq n all_group) (bytes_eq n ungrouped_group || is_among n named) (or_right (bytes_eq n ungrouped_group) (is_among n named) h)

among_written : (n : Name) (ws : List Written) → is_among n (written_names ws) ≡ true → is_among n (flat_map (λ w. w.name ∷ w.children) ws) ≡ true
among_written n [] h = h
among_written n (w ∷ ws) h =
    let rest = flat_map (λ (v : Written). v.name ∷ v.children) ws in
    elim (or_cases (bytes_eq n w.name) (is_among n (written_names ws)) h) [
      | inl e ↦ or_left (bytes_eq n w.name) (is_among n (w.children ++ rest)) e
      | inr r ↦ or_right (bytes_eq n w.name) (is_among n (w.children ++ rest)) (is_among-joined n w.children rest ∙ or_right (is_among n w.children) (is_among n rest) (among_written n ws r))
    ]

-- each group that is written is
pub group_names-written : (n : Name) (ws : List Written) → is_among n (written_names ws) ≡ true → is_among n (group_names ws) ≡ true
group_names-written n ws h = named_in n ws (among_written n ws h)

among_child : (n : Name) (ws : List Written) → list_any (λ w. is_among n w.children) ws ≡ true → is_among n (flat_map (λ w. w.name ∷ w.children) ws) ≡ true
among_child n [] h = h
among_child n (w ∷ ws) h =
    let rest = flat_map (λ (v : Written). v.name ∷ v.children) ws in
    or_right (bytes_eq n w.name) (is_among n (w.children ++ rest))
    (is_among-joined n w.children rest ∙ elim (or_cases (is_among n w.children) (list_any (λ v. is_among n v.children) ws) h) [
      | inl e ↦ or_left (is_among n w.children) (is_among n rest) e
      | inr r ↦ or_right (is_among n w.children) (is_among n rest) (among_child n ws r)
    ])

-- each child of a group that is written is
pub group_names-child : (n : Name) (ws : List Written) → list_any (λ w. is_among n w.children) ws ≡ true → is_among n (group_names ws) ≡ true
group_names-child n ws h = named_in n ws (among_child n ws h)

apart-last : (ns : List Name) (m : Name) → are_apart ns ≡ true → is_among m ns ≡ false → are_apart (ns ++ m ∷ []) ≡ true
apart-last [] m h none = refl
apart-last (n ∷ ns) m h none =
    let parts = or_parts (bytes_eq m n) (is_among m ns) none in
    let other : bytes_eq n m ≡ false = differs n m (n ∷ ns) (is_among-head n ns) none in
    apart_more n (ns ++ m ∷ []) (is_among-joined n ns (m ∷ []) ∙ or_from (is_among n ns) (bytes_eq n m || false) (apart_first n ns h) (or_from (bytes_eq n m) false other refl))
    (apart-last ns m (apart_rest n ns h) parts.1)

apart-add_hosts : (ns ms : List Name) → are_apart ns ≡ true → are_apart (add_hosts ns ms) ≡ true
apart-add_hosts ns [] h = h
apart-add_hosts ns (m ∷ ms) h = apart-add_hosts (cond (is_among m ns) ns (ns ++ m ∷ [])) ms
    (cond_both (is_among m ns) ns (ns ++ m ∷ []) (λ os. are_apart os ≡ true) (λ there. h) (λ none. apart-last ns m h none))

-- the hosts in host order are apart
pub host_order-apart : (ws : List Written) → are_apart (host_order ws) ≡ true
host_order-apart ws = apart-add_hosts [] (listed_hosts ws) refl

-- the names without that one, where it first stands
abbrev without : Name → List Name → List Name
without n [] = []
without n (m ∷ ms) = cond (bytes_eq n m) ms (m ∷ without n ms)

without-fewer : (n : Name) (ms : List Name) → is_among n ms ≡ true → suc (length (without n ms)) ≡ length ms
without-fewer n [] h = absurd (false≢true h)
without-fewer n (m ∷ ms) h =
    cond_both (bytes_eq n m) ms (m ∷ without n ms) (λ os. suc (length os) ≡ suc (length ms))
    (λ e. refl)
    (λ e. elim (or_cases (bytes_eq n m) (is_among n ms) h) [
      | inl is ↦ absurd (false≢true (sym e ∙ is))
      | inr r ↦ ap suc (without-fewer n ms r)
    ])

without-others : (q n : Name) (ms : List Name) → bytes_eq q n ≡ false → is_among q ms ≡ true → is_among q (without n ms) ≡ true
without-others q n [] other h = absurd (false≢true h)
without-others q n (m ∷ ms) other h =
    cond_both (bytes_eq n m) ms (m ∷ without n ms) (λ os. is_among q os ≡ true)
    (λ e. elim (or_cases (bytes_eq q m) (is_among q ms) h) [
      | inl is ↦ absurd (false≢true (sym other ∙ ap (bytes_eq q) (same_name n m e) ∙ is))
      | inr r ↦ r
    ])
    (λ e. elim (or_cases (bytes_eq q m) (is_among q ms) h) [
      | inl is ↦ or_left (bytes_eq q m) (is_among q (without n ms)) is
      | inr r ↦ or_right (bytes_eq q m) (is_among q (without n ms)) (without-others q n ms other r)
    ])

-- names that are apart are no more than those among which they stand
apart-few : (ns ms : List Name) → are_apart ns ≡ true → ((q : Name) → is_among q ns ≡ true → is_among q ms ≡ true) → length ns ≤ length ms
apart-few [] ms h within = omega arith
apart-few (n ∷ ns) ms h within =
    let here = within n (is_among-head n ns) in
    let rest = apart-few ns (without n ms) (apart_rest n ns h) (λ q i.
    without-others q n ms (differs q n ns i (apart_first n ns h)) (within q (or_right (bytes_eq q n) (is_among q ns) i))) in
    omega (arith, rest, without-fewer n ms here)

-- a group that has children is written
pub parent-written : (n : Name) (ws : List Written) → (own_children n ws ≡ [] → ⊥) → is_among n (written_names ws) ≡ true
parent-written n [] h = absurd (h refl)
parent-written n (w ∷ ws) h = elim (cases_Bool (bytes_eq n w.name)) [
  | inl e ↦ or_left (bytes_eq n w.name) (is_among n (written_names ws)) e
  | inr e ↦ or_right (bytes_eq n w.name) (is_among n (written_names ws)) (parent-written n ws (λ none. h (cond-false (bytes_eq n w.name) w.children (own_children n ws) e ∙ none)))
]

-- no more groups have children than are written
pub written-few : (ws : List Written) (ns : List Name) → are_apart ns ≡ true → ((n : Name) → is_among n ns ≡ true → own_children n ws ≡ [] → ⊥) → length ns ≤ length ws
written-few ws ns h parents =
    omega (arith, apart-few ns (written_names ws) h (λ n i. parent-written n ws (parents n i)), length-map ws (λ (w : Written). w.name))
