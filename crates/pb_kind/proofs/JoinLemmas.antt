-- Slots, names and cases that a join builds.
use Rattle.std.proofs.Common.{◌≡◌, ℕ, List, [], ◌∷◌, ◌++◌, append_assoc, Bool, true, false, cond, String, Global, string_bytes, string_cmp, nat_cmp, map, Ordering, Less, Equal, Greater, ◌+◌, ◌<◌, suc, length, get_or, drop, drop-cons, add-one, ap₂, refl, sym, ap, ◌∙◌, subst}
use Rattle.std.specs.Cmp.Lexicographic.{slice_cmp}
use Rattle.std.specs.List.{AllByRecursion, AllZip}
use Rattle.std.specs.List.Sorted.{IsStrictlySortedBy}
use Rattle.std.specs.Map.{keys_of}
use Rattle.std.specs.Ordering.{match_ordering, ordering_reverse}
use Rattle.std.specs.BTreeMap.{insert_entry}
use Rattle.std.specs.BTreeSet.{insert_key}
use Rattle.std.proofs.lemmas.Cmp.{nat_list_cmp_total}
use Rattle.pb_semantics.specs.Kind.{KindData, Slots, Cases, Shape, no_slots, slot, no_cases, one, slot_at, put_slot}
use Rattle.pb_semantics.specs.Join.{join, joined, presence_with, kind_with, put_name, append_cases, new_cases}
use Rattle.pb_semantics.specs.Below.{is_covered}
use Rattle.pb_kind.specs.KindView.{kind_view, slots_view, cases_view, shape_view, is_always}
use Rattle.pb_kind.specs.declared.kind.Slot.{Slot}
use Rattle.pb_kind.specs.declared.kind.Case.{Case}
use Rattle.pb_kind.specs.declared.kind.Kind.{Kind}
use Rattle.pb_kind.proofs.KindLemmas.{SlotEntry}

-- the last with each of the first's slots put into it, with what the second knows of it
abbrev pub built : Slots → Slots → Slots → Slots
built no_slots ts us = us
built (slot n a k ss) ts us = built ss ts (put_slot n (presence_with a (slot_at n ts)) (kind_with k (λ m. join k m) (slot_at n ts)) us)

slots_view-match_ordering : (o : Ordering) (a b c : List SlotEntry) → slots_view (match_ordering o a b c) ≡ match_ordering o (slots_view a) (slots_view b) (slots_view c)
slots_view-match_ordering Less a b c = refl
slots_view-match_ordering Equal a b c = refl
slots_view-match_ordering Greater a b c = refl

pub slots_view-insert_entry : (es : List SlotEntry) (n : String Global) (s : Slot Kind) → slots_view (insert_entry string_cmp es n s) ≡ put_slot (string_bytes n) (is_always s.presence) (kind_view s.kind) (slots_view es)
slots_view-insert_entry [] n s = refl
slots_view-insert_entry (e ∷ es) n s = slots_view-match_ordering (string_cmp n e.0) _ _ _ ∙ rw (slots_view-insert_entry es n s)

names-match_ordering : (o : Ordering) (a b c : List (String Global)) → map (λ n. string_bytes n) (match_ordering o a b c) ≡ match_ordering o (map (λ n. string_bytes n) a) (map (λ n. string_bytes n) b) (map (λ n. string_bytes n) c)
names-match_ordering Less a b c = refl
names-match_ordering Equal a b c = refl
names-match_ordering Greater a b c = refl

pub names-insert_key : (ns : List (String Global)) (n : String Global) → map (λ n. string_bytes n) (insert_key string_cmp ns n) ≡ put_name (string_bytes n) (map (λ n. string_bytes n) ns)
names-insert_key [] n = refl
names-insert_key (m ∷ ms) n = names-match_ordering (string_cmp n m) _ _ _ ∙ rw (names-insert_key ms n)

below_middle : (first : SlotEntry) (es : List SlotEntry) (e : SlotEntry) (more : List SlotEntry) → AllByRecursion (λ y. string_cmp first.0 y ≡ Less) (keys_of (es ++ e ∷ more)) → string_cmp first.0 e.0 ≡ Less
below_middle first [] e more h = h.0
below_middle first (x ∷ es) e more h = below_middle first es e more h.1

-- a name above those before it goes last
put_last : (done : List SlotEntry) (e : SlotEntry) (more : List SlotEntry) (ts : Slots) → IsStrictlySortedBy string_cmp (keys_of (done ++ e ∷ more))
    → put_slot (string_bytes e.0) (presence_with (is_always e.1.presence) (slot_at (string_bytes e.0) ts)) (kind_with (kind_view e.1.kind) (λ m. join (kind_view e.1.kind) m) (slot_at (string_bytes e.0) ts)) (joined (slots_view done) ts)
    ≡ joined (slots_view (done ++ e ∷ [])) ts
unfolding IsStrictlySortedBy
put_last [] e more ts h = refl
put_last (first ∷ done) e more ts h =
    let above : slice_cmp nat_cmp (string_bytes e.0) (string_bytes first.0) ≡ Greater =
    nat_list_cmp_total.antisymm (string_bytes e.0) (string_bytes first.0) ∙ ap ordering_reverse (below_middle first done e more h.0) in
    rw above
    (ap (slot (string_bytes first.0) (presence_with (is_always first.1.presence) (slot_at (string_bytes first.0) ts)) (kind_with (kind_view first.1.kind) (λ m. join (kind_view first.1.kind) m) (slot_at (string_bytes first.0) ts)))
    (put_last done e more ts h.1))

built_from : (left done : List SlotEntry) (ts : Slots) → IsStrictlySortedBy string_cmp (keys_of (done ++ left)) → built (slots_view left) ts (joined (slots_view done) ts) ≡ joined (slots_view (done ++ left)) ts
built_from [] done ts h = ap (λ es. joined (slots_view es) ts) (sym (append_nil done)) where
  append_nil : (es : List SlotEntry) → es ++ [] ≡ es
  append_nil [] = refl
  append_nil (e ∷ es) = ap (λ xs. e ∷ xs) (append_nil es)
built_from (e ∷ left) done ts h =
    let all : (done ++ e ∷ []) ++ left ≡ done ++ e ∷ left = append_assoc done (e ∷ []) left in
    ap (built (slots_view left) ts) (put_last done e left ts h) ∙ built_from left (done ++ e ∷ []) ts (subst (λ (es : List SlotEntry). IsStrictlySortedBy string_cmp (keys_of es)) (sym all) h) ∙ ap (λ es. joined (slots_view es) ts) all

-- the names ascend, so the slots are built in their order
pub built_joined : (es : List SlotEntry) (ts : Slots) → IsStrictlySortedBy string_cmp (keys_of es) → built (slots_view es) ts no_slots ≡ joined (slots_view es) ts
built_joined es ts h = built_from es [] ts h

-- a copy's names
pub same_names : (ns ms : List (String Global)) → AllZip (λ n m. string_bytes m ≡ string_bytes n) ns ms → map (λ n. string_bytes n) ms ≡ map (λ n. string_bytes n) ns
same_names [] [] h = refl
same_names [] (m ∷ ms) h = absurd h
same_names (n ∷ ns) [] h = absurd h
same_names (n ∷ ns) (m ∷ ms) h = ap₂ (λ x xs. x ∷ xs) h.0 (same_names ns ms h.1)

pub append_through : (xs ys zs : Cases) → append_cases (append_cases xs ys) zs ≡ append_cases xs (append_cases ys zs)
append_through no_cases ys zs = refl
append_through (one m sh fl k xs) ys zs = ap (one m sh fl k) (append_through xs ys zs)

pub cases_view-append : (xs ys : List (Case Kind)) → cases_view (xs ++ ys) ≡ append_cases (cases_view xs) (cases_view ys)
cases_view-append [] ys = refl
cases_view-append (x ∷ xs) ys = ap (one (string_bytes x.action.value) (shape_view x.shape) x.failed (kind_view x.fields)) (cases_view-append xs ys)

pub append_none : (cs : Cases) → append_cases cs no_cases ≡ cs
append_none no_cases = refl
append_none (one m sh fl k cs) = ap (one m sh fl k) (append_none cs)

next_case : (items : List (Case Kind)) (i : ℕ) (d : Case Kind) → i < length items → d ≡ get_or items i d → cases_view (drop i items) ≡ append_cases (cases_view (d ∷ [])) (cases_view (drop (i + 1) items))
next_case items i d h e =
    let first : drop i items ≡ d ∷ drop (i + 1) items = drop-cons items i d h ∙ rw (add-one i) (ap (λ x. x ∷ drop (suc i) items) (sym e)) in
    ap cases_view first

-- a copy of the next case is added
pub copied_step : (xs ys items : List (Case Kind)) (i : ℕ) (c d : Case Kind) → i < length items → d ≡ get_or items i d → cases_view (c ∷ []) ≡ cases_view (d ∷ []) → ys ≡ xs ++ c ∷ []
    → append_cases (cases_view xs) (cases_view (drop i items)) ≡ append_cases (cases_view ys) (cases_view (drop (i + 1) items))
copied_step xs ys items i c d h e s p =
    let rest = cases_view (drop (i + 1) items) in
    let more : cases_view ys ≡ append_cases (cases_view xs) (cases_view (d ∷ [])) = ap cases_view p ∙ cases_view-append xs (c ∷ []) ∙ ap (append_cases (cases_view xs)) s in
    ap (append_cases (cases_view xs)) (next_case items i d h e) ∙ sym (append_through (cases_view xs) (cases_view (d ∷ [])) rest) ∙ ap (λ cs. append_cases cs rest) (sym more)

new_append_at : (q : Bool) (m : List ℕ) (sh : Shape) (fl : Bool) (k : KindData) (es : Cases) → cond q es (one m sh fl k es) ≡ append_cases (cond q no_cases (one m sh fl k no_cases)) es
new_append_at true m sh fl k es = refl
new_append_at false m sh fl k es = refl

new_append : (d : Case Kind) (rest cs : Cases) → new_cases (append_cases (cases_view (d ∷ [])) rest) cs ≡ append_cases (new_cases (cases_view (d ∷ [])) cs) (new_cases rest cs)
new_append d rest cs =
    new_append_at (is_covered (string_bytes d.action.value) (shape_view d.shape) d.failed (kind_view d.fields) cs) (string_bytes d.action.value) (shape_view d.shape) d.failed (kind_view d.fields) (new_cases rest cs)

-- the next case is added, if it is new
pub added_step : (xs ys items : List (Case Kind)) (i : ℕ) (d : Case Kind) (cs : Cases) → i < length items → d ≡ get_or items i d → cases_view ys ≡ append_cases (cases_view xs) (new_cases (cases_view (d ∷ [])) cs)
    → append_cases (cases_view xs) (new_cases (cases_view (drop i items)) cs) ≡ append_cases (cases_view ys) (new_cases (cases_view (drop (i + 1) items)) cs)
added_step xs ys items i d cs h e p =
    let rest = cases_view (drop (i + 1) items) in
    let here = new_cases (cases_view (d ∷ [])) cs in
    ap (λ es. append_cases (cases_view xs) (new_cases es cs)) (next_case items i d h e) ∙ ap (append_cases (cases_view xs)) (new_append d rest cs)
    ∙ sym (append_through (cases_view xs) here (new_cases rest cs)) ∙ ap (λ es. append_cases es (new_cases rest cs)) (sym p)

pub case_is_new : (d : Case Kind) (cs : Cases) → is_covered (string_bytes d.action.value) (shape_view d.shape) d.failed (kind_view d.fields) cs ≡ false → new_cases (cases_view (d ∷ [])) cs ≡ cases_view (d ∷ [])
case_is_new d cs h = rw h refl

pub case_is_old : (d : Case Kind) (cs : Cases) → is_covered (string_bytes d.action.value) (shape_view d.shape) d.failed (kind_view d.fields) cs ≡ true → new_cases (cases_view (d ∷ [])) cs ≡ no_cases
case_is_old d cs h = rw h refl
