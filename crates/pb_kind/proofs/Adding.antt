-- A kind that adds nothing to another.
use Rattle.std.proofs.Common.{◌≡◌, ℕ, Bor, List, [], ◌∷◌, Bool, true, false, Option, Some, None, is_some, cond, ◌&&◌, map, String, Global, string_bytes, string_cmp, nat_cmp, bytes_eq, Ordering, Less, Equal, Greater, refl, sym, ap, ap₂, ◌∙◌}
use Rattle.std.specs.Ordering.{match_ordering, is_eq}
use Rattle.std.specs.Cmp.Lexicographic.{slice_cmp, pointwise}
use Rattle.std.specs.List.{AllByRecursion}
use Rattle.std.specs.List.Sorted.{IsStrictlySortedBy}
use Rattle.std.proofs.lemmas.Cmp.{nat_list_cmp_total}
use Rattle.std.proofs.lemmas.Map.Text.{is_eq-slice_cmp}
use Rattle.std.specs.Option.{MatchOption}
use Rattle.pb_semantics.specs.Kind.{KindData, Slots, Cases, Shape, Spot, no_slots, slot, no_cases, one, hosts, results, nowhere, spot, slot_at, put_slot, is_there}
use Rattle.pb_semantics.specs.Join.{join, new_cases, put_name, add_names}
use Rattle.pb_semantics.specs.Keeps.{is_among}
use Rattle.pb_semantics.specs.Below.{all_cases, is_covered, are_among}
use Rattle.pb_semantics.specs.Grown.{met, met_slots}
use Rattle.pb_semantics.proofs.Bools.{untrue, and-left, and-right}
use Rattle.pb_semantics.proofs.Names.{same_name}
use Rattle.pb_semantics.proofs.PutSlots.{at_put}
use Rattle.pb_semantics.proofs.Hosts.{own_among}
use Rattle.pb_semantics.proofs.Ascents.{Before, Ascend, before_unlisted, same_slots, ascend_met, ascend_put, at_met}
use Rattle.pb_kind.specs.KindView.{kind_view, slots_view, is_always}
use Rattle.pb_kind.specs.Found.{spot_view}
use Rattle.pb_kind.specs.Added.{met_spot, spot_of}
use Rattle.pb_kind.specs.declared.kind.Slot.{Slot}
use Rattle.pb_kind.specs.declared.kind.Kind.{Kind}
use Rattle.pb_kind.proofs.KindLemmas.{SlotEntry}
use Rattle.pb_kind.proofs.JoinLemmas.{append_none}

-- of no name do the first say more than the second
abbrev pub Adds : Bool → Slots → Slots → Type 0
Adds b ss ts = (p : List ℕ) → met_spot b (slot_at p ss) (slot_at p ts) ≡ slot_at p ts

pub adds_met : (b : Bool) (ss ts : Slots) → Ascend ss → Ascend ts → Adds b ss ts → met_slots b ss ts ≡ ts
adds_met true ss ts h i f = same_slots (met_slots true ss ts) ts (ascend_met true ss ts h i) i (λ p. at_met true p ss ts h i ∙ f p)
adds_met false ss ts h i f = same_slots (met_slots false ss ts) ts (ascend_met false ss ts h i) i (λ p. at_met false p ss ts h i ∙ f p)

pub adds_none : (b : Bool) → Adds b no_slots no_slots
adds_none true p = refl
adds_none false p = refl

met_nowhere : (b : Bool) (s : Spot) → met_spot b s nowhere ≡ nowhere → s ≡ nowhere
met_nowhere true nowhere e = refl
met_nowhere false nowhere e = refl
met_nowhere true (spot a k) e = untrue (sym (ap is_there e))
met_nowhere false (spot a k) e = untrue (sym (ap is_there e))

both_step : (b q : Bool) (a c : Bool) (k m : KindData) (s t : Spot) → met_spot b (spot a k) (spot c m) ≡ spot c m → met_spot b s t ≡ t
    → met_spot b (cond q (spot a k) s) (cond q (spot c m) t) ≡ cond q (spot c m) t
both_step b true a c k m s t e f = e
both_step b false a c k m s t e f = f

one_step : (b q : Bool) (c : Bool) (m : KindData) (s t : Spot) → (q ≡ true → t ≡ nowhere) → met_spot b nowhere (spot c m) ≡ spot c m → met_spot b s t ≡ t
    → met_spot b s (cond q (spot c m) t) ≡ cond q (spot c m) t
one_step b true c m s t g e f =
    let none : s ≡ nowhere = met_nowhere b s (ap (met_spot b s) (sym (g refl)) ∙ f ∙ g refl) in
    ap (λ x. met_spot b x (spot c m)) none ∙ e
one_step b false c m s t g e f = f

-- what is left of slots whose next was taken
abbrev pub left_view : Option (Bor (String Global) × Bor (Slot Kind)) → List SlotEntry → Slots
left_view None es = no_slots
left_view (Some e) es = slot (string_bytes e.0.now) (is_always e.1.now.presence) (kind_view e.1.now.kind) (slots_view es)

pub left_next : (xs : List SlotEntry) (o : Option (Bor (String Global) × Bor (Slot Kind))) (es : List SlotEntry)
    → MatchOption o ((xs ≡ []) × (es ≡ [])) (λ x. xs ≡ (x.0.now, x.1.now) ∷ es) → left_view o es ≡ slots_view xs
left_next xs None es h = sym (ap slots_view h.0)
left_next xs (Some x) es h = sym (ap slots_view h)

pub left_none : (o : Option (Bor (String Global) × Bor (Slot Kind))) (es : List SlotEntry) → is_some o ≡ false → left_view o es ≡ no_slots
left_none None es h = refl
left_none (Some x) es h = untrue (sym h)

pub spot_there : {A : Type 0} (o : Option (Bor (Slot Kind))) → is_some o ≡ true → spot_view o ≡ nowhere → A
spot_there None h e = untrue h
spot_there (Some s) h e = untrue (sym (ap is_there e))

-- the next is of the name
pub adds_same : (b : Bool) (n : List ℕ) (c : Bool) (m : KindData) (next : Option (Bor (String Global) × Bor (Slot Kind))) (o : Option (Bor (Slot Kind))) (es : List SlotEntry) (js : Slots)
    → spot_view o ≡ spot_of n next → is_some o ≡ true → met_spot b (spot_view o) (spot c m) ≡ spot c m
    → Adds b (slots_view es) js → Adds b (left_view next es) (slot n c m js)
adds_same b n c m None o es js e i f g = spot_there o i e
adds_same b n c m (Some x) o es js e i f g = by (bytes_eq n (string_bytes x.0.now)) refl where
  by : (q : Bool) → bytes_eq n (string_bytes x.0.now) ≡ q → Adds b (left_view (Some x) es) (slot n c m js)
  by false w = spot_there o i (e ∙ ap (λ r. cond r (spot (is_always x.1.now.presence) (kind_view x.1.now.kind)) nowhere) w)
  by true w =
      let met : met_spot b (spot (is_always x.1.now.presence) (kind_view x.1.now.kind)) (spot c m) ≡ spot c m =
      ap (λ s. met_spot b s (spot c m)) (sym (e ∙ ap (λ r. cond r (spot (is_always x.1.now.presence) (kind_view x.1.now.kind)) nowhere) w)) ∙ f in
      rw (← same_name n (string_bytes x.0.now) w) (λ p. both_step b (bytes_eq p n) (is_always x.1.now.presence) c (kind_view x.1.now.kind) m (slot_at p (slots_view es)) (slot_at p js) met (g p))

-- the next is of another name
pub adds_other : (b : Bool) (n : List ℕ) (c : Bool) (m : KindData) (o : Option (Bor (Slot Kind))) (ss js : Slots)
    → is_some o ≡ false → met_spot b (spot_view o) (spot c m) ≡ spot c m → Before n js → Adds b ss js → Adds b ss (slot n c m js)
adds_other b n c m (Some s) ss js i f h g = untrue (sym i)
adds_other b n c m None ss js i f h g = λ p.
    one_step b (bytes_eq p n) c m (slot_at p ss) (slot_at p js) (λ w. ap (λ x. slot_at x js) (same_name p n w) ∙ before_unlisted n js h) f (g p)

-- cases that others cover
none_step : (q : Bool) (m : List ℕ) (sh : Shape) (fl : Bool) (k : KindData) (r : Bool) (es : Cases) → q && r ≡ true → (r ≡ true → es ≡ no_cases) → cond q es (one m sh fl k es) ≡ no_cases
none_step true m sh fl k r es h f = f h
none_step false m sh fl k r es h f = untrue h

pub none_new : (cs ds : Cases) → all_cases (λ m sh fl k. is_covered m sh fl k cs) ds ≡ true → new_cases ds cs ≡ no_cases
none_new cs no_cases h = refl
none_new cs (one m sh fl k ds) h = none_step (is_covered m sh fl k cs) m sh fl k (all_cases (λ m sh fl k. is_covered m sh fl k cs) ds) (new_cases ds cs) h (none_new cs ds)

pub same_results : (cs ds : Cases) (q r : KindData) → all_cases (λ m sh fl k. is_covered m sh fl k cs) ds ≡ true → join r q ≡ r → join (results cs r) (results ds q) ≡ results cs r
same_results cs ds q r h e = rw (none_new cs ds h, append_none cs, e) refl

put_step : (q : Bool) (a : Bool) (k : KindData) (s : Spot) → (q ≡ true → s ≡ spot a k) → cond q (spot a k) s ≡ s
put_step true a k s f = sym (f refl)
put_step false a k s f = refl

-- what stands there is put there
pub put_there : (n : List ℕ) (a : Bool) (k : KindData) (us : Slots) → Ascend us → slot_at n us ≡ spot a k → put_slot n a k us ≡ us
put_there n a k us h e = same_slots (put_slot n a k us) us (ascend_put n a k us h) h
    (λ p. at_put p n a k us ∙ put_step (bytes_eq p n) a k (slot_at p us) (λ w. ap (λ x. slot_at x us) (same_name p n w) ∙ e))

-- names in the order of their bytes
abbrev Below : List ℕ → List (List ℕ) → Type 0
Below n [] = Unit {0}
Below n (m ∷ ms) = (slice_cmp nat_cmp n m ≡ Less) × Below n ms

abbrev Rising : List (List ℕ) → Type 0
Rising [] = Unit {0}
Rising (n ∷ ns) = Below n ns × Rising ns

below_names : (n : String Global) (ns : List (String Global)) → AllByRecursion (λ y. string_cmp n y ≡ Less) ns → Below (string_bytes n) (map (λ m. string_bytes m) ns)
below_names n [] h = tt
below_names n (m ∷ ns) h = (h.0, below_names n ns h.1)

rising_names : (ns : List (String Global)) → IsStrictlySortedBy string_cmp ns → Rising (map (λ m. string_bytes m) ns)
unfolding IsStrictlySortedBy
rising_names [] h = tt
rising_names (n ∷ ns) h = (below_names n ns h.0, rising_names ns h.1)

not_among : (n m : List ℕ) (ms : List (List ℕ)) → slice_cmp nat_cmp n m ≡ Less → Below m ms → is_among n ms ≡ false
not_among n m [] h b = refl
not_among n m (p ∷ ms) h b =
    let less : slice_cmp nat_cmp n p ≡ Less = nat_list_cmp_total.trans n m p h b.0 in
    rw (sym (is_eq-slice_cmp n p) ∙ ap is_eq less, not_among n m ms h b.1) refl

put_name_step : (o : Ordering) (n m : List ℕ) (ms us : List (List ℕ)) → slice_cmp nat_cmp n m ≡ o → Below m ms → is_among n (m ∷ ms) ≡ true → (is_among n ms ≡ true → us ≡ ms)
    → match_ordering o (n ∷ m ∷ ms) (m ∷ ms) (m ∷ us) ≡ m ∷ ms
put_name_step Less n m ms us e b h f = untrue (rw (sym (is_eq-slice_cmp n m) ∙ ap is_eq e, not_among n m ms e b) at h)
put_name_step Equal n m ms us e b h f = refl
put_name_step Greater n m ms us e b h f = ap (λ x. m ∷ x) (f (rw (sym (is_eq-slice_cmp n m) ∙ ap is_eq e) at h))

put_among : (n : List ℕ) (ms : List (List ℕ)) → Rising ms → is_among n ms ≡ true → put_name n ms ≡ ms
put_among n [] r h = untrue h
put_among n (m ∷ ms) r h = put_name_step (slice_cmp nat_cmp n m) n m ms (put_name n ms) refl r.0 h (put_among n ms r.1)

add_among : (ns ms : List (List ℕ)) → Rising ms → are_among ns ms ≡ true → add_names ns ms ≡ ms
add_among [] ms r h = refl
add_among (n ∷ ns) ms r h =
    ap (add_names ns) (put_among n ms r (and-left (is_among n ms) (are_among ns ms) h)) ∙ add_among ns ms r (and-right (is_among n ms) (are_among ns ms) h)

pub same_keys : (ns ms : List (String Global)) → pointwise (λ n m. bytes_eq (string_bytes n) (string_bytes m)) ns ms ≡ true → map (λ n. string_bytes n) ms ≡ map (λ n. string_bytes n) ns
same_keys [] [] h = refl
same_keys [] (m ∷ ms) h = untrue h
same_keys (n ∷ ns) [] h = untrue h
same_keys (n ∷ ns) (m ∷ ms) h =
    let q = bytes_eq (string_bytes n) (string_bytes m) in
    let r = pointwise (λ n m. bytes_eq (string_bytes n) (string_bytes m)) ns ms in
    ap₂ (λ x xs. x ∷ xs) (sym (same_name (string_bytes n) (string_bytes m) (and-left q r h))) (same_keys ns ms (and-right q r h))

pub same_hosts : (b : Bool) (ns ms : List (String Global)) → IsStrictlySortedBy string_cmp ns → pointwise (λ n m. bytes_eq (string_bytes n) (string_bytes m)) ns ms ≡ true
    → met b (hosts (map (λ n. string_bytes n) ms)) (hosts (map (λ n. string_bytes n) ns)) ≡ hosts (map (λ n. string_bytes n) ns)
same_hosts b ns ms h e = rw (same_keys ns ms e) (own b) where
  own : (b : Bool) → met b (hosts (map (λ n. string_bytes n) ns)) (hosts (map (λ n. string_bytes n) ns)) ≡ hosts (map (λ n. string_bytes n) ns)
  own true = ap hosts (add_among (map (λ n. string_bytes n) ns) (map (λ n. string_bytes n) ns) (rising_names ns h) (own_among (map (λ n. string_bytes n) ns)))
  own false = ap hosts (add_among (map (λ n. string_bytes n) ns) (map (λ n. string_bytes n) ns) (rising_names ns h) (own_among (map (λ n. string_bytes n) ns)))
