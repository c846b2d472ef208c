-- What is asked of kinds has the same answer for kinds that are below each other.
use Rattle.std.proofs.Common.{◌≡◌, ℕ, List, [], ◌∷◌, Bool, true, false, not, ◌&&◌, ◌||◌, cond, nat_le, bytes_eq, Option, codes, ⊎_elim, refl, ap, subst, ◌∙◌, arith}
use Rattle.std.proofs.lemmas.Bool.Decides.{nat_tests}
use Rattle.pb_semantics.specs.Kind.{KindData, Slots, Cases, Shape, Spot, never, nulls, booleans, ints, texts, hosts, lists, recs, results, anything, no_slots, slot, no_cases, one, nowhere, spot, slot_at, is_listed}
use Rattle.pb_semantics.specs.Below.{below, all_cases, same_case, is_covered}
use Rattle.pb_semantics.specs.Well.{Well, WellSlots, WellCases, are_once}
use Rattle.pb_semantics.specs.Fit.{holds_any, any_slot_holds, any_case_holds}
use Rattle.pb_semantics.proofs.Bools.{untrue, and-left, and-right, or-left, or-right, or-cases, not-true, same_tests}
use Rattle.pb_semantics.proofs.Names.{own_name}
use Rattle.pb_semantics.proofs.Slots.{Each, own_spot, later_spot}
use Rattle.pb_semantics.proofs.JoinAbove.{cases_below}
use Rattle.pb_language.specs.Expression.{Name, Comparison, equal, less, at_most, more, at_least}
use Rattle.pb_language.specs.Scope.{hosts_of_kind, hosts_at}
use Rattle.pb_language.specs.Fit.{Fault, is_any, is_boolean, is_int, is_text, is_plain_kind, has_length, is_plain_list, is_list, can_compare, can_find, is_flag, may_be_flag, is_status_record, is_result, field_fault, steps_fault, hosts_fault}
use Rattle.pb_language.specs.Cases.{length_bound}
use Rattle.pb_language.specs.Wells.{WellSpot}
use Rattle.pb_language.specs.Ordered.{SpotLe, SlotsLe}
use Rattle.pb_language.specs.SameBelow.{SameKind}
use Rattle.pb_language.proofs.WellKinds.{well_slot}
use Rattle.pb_language.proofs.Spots.{slots_le, known_up}

-- kinds that are below each other are of the same form
module _ (P : KindData → KindData → Type 0) (own : (k : KindData) → P k k) (on_hosts : (ns ms : List Name) → P (hosts ns) (hosts ms))
    (on_lists : (k m : KindData) (n o : ℕ) → SameKind (lists k n) (lists m o) → P (lists k n) (lists m o)) (on_recs : (ss ts : Slots) → SameKind (recs ss) (recs ts) → P (recs ss) (recs ts))
    (on_results : (cs ds : Cases) (r q : KindData) → SameKind (results cs r) (results ds q) → P (results cs r) (results ds q)) where
  alike : (k m : KindData) → SameKind k m → P k m
  alike never never s = own never
  alike never m s = untrue s.1
  alike nulls nulls s = own nulls
  alike nulls anything s = untrue s.1
  alike nulls m s = untrue s.0
  alike booleans booleans s = own booleans
  alike booleans anything s = untrue s.1
  alike booleans m s = untrue s.0
  alike ints ints s = own ints
  alike ints anything s = untrue s.1
  alike ints m s = untrue s.0
  alike texts texts s = own texts
  alike texts anything s = untrue s.1
  alike texts m s = untrue s.0
  alike (hosts ns) (hosts ms) s = on_hosts ns ms
  alike (hosts ns) texts s = untrue s.1
  alike (hosts ns) anything s = untrue s.1
  alike (hosts ns) m s = untrue s.0
  alike (lists k n) (lists m o) s = on_lists k m n o s
  alike (lists k n) anything s = untrue s.1
  alike (lists k n) m s = untrue s.0
  alike (recs ss) (recs ts) s = on_recs ss ts s
  alike (recs ss) anything s = untrue s.1
  alike (recs ss) m s = untrue s.0
  alike (results cs r) (results ds q) s = on_results cs ds r q s
  alike (results cs r) (recs ts) s = untrue s.1
  alike (results cs r) anything s = untrue s.1
  alike (results cs r) m s = untrue s.0
  alike anything anything s = own anything
  alike anything m s = untrue s.0

-- what looks at no more than the form
form_same : {X : Type 0} (f : KindData → X) → ((ns ms : List Name) → f (hosts ns) ≡ f (hosts ms)) → ((k m : KindData) (n o : ℕ) → f (lists k n) ≡ f (lists m o)) → ((ss ts : Slots) → f (recs ss) ≡ f (recs ts))
    → ((cs ds : Cases) (r q : KindData) → f (results cs r) ≡ f (results ds q)) → (k m : KindData) → SameKind k m → f k ≡ f m
form_same f a b c d k m s = alike (λ k m. f k ≡ f m) (λ k. refl) a (λ k m n o s. b k m n o) (λ ss ts s. c ss ts) (λ cs ds r q s. d cs ds r q) k m s

pub any_same : (k m : KindData) → SameKind k m → is_any k ≡ is_any m
any_same k m s = form_same is_any (λ ns ms. refl) (λ k m n o. refl) (λ ss ts. refl) (λ cs ds r q. refl) k m s

pub boolean_same : (k m : KindData) → SameKind k m → is_boolean k ≡ is_boolean m
boolean_same k m s = form_same is_boolean (λ ns ms. refl) (λ k m n o. refl) (λ ss ts. refl) (λ cs ds r q. refl) k m s

int_same : (k m : KindData) → SameKind k m → is_int k ≡ is_int m
int_same k m s = form_same is_int (λ ns ms. refl) (λ k m n o. refl) (λ ss ts. refl) (λ cs ds r q. refl) k m s

pub text_same : (k m : KindData) → SameKind k m → is_text k ≡ is_text m
text_same k m s = form_same is_text (λ ns ms. refl) (λ k m n o. refl) (λ ss ts. refl) (λ cs ds r q. refl) k m s

pub plain_same : (k m : KindData) → SameKind k m → is_plain_kind k ≡ is_plain_kind m
plain_same k m s = form_same is_plain_kind (λ ns ms. refl) (λ k m n o. refl) (λ ss ts. refl) (λ cs ds r q. refl) k m s

pub has_length_same : (k m : KindData) → SameKind k m → has_length k ≡ has_length m
has_length_same k m s = form_same has_length (λ ns ms. refl) (λ k m n o. refl) (λ ss ts. refl) (λ cs ds r q. refl) k m s

pub list_same : (k m : KindData) → SameKind k m → is_list k ≡ is_list m
list_same k m s = form_same is_list (λ ns ms. refl) (λ k m n o. refl) (λ ss ts. refl) (λ cs ds r q. refl) k m s

pub kind_hosts_same : (k m : KindData) → SameKind k m → hosts_fault (hosts_of_kind k) ≡ hosts_fault (hosts_of_kind m)
kind_hosts_same k m s = form_same (λ k. hosts_fault (hosts_of_kind k)) (λ ns ms. refl) (λ k m n o. refl) (λ ss ts. refl) (λ cs ds r q. refl) k m s

-- what looks at the kind or the number of items
inside : (k m : KindData) (n o : ℕ) → SameKind (lists k n) (lists m o) → SameKind k m
inside k m n o s = (and-right (nat_le n o) (below k m) s.0, and-right (nat_le o n) (below m k) s.1)

pub plain_list_same : (k m : KindData) → SameKind k m → is_plain_list k ≡ is_plain_list m
plain_list_same k m s = alike (λ k m. is_plain_list k ≡ is_plain_list m) (λ k. refl) (λ ns ms. refl) (λ k m n o s. plain_same k m (inside k m n o s)) (λ ss ts s. refl) (λ cs ds r q s. refl) k m s

both_le : (n o : ℕ) → nat_le n o ≡ true → nat_le o n ≡ true → n ≡ o
both_le n o x y = grind (arith, nat_tests)

pub length_same : (k m : KindData) → SameKind k m → length_bound k ≡ length_bound m
length_same k m s =
    alike (λ k m. length_bound k ≡ length_bound m) (λ k. refl) (λ ns ms. refl) (λ k m n o s. both_le n o (and-left (nat_le n o) (below k m) s.0) (and-left (nat_le o n) (below m k) s.1)) (λ ss ts s. refl) (λ cs ds r q s. refl) k m s

-- which kinds hold the kind of all values
abbrev HoldsUp : KindData → Type 0
HoldsUp k = Well k → (m : KindData) → Well m → below k m ≡ true → holds_any k ≡ true → holds_any m ≡ true

slot_holds_step : (q : Bool) (a b : Bool) (j m : KindData) (s : Spot) (ts : Slots) → (s ≡ spot b m → any_slot_holds ts ≡ true) → holds_any m ≡ true → cond q (spot a j) s ≡ spot b m → holds_any j || any_slot_holds ts ≡ true
slot_holds_step true a b j m s ts later h e = let x : j ≡ m = cc in or-left (holds_any j) (any_slot_holds ts) (rw x h)
slot_holds_step false a b j m s ts later h e = or-right (holds_any j) (any_slot_holds ts) (later e)

slot_holds : (n : Name) (ts : Slots) (b : Bool) (m : KindData) → slot_at n ts ≡ spot b m → holds_any m ≡ true → any_slot_holds ts ≡ true
slot_holds n no_slots b m e h = let x : nowhere ≡ spot b m = e in absurd (cc)
slot_holds n (slot o a j ts) b m e h = slot_holds_step (bytes_eq n o) a b j m (slot_at n ts) ts (λ i. slot_holds n ts b m i h) h e

spot_holds : (n : Name) (a : Bool) (k : KindData) (ts : Slots) (t : Spot) → slot_at n ts ≡ t → HoldsUp k → Well k → WellSpot t → SpotLe (spot a k) t → holds_any k ≡ true → any_slot_holds ts ≡ true
spot_holds n a k ts nowhere e u w v l h = untrue l
spot_holds n a k ts (spot b m) e u w v l h = slot_holds n ts b m e (u w m v l.1 h)

slots_hold : (ss ts : Slots) → Each HoldsUp ss → are_once ss ≡ true → WellSlots ss → WellSlots ts → ((p : Name) (b : Bool) (m : KindData) → slot_at p ss ≡ spot b m → SpotLe (spot b m) (slot_at p ts))
    → any_slot_holds ss ≡ true → any_slot_holds ts ≡ true
slots_hold no_slots ts e o w v l h = untrue h
slots_hold (slot n a k ss) ts e o w v l h =
    let new = not-true (is_listed n ss) (and-left (not (is_listed n ss)) (are_once ss) o) in
    ⊎_elim (λ x. spot_holds n a k ts (slot_at n ts) refl e.0 w.0 (well_slot n ts v) (l n a k (own_spot (bytes_eq n n) a k (slot_at n ss) (own_name n))) x)
    (λ y. slots_hold ss ts e.1 (and-right (not (is_listed n ss)) (are_once ss) o) w.1 v (λ p b m i. l p b m (later_spot (bytes_eq p n) p n a b k m ss refl new i)) y)
    (or-cases (holds_any k) (any_slot_holds ss) h)

covered_holds : (m : Name) (sh : Shape) (fl : Bool) (k : KindData) (ds : Cases) → WellCases ds → ((j : KindData) → Well j → below k j ≡ true → holds_any j ≡ true) → is_covered m sh fl k ds ≡ true → any_case_holds ds ≡ true
covered_holds m sh fl k no_cases w u h = untrue h
covered_holds m sh fl k (one n sj fm j ds) w u h =
    let same = same_case m sh fl n sj fm in
    ⊎_elim (λ x. or-left (holds_any j) (any_case_holds ds) (u j w.1 (and-right same (below k j) x))) (λ y. or-right (holds_any j) (any_case_holds ds) (covered_holds m sh fl k ds w.2 u y)) (or-cases (same && below k j) (is_covered m sh fl k ds) h)

mutual
  holds_up : (k : KindData) → Well k → (m : KindData) → Well m → below k m ≡ true → holds_any k ≡ true → holds_any m ≡ true
  holds_up k w anything v h i = refl
  holds_up anything w m v h i = untrue h
  holds_up (lists k n) w (lists m o) v h i = holds_up k w m v (and-right (nat_le n o) (below k m) h) i
  holds_up (lists k n) w m v h i = untrue h
  holds_up (recs ss) w (recs ts) v h i = let l = slots_le ss ts h in slots_hold ss ts (each_holds ss) w.0 w.1 v.1 (λ p b m e. subst (λ s. SpotLe s (slot_at p ts)) e (l.at p)) i
  holds_up (recs ss) w m v h i = untrue h
  holds_up (results cs r) w (recs ts) v h i = record_holds cs (recs ts) w.0 v (cases_below cs r ts h) i
  holds_up (results cs r) w (results ds q) v h i = cases_hold cs ds w.0 v.0 h i
  holds_up (results cs r) w m v h i = untrue h
  holds_up k w m v h i = untrue i

  each_holds : (ss : Slots) → Each HoldsUp ss
  each_holds no_slots = tt
  each_holds (slot n a k ss) = (λ w m v h i. holds_up k w m v h i, each_holds ss)

  record_holds : (cs : Cases) (m : KindData) → WellCases cs → Well m → all_cases (λ n sh fl k. below k m) cs ≡ true → any_case_holds cs ≡ true → holds_any m ≡ true
  record_holds no_cases m w v h i = untrue i
  record_holds (one n sh fl k cs) m w v h i =
      let rest = all_cases (λ n sh fl k. below k m) cs in
      ⊎_elim (λ x. holds_up k w.1 m v (and-left (below k m) rest h) x) (λ y. record_holds cs m w.2 v (and-right (below k m) rest h) y) (or-cases (holds_any k) (any_case_holds cs) i)

  cases_hold : (cs ds : Cases) → WellCases cs → WellCases ds → all_cases (λ m sh fl k. is_covered m sh fl k ds) cs ≡ true → any_case_holds cs ≡ true → any_case_holds ds ≡ true
  cases_hold no_cases ds w v h i = untrue i
  cases_hold (one m sh fl k cs) ds w v h i =
      let rest = all_cases (λ m sh fl k. is_covered m sh fl k ds) cs in
      ⊎_elim (λ x. covered_holds m sh fl k ds v (λ j u y. holds_up k w.1 j u y x) (and-left (is_covered m sh fl k ds) rest h)) (λ y. cases_hold cs ds w.2 v (and-right (is_covered m sh fl k ds) rest h) y)
      (or-cases (holds_any k) (any_case_holds cs) i)

pub holds_same : (k m : KindData) → Well k → Well m → SameKind k m → holds_any k ≡ holds_any m
holds_same k m w v s = same_tests (holds_any k) (holds_any m) (λ x. holds_up k w m v s.0 x) (λ x. holds_up m v k w s.1 x)

pub compare_same : (x : Comparison) (k m i j : KindData) → Well k → Well m → Well i → Well j → SameKind k i → SameKind m j → can_compare x k m ≡ can_compare x i j
compare_same equal k m i j a b c d s t = ap (λ q. not (q || holds_any m)) (holds_same k i a c s) ∙ ap (λ q. not (holds_any i || q)) (holds_same m j b d t)
compare_same less k m i j a b c d s t = ap (λ q. q && is_int m) (int_same k i s) ∙ ap (λ q. is_int i && q) (int_same m j t)
compare_same at_most k m i j a b c d s t = ap (λ q. q && is_int m) (int_same k i s) ∙ ap (λ q. is_int i && q) (int_same m j t)
compare_same more k m i j a b c d s t = ap (λ q. q && is_int m) (int_same k i s) ∙ ap (λ q. is_int i && q) (int_same m j t)
compare_same at_least k m i j a b c d s t = ap (λ q. q && is_int m) (int_same k i s) ∙ ap (λ q. is_int i && q) (int_same m j t)

-- what is looked for in a kind
pub find_first : (m k i : KindData) → Well k → Well i → SameKind k i → can_find k m ≡ can_find i m
find_first never k i a b s = ap not (any_same k i s)
find_first (lists j n) k i a b s = ap (λ q. not (q || holds_any j)) (holds_same k i a b s)
find_first texts k i a b s = text_same k i s
find_first (hosts ns) k i a b s = text_same k i s
find_first (recs ss) k i a b s = text_same k i s
find_first (results cs r) k i a b s = text_same k i s
find_first m k i a b s = refl

pub find_second : (k m j : KindData) → Well m → Well j → SameKind m j → can_find k m ≡ can_find k j
find_second k m j a b s =
    alike (λ m j. Well m → Well j → can_find k m ≡ can_find k j) (λ m a b. refl) (λ ns ms a b. refl) (λ m j n o s a b. ap (λ q. not (holds_any k || q)) (holds_same m j a b (inside m j n o s)))
    (λ ss ts s a b. refl) (λ cs ds r q s a b. refl) m j s a b

-- records that can be asked like a result
flag_same : (s t : Spot) → SpotLe s t → SpotLe t s → is_flag s ≡ is_flag t
flag_same nowhere nowhere l m = refl
flag_same nowhere (spot b k) l m = untrue m
flag_same (spot a k) nowhere l m = untrue l
flag_same (spot true k) (spot true j) l m = boolean_same k j (l.1, m.1)
flag_same (spot true k) (spot false j) l m = untrue m.0
flag_same (spot false k) (spot true j) l m = untrue l.0
flag_same (spot false k) (spot false j) l m = refl

may_flag_same : (s t : Spot) → SpotLe s t → SpotLe t s → may_be_flag s ≡ may_be_flag t
may_flag_same nowhere nowhere l m = refl
may_flag_same nowhere (spot b k) l m = untrue m
may_flag_same (spot a k) nowhere l m = untrue l
may_flag_same (spot a k) (spot b j) l m = boolean_same k j (l.1, m.1)

status_slots : (ss ts : Slots) → SlotsLe ss ts → SlotsLe ts ss → is_status_record (recs ss) ≡ is_status_record (recs ts)
status_slots ss ts l m =
    let changed = codes "changed" in
    let failed = codes "failed" in
    let skipped = codes "skipped" in
    ap (λ q. q && (is_flag (slot_at failed ss) && may_be_flag (slot_at skipped ss))) (flag_same (slot_at changed ss) (slot_at changed ts) (l.at changed) (m.at changed))
    ∙ ap (λ q. is_flag (slot_at changed ts) && (q && may_be_flag (slot_at skipped ss))) (flag_same (slot_at failed ss) (slot_at failed ts) (l.at failed) (m.at failed))
    ∙ ap (λ q. is_flag (slot_at changed ts) && (is_flag (slot_at failed ts) && q)) (may_flag_same (slot_at skipped ss) (slot_at skipped ts) (l.at skipped) (m.at skipped))

status_same : (k m : KindData) → SameKind k m → is_status_record k ≡ is_status_record m
status_same k m s =
    alike (λ k m. is_status_record k ≡ is_status_record m) (λ k. refl) (λ ns ms. refl) (λ k m n o s. refl) (λ ss ts s. status_slots ss ts (slots_le ss ts s.0) (slots_le ts ss s.1)) (λ cs ds r q s. refl) k m s

pub result_same : (k m : KindData) → Well k → Well m → SameKind k m → is_result k ≡ is_result m
result_same k m w v s =
    alike (λ k m. Well k → Well m → is_result k ≡ is_result m) (λ k w v. refl) (λ ns ms w v. refl) (λ k m n o s w v. refl) (λ ss ts s w v. status_same (recs ss) (recs ts) s)
    (λ cs ds r q s w v. status_same r q (known_up cs ds r q w v s.0, known_up ds cs q r v w s.1)) k m s w v

-- the steps of a path
field_same : (s t : Spot) (go : KindData → Option Fault) → ((k m : KindData) → Well k → Well m → SameKind k m → go k ≡ go m) → WellSpot s → WellSpot t → SpotLe s t → SpotLe t s → field_fault s go ≡ field_fault t go
field_same nowhere nowhere go f w v l m = refl
field_same nowhere (spot b k) go f w v l m = untrue m
field_same (spot a k) nowhere go f w v l m = untrue l
field_same (spot true k) (spot true j) go f w v l m = f k j w v (l.1, m.1)
field_same (spot true k) (spot false j) go f w v l m = untrue m.0
field_same (spot false k) (spot true j) go f w v l m = untrue l.0
field_same (spot false k) (spot false j) go f w v l m = refl

record_same : (n : Name) (ss ts : Slots) (go : KindData → Option Fault) → ((k m : KindData) → Well k → Well m → SameKind k m → go k ≡ go m) → Well (recs ss) → Well (recs ts) → SameKind (recs ss) (recs ts)
    → field_fault (slot_at n ss) go ≡ field_fault (slot_at n ts) go
record_same n ss ts go f w v s = field_same (slot_at n ss) (slot_at n ts) go f (well_slot n ss w.1) (well_slot n ts v.1) ((slots_le ss ts s.0).at n) ((slots_le ts ss s.1).at n)

known_same : (n : Name) (ns : List Name) (cs ds : Cases) (r q : KindData) → ((k m : KindData) → Well k → Well m → SameKind k m → steps_fault ns k ≡ steps_fault ns m) → Well (results cs r) → Well (results ds q) → SameKind r q
    → steps_fault (n ∷ ns) (results cs r) ≡ steps_fault (n ∷ ns) (results ds q)
known_same n ns cs ds never never f w v s = refl
known_same n ns cs ds (recs ss) (recs ts) f w v s = record_same n ss ts (steps_fault ns) f w.1 v.1 s
known_same n ns cs ds never (recs ts) f w v s = untrue s.1
known_same n ns cs ds (recs ss) never f w v s = untrue s.0
known_same n ns cs ds never q f w v s = untrue v.2.known
known_same n ns cs ds (recs ss) q f w v s = untrue v.2.known
known_same n ns cs ds r q f w v s = untrue w.2.known

pub steps_same : (ns : List Name) (k m : KindData) → Well k → Well m → SameKind k m → steps_fault ns k ≡ steps_fault ns m
steps_same [] k m w v s = refl
steps_same (n ∷ ns) k m w v s =
    alike (λ k m. Well k → Well m → steps_fault (n ∷ ns) k ≡ steps_fault (n ∷ ns) m) (λ k w v. refl) (λ xs ms w v. refl) (λ k m p o s w v. refl)
    (λ ss ts s w v. record_same n ss ts (steps_fault ns) (λ a b c d e. steps_same ns a b c d e) w v s)
    (λ cs ds r q s w v. known_same n ns cs ds r q (λ a b c d e. steps_same ns a b c d e) w v (known_up cs ds r q w v s.0, known_up ds cs q r v w s.1)) k m s w v

pub hosts_at_same : (s t : Spot) → SpotLe s t → SpotLe t s → hosts_fault (hosts_at s) ≡ hosts_fault (hosts_at t)
hosts_at_same nowhere nowhere l m = refl
hosts_at_same nowhere (spot b k) l m = untrue m
hosts_at_same (spot a k) nowhere l m = untrue l
hosts_at_same (spot a k) (spot b j) l m = kind_hosts_same k j (l.1, m.1)
