-- Slots in the order of their names: two that say the same of each name are one.
use Rattle.std.proofs.Math.Nat.{max_comm}
use Rattle.std.proofs.Common.{◌≡◌, ℕ, max, List, [], ◌∷◌, Bool, true, false, ◌&&◌, ◌||◌, cond, bytes_eq, nat_cmp, refl, sym, ap, ◌∙◌}
use Rattle.std.specs.Ordering.{match_ordering, ordering_reverse, is_eq}
use Rattle.std.specs.declared.cmp.Ordering.{Ordering}
use Rattle.std.specs.declared.cmp.Ordering.TheVariants.{Less, Equal, Greater}
use Rattle.std.specs.Cmp.{Equal-is}
use Rattle.std.specs.Cmp.Lexicographic.{slice_cmp}
use Rattle.std.proofs.lemmas.Cmp.{nat_list_cmp_total}
use Rattle.std.proofs.lemmas.Map.Text.{is_eq-slice_cmp}
use Rattle.pb_semantics.specs.Kind.{KindData, Slots, Cases, Spot, lists, recs, results, no_slots, slot, nowhere, spot, slot_at, is_listed, put_slot}
use Rattle.pb_semantics.specs.Join.{join, joined, with_others, kind_with}
use Rattle.pb_semantics.specs.Well.{are_once}
use Rattle.pb_semantics.specs.Keeps.{is_among}
use Rattle.pb_semantics.specs.Join.{join_spot, put_name}
use Rattle.pb_semantics.proofs.Bools.{untrue}
use Rattle.pb_semantics.proofs.JoinSlots.{at_join}
use Rattle.pb_semantics.specs.Grown.{marked, met, met_slots, puts, is_sure, sure_names, still, closed, all_sure}
use Rattle.pb_semantics.proofs.Names.{same_name, own_name}
use Rattle.pb_semantics.proofs.PutSlots.{equal_name, at_put, among_put}
use Rattle.pb_semantics.specs.Kind.{is_there}
use Rattle.pb_semantics.proofs.Slots.{listed_is_there}

abbrev pub Before : List ℕ → Slots → Type 0
Before n no_slots = Unit {0}
Before n (slot m a k ss) = (slice_cmp nat_cmp n m ≡ Less) × Before n ss

abbrev pub Ascend : Slots → Type 0
Ascend no_slots = Unit {0}
Ascend (slot n a k ss) = Before n ss × Ascend ss

less_differs : (n m : List ℕ) → slice_cmp nat_cmp n m ≡ Less → bytes_eq n m ≡ false
less_differs n m h = sym (is_eq-slice_cmp n m) ∙ ap is_eq h

less_turned : (n m : List ℕ) → slice_cmp nat_cmp n m ≡ Less → bytes_eq m n ≡ false
less_turned n m h = sym (is_eq-slice_cmp m n) ∙ ap is_eq (nat_list_cmp_total.antisymm m n ∙ ap ordering_reverse h)

pub before_unlisted : (n : List ℕ) (ss : Slots) → Before n ss → slot_at n ss ≡ nowhere
before_unlisted n no_slots h = refl
before_unlisted n (slot m a k ss) h = rw (less_differs n m h.0) (before_unlisted n ss h.1)

before_trans : (n m : List ℕ) (ss : Slots) → slice_cmp nat_cmp n m ≡ Less → Before m ss → Before n ss
before_trans n m no_slots h b = tt
before_trans n m (slot p a k ss) h b = (nat_list_cmp_total.trans n m p h b.0, before_trans n m ss h b.1)

pub once_of : (ss : Slots) → Ascend ss → are_once ss ≡ true
once_of no_slots h = refl
once_of (slot n a k ss) h =
    let none : is_listed n ss ≡ false = listed_is_there n ss ∙ ap is_there (before_unlisted n ss h.0) in
    rw (none, once_of ss h.1) refl

nowhere_spot : {A : Type 0} (a : Bool) (k : KindData) → nowhere ≡ spot a k → A
nowhere_spot a k e = untrue (ap is_there e)

abbrev cons_spot : List ℕ → Spot → Slots → Slots
cons_spot n nowhere ss = ss
cons_spot n (spot a k) ss = slot n a k ss

tail_at : (q : Bool) (p n : List ℕ) (a b : Bool) (k j : KindData) (ss ts : Slots) → bytes_eq p n ≡ q → Before n ss → Before n ts
    → cond q (spot a k) (slot_at p ss) ≡ cond q (spot b j) (slot_at p ts) → slot_at p ss ≡ slot_at p ts
tail_at true p n a b k j ss ts e h i f = rw (same_name p n e) (before_unlisted n ss h ∙ sym (before_unlisted n ts i))
tail_at false p n a b k j ss ts e h i f = f

heads : (q : Bool) (x y s t : Spot) → q ≡ true → cond q x s ≡ cond q y t → x ≡ y
heads true x y s t e f = f
heads false x y s t e f = untrue e

earlier : {A : Type 0} (n m : List ℕ) (a b : Bool) (k j : KindData) (ss ts : Slots) → slice_cmp nat_cmp n m ≡ Less → Before m ts
    → slot_at n (slot n a k ss) ≡ slot_at n (slot m b j ts) → A
earlier n m a b k j ss ts e h f =
    let here : slot_at n (slot n a k ss) ≡ spot a k = rw (own_name n) refl in
    let there : slot_at n (slot m b j ts) ≡ nowhere = rw (less_differs n m e) (before_unlisted n ts (before_trans n m ts e h)) in
    nowhere_spot a k (sym there ∙ sym f ∙ here)

-- two that ascend and say the same of each name are one
pub same_slots : (ss ts : Slots) → Ascend ss → Ascend ts → ((p : List ℕ) → slot_at p ss ≡ slot_at p ts) → ss ≡ ts
same_slots no_slots no_slots h i f = refl
same_slots no_slots (slot m b j ts) h i f =
    let here : slot_at m (slot m b j ts) ≡ spot b j = rw (own_name m) refl in
    nowhere_spot b j (f m ∙ here)
same_slots (slot n a k ss) no_slots h i f =
    let here : slot_at n (slot n a k ss) ≡ spot a k = rw (own_name n) refl in
    nowhere_spot a k (sym (f n) ∙ here)
same_slots (slot n a k ss) (slot m b j ts) h i f =
    by_order (slice_cmp nat_cmp n m) refl (λ x. same_slots ss ts h.1 i.1 x) where
      by_order : (o : Ordering) → slice_cmp nat_cmp n m ≡ o → (((p : List ℕ) → slot_at p ss ≡ slot_at p ts) → ss ≡ ts) → slot n a k ss ≡ slot m b j ts
      by_order Less e g = earlier n m a b k j ss ts e i.0 (f n)
      by_order Greater e g = earlier m n b a j k ts ss (nat_list_cmp_total.antisymm m n ∙ ap ordering_reverse e) h.0 (sym (f m))
      by_order Equal e g =
          let same : m ≡ n = sym (equal_name n m e) in
          let i : Before n ts × Ascend ts = rw same at i in
          let f : (p : List ℕ) → cond (bytes_eq p n) (spot a k) (slot_at p ss) ≡ cond (bytes_eq p n) (spot b j) (slot_at p ts) = rw same at f in
          let first : spot a k ≡ spot b j = heads (bytes_eq n n) (spot a k) (spot b j) (slot_at n ss) (slot_at n ts) (own_name n) (f n) in
          let rest : ss ≡ ts = g (λ p. tail_at (bytes_eq p n) p n a b k j ss ts refl h.0 i.0 (f p)) in
          rw (same, rest) (ap (λ s. cons_spot n s ts) first)

before_put_step : (o : Ordering) (p n m : List ℕ) (a b : Bool) (k j : KindData) (us vs : Slots) → slice_cmp nat_cmp p n ≡ Less → Before p (slot m b j us) → Before p vs
    → Before p (match_ordering o (slot n a k (slot m b j us)) (slot m a k us) (slot m b j vs))
before_put_step Less p n m a b k j us vs h i v = (h, i)
before_put_step Equal p n m a b k j us vs h i v = i
before_put_step Greater p n m a b k j us vs h i v = (i.0, v)

before_put : (p n : List ℕ) (a : Bool) (k : KindData) (us : Slots) → slice_cmp nat_cmp p n ≡ Less → Before p us → Before p (put_slot n a k us)
before_put p n a k no_slots h i = (h, tt)
before_put p n a k (slot m b j us) h i = before_put_step (slice_cmp nat_cmp n m) p n m a b k j us (put_slot n a k us) h i (before_put p n a k us h i.1)

ascend_put_step : (o : Ordering) (n m : List ℕ) (a b : Bool) (k j : KindData) (us vs : Slots) → slice_cmp nat_cmp n m ≡ o → Ascend (slot m b j us) → Ascend vs → (slice_cmp nat_cmp m n ≡ Less → Before m vs)
    → Ascend (match_ordering o (slot n a k (slot m b j us)) (slot m a k us) (slot m b j vs))
ascend_put_step Less n m a b k j us vs e h v f = ((e, before_trans n m us e h.0), h)
ascend_put_step Equal n m a b k j us vs e h v f = h
ascend_put_step Greater n m a b k j us vs e h v f = (f (nat_list_cmp_total.antisymm m n ∙ ap ordering_reverse e), v)

pub ascend_put : (n : List ℕ) (a : Bool) (k : KindData) (us : Slots) → Ascend us → Ascend (put_slot n a k us)
ascend_put n a k no_slots h = (tt, tt)
ascend_put n a k (slot m b j us) h =
    ascend_put_step (slice_cmp nat_cmp n m) n m a b k j us (put_slot n a k us) refl h (ascend_put n a k us h.1) (λ l. before_put m n a k us l h.0)

before_joined : (p : List ℕ) (ss ts : Slots) → Before p ss → Before p (joined ss ts)
before_joined p no_slots ts h = tt
before_joined p (slot n a k ss) ts h = (h.0, before_joined p ss ts h.1)

ascend_joined : (ss ts : Slots) → Ascend ss → Ascend (joined ss ts)
ascend_joined no_slots ts h = tt
ascend_joined (slot n a k ss) ts h = (before_joined n ss ts h.0, ascend_joined ss ts h.1)

ascend_cond : (q : Bool) (us vs : Slots) → Ascend us → Ascend vs → Ascend (cond q us vs)
ascend_cond true us vs h i = h
ascend_cond false us vs h i = i

ascend_others : (ts ss us : Slots) → Ascend us → Ascend (with_others ts ss us)
ascend_others no_slots ss us h = h
ascend_others (slot n b m ts) ss us h =
    ascend_others ts ss (cond (is_listed n ss) us (put_slot n false m us)) (ascend_cond (is_listed n ss) us (put_slot n false m us) h (ascend_put n false m us h))

before_marked : (p : List ℕ) (ss : Slots) (ns : List (List ℕ)) → Before p ss → Before p (marked ss ns)
before_marked p no_slots ns h = tt
before_marked p (slot n a k ss) ns h = (h.0, before_marked p ss ns h.1)

pub ascend_marked : (ss : Slots) (ns : List (List ℕ)) → Ascend ss → Ascend (marked ss ns)
ascend_marked no_slots ns h = tt
ascend_marked (slot n a k ss) ns h = (before_marked n ss ns h.0, ascend_marked ss ns h.1)

ascend_puts : (b : Bool) (ss us : Slots) → Ascend us → Ascend (puts b ss us)
ascend_puts b no_slots us h = h
ascend_puts b (slot n a k ss) us h = ascend_puts b ss _ (ascend_put n true (kind_with k (λ m. met b k m) (slot_at n us)) us h)

pub ascend_closed : (ss us : Slots) → Ascend us → Ascend (closed ss us)
ascend_closed no_slots us h = h
ascend_closed (slot n a k ss) us h = ascend_closed ss _ (ascend_put n a k us h)

-- what each says of a name
abbrev grown_spot : Bool → Spot → Spot → Spot
grown_spot b nowhere t = t
grown_spot b (spot a k) t = spot true (kind_with k (λ m. met b k m) t)

abbrev met_spot : Bool → Spot → Spot → Spot
met_spot true s t = join_spot s t
met_spot false s t = join_spot t s

abbrev pub over : Spot → Spot → Spot
over nowhere t = t
over (spot a k) t = spot a k

abbrev remark : Bool → Spot → Spot
remark x nowhere = nowhere
remark x (spot a k) = spot x k

gone : (p n : List ℕ) (ss : Slots) → Before n ss → bytes_eq p n ≡ true → slot_at p ss ≡ nowhere
gone p n ss h e = rw (same_name p n e) (before_unlisted n ss h)

puts_step : (b q : Bool) (p n : List ℕ) (a : Bool) (k : KindData) (s : Spot) (us : Slots) → bytes_eq p n ≡ q → (q ≡ true → s ≡ nowhere)
    → grown_spot b s (cond q (spot true (kind_with k (λ m. met b k m) (slot_at n us))) (slot_at p us)) ≡ grown_spot b (cond q (spot a k) s) (slot_at p us)
puts_step b true p n a k s us e f = rw (f refl, same_name p n e) refl
puts_step b false p n a k s us e f = refl

at_puts : (b : Bool) (p : List ℕ) (ss us : Slots) → Ascend ss → slot_at p (puts b ss us) ≡ grown_spot b (slot_at p ss) (slot_at p us)
at_puts b p no_slots us h = refl
at_puts b p (slot n a k ss) us h =
    at_puts b p ss _ h.1 ∙ ap (grown_spot b (slot_at p ss)) (at_put p n true (kind_with k (λ m. met b k m) (slot_at n us)) us)
    ∙ puts_step b (bytes_eq p n) p n a k (slot_at p ss) us refl (gone p n ss h.0)

closed_step : (q : Bool) (a : Bool) (k : KindData) (s t : Spot) → (q ≡ true → s ≡ nowhere) → over s (cond q (spot a k) t) ≡ over (cond q (spot a k) s) t
closed_step true a k s t f = rw (f refl) refl
closed_step false a k s t f = refl

pub at_closed : (p : List ℕ) (ss us : Slots) → Ascend ss → slot_at p (closed ss us) ≡ over (slot_at p ss) (slot_at p us)
at_closed p no_slots us h = refl
at_closed p (slot n a k ss) us h =
    at_closed p ss _ h.1 ∙ ap (over (slot_at p ss)) (at_put p n a k us) ∙ closed_step (bytes_eq p n) a k (slot_at p ss) (slot_at p us) (gone p n ss h.0)

marked_step : (q : Bool) (p n : List ℕ) (a : Bool) (k : KindData) (s t : Spot) (ns : List (List ℕ)) → bytes_eq p n ≡ q → t ≡ remark (is_among p ns) s
    → cond q (spot (is_among n ns) k) t ≡ remark (is_among p ns) (cond q (spot a k) s)
marked_step true p n a k s t ns e f = rw (same_name p n e) refl
marked_step false p n a k s t ns e f = f

at_marked : (p : List ℕ) (ss : Slots) (ns : List (List ℕ)) → slot_at p (marked ss ns) ≡ remark (is_among p ns) (slot_at p ss)
at_marked p no_slots ns = refl
at_marked p (slot n a k ss) ns = marked_step (bytes_eq p n) p n a k (slot_at p ss) (slot_at p (marked ss ns)) ns refl (at_marked p ss ns)

still_step : (q c d x m : Bool) → (q ≡ true → c ≡ d) → (x && d) || (cond c (q || m) m) ≡ ((q || x) && d) || m
still_step true true d x m f = rw (sym (f refl)) (bools x m) where
  bools : (x m : Bool) → (x && true) || true ≡ true
  bools true m = refl
  bools false m = refl
still_step true false d x m f = rw (sym (f refl)) (bools x m) where
  bools : (x m : Bool) → (x && false) || m ≡ m
  bools true m = refl
  bools false m = refl
still_step false true d x m f = refl
still_step false false d x m f = refl

among_cond : (c : Bool) (p n : List ℕ) (ms : List (List ℕ)) → is_among p (cond c (put_name n ms) ms) ≡ cond c (bytes_eq p n || is_among p ms) (is_among p ms)
among_cond true p n ms = among_put p n ms
among_cond false p n ms = refl

among_still : (p : List ℕ) (ns : List (List ℕ)) (ss ks : Slots) (ms : List (List ℕ))
    → is_among p (still ns ss ks ms) ≡ (is_among p ns && (is_sure (slot_at p ss) && is_listed p ks)) || is_among p ms
among_still p [] ss ks ms = refl
among_still p (n ∷ ns) ss ks ms =
    let c = is_sure (slot_at n ss) && is_listed n ks in
    let d = is_sure (slot_at p ss) && is_listed p ks in
    among_still p ns ss ks (cond c (put_name n ms) ms) ∙ ap (λ b. (is_among p ns && d) || b) (among_cond c p n ms)
    ∙ still_step (bytes_eq p n) c d (is_among p ns) (is_among p ms) (λ e. rw (same_name p n e) refl)

sure_step : (q a : Bool) (k : KindData) (s : Spot) (m : Bool) → (q ≡ true → s ≡ nowhere) → is_sure s || cond a (q || m) m ≡ is_sure (cond q (spot a k) s) || m
sure_step true true k s m f = rw (f refl) refl
sure_step true false k s m f = rw (f refl) refl
sure_step false true k s m f = refl
sure_step false false k s m f = refl

among_sure : (p : List ℕ) (ss : Slots) (ms : List (List ℕ)) → Ascend ss → is_among p (sure_names ss ms) ≡ is_sure (slot_at p ss) || is_among p ms
among_sure p no_slots ms h = refl
among_sure p (slot n a k ss) ms h =
    among_sure p ss (cond a (put_name n ms) ms) h.1 ∙ ap (λ b. is_sure (slot_at p ss) || b) (among_cond a p n ms)
    ∙ sure_step (bytes_eq p n) a k (slot_at p ss) (is_among p ms) (gone p n ss h.0)

grown_met : (b x : Bool) (s t : Spot) → remark ((x && (is_sure s && is_there t)) || false) (grown_spot b s t) ≡ met_spot b s (remark x t)
grown_met true true nowhere nowhere = refl
grown_met true true nowhere (spot c m) = refl
grown_met true true (spot true k) nowhere = refl
grown_met true true (spot true k) (spot c m) = refl
grown_met true true (spot false k) nowhere = refl
grown_met true true (spot false k) (spot c m) = refl
grown_met true false nowhere nowhere = refl
grown_met true false nowhere (spot c m) = refl
grown_met true false (spot true k) nowhere = refl
grown_met true false (spot true k) (spot c m) = refl
grown_met true false (spot false k) nowhere = refl
grown_met true false (spot false k) (spot c m) = refl
grown_met false true nowhere nowhere = refl
grown_met false true nowhere (spot c m) = refl
grown_met false true (spot true k) nowhere = refl
grown_met false true (spot true k) (spot c m) = refl
grown_met false true (spot false k) nowhere = refl
grown_met false true (spot false k) (spot c m) = refl
grown_met false false nowhere nowhere = refl
grown_met false false nowhere (spot c m) = refl
grown_met false false (spot true k) nowhere = refl
grown_met false false (spot true k) (spot c m) = refl
grown_met false false (spot false k) nowhere = refl
grown_met false false (spot false k) (spot c m) = refl

pub ascend_met : (b : Bool) (ss ts : Slots) → Ascend ss → Ascend ts → Ascend (met_slots b ss ts)
ascend_met true ss ts h i = ascend_others ts ss (joined ss ts) (ascend_joined ss ts h)
ascend_met false ss ts h i = ascend_others ss ts (joined ts ss) (ascend_joined ts ss i)

pub at_met : (b : Bool) (p : List ℕ) (ss ts : Slots) → Ascend ss → Ascend ts → slot_at p (met_slots b ss ts) ≡ met_spot b (slot_at p ss) (slot_at p ts)
at_met true p ss ts h i = at_join p ss ts (once_of ts i)
at_met false p ss ts h i = at_join p ts ss (once_of ss h)

-- the kinds with the first's, under the names that stay certain, are the join
pub grown_join : (b : Bool) (ss ks : Slots) (ns : List (List ℕ)) → Ascend ss → Ascend ks → marked (puts b ss ks) (still ns ss ks []) ≡ met_slots b ss (marked ks ns)
grown_join b ss ks ns h i = same_slots _ _ (ascend_marked (puts b ss ks) (still ns ss ks []) (ascend_puts b ss ks i)) (ascend_met b ss (marked ks ns) h (ascend_marked ks ns i)) at where
  at : (p : List ℕ) → slot_at p (marked (puts b ss ks) (still ns ss ks [])) ≡ slot_at p (met_slots b ss (marked ks ns))
  at p =
      at_marked p (puts b ss ks) (still ns ss ks []) ∙ ap (remark (is_among p (still ns ss ks []))) (at_puts b p ss ks h)
      ∙ ap (λ c. remark c (grown_spot b (slot_at p ss) (slot_at p ks))) (among_still p ns ss ks [] ∙ ap (λ c. (is_among p ns && (is_sure (slot_at p ss) && c)) || false) (listed_is_there p ks))
      ∙ grown_met b (is_among p ns) (slot_at p ss) (slot_at p ks) ∙ ap (met_spot b (slot_at p ss)) (sym (at_marked p ks ns))
      ∙ sym (at_met b p ss (marked ks ns) h (ascend_marked ks ns i))

-- lists, records and results that meet
pub met_lists : (b : Bool) (k m : KindData) (n o : ℕ) → met b (lists k n) (lists m o) ≡ lists (met b k m) (max n o)
met_lists true k m n o = refl
met_lists false k m n o = ap (lists (join m k)) (max_comm o n)

pub met_recs : (b : Bool) (ss ts : Slots) → met b (recs ss) (recs ts) ≡ recs (met_slots b ss ts)
met_recs true ss ts = refl
met_recs false ss ts = refl

-- a result of which a record is known meets a record as that one
pub met_result : (b : Bool) (cs : Cases) (ss ts : Slots) → met b (recs ss) (recs ts) ≡ met b (results cs (recs ss)) (recs ts)
met_result true cs ss ts = refl
met_result false cs ss ts = refl

before_sure : (p : List ℕ) (ss : Slots) → Before p ss → Before p (all_sure ss)
before_sure p no_slots h = tt
before_sure p (slot n a k ss) h = (h.0, before_sure p ss h.1)

pub ascend_sure : (ss : Slots) → Ascend ss → Ascend (all_sure ss)
ascend_sure no_slots h = tt
ascend_sure (slot n a k ss) h = (before_sure n ss h.0, ascend_sure ss h.1)

at_sure_step : (q a : Bool) (k : KindData) (s t : Spot) → t ≡ remark true s → cond q (spot true k) t ≡ remark true (cond q (spot a k) s)
at_sure_step true a k s t f = refl
at_sure_step false a k s t f = f

at_sure : (p : List ℕ) (ss : Slots) → slot_at p (all_sure ss) ≡ remark true (slot_at p ss)
at_sure p no_slots = refl
at_sure p (slot n a k ss) = at_sure_step (bytes_eq p n) a k (slot_at p ss) (slot_at p (all_sure ss)) (at_sure p ss)

opened_met : (s : Spot) → remark (is_sure s || false) (remark true s) ≡ s
opened_met nowhere = refl
opened_met (spot true k) = refl
opened_met (spot false k) = refl

-- a record opened
pub opened : (ss : Slots) → Ascend ss → marked (all_sure ss) (sure_names ss []) ≡ ss
opened ss h = same_slots _ _ (ascend_marked (all_sure ss) (sure_names ss []) (ascend_sure ss h)) h at where
  at : (p : List ℕ) → slot_at p (marked (all_sure ss) (sure_names ss [])) ≡ slot_at p ss
  at p =
      at_marked p (all_sure ss) (sure_names ss []) ∙ ap (remark (is_among p (sure_names ss []))) (at_sure p ss)
      ∙ ap (λ b. remark b (remark true (slot_at p ss))) (among_sure p ss [] h) ∙ opened_met (slot_at p ss)

closed_met : (s : Spot) → over s nowhere ≡ s
closed_met nowhere = refl
closed_met (spot a k) = refl

-- slots put in one after the other
pub closed_same : (ss : Slots) → Ascend ss → closed ss no_slots ≡ ss
closed_same ss h = same_slots _ _ (ascend_closed ss no_slots tt) h (λ p. at_closed p ss no_slots h ∙ closed_met (slot_at p ss))

put_own : (n : List ℕ) → slice_cmp nat_cmp n n ≡ Equal
put_own n = (Equal-is (slice_cmp nat_cmp n n)).0 (is_eq-slice_cmp n n ∙ own_name n)

twice_step : (o : Ordering) (n m : List ℕ) (a b c : Bool) (k j i : KindData) (us vs : Slots) → slice_cmp nat_cmp n m ≡ o → put_slot n a k vs ≡ put_slot n a k us
    → put_slot n a k (match_ordering o (slot n b j (slot m c i us)) (slot m b j us) (slot m c i vs)) ≡ match_ordering o (slot n a k (slot m c i us)) (slot m a k us) (slot m c i (put_slot n a k us))
twice_step Less n m a b c k j i us vs e h = rw (put_own n) refl
twice_step Equal n m a b c k j i us vs e h = rw e refl
twice_step Greater n m a b c k j i us vs e h = rw (e, h) refl

-- what is put last stays
pub put_twice : (n : List ℕ) (a b : Bool) (k j : KindData) (us : Slots) → put_slot n a k (put_slot n b j us) ≡ put_slot n a k us
put_twice n a b k j no_slots = rw (put_own n) refl
put_twice n a b k j (slot m c i us) = twice_step (slice_cmp nat_cmp n m) n m a b c k j i us (put_slot n b j us) refl (put_twice n a b k j us)
