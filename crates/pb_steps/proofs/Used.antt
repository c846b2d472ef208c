-- Slots of names, numbers of handlers, and names that are added to others.
use Rattle.std.proofs.Common.{◌≡◌, ◌∙◌, ℕ, zero, suc, ◌+◌, ◌<◌, List, [], ◌∷◌, ◌++◌, Bool, true, false, ◌||◌, bytes_eq, cond, drop, get_or, length, Option, Some, None, refl, sym, ap, subst, ◌⊎◌, inl, inr, ⊎_elim, append-nil, append_assoc, arith}
use Rattle.std.specs.List.{Contains}
use Rattle.std.proofs.lemmas.List.{drop_more}
use Rattle.std.proofs.lemmas.List.Elements.{Contains-append_left, Contains-append_right, Contains-append_cases, Contains-push}
use Rattle.pb_semantics.specs.Keeps.{is_among}
use Rattle.pb_semantics.proofs.Bools.{untrue, or-left, or-right, or-cases}
use Rattle.pb_semantics.proofs.Names.{same_name, own_name}
use Rattle.pb_language.specs.Expression.{Name}
use Rattle.pb_language.specs.Notify.{HandlerNames, Notified, all_notified, handlers_are, is_named, names_nothing, notified, with_numbers}
use Rattle.pb_language.specs.Task.{Task}
use Rattle.pb_reads.proofs.Gathered.{moved}
use Rattle.pb_reads.proofs.Reached.{among-both, among-first, among-second}
use Rattle.pb_slots.specs.Slots.{slot_in}
use Rattle.pb_steps.specs.Numbers.{as_list, handlers_named, slots_named}
use Rattle.pb_steps.specs.Uses.{Adds, Among, AreSlotsOf, AreUsed, IsUsed, SomeUses, Uses}
use Rattle.pb_steps.specs.declared.step.Step.{Step}

-- the first that is left of a list
pub drop-at : {X : Type 0} (xs : List X) (i : ℕ) (x : X) → i < length xs → x ≡ get_or xs i x → drop i xs ≡ x ∷ drop (i + 1) xs
drop-at xs i x lt e = drop_more xs i x lt ∙ ap (λ y. y ∷ drop (i + 1) xs) (sym e)

-- ---- slots

no-number : {A : Type 0} (i : ℕ) → Contains [] i → A
no-number i h = absurd (none h.0 h.1) where
  none : (k : ℕ) → k < 0 → ⊥
  none k l = omega (arith, l)

one-number : (i j : ℕ) → Contains (i ∷ []) j → i ≡ j
one-number i j h = at h.0 h.1 h.2 where
  at : (k : ℕ) → k < 1 → get_or (i ∷ []) k j ≡ j → i ≡ j
  at zero l e = e
  at (suc k) l e = absurd (none k l) where
    none : (m : ℕ) → suc m < 1 → ⊥
    none m x = omega (arith, x)

-- the slot of a name is there, where the name is and has one
first-there : (names ns : List Name) (m n : Name) (i : ℕ) → slot_in names n ≡ Some i → bytes_eq n m ≡ true → Contains (slots_named names (m ∷ ns)) i
first-there names ns m n i e q =
    let here : slot_in names m ≡ Some i = ap (slot_in names) (sym (same_name n m q)) ∙ e in
    subst (λ o. Contains (as_list o ++ slots_named names ns) i) (sym here) (Contains-append_left (i ∷ []) (slots_named names ns) i (Contains-push [] i))

slot-there : (names ns : List Name) (n : Name) (i : ℕ) → Among ns n → slot_in names n ≡ Some i → Contains (slots_named names ns) i
slot-there names [] n i h e = untrue h
slot-there names (m ∷ ns) n i h e =
    ⊎_elim (first-there names ns m n i e) (λ q. Contains-append_right (as_list (slot_in names m)) (slots_named names ns) i (slot-there names ns n i q e)) (or-cases (bytes_eq n m) (is_among n ns) h)

-- each that is there is the slot of such a name
of-a-name : (names : List Name) (m : Name) (o : Option ℕ) (i : ℕ) → slot_in names m ≡ o → Contains (as_list o) i → slot_in names m ≡ Some i
of-a-name names m None i e h = no-number i h
of-a-name names m (Some j) i e h = e ∙ ap Some (one-number j i h)

abbrev Named : List Name → List Name → ℕ → Type 0
Named names ns i = (n : Name) × (Among ns n) × (slot_in names n ≡ Some i)

named-first : (names ns : List Name) (m : Name) (i : ℕ) → Contains (as_list (slot_in names m)) i → Named names (m ∷ ns) i
named-first names ns m i c = (m, or-left (bytes_eq m m) (is_among m ns) (own_name m), of-a-name names m (slot_in names m) i refl c)

named-later : (names ns : List Name) (m : Name) (i : ℕ) → Named names ns i → Named names (m ∷ ns) i
named-later names ns m i t = (t.0, or-right (bytes_eq t.0 m) (is_among t.0 ns) t.1, t.2)

slot-named : (names ns : List Name) (i : ℕ) → Contains (slots_named names ns) i → Named names ns i
slot-named names [] i h = no-number i h
slot-named names (m ∷ ns) i h =
    ⊎_elim (named-first names ns m i) (λ c. named-later names ns m i (slot-named names ns i c)) (Contains-append_cases (as_list (slot_in names m)) (slots_named names ns) i h)

pub slots-of : (Is : Name → Type 0) (names ns : List Name) → ((n : Name) → Among ns n → Is n) → ((n : Name) → Is n → Among ns n) → AreSlotsOf names Is (slots_named names ns)
slots-of Is names ns sound whole = record {
  whole = λ n i h e. slot-there names ns n i (whole n h) e;
  sound = λ i c. let t = slot-named names ns i c in (t.0, sound t.0 t.1, t.2);
}

pub slots-left : (names : List Name) (m : Name) (ns : List Name) (old new whole : List ℕ) → new ≡ old ++ slots_named names (m ∷ []) → old ++ slots_named names (m ∷ ns) ≡ whole → new ++ slots_named names ns ≡ whole
slots-left names m ns old new whole put inv =
    ap (λ xs. xs ++ slots_named names ns) (put ∙ ap (λ xs. old ++ xs) (append-nil (as_list (slot_in names m)))) ∙ append_assoc old (as_list (slot_in names m)) (slots_named names ns) ∙ inv

-- ---- handlers

with-first : (hs : List HandlerNames) (is js ks : List ℕ) (r : Notified) → ((xs : List ℕ) → r ≡ handlers_are xs → js ≡ xs) → with_numbers is r ≡ handlers_are ks → is ++ js ≡ ks
with-first hs [] js ks r h e = absurd (cc)
with-first hs (i ∷ is) js ks names_nothing h e = absurd (cc)
with-first hs (i ∷ is) js ks (handlers_are xs) h e = let same : i ∷ is ++ xs ≡ ks = cc in ap (λ ys. i ∷ is ++ ys) (h xs refl) ∙ same

-- where each text names a handler, those are the ones that are notified
pub all-named : (hs : List HandlerNames) (ns : List Name) (is : List ℕ) → all_notified hs ns ≡ handlers_are is → handlers_named hs ns ≡ is
all-named hs [] is e = cc
all-named hs (n ∷ ns) is e = with-first hs (notified 0 n hs) (handlers_named hs ns) is (all_notified hs ns) (all-named hs ns) e

pub texts-left : (hs : List HandlerNames) (n : Name) (ns : List Name) (old new whole : List ℕ) → new ≡ old ++ notified 0 n hs → old ++ handlers_named hs (n ∷ ns) ≡ whole → new ++ handlers_named hs ns ≡ whole
texts-left hs n ns old new whole put inv = ap (λ xs. xs ++ handlers_named hs ns) put ∙ append_assoc old (notified 0 n hs) (handlers_named hs ns) ∙ inv

pub is-next : (n : Name) (hs : List HandlerNames) (h : HandlerNames) (i : ℕ) (old new whole : List ℕ) (b : Bool) → b ≡ is_named n h → new ≡ cond b (old ++ i ∷ []) old → old ++ notified i n (h ∷ hs) ≡ whole
    → new ++ notified (i + 1) n hs ≡ whole
is-next n hs h i old new whole b e put inv = at b (sym e) put where
  one-on : notified (i + 1) n hs ≡ notified (suc i) n hs
  one-on = let on : i + 1 ≡ suc i = omega arith in ap (λ k. notified k n hs) on

  at : (q : Bool) → is_named n h ≡ q → new ≡ cond q (old ++ i ∷ []) old → new ++ notified (i + 1) n hs ≡ whole
  at true q p = ap (λ xs. xs ++ notified (i + 1) n hs) p ∙ append_assoc old (i ∷ []) (notified (i + 1) n hs) ∙ ap (λ xs. old ++ i ∷ xs) one-on ∙ ap (λ x. old ++ cond x (i ∷ notified (suc i) n hs) (notified (suc i) n hs)) (sym q) ∙ inv
  at false q p = ap (λ xs. xs ++ notified (i + 1) n hs) p ∙ ap (λ xs. old ++ xs) one-on ∙ ap (λ x. old ++ cond x (i ∷ notified (suc i) n hs) (notified (suc i) n hs)) (sym q) ∙ inv

-- ---- names that are added

-- one that is left is among those that are there
pub among-moved : (n k : Name) (left old new : List Name) → is_among n new ≡ (bytes_eq n k || is_among n old) → is_among n (left ++ new) ≡ is_among n (k ∷ left ++ old)
among-moved n k left old new h = moved n (k ∷ []) left old new h

pub adds-all : (more old new : List Name) → ((n : Name) → is_among n new ≡ is_among n (more ++ old)) → Adds (Among more) old new
adds-all more old new h = record {
  kept = λ n o. h n ∙ among-second n more old o;
  whole = λ n m. h n ∙ among-first n more old m;
  sound = λ n o. ⊎_elim (λ m. inr m) (λ p. inl p) (or-cases (is_among n more) (is_among n old) (sym (h n ∙ among-both n more old) ∙ o));
}

pub adds-none : (old : List Name) (Is : Name → Type 0) → ((n : Name) → Is n → ⊥) → Adds Is old old
adds-none old Is none = record {
  kept = λ n h. h;
  whole = λ n h. absurd (none n h);
  sound = λ n h. inl h;
}

pub adds-both : (P Q R : Name → Type 0) (old mid new : List Name) → ((n : Name) → R n → P n ⊎ Q n) → ((n : Name) → P n → R n) → ((n : Name) → Q n → R n) → Adds P old mid → Adds Q mid new → Adds R old new
adds-both P Q R old mid new either left right a b = record {
  kept = λ n h. b.kept n (a.kept n h);
  whole = λ n h. ⊎_elim (λ p. b.kept n (a.whole n p)) (b.whole n) (either n h);
  sound = λ n h. ⊎_elim (λ m. ⊎_elim (λ o. inl o) (λ p. inr (left n p)) (a.sound n m)) (λ q. inr (right n q)) (b.sound n h);
}

-- some task of these, or the last one
pub some-first : (ts : List Task) (t : Task) (n : Name) → SomeUses ts n → SomeUses (ts ++ t ∷ []) n
some-first [] t n h = absurd h
some-first (u ∷ ts) t n h = ⊎_elim (λ x. inl x) (λ x. inr (some-first ts t n x)) h

pub some-last : (ts : List Task) (t : Task) (n : Name) → Uses t n → SomeUses (ts ++ t ∷ []) n
some-last [] t n h = inl h
some-last (u ∷ ts) t n h = inr (some-last ts t n h)

pub some-either : (ts : List Task) (t : Task) (n : Name) → SomeUses (ts ++ t ∷ []) n → SomeUses ts n ⊎ Uses t n
some-either [] t n h = ⊎_elim (λ x. inr x) (λ x. absurd x) h
some-either (u ∷ ts) t n h = ⊎_elim (λ x. inl (inl x)) (λ x. ⊎_elim (λ y. inl (inr y)) (λ y. inr y) (some-either ts t n x)) h

pub adds-more : (ts us : List Task) (t : Task) (old mid new : List Name) → us ≡ ts ++ t ∷ [] → Adds (SomeUses ts) old mid → Adds (Uses t) mid new → Adds (SomeUses us) old new
adds-more ts us t old mid new e a b =
    subst (λ xs. Adds (SomeUses xs) old new) (sym e) (adds-both (SomeUses ts) (Uses t) (SomeUses (ts ++ t ∷ [])) old mid new (some-either ts t) (some-first ts t) (some-last ts t) a b)

-- ---- the uses of steps

pub used-more : (names : List Name) (hs : List HandlerNames) (ss : List Step) (ts : List Task) (s : Step) (t : Task) → AreUsed names hs ss ts → IsUsed names hs s t → AreUsed names hs (ss ++ s ∷ []) (ts ++ t ∷ [])
used-more names hs [] [] s t h u = (u, tt)
used-more names hs [] (x ∷ ts) s t h u = absurd h
used-more names hs (x ∷ ss) [] s t h u = absurd h
used-more names hs (x ∷ ss) (y ∷ ts) s t h u = (h.0, used-more names hs ss ts s t h.1 u)
