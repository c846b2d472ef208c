-- Slots in the order of their names' bytes: those that say the same of each name are the same.
use Rattle.std.proofs.Common.{◌≡◌, Bool, true, false, cond, bytes_eq, nat_cmp, refl, sym, ap, ◌∙◌}
use Rattle.std.specs.Cmp.Lexicographic.{slice_cmp}
use Rattle.std.specs.Ordering.{is_eq, match_ordering, ordering_reverse}
use Rattle.std.specs.declared.cmp.Ordering.{Ordering}
use Rattle.std.specs.declared.cmp.Ordering.TheVariants.{Less, Equal, Greater}
use Rattle.std.proofs.lemmas.Cmp.{nat_list_cmp_total}
use Rattle.std.proofs.lemmas.Map.Text.{is_eq-slice_cmp}
use Rattle.pb_semantics.specs.Kind.{KindData, Slots, Spot, no_slots, slot, nowhere, spot, slot_at, put_slot}
use Rattle.pb_semantics.proofs.Names.{same_name, own_name}
use Rattle.pb_semantics.proofs.PutSlots.{at_put, equal_name}
use Rattle.pb_language.specs.Expression.{Name}
use Rattle.pb_language.specs.Scope.{with_slot, without_slot}
use Rattle.pb_language.proofs.WithSlot.{at_with}

abbrev pub order : Name → Name → Ordering
order n m = slice_cmp nat_cmp n m

-- the name is below each of theirs
abbrev pub Above : Name → Slots → Type 0
Above n no_slots = Unit {0}
Above n (slot m a k ss) = (order n m ≡ Less) × Above n ss

abbrev pub Rising : Slots → Type 0
Rising no_slots = Unit {0}
Rising (slot n a k ss) = Above n ss × Rising ss

unlike : (n m : Name) → order n m ≡ Less → bytes_eq n m ≡ false
unlike n m h = sym (is_eq-slice_cmp n m) ∙ ap is_eq h

through : (n m : Name) (ss : Slots) → order n m ≡ Less → Above m ss → Above n ss
through n m no_slots h a = tt
through n m (slot p b k ss) h a = (nat_list_cmp_total.trans n m p h a.0, through n m ss h a.1)

pub above_nowhere : (n : Name) (ss : Slots) → Above n ss → slot_at n ss ≡ nowhere
above_nowhere n no_slots h = refl
above_nowhere n (slot m a k ss) h = ap (λ b. cond b (spot a k) (slot_at n ss)) (unlike n m h.0) ∙ above_nowhere n ss h.1

turned : (n m : Name) → order n m ≡ Greater → order m n ≡ Less
turned n m h = nat_list_cmp_total.antisymm m n ∙ ap ordering_reverse h

above_step : (o : Ordering) (p n m : Name) (a b : Bool) (k j : KindData) (ss us : Slots) → order p n ≡ Less → Above p (slot m b j ss) → Above p us
    → Above p (match_ordering o (slot n a k (slot m b j ss)) (slot m a k ss) (slot m b j us))
above_step Less p n m a b k j ss us h w v = (h, w)
above_step Equal p n m a b k j ss us h w v = w
above_step Greater p n m a b k j ss us h w v = (w.0, v)

above_put : (p n : Name) (a : Bool) (k : KindData) (ss : Slots) → order p n ≡ Less → Above p ss → Above p (put_slot n a k ss)
above_put p n a k no_slots h w = (h, tt)
above_put p n a k (slot m b j ss) h w = above_step (order n m) p n m a b k j ss (put_slot n a k ss) h w (above_put p n a k ss h w.1)

rising_step : (o : Ordering) (n m : Name) (a b : Bool) (k j : KindData) (ss : Slots) → order n m ≡ o → Rising (slot m b j ss) → Rising (put_slot n a k ss)
    → Rising (match_ordering o (slot n a k (slot m b j ss)) (slot m a k ss) (slot m b j (put_slot n a k ss)))
rising_step Less n m a b k j ss e r v = ((e, through n m ss e r.0), r)
rising_step Equal n m a b k j ss e r v = r
rising_step Greater n m a b k j ss e r v = (above_put m n a k ss (turned n m e) r.0, v)

pub rising_put : (n : Name) (a : Bool) (k : KindData) (ss : Slots) → Rising ss → Rising (put_slot n a k ss)
rising_put n a k no_slots r = (tt, tt)
rising_put n a k (slot m b j ss) r = rising_step (order n m) n m a b k j ss refl r (rising_put n a k ss r.1)

above_either : (q : Bool) (p m : Name) (a : Bool) (k : KindData) (us : Slots) → order p m ≡ Less → Above p us → Above p (cond q us (slot m a k us))
above_either true p m a k us h w = w
above_either false p m a k us h w = (h, w)

above_without : (p n : Name) (ss : Slots) → Above p ss → Above p (without_slot n ss)
above_without p n no_slots w = tt
above_without p n (slot m a k ss) w = above_either (bytes_eq n m) p m a k (without_slot n ss) w.0 (above_without p n ss w.1)

rising_either : (q : Bool) (m : Name) (a : Bool) (k : KindData) (us : Slots) → Above m us → Rising us → Rising (cond q us (slot m a k us))
rising_either true m a k us w r = r
rising_either false m a k us w r = (w, r)

rising_without : (n : Name) (ss : Slots) → Rising ss → Rising (without_slot n ss)
rising_without n no_slots r = tt
rising_without n (slot m a k ss) r = rising_either (bytes_eq n m) m a k (without_slot n ss) (above_without m n ss r.0) (rising_without n ss r.1)

pub rising_with : (n : Name) (a : Bool) (k : KindData) (ss : Slots) → Rising ss → Rising (with_slot n a k ss)
rising_with n a k ss r = rising_put n a k (without_slot n ss) (rising_without n ss r)

-- what slots say of each name tells what they are
own_at : (n : Name) (a : Bool) (k : KindData) (ss : Slots) → slot_at n (slot n a k ss) ≡ spot a k
own_at n a k ss = ap (λ q. cond q (spot a k) (slot_at n ss)) (own_name n)

not_there : {A : Type 0} → (a : Bool) (k : KindData) (s : Spot) → s ≡ spot a k → s ≡ nowhere → A
not_there a k s h e = let x : spot a k ≡ nowhere = sym h ∙ e in absurd (cc)

tails : (n : Name) (a b : Bool) (k j : KindData) (ss ts : Slots) → Above n ss → Above n ts
    → ((p : Name) → slot_at p (slot n a k ss) ≡ slot_at p (slot n b j ts)) → (p : Name) → slot_at p ss ≡ slot_at p ts
tails n a b k j ss ts v w e p = step (bytes_eq p n) refl (e p) where
  step : (q : Bool) → bytes_eq p n ≡ q → cond q (spot a k) (slot_at p ss) ≡ cond q (spot b j) (slot_at p ts) → slot_at p ss ≡ slot_at p ts
  step true h i = ap (λ m. slot_at m ss) (same_name p n h) ∙ above_nowhere n ss v ∙ sym (ap (λ m. slot_at m ts) (same_name p n h) ∙ above_nowhere n ts w)
  step false h i = i

above_same : (ts : Slots) {n m : Name} → m ≡ n → Above m ts → Above n ts
above_same ts e w = rw (← e) w

same_step : (o : Ordering) (n m : Name) (a b : Bool) (k j : KindData) (ss ts : Slots) → order n m ≡ o → Rising (slot n a k ss) → Rising (slot m b j ts)
    → ((p : Name) → slot_at p (slot n a k ss) ≡ slot_at p (slot m b j ts)) → (((p : Name) → slot_at p ss ≡ slot_at p ts) → ss ≡ ts) → slot n a k ss ≡ slot m b j ts
same_step Less n m a b k j ss ts h r s e later = not_there a k (slot_at n (slot n a k ss)) (own_at n a k ss) (e n ∙ above_nowhere n (slot m b j ts) (h, through n m ts h s.0))
same_step Greater n m a b k j ss ts h r s e later =
    let i = turned n m h in not_there b j (slot_at m (slot m b j ts)) (own_at m b j ts) (sym (e m) ∙ above_nowhere m (slot n a k ss) (i, through m n ss i r.0))
same_step Equal n m a b k j ss ts h r s e later =
    let name : m ≡ n = sym (equal_name n m h) in
    let all : (p : Name) → slot_at p (slot n a k ss) ≡ slot_at p (slot n b j ts) = λ p. e p ∙ ap (λ x. slot_at p (slot x b j ts)) name in
    let first : spot a k ≡ spot b j = sym (own_at n a k ss) ∙ all n ∙ own_at n b j ts in
    let flag : a ≡ b = cc in
    let kind : k ≡ j = cc in
    let rest : ss ≡ ts = later (tails n a b k j ss ts r.0 (above_same ts name s.0) all) in
    ap (λ x. slot n x k ss) flag ∙ ap (λ x. slot n b x ss) kind ∙ ap (slot n b j) rest ∙ ap (λ x. slot x b j ts) (sym name)

pub same_rising : (ss ts : Slots) → Rising ss → Rising ts → ((p : Name) → slot_at p ss ≡ slot_at p ts) → ss ≡ ts
same_rising no_slots no_slots r s e = refl
same_rising no_slots (slot m b j ts) r s e = not_there b j (slot_at m (slot m b j ts)) (own_at m b j ts) (sym (e m))
same_rising (slot n a k ss) no_slots r s e = not_there a k (slot_at n (slot n a k ss)) (own_at n a k ss) (e n)
same_rising (slot n a k ss) (slot m b j ts) r s e = same_step (order n m) n m a b k j ss ts refl r s e (λ f. same_rising ss ts r.1 s.1 f)

-- in slots that rise no other of the name is left out
pub with_put : (n : Name) (a : Bool) (k : KindData) (ss : Slots) → Rising ss → with_slot n a k ss ≡ put_slot n a k ss
with_put n a k ss r = same_rising (with_slot n a k ss) (put_slot n a k ss) (rising_with n a k ss r) (rising_put n a k ss r) (λ p. at_with p n a k ss ∙ sym (at_put p n a k ss))
