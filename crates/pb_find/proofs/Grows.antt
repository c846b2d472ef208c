-- A write that is put, or that is known already.
use Rattle.std.proofs.Common.{◌≡◌, Bool, true, false, not, ◌&&◌, ◌||◌, cond, Option, Some, None, is_none, bytes_eq, refl, sym, ap, subst, ◌∙◌}
use Rattle.pb_semantics.specs.Kind.{KindData, Slots, Spot, recs, nowhere, spot, slot_at, is_there}
use Rattle.pb_semantics.specs.Below.{below}
use Rattle.pb_semantics.specs.Join.{join}
use Rattle.pb_semantics.specs.Well.{Well}
use Rattle.pb_semantics.proofs.Bools.{and-left, and-right, untrue}
use Rattle.pb_semantics.proofs.JoinAbove.{joins_above}
use Rattle.pb_semantics.proofs.JoinLeast.{joins_least}
use Rattle.pb_semantics.proofs.Names.{same_name}
use Rattle.pb_semantics.proofs.Order.{own_below}
use Rattle.pb_semantics.proofs.PutSlots.{at_put, well_put}
use Rattle.pb_language.specs.Cases.{no_sets, sets}
use Rattle.pb_language.specs.Expression.{Name}
use Rattle.pb_language.specs.Ordered.{SpotLe}
use Rattle.pb_language.specs.Scope.{spot_kind, with_spot}
use Rattle.pb_language.specs.Tables.{writes_below, written_spot}
use Rattle.pb_language.specs.Wells.{WellSpot}
use Rattle.pb_language.proofs.ChangesUp.{at_spot}
use Rattle.pb_language.proofs.Rounds.{written_well}
use Rattle.pb_language.proofs.Taught.{well_with_spot}
use Rattle.pb_language.proofs.WellKinds.{well_slot}
use Rattle.pb_kind.specs.KindView.{is_always, kind_view}
use Rattle.pb_kind.specs.declared.kind.Kind.{Kind}
use Rattle.pb_kind.specs.declared.kind.Slot.{Slot}
use Rattle.pb_walks.specs.Agree.{SlotsAgree}
use Rattle.pb_walks.proofs.Agreeing.{slots_own}
use Rattle.pb_find.specs.Written.{Grown, IsPut, Written}
use Rattle.pb_find.specs.declared.find.Find.{Find}
use Rattle.pb_find.proofs.Writes.{next_of}

-- slots that say the same of each name agree
pub agree_at : (ss ts : Slots) → Well (recs ts) → ((p : Name) → slot_at p ss ≡ slot_at p ts) → SlotsAgree ss ts
agree_at ss ts w h = (record { at = λ p. rw (h p) ((slots_own ts w).0.at p) }, record { at = λ p. rw (h p) ((slots_own ts w).0.at p) })

always_there : {A : Type 0} (s : Spot) (k : KindData) → written_spot s k ≡ nowhere → A
always_there nowhere k e = let x : spot false k ≡ nowhere = e in absurd (cc)
always_there (spot a j) k e = let x : spot a (join j k) ≡ nowhere = e in absurd (cc)

own_flag : (a : Bool) → a || not a ≡ true
own_flag true = refl
own_flag false = refl

-- a kind that is below what is known adds nothing
up_here : (s : Spot) (k : KindData) → WellSpot s → Well k → is_there s ≡ true → below k (spot_kind s) ≡ true → SpotLe s (written_spot s k) × SpotLe (written_spot s k) s
up_here nowhere k w v i h = untrue i
up_here (spot a j) k w v i h = ((own_flag a, (joins_above j k w v).0), (own_flag a, joins_least j k j w v (own_below j w) h))

up_there : (q : Bool) (s t u : Spot) → (q ≡ true → SpotLe u t × SpotLe t u) → SpotLe u u → SpotLe u (cond q t u) × SpotLe (cond q t u) u
up_there true s t u f o = f refl
up_there false s t u f o = (o, o)

module _ (n : Name) (k : KindData) (ss : Slots) (v : Well k) (w : Well (recs ss)) where
  abbrev here : Spot
  here = slot_at n ss

  pub at_write : (p : Name) → slot_at p (with_spot n (written_spot here k) ss) ≡ cond (bytes_eq p n) (written_spot here k) (slot_at p ss)
  at_write p = at_spot p n (written_spot here k) ss (λ e. always_there here k e)

  known_here : (p : Name) → is_there here ≡ true → below k (spot_kind here) ≡ true → bytes_eq p n ≡ true → SpotLe (slot_at p ss) (written_spot here k) × SpotLe (written_spot here k) (slot_at p ss)
  known_here p i h e = rw (same_name p n e) (up_here here k (well_slot n ss w.1) v i h)

  known_at : (p : Name) → is_there here ≡ true → below k (spot_kind here) ≡ true
      → SpotLe (slot_at p ss) (cond (bytes_eq p n) (written_spot here k) (slot_at p ss)) × SpotLe (cond (bytes_eq p n) (written_spot here k) (slot_at p ss)) (slot_at p ss)
  known_at p i h = up_there (bytes_eq p n) here (written_spot here k) (slot_at p ss) (known_here p i h) ((slots_own ss w).0.at p)

  well_write : Well (recs (with_spot n (written_spot here k) ss))
  well_write = well_with_spot n (written_spot here k) ss (written_well here k (well_slot n ss w.1) v) w

  grown_agree : (o : Option (Slot Kind)) (ts : Slots) → Grown here k o → IsPut n o ss ts → SlotsAgree ts (with_spot n (written_spot here k) ss)
  grown_agree None ts g x = rw x (record { at = λ p. rw (at_write p) ((known_at p g.0 g.1).0) }, record { at = λ p. rw (at_write p) ((known_at p g.0 g.1).1) })
  grown_agree (Some s) ts g x =
      agree_at ts (with_spot n (written_spot here k) ss) well_write
      (λ p. ap (slot_at p) x.0 ∙ at_put p n (is_always s.presence) (kind_view s.kind) ss ∙ ap (λ t. cond (bytes_eq p n) t (slot_at p ss)) g ∙ sym (at_write p))

  grown_well : (o : Option (Slot Kind)) (ts : Slots) → Grown here k o → IsPut n o ss ts → Well (recs ts)
  grown_well None ts g x = rw x w
  grown_well (Some s) ts g x =
      let u : Well (kind_view s.kind) = subst WellSpot (sym g) (written_well here k (well_slot n ss w.1) v) in
      (x.1, rw x.0 (well_put n (is_always s.presence) (kind_view s.kind) ss u w.1))

  grown_same : (o : Option (Slot Kind)) (ts : Slots) (q r : Bool) → IsPut n o ss ts → r ≡ q && is_none o → r ≡ true → (q ≡ true) × (ts ≡ ss)
  grown_same None ts q r x e h = (and-left q true (sym e ∙ h), x)
  grown_same (Some s) ts q r x e h = untrue (and-right q false (sym e ∙ h))

-- with one write
pub one_written : (n : Name) (k : KindData) (view : Slots) (f g : Find) (o : Option (Slot Kind)) (b : Bool) → Well k → Well (recs (next_of f)) → Grown (slot_at n (next_of f)) k o → IsPut n o (next_of f) (next_of g)
    → b ≡ writes_below (sets n true k no_sets) view → g.fault ≡ f.fault → g.is_settled ≡ f.is_settled && b → g.is_same ≡ f.is_same && is_none o → Written (sets n true k no_sets) view f g
one_written n k view f g o b v w x y e i j m = record {
  fault = i;
  next = grown_agree n k (next_of f) v w o (next_of g) x y;
  well = grown_well n k (next_of f) v w o (next_of g) x y;
  settled = j ∙ ap (λ q. f.is_settled && q) e;
  same = grown_same n k (next_of f) v w o (next_of g) f.is_same g.is_same y m;
}
