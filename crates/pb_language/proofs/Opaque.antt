-- A value of a kind that holds nothing of every kind may be read throughout.
use Rattle.std.proofs.Common.{◌≡◌, List, [], ◌∷◌, Bool, true, false, not, ◌&&◌, cond, nat_le, bytes_eq, Option, Some, ⊎_elim, refl, sym, ◌∙◌}
use Rattle.pb_semantics.specs.Data.{Data, Items, Fields, null, boolean, int, text, list, rec, no_items, item, no_fields, field, field_value, count_of}
use Rattle.pb_semantics.specs.Kind.{KindData, Slots, Cases, Spot, lists, recs, results, anything, no_slots, slot, no_cases, one, nowhere, spot, slot_at}
use Rattle.pb_semantics.specs.Keeps.{is_among, all_items, keeps, cases_kept, has_status, spot_ok}
use Rattle.pb_semantics.specs.Fit.{holds_any, any_slot_holds, any_case_holds}
use Rattle.pb_semantics.proofs.Bools.{untrue, and-left, and-right, or-cases, neither-left, neither-right, neither-both}
use Rattle.pb_semantics.proofs.Names.{own_name}
use Rattle.pb_semantics.proofs.Slots.{Each, each_at}
use Rattle.pb_language.specs.Expression.{Name}
use Rattle.pb_language.specs.Evaluation.{holds_opaque, any_item_opaque, any_field_opaque}
use Rattle.pb_language.proofs.WithSlot.{record_models}

items_free : (f : Data → Bool) (ds : Items) → ((d : Data) → f d ≡ true → holds_opaque d ≡ false) → all_items f ds ≡ true → any_item_opaque ds ≡ false
items_free f no_items g h = refl
items_free f (item d ds) g h = neither-both (holds_opaque d) (any_item_opaque ds) (g d (and-left (f d) (all_items f ds) h)) (items_free f ds g (and-right (f d) (all_items f ds) h))

first_value : (q : Bool) (d : Data) (o : Option Data) → q ≡ true → cond q (Some d) o ≡ Some d
first_value true d o h = refl
first_value false d o h = untrue h

later_value : (q : Bool) (d : Data) (o : Option Data) → q ≡ false → cond q (Some d) o ≡ o
later_value true d o h = untrue (sym h)
later_value false d o h = refl

unseen_free : (q b : Bool) → (q ≡ false → b ≡ false) → not q && b ≡ false
unseen_free true b f = refl
unseen_free false b f = f refl

-- of each name the first value counts
fields_free : (seen : List Name) (fs : Fields) → ((n : Name) (d : Data) → is_among n seen ≡ false → field_value n fs ≡ Some d → holds_opaque d ≡ false) → any_field_opaque seen fs ≡ false
fields_free seen no_fields g = refl
fields_free seen (field n d fs) g =
    neither-both (not (is_among n seen) && holds_opaque d) (any_field_opaque (n ∷ seen) fs)
    (unseen_free (is_among n seen) (holds_opaque d) (λ u. g n d u (first_value (bytes_eq n n) d (field_value n fs) (own_name n))))
    (fields_free (n ∷ seen) fs (λ m e u i. g m e (neither-right (bytes_eq m n) (is_among m seen) u) (later_value (bytes_eq m n) d (field_value m fs) (neither-left (bytes_eq m n) (is_among m seen) u) ∙ i)))

abbrev FreeBelow : KindData → Type 0
FreeBelow k = (d : Data) → keeps d k ≡ true → holds_any k ≡ false → holds_opaque d ≡ false

slot_holds_step : (q : Bool) (a b : Bool) (k m : KindData) (s : Spot) → holds_any k ≡ false → (s ≡ spot b m → holds_any m ≡ false) → cond q (spot a k) s ≡ spot b m → holds_any m ≡ false
slot_holds_step true a b k m s h f i = let x : k ≡ m = cc in rw (← x) h
slot_holds_step false a b k m s h f i = f i

slot_holds : (n : Name) (ss : Slots) (b : Bool) (m : KindData) → any_slot_holds ss ≡ false → slot_at n ss ≡ spot b m → holds_any m ≡ false
slot_holds n no_slots b m h i = let x : nowhere ≡ spot b m = i in absurd (cc)
slot_holds n (slot o a k ss) b m h i =
    slot_holds_step (bytes_eq n o) a b k m (slot_at n ss) (neither-left (holds_any k) (any_slot_holds ss) h) (λ x. slot_holds n ss b m (neither-right (holds_any k) (any_slot_holds ss) h) x) i

spot_free : (d : Data) (s : Spot) → ((b : Bool) (m : KindData) → s ≡ spot b m → keeps d m ≡ true → holds_opaque d ≡ false) → spot_ok (Some d) s ≡ true → holds_opaque d ≡ false
spot_free d nowhere f h = untrue h
spot_free d (spot b m) f h = f b m refl h

record_free : (fs : Fields) (ss : Slots) → Each FreeBelow ss → any_slot_holds ss ≡ false → keeps (rec fs) (recs ss) ≡ true → any_field_opaque [] fs ≡ false
record_free fs ss e h i =
    fields_free [] fs (λ n d u x. spot_free d (slot_at n ss) (λ b m y z. each_at FreeBelow n ss b m e y d z (slot_holds n ss b m h y)) (rw x at ((record_models fs ss i).at n)))

mutual
  pub nothing_opaque : (d : Data) (k : KindData) → keeps d k ≡ true → holds_any k ≡ false → holds_opaque d ≡ false
  nothing_opaque d anything h i = untrue (sym i)
  nothing_opaque null k h i = refl
  nothing_opaque (boolean b) k h i = refl
  nothing_opaque (int z) k h i = refl
  nothing_opaque (text s) k h i = refl
  nothing_opaque (list ds) (lists k n) h i = items_free (λ d. keeps d k) ds (λ d j. nothing_opaque d k j i) (and-right (nat_le (count_of ds) n) (all_items (λ d. keeps d k) ds) h)
  nothing_opaque (rec fs) (recs ss) h i = record_free fs ss (free_each ss) i h
  nothing_opaque (rec fs) (results cs r) h i = cases_free fs cs h i
  nothing_opaque d k h i = untrue h

  free_each : (ss : Slots) → Each FreeBelow ss
  free_each no_slots = tt
  free_each (slot n a k ss) = (λ d h i. nothing_opaque d k h i, free_each ss)

  cases_free : (fs : Fields) (cs : Cases) → cases_kept fs cs ≡ true → any_case_holds cs ≡ false → any_field_opaque [] fs ≡ false
  cases_free fs no_cases h i = untrue h
  cases_free fs (one m sh fl k cs) h i =
      let here = has_status sh fl fs && keeps (rec fs) k in
      ⊎_elim (λ x. nothing_opaque (rec fs) k (and-right (has_status sh fl fs) (keeps (rec fs) k) x) (neither-left (holds_any k) (any_case_holds cs) i)) (λ y. cases_free fs cs y (neither-right (holds_any k) (any_case_holds cs) i))
      (or-cases here (cases_kept fs cs) h)
