-- A value of a lower kind is one of the higher.
use Rattle.std.proofs.Common.{◌≡◌, ℕ, List, Bool, true, not, ◌&&◌, ◌||◌, nat_le, Option, Some, None, option_map, ⊎_elim, refl, arith}
use Rattle.std.proofs.lemmas.Bool.Decides.{nat_tests}
use Rattle.pb_semantics.specs.Data.{Data, Items, Fields, text, list, rec, no_items, item, field_value, count_of}
use Rattle.pb_semantics.specs.Kind.{KindData, Slots, Spot, Cases, Shape, never, nulls, booleans, ints, texts, hosts, lists, recs, results, anything, no_cases, one, no_slots, slot, nowhere, spot, slot_at}
use Rattle.pb_semantics.specs.Keeps.{filled, all_items, all_listed, keeps, slots_kept, cases_kept, has_status, spot_ok, Models}
use Rattle.pb_semantics.specs.Below.{names_among, spot_below, all_cases, record_below, same_case, below, slots_below, is_covered}
use Rattle.pb_semantics.proofs.Bools.{untrue, and-left, and-right, and-both, or-left, or-right, or-cases, weak_presence, same_tests}
use Rattle.pb_semantics.proofs.Names.{case_shape, case_flag}
use Rattle.pb_semantics.proofs.Hosts.{among_up}
use Rattle.pb_semantics.proofs.Slots.{among}
use Rattle.pb_semantics.proofs.Kept.{nothing_keeps_never, kept_models, all_up}

pub le_through : (a b c : ℕ) → nat_le a b ≡ true → nat_le b c ≡ true → nat_le a c ≡ true
le_through a b c h i = grind (arith, nat_tests)

filled_up : (o : Option Data) (s : Spot) (b : Bool) (m : KindData) → ((v : Data) (k : KindData) → below k m ≡ true → keeps v k ≡ true → keeps v m ≡ true) → spot_ok o s ≡ true → spot_below (λ k. below k m) b s ≡ true
    → filled b (option_map (λ v. keeps v m) o) ≡ true
filled_up None nowhere b m f h l = l
filled_up None (spot a k) b m f h l = weak_presence a b (and-left (a || not b) (below k m) l) h
filled_up (Some v) nowhere b m f h l = untrue h
filled_up (Some v) (spot a k) b m f h l = f v k (and-right (a || not b) (below k m) l) h

items_up : (f g : Data → Bool) (ds : Items) → ((v : Data) → f v ≡ true → g v ≡ true) → all_items f ds ≡ true → all_items g ds ≡ true
items_up f g no_items u h = refl
items_up f g (item d ds) u h = and-both (g d) (all_items g ds) (u d (and-left (f d) (all_items f ds) h)) (items_up f g ds u (and-right (f d) (all_items f ds) h))

status_up : (m : List ℕ) (sh : Shape) (fl : Bool) (n : List ℕ) (sj : Shape) (fm : Bool) (fs : Fields) → same_case m sh fl n sj fm ≡ true → has_status sh fl fs ≡ true → has_status sj fm fs ≡ true
status_up m sh fl n sj fm fs e h = rw (← case_shape m sh fl n sj fm e, ← case_flag m sh fl n sj fm e) h

cases_up : (fs : Fields) (f : List ℕ → Shape → Bool → KindData → Bool) (b : Bool) (cs : Cases)
    → ((m : List ℕ) (sh : Shape) (fl : Bool) (k : KindData) → f m sh fl k ≡ true → has_status sh fl fs ≡ true → keeps (rec fs) k ≡ true → b ≡ true)
    → all_cases f cs ≡ true → cases_kept fs cs ≡ true → b ≡ true
cases_up fs f b no_cases g a h = untrue h
cases_up fs f b (one m sh fl k cs) g a h =
    ⊎_elim (λ x. g m sh fl k (and-left (f m sh fl k) (all_cases f cs) a) (and-left (has_status sh fl fs) (keeps (rec fs) k) x) (and-right (has_status sh fl fs) (keeps (rec fs) k) x))
    (λ y. cases_up fs f b cs g (and-right (f m sh fl k) (all_cases f cs) a) y) (or-cases (has_status sh fl fs && keeps (rec fs) k) (cases_kept fs cs) h)

record_up : (fs : Fields) (f : Slots → Bool) (b : Bool) (k : KindData) → ((ss : Slots) → f ss ≡ true → keeps (rec fs) (recs ss) ≡ true → b ≡ true) → record_below f k ≡ true → keeps (rec fs) k ≡ true → b ≡ true
record_up fs f b never g l h = untrue h
record_up fs f b (recs ss) g l h = g ss l h
record_up fs f b k g l h = untrue l

record_kept : (fs : Fields) (ss ts : Slots) → (Models fs ss → slots_below ss ts ≡ true → slots_kept fs ts ≡ true) → names_among ss ts && slots_below ss ts ≡ true → keeps (rec fs) (recs ss) ≡ true
    → slots_kept fs ts && all_listed fs ts ≡ true
record_kept fs ss ts up l h =
    let names = and-left (names_among ss ts) (slots_below ss ts) l in
    let kept = and-left (slots_kept fs ss) (all_listed fs ss) h in
    let listed = and-right (slots_kept fs ss) (all_listed fs ss) h in
    and-both (slots_kept fs ts) (all_listed fs ts) (up (kept_models fs ss kept listed) (and-right (names_among ss ts) (slots_below ss ts) l)) (all_up fs ss ts (λ n i. among n ss ts names i) listed)

mutual
  pub keeps_up : (v : Data) (k m : KindData) → below k m ≡ true → keeps v k ≡ true → keeps v m ≡ true
  keeps_up v k anything l h = refl
  keeps_up v never m l h = untrue (nothing_keeps_never v h)
  keeps_up v nulls nulls l h = h
  keeps_up v booleans booleans l h = h
  keeps_up v ints ints l h = h
  keeps_up v texts texts l h = h
  keeps_up (text s) (hosts ns) texts l h = refl
  keeps_up (text s) (hosts ns) (hosts ms) l h = among_up s ns ms l h
  keeps_up (list ds) (lists k n) (lists m o) l h =
      and-both (nat_le (count_of ds) o) (all_items (λ d. keeps d m) ds)
      (le_through (count_of ds) n o (and-left (nat_le (count_of ds) n) (all_items (λ d. keeps d k) ds) h) (and-left (nat_le n o) (below k m) l))
      (items_up (λ d. keeps d k) (λ d. keeps d m) ds (λ d i. keeps_up d k m (and-right (nat_le n o) (below k m) l) i) (and-right (nat_le (count_of ds) n) (all_items (λ d. keeps d k) ds) h))
  keeps_up (rec fs) (recs ss) (recs ts) l h = record_kept fs ss ts (λ w b. slots_up fs ss ts w b) l h
  keeps_up (rec fs) (results cs r) (recs ts) l h =
      cases_up fs (λ m sh fl k. record_below (λ ss. names_among ss ts && slots_below ss ts) k) (slots_kept fs ts && all_listed fs ts) cs
      (λ m sh fl k c s i. record_up fs (λ ss. names_among ss ts && slots_below ss ts) (slots_kept fs ts && all_listed fs ts) k (λ ss b j. record_kept fs ss ts (λ w x. slots_up fs ss ts w x) b j) c i) l h
  keeps_up (rec fs) (results cs r) (results ds q) l h =
      cases_up fs (λ m sh fl k. is_covered m sh fl k ds) (cases_kept fs ds) cs (λ m sh fl k c s i. covered_up fs m sh fl k ds c s i) l h
  keeps_up v k m l h = cc

  pub slots_up : (fs : Fields) (ss ts : Slots) → Models fs ss → slots_below ss ts ≡ true → slots_kept fs ts ≡ true
  slots_up fs ss no_slots w l = refl
  slots_up fs ss (slot n b m ts) w l =
      let here = spot_below (λ k. below k m) b (slot_at n ss) in
      and-both (filled b (option_map (λ v. keeps v m) (field_value n fs))) (slots_kept fs ts)
      (filled_up (field_value n fs) (slot_at n ss) b m (λ v k i j. keeps_up v k m i j) (w.at n) (and-left here (slots_below ss ts) l))
      (slots_up fs ss ts w (and-right here (slots_below ss ts) l))

  covered_up : (fs : Fields) (m : List ℕ) (sh : Shape) (fl : Bool) (k : KindData) (ds : Cases) → is_covered m sh fl k ds ≡ true → has_status sh fl fs ≡ true → keeps (rec fs) k ≡ true → cases_kept fs ds ≡ true
  covered_up fs m sh fl k no_cases c s h = untrue c
  covered_up fs m sh fl k (one n sj fm j ds) c s h =
      let same = same_case m sh fl n sj fm in
      let here = has_status sj fm fs && keeps (rec fs) j in
      ⊎_elim (λ x. or-left here (cases_kept fs ds) (and-both (has_status sj fm fs) (keeps (rec fs) j) (status_up m sh fl n sj fm fs (and-left same (below k j) x) s) (keeps_up (rec fs) k j (and-right same (below k j) x) h)))
      (λ y. or-right here (cases_kept fs ds) (covered_up fs m sh fl k ds y s h)) (or-cases (same && below k j) (is_covered m sh fl k ds) c)

-- kinds that are below each other have the same values
pub same_values : (k m : KindData) → below k m ≡ true → below m k ≡ true → (d : Data) → keeps d k ≡ keeps d m
same_values k m h i d = same_tests (keeps d k) (keeps d m) (keeps_up d k m h) (keeps_up d m k i)
