-- A projection is of its kind, and each value of a kind without results has one.
use Rattle.std.proofs.Common.{◌≡◌, ◌≢◌, ℕ, List, Bool, true, false, not, nat_le, cond, bytes_eq, is_some, Option, Some, None, option_map, refl, sym, ap, ◌∙◌, subst, suc, true≢false}
use Rattle.pb_semantics.specs.Data.{Data, Items, Fields, null, boolean, int, text, list, rec, no_items, item, no_fields, field, field_value, count_of}
use Rattle.pb_semantics.specs.Kind.{KindData, Slots, Spot, never, nulls, booleans, ints, texts, hosts, lists, recs, results, anything, no_slots, slot, nowhere, spot, slot_at, is_listed}
use Rattle.pb_semantics.specs.Keeps.{filled, all_items, all_listed, keeps, slots_kept, is_among, spot_ok, Models}
use Rattle.pb_semantics.specs.Below.{names_among, slots_below}
use Rattle.pb_semantics.specs.Project.{projected, projected_items, projected_fields, with_item, with_first, with_field, has_no_results, have_no_results}
use Rattle.pb_semantics.specs.Well.{Well, WellSlots, are_once}
use Rattle.pb_semantics.proofs.Bools.{untrue, and-left, and-right, and-both, not-true}
use Rattle.pb_semantics.proofs.Names.{same_name, own_name}
use Rattle.pb_semantics.proofs.Slots.{Each, unlisted_nowhere}
use Rattle.pb_semantics.proofs.Kept.{nothing_keeps_never}
use Rattle.pb_semantics.proofs.KeepsUp.{slots_up}
use Rattle.pb_semantics.proofs.Order.{own_below}

abbrev Projects : KindData → Type 0
Projects k = Well k → (d e : Data) → projected d k ≡ Some e → keeps e k ≡ true

one_of : (q : Bool) (s : List ℕ) (e : Data) (ns : List (List ℕ)) → is_among s ns ≡ q → cond q (Some (text s)) None ≡ Some e → keeps e (hosts ns) ≡ true
one_of true s e ns h i = let x : text s ≡ e = cc in subst (λ (y : Data). keeps y (hosts ns) ≡ true) x h
one_of false s e ns h i = absurd (cc)

-- the items, each of its kind
items_step : (f : Data → Option Data) (g : Data → Bool) (d : Data) (o : Option Data) (p : Option Items) (ds es : Items) → f d ≡ o → with_item o p ≡ Some es → ((d e : Data) → f d ≡ Some e → g e ≡ true)
    → ((hs : Items) → p ≡ Some hs → (count_of hs ≡ count_of ds) × (all_items g hs ≡ true)) → (count_of es ≡ count_of (item d ds)) × (all_items g es ≡ true)
items_step f g d None p ds es x h u v = absurd (cc)
items_step f g d (Some e) None ds es x h u v = absurd (cc)
items_step f g d (Some e) (Some hs) ds es x h u v =
    let same : item e hs ≡ es = cc in
    let rest = v hs refl in
    rw (← same) (ap suc rest.0, and-both (g e) (all_items g hs) (u d e x) rest.1)

items_kept : (f : Data → Option Data) (g : Data → Bool) (ds es : Items) → projected_items f ds ≡ Some es → ((d e : Data) → f d ≡ Some e → g e ≡ true) → (count_of es ≡ count_of ds) × (all_items g es ≡ true)
items_kept f g no_items es h u = let same : no_items ≡ es = cc in rw (← same) (refl, refl)
items_kept f g (item d ds) es h u = items_step f g d (f d) (projected_items f ds) ds es refl h u (λ hs i. items_kept f g ds hs i u)

list_of : (q : Bool) (o : Option Items) (ds : Items) (k : KindData) (n : ℕ) (e : Data) → nat_le (count_of ds) n ≡ q → cond q (option_map (λ es. list es) o) None ≡ Some e
    → ((es : Items) → o ≡ Some es → (count_of es ≡ count_of ds) × (all_items (λ d. keeps d k) es ≡ true)) → keeps e (lists k n) ≡ true
list_of true None ds k n e x h u = absurd (cc)
list_of true (Some es) ds k n e x h u =
    let same : list es ≡ e = cc in
    let kept = u es refl in
    subst (λ (y : Data). keeps y (lists k n) ≡ true) same (and-both (nat_le (count_of es) n) (all_items (λ d. keeps d k) es) (rw kept.0 x) kept.1)
list_of false o ds k n e x h u = absurd (cc)

-- the fields, each of its slot's kind
written : (q : Bool) (o : Option Data) (e : Data) (a : Bool) (k : KindData) (s : Spot) → keeps e k ≡ true → spot_ok o s ≡ true → spot_ok (cond q (Some e) o) (cond q (spot a k) s) ≡ true
written true o e a k s h i = h
written false o e a k s h i = i

left_out : (q : Bool) (p n : List ℕ) (k : KindData) (gs : Fields) (ss : Slots) → bytes_eq p n ≡ q → slot_at n ss ≡ nowhere → spot_ok (field_value p gs) (slot_at p ss) ≡ true
    → spot_ok (field_value p gs) (cond q (spot false k) (slot_at p ss)) ≡ true
left_out true p n k gs ss e w h = missing (field_value p gs) (slot_at p ss) (rw (same_name p n e) w) h where
  missing : (o : Option Data) (s : Spot) → s ≡ nowhere → spot_ok o s ≡ true → spot_ok o (spot false k) ≡ true
  missing None s w h = refl
  missing (Some d) nowhere w h = untrue h
  missing (Some d) (spot a j) w h = absurd (cc)
left_out false p n k gs ss e w h = h

fields_step : (a : Bool) (o : Option (Option Data)) (r : Option Fields) (n : List ℕ) (k : KindData) (gs : Fields) (ss : Slots) → slot_at n ss ≡ nowhere → with_field n a o r ≡ Some gs
    → ((e : Data) → o ≡ Some (Some e) → keeps e k ≡ true) → ((hs : Fields) → r ≡ Some hs → Models hs ss) → Models gs (slot n a k ss)
fields_step true None r n k gs ss w h f g = absurd (cc)
fields_step false None r n k gs ss w h f g = let m = g gs h in record { at = λ p. left_out (bytes_eq p n) p n k gs ss refl w (m.at p) }
fields_step a (Some None) r n k gs ss w h f g = absurd (cc)
fields_step a (Some (Some e)) None n k gs ss w h f g = absurd (cc)
fields_step a (Some (Some e)) (Some hs) n k gs ss w h f g =
    let same : field n e hs ≡ gs = cc in
    let m = g hs refl in
    subst (λ (fs : Fields). Models fs (slot n a k ss)) same (record { at = λ p. written (bytes_eq p n) (field_value p hs) e a k (slot_at p ss) (f e refl) (m.at p) })

found_kept : (o : Option Data) (k : KindData) (e : Data) → option_map (λ d. projected d k) o ≡ Some (Some e) → ((d : Data) → projected d k ≡ Some e → keeps e k ≡ true) → keeps e k ≡ true
found_kept None k e h f = absurd (cc)
found_kept (Some d) k e h f = f d (cc)

fields_model : (fs : Fields) (ss : Slots) (gs : Fields) → Each Projects ss → are_once ss ≡ true → WellSlots ss → projected_fields fs ss ≡ Some gs → Models gs ss
fields_model fs no_slots gs e o w h = let same : no_fields ≡ gs = cc in subst (λ (fs : Fields). Models fs no_slots) same (record { at = λ p. refl })
fields_model fs (slot n a k ss) gs e o w h =
    fields_step a (option_map (λ d. projected d k) (field_value n fs)) (projected_fields fs ss) n k gs ss (unlisted_nowhere n ss (not-true (is_listed n ss) (and-left (not (is_listed n ss)) (are_once ss) o))) h
    (λ x i. found_kept (field_value n fs) k x i (λ d j. e.0 w.0 d x j))
    (λ hs i. fields_model fs ss hs e.1 (and-right (not (is_listed n ss)) (are_once ss) o) w.1 i)

listed_step : (a : Bool) (o : Option (Option Data)) (r : Option Fields) (n : List ℕ) (gs : Fields) (ts : Slots) → is_listed n ts ≡ true → with_field n a o r ≡ Some gs → ((hs : Fields) → r ≡ Some hs → all_listed hs ts ≡ true)
    → all_listed gs ts ≡ true
listed_step true None r n gs ts l h g = absurd (cc)
listed_step false None r n gs ts l h g = g gs h
listed_step a (Some None) r n gs ts l h g = absurd (cc)
listed_step a (Some (Some e)) None n gs ts l h g = absurd (cc)
listed_step a (Some (Some e)) (Some hs) n gs ts l h g = let same : field n e hs ≡ gs = cc in rw (← same) (and-both (is_listed n ts) (all_listed hs ts) l (g hs refl))

first_listed : (q b : Bool) → q ≡ true → cond q true b ≡ true
first_listed true b h = refl
first_listed false b h = untrue h

later_listed : (q b : Bool) → b ≡ true → cond q true b ≡ true
later_listed true b h = refl
later_listed false b h = h

fields_listed : (fs : Fields) (ss : Slots) (gs : Fields) (ts : Slots) → ((p : List ℕ) → is_listed p ss ≡ true → is_listed p ts ≡ true) → projected_fields fs ss ≡ Some gs → all_listed gs ts ≡ true
fields_listed fs no_slots gs ts u h = let same : no_fields ≡ gs = cc in rw (← same) refl
fields_listed fs (slot n a k ss) gs ts u h =
    listed_step a (option_map (λ d. projected d k) (field_value n fs)) (projected_fields fs ss) n gs ts (u n (first_listed (bytes_eq n n) (is_listed n ss) (own_name n))) h
    (λ hs i. fields_listed fs ss hs ts (λ p j. u p (later_listed (bytes_eq p n) (is_listed p ss) j)) i)

record_of : (o : Option Fields) (ss : Slots) (e : Data) → option_map (λ gs. rec gs) o ≡ Some e → ((gs : Fields) → o ≡ Some gs → keeps (rec gs) (recs ss) ≡ true) → keeps e (recs ss) ≡ true
record_of None ss e h u = absurd (cc)
record_of (Some gs) ss e h u = let same : rec gs ≡ e = cc in subst (λ (y : Data). keeps y (recs ss) ≡ true) same (u gs refl)

record_kept : (fs : Fields) (ss : Slots) → Each Projects ss → Well (recs ss) → (gs : Fields) → projected_fields fs ss ≡ Some gs → keeps (rec gs) (recs ss) ≡ true
record_kept fs ss e w gs h =
    and-both (slots_kept gs ss) (all_listed gs ss)
    (slots_up gs ss ss (fields_model fs ss gs e w.0 w.1 h) (and-right (names_among ss ss) (slots_below ss ss) (own_below (recs ss) w)))
    (fields_listed fs ss gs ss (λ p i. i) h)

mutual
  keeps_projected : (k : KindData) → Well k → (d e : Data) → projected d k ≡ Some e → keeps e k ≡ true
  keeps_projected anything w d e h = refl
  keeps_projected nulls w null e h = let x : null ≡ e = cc in subst (λ (y : Data). keeps y nulls ≡ true) x refl
  keeps_projected booleans w (boolean b) e h = let x : boolean b ≡ e = cc in subst (λ (y : Data). keeps y booleans ≡ true) x refl
  keeps_projected ints w (int z) e h = let x : int z ≡ e = cc in subst (λ (y : Data). keeps y ints ≡ true) x refl
  keeps_projected texts w (text s) e h = let x : text s ≡ e = cc in subst (λ (y : Data). keeps y texts ≡ true) x refl
  keeps_projected (hosts ns) w (text s) e h = one_of (is_among s ns) s e ns refl h
  keeps_projected (lists k n) w (list ds) e h =
      list_of (nat_le (count_of ds) n) (projected_items (λ d. projected d k) ds) ds k n e refl h
      (λ es i. items_kept (λ d. projected d k) (λ d. keeps d k) ds es i (λ x y j. keeps_projected k w x y j))
  keeps_projected (recs ss) w (rec fs) e h = record_of (projected_fields fs ss) ss e h (λ gs i. record_kept fs ss (each_projects ss) w gs i)
  keeps_projected k w d e h = absurd (cc)

  each_projects : (ss : Slots) → Each Projects ss
  each_projects no_slots = tt
  each_projects (slot n a k ss) = (λ w d e h. keeps_projected k w d e h, each_projects ss)

pub projected_keeps : (d : Data) (k : KindData) (e : Data) → Well k → projected d k ≡ Some e → keeps e k ≡ true
projected_keeps d k e w h = keeps_projected k w d e h

-- each value of the kind has a projection
items_there : (f : Data → Option Data) (g : Data → Bool) (ds : Items) → ((d : Data) → g d ≡ true → is_some (f d) ≡ true) → all_items g ds ≡ true → is_some (projected_items f ds) ≡ true
items_there f g no_items u h = refl
items_there f g (item d ds) u h = both (f d) (projected_items f ds) (u d (and-left (g d) (all_items g ds) h)) (items_there f g ds u (and-right (g d) (all_items g ds) h)) where
  both : (o : Option Data) (p : Option Items) → is_some o ≡ true → is_some p ≡ true → is_some (with_item o p) ≡ true
  both None p x y = untrue x
  both (Some e) None x y = untrue y
  both (Some e) (Some es) x y = refl

list_there : (q : Bool) (o : Option Items) → q ≡ true → is_some o ≡ true → is_some (cond q (option_map (λ es. list es) o) None) ≡ true
list_there true None x y = untrue y
list_there true (Some es) x y = refl
list_there false o x y = untrue x

record_there : (o : Option Fields) → is_some o ≡ true → is_some (option_map (λ gs. rec gs) o) ≡ true
record_there None h = untrue h
record_there (Some gs) h = refl

first_there : (n : List ℕ) (o : Option Data) (r : Option Fields) → is_some o ≡ true → is_some r ≡ true → is_some (with_first n o r) ≡ true
first_there n None r x y = untrue x
first_there n (Some e) None x y = untrue y
first_there n (Some e) (Some gs) x y = refl

field_there : (a : Bool) (n : List ℕ) (o : Option Data) (k : KindData) (r : Option Fields) → ((d : Data) → keeps d k ≡ true → is_some (projected d k) ≡ true) → filled a (option_map (λ d. keeps d k) o) ≡ true → is_some r ≡ true
    → is_some (with_field n a (option_map (λ d. projected d k) o) r) ≡ true
field_there true n None k r f h i = untrue h
field_there false n None k r f h i = i
field_there true n (Some d) k r f h i = first_there n (projected d k) r (f d h) i
field_there false n (Some d) k r f h i = first_there n (projected d k) r (f d h) i

mutual
  projected_there : (k : KindData) (d : Data) → has_no_results k ≡ true → keeps d k ≡ true → is_some (projected d k) ≡ true
  projected_there anything d n h = refl
  projected_there never d n h = untrue (nothing_keeps_never d h)
  projected_there nulls null n h = refl
  projected_there booleans (boolean b) n h = refl
  projected_there ints (int z) n h = refl
  projected_there texts (text s) n h = refl
  projected_there (hosts ns) (text s) n h = rw h refl
  projected_there (lists k o) (list ds) n h =
      list_there (nat_le (count_of ds) o) (projected_items (λ d. projected d k) ds) (and-left (nat_le (count_of ds) o) (all_items (λ d. keeps d k) ds) h)
      (items_there (λ d. projected d k) (λ d. keeps d k) ds (λ d i. projected_there k d n i) (and-right (nat_le (count_of ds) o) (all_items (λ d. keeps d k) ds) h))
  projected_there (recs ss) (rec fs) n h = record_there (projected_fields fs ss) (fields_there ss fs n (and-left (slots_kept fs ss) (all_listed fs ss) h))
  projected_there (results cs r) d n h = untrue n
  projected_there k d n h = untrue h

  fields_there : (ss : Slots) (fs : Fields) → have_no_results ss ≡ true → slots_kept fs ss ≡ true → is_some (projected_fields fs ss) ≡ true
  fields_there no_slots fs n h = refl
  fields_there (slot p a k ss) fs n h =
      let here = filled a (option_map (λ d. keeps d k) (field_value p fs)) in
      field_there a p (field_value p fs) k (projected_fields fs ss) (λ d i. projected_there k d (and-left (has_no_results k) (have_no_results ss) n) i) (and-left here (slots_kept fs ss) h)
      (fields_there ss fs (and-right (has_no_results k) (have_no_results ss) n) (and-right here (slots_kept fs ss) h))

pub projected_of_kept : (d : Data) (k : KindData) → has_no_results k ≡ true → keeps d k ≡ true → projected d k ≢ None
projected_of_kept d k n h = λ e. true≢false (sym (projected_there k d n h) ∙ ap is_some e)
