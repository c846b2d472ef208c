-- Spots and slots in order.
use Rattle.std.proofs.Common.{◌≡◌, List, [], ◌∷◌, Bool, true, false, not, ◌&&◌, ◌||◌, refl, sym, ◌∙◌}
use Rattle.pb_semantics.specs.Kind.{KindData, Slots, Cases, Spot, never, nulls, booleans, ints, texts, hosts, lists, recs, results, anything, nowhere, spot, slot_at, is_there}
use Rattle.pb_semantics.specs.Below.{names_among, spot_below, all_cases, below, slots_below, is_covered}
use Rattle.pb_semantics.specs.Join.{join, join_slots, join_spot}
use Rattle.pb_semantics.specs.Well.{Well, WellCases, are_once}
use Rattle.pb_semantics.proofs.Bools.{untrue, and-left, and-right, and-both, or-right, own_presence, presence_through}
use Rattle.pb_semantics.proofs.Slots.{among, slot_below, from_among, from_slots, listed_is_there}
use Rattle.pb_semantics.proofs.Order.{own_below, covered_from}
use Rattle.pb_semantics.proofs.Through.{never_below, through, all_well}
use Rattle.pb_semantics.proofs.JoinSlots.{at_join}
use Rattle.pb_semantics.proofs.JoinAbove.{joins_above, cases_below}
use Rattle.pb_semantics.proofs.JoinLeast.{joins_least}
use Rattle.pb_language.specs.Expression.{Name}
use Rattle.pb_language.specs.Scope.{spot_kind, is_certain, below_spot, sure}
use Rattle.pb_language.specs.Kinds.{step_spot, path_spot, shown_spot, default_kind}
use Rattle.pb_language.specs.Wells.{WellSpot}
use Rattle.pb_language.specs.Ordered.{SpotLe, SlotsLe, PathLe}
use Rattle.pb_language.proofs.WellKinds.{well_slot, well_step, well_below}

spot_le : (s t : Spot) → (is_there s ≡ true → is_there t ≡ true) → ((b : Bool) (m : KindData) → t ≡ spot b m → spot_below (λ j. below j m) b s ≡ true) → SpotLe s t
spot_le nowhere nowhere u f = tt
spot_le nowhere (spot b m) u f = f b m refl
spot_le (spot a k) nowhere u f = u refl
spot_le (spot a k) (spot b m) u f = (and-left (a || not b) (below k m) (f b m refl), and-right (a || not b) (below k m) (f b m refl))

-- the order of records, name by name
pub slots_le : (ss ts : Slots) → below (recs ss) (recs ts) ≡ true → SlotsLe ss ts
slots_le ss ts h =
    let names = and-left (names_among ss ts) (slots_below ss ts) h in
    record {
      at = λ n. spot_le (slot_at n ss) (slot_at n ts) (λ i. sym (listed_is_there n ts) ∙ among n ss ts names (listed_is_there n ss ∙ i))
          (λ b m i. slot_below n ss ts b m (and-right (names_among ss ts) (slots_below ss ts) h) i);
    }

pub le_there : (s t : Spot) → SpotLe s t → is_there s ≡ true → is_there t ≡ true
le_there nowhere t l h = untrue h
le_there (spot a k) nowhere l h = l
le_there (spot a k) (spot b m) l h = refl

le_spot : (s t : Spot) (b : Bool) (m : KindData) → SpotLe s t → t ≡ spot b m → spot_below (λ j. below j m) b s ≡ true
le_spot s nowhere b m l i = let x : nowhere ≡ spot b m = i in absurd (cc)
le_spot nowhere (spot c j) b m l i = let x : c ≡ b = cc in rw (← x) l
le_spot (spot a k) (spot c j) b m l i = let x : c ≡ b = cc in let y : j ≡ m = cc in rw (← x, ← y) (and-both (a || not c) (below k j) l.0 l.1)

pub le_slots : (ss ts : Slots) → are_once ts ≡ true → SlotsLe ss ts → below (recs ss) (recs ts) ≡ true
le_slots ss ts o l =
    and-both (names_among ss ts) (slots_below ss ts) (from_among ss ts (λ n h. listed_is_there n ts ∙ le_there (slot_at n ss) (slot_at n ts) (l.at n) (sym (listed_is_there n ss) ∙ h)))
    (from_slots ss ts o (λ n b m i. le_spot (slot_at n ss) (slot_at n ts) b m (l.at n) i))

-- presence
both_absent : (a b : Bool) → not a ≡ true → not (a && b) ≡ true
both_absent true b h = untrue h
both_absent false b h = refl

absent_both : (a b : Bool) → not b ≡ true → not (a && b) ≡ true
absent_both true b h = h
absent_both false b h = refl

pub presences : (a b c d : Bool) → a || not b ≡ true → c || not d ≡ true → (a && c) || not (b && d) ≡ true
presences true true c d h i = i
presences true false c d h i = or-right c true refl
presences false true c d h i = untrue h
presences false false c d h i = refl

both_presence : (a b c : Bool) → a || not c ≡ true → b || not c ≡ true → (a && b) || not c ≡ true
both_presence true b c h i = i
both_presence false b c h i = h

-- joins go up
pub join_up : (k m i j : KindData) → Well k → Well m → Well i → Well j → below k i ≡ true → below m j ≡ true → below (join k m) (join i j) ≡ true
join_up k m i j wk wm wi wj x y =
    let both = joins_above i j wi wj in
    joins_least k m (join i j) wk wm (through k i (join i j) wk x both.0) (through m j (join i j) wm y both.1)

pub spots_join : (s u t v : Spot) → WellSpot s → WellSpot u → WellSpot t → WellSpot v → SpotLe s u → SpotLe t v → SpotLe (join_spot s t) (join_spot u v)
spots_join nowhere nowhere nowhere nowhere a b c d x y = tt
spots_join nowhere nowhere nowhere (spot q j) a b c d x y = refl
spots_join nowhere nowhere (spot p m) nowhere a b c d x y = untrue y
spots_join nowhere nowhere (spot p m) (spot q j) a b c d x y = (refl, y.1)
spots_join nowhere (spot o i) nowhere nowhere a b c d x y = refl
spots_join nowhere (spot o i) nowhere (spot q j) a b c d x y = both_absent o q x
spots_join nowhere (spot o i) (spot p m) nowhere a b c d x y = untrue y
spots_join nowhere (spot o i) (spot p m) (spot q j) a b c d x y = (both_absent o q x, through m j (join i j) c y.1 (joins_above i j b d).1)
spots_join (spot n k) nowhere t v a b c d x y = untrue x
spots_join (spot n k) (spot o i) nowhere nowhere a b c d x y = (refl, x.1)
spots_join (spot n k) (spot o i) nowhere (spot q j) a b c d x y = (absent_both o q y, through k i (join i j) a x.1 (joins_above i j b d).0)
spots_join (spot n k) (spot o i) (spot p m) nowhere a b c d x y = untrue y
spots_join (spot n k) (spot o i) (spot p m) (spot q j) a b c d x y = (presences n o p q x.0 y.0, join_up k m i j a c b d x.1 y.1)

pub slots_join : (ss us ts vs : Slots) → Well (recs ss) → Well (recs us) → Well (recs ts) → Well (recs vs) → SlotsLe ss us → SlotsLe ts vs → SlotsLe (join_slots ss ts) (join_slots us vs)
slots_join ss us ts vs a b c d x y = record {
  at = λ n. rw (at_join n ss ts c.0, at_join n us vs d.0) (spots_join (slot_at n ss) (slot_at n us) (slot_at n ts) (slot_at n vs) (well_slot n ss a.1) (well_slot n us b.1) (well_slot n ts c.1) (well_slot n vs d.1) (x.at n) (y.at n));
}

-- paths
pub path_le : (s t : Spot) → SpotLe s t → PathLe s t
path_le nowhere nowhere l = (refl, refl)
path_le nowhere (spot b m) l = (never_below m, l)
path_le (spot a k) nowhere l = untrue l
path_le (spot a k) (spot b m) l = (l.1, l.0)

pub path_own : (s : Spot) → WellSpot s → PathLe s s
path_own s w = (own_below (spot_kind s) w, own_presence (is_certain s))

pub path_through : (s t u : Spot) → WellSpot s → PathLe s t → PathLe t u → PathLe s u
path_through s t u w x y = (through (spot_kind s) (spot_kind t) (spot_kind u) w x.0 y.0, presence_through (is_certain s) (is_certain t) (is_certain u) x.1 y.1)

pub path_least : (s u t : Spot) → WellSpot s → WellSpot u → PathLe s t → PathLe u t → PathLe (join_spot s u) t
path_least nowhere nowhere t w v x y = x
path_least nowhere (spot b m) t w v x y = (y.0, x.1)
path_least (spot a k) nowhere t w v x y = (x.0, y.1)
path_least (spot a k) (spot b m) t w v x y = (joins_least k m (spot_kind t) w v x.0 y.0, both_presence a b (is_certain t) x.1 y.1)

pub path_first : (s u : Spot) → WellSpot s → WellSpot u → PathLe s (join_spot s u)
path_first nowhere nowhere w v = (refl, refl)
path_first nowhere (spot b m) w v = (never_below m, refl)
path_first (spot a k) nowhere w v = (own_below k w, or-right a true refl)
path_first (spot true k) (spot b m) w v = ((joins_above k m w v).0, refl)
path_first (spot false k) (spot b m) w v = ((joins_above k m w v).0, refl)

pub path_second : (s u : Spot) → WellSpot s → WellSpot u → PathLe u (join_spot s u)
path_second nowhere nowhere w v = (refl, refl)
path_second nowhere (spot b m) w v = (own_below m v, or-right b true refl)
path_second (spot a k) nowhere w v = (never_below k, refl)
path_second (spot a k) (spot true m) w v = ((joins_above k m w v).1, refl)
path_second (spot true k) (spot false m) w v = ((joins_above k m w v).1, refl)
path_second (spot false k) (spot false m) w v = ((joins_above k m w v).1, refl)

-- what is known of all cases of a result goes up
covered_kinds : (cs ds : Cases) (q : KindData) → WellCases cs → all_cases (λ m sh fl k. below k q) ds ≡ true → all_cases (λ m sh fl k. is_covered m sh fl k ds) cs ≡ true → all_cases (λ m sh fl k. below k q) cs ≡ true
covered_kinds cs ds q w a h =
    all_well (λ m sh fl k. is_covered m sh fl k ds) (λ m sh fl k. below k q) cs w
    (λ m sh fl k c v x. covered_from m sh fl k (λ n sj fm j. below j q) (below k q) ds (λ n sj fm j e y z. through k j q v y z) a x) h

pub known_up : (cs ds : Cases) (r q : KindData) → Well (results cs r) → Well (results ds q) → below (results cs r) (results ds q) ≡ true → below r q ≡ true
known_up cs ds r q w v h = w.2.least q (covered_kinds cs ds q w.0 v.2.above h)

pub known_record : (cs : Cases) (r : KindData) (ts : Slots) → Well (results cs r) → below (results cs r) (recs ts) ≡ true → below r (recs ts) ≡ true
known_record cs r ts w h = w.2.least (recs ts) (cases_below cs r ts h)

lowest : (s : Spot) → PathLe (spot true never) s
lowest s = (never_below (spot_kind s), refl)

highest : (s : Spot) → PathLe s (spot false anything)
highest s = (refl, or-right (is_certain s) true refl)

record_step : (n : Name) (ss ts : Slots) → below (recs ss) (recs ts) ≡ true → PathLe (slot_at n ss) (slot_at n ts)
record_step n ss ts h = path_le (slot_at n ss) (slot_at n ts) ((slots_le ss ts h).at n)

pub step_up : (n : Name) (k m : KindData) → Well k → Well m → below k m ≡ true → PathLe (step_spot n k) (step_spot n m)
step_up n never m w v h = lowest (step_spot n m)
step_up n nulls nulls w v h = (refl, refl)
step_up n nulls anything w v h = (refl, refl)
step_up n nulls m w v h = untrue h
step_up n booleans booleans w v h = (refl, refl)
step_up n booleans anything w v h = (refl, refl)
step_up n booleans m w v h = untrue h
step_up n ints ints w v h = (refl, refl)
step_up n ints anything w v h = (refl, refl)
step_up n ints m w v h = untrue h
step_up n texts texts w v h = (refl, refl)
step_up n texts anything w v h = (refl, refl)
step_up n texts m w v h = untrue h
step_up n (hosts ns) texts w v h = (refl, refl)
step_up n (hosts ns) (hosts ms) w v h = (refl, refl)
step_up n (hosts ns) anything w v h = (refl, refl)
step_up n (hosts ns) m w v h = untrue h
step_up n (lists k o) (lists m p) w v h = (refl, refl)
step_up n (lists k o) anything w v h = (refl, refl)
step_up n (lists k o) m w v h = untrue h
step_up n (recs ss) (recs ts) w v h = record_step n ss ts h
step_up n (recs ss) anything w v h = highest (slot_at n ss)
step_up n (recs ss) m w v h = untrue h
step_up n (results cs never) (recs ts) w v h = lowest (slot_at n ts)
step_up n (results cs (recs rs)) (recs ts) w v h = record_step n rs ts (known_record cs (recs rs) ts w h)
step_up n (results cs r) (recs ts) w v h = untrue w.2.known
step_up n (results cs never) (results ds q) w v h = lowest (step_spot n (results ds q))
step_up n (results cs (recs rs)) (results ds (recs qs)) w v h = record_step n rs qs (known_up cs ds (recs rs) (recs qs) w v h)
step_up n (results cs (recs rs)) (results ds never) w v h = untrue (known_up cs ds (recs rs) never w v h)
step_up n (results cs (recs rs)) (results ds q) w v h = untrue v.2.known
step_up n (results cs r) (results ds q) w v h = untrue w.2.known
step_up n (results cs r) anything w v h = highest (step_spot n (results cs r))
step_up n (results cs r) m w v h = untrue h
step_up n anything anything w v h = (refl, refl)
step_up n anything m w v h = untrue h

pub below_up : (a b : Bool) (s t : Spot) → a || not b ≡ true → PathLe s t → PathLe (below_spot a s) (below_spot b t)
below_up a b nowhere nowhere h l = (refl, refl)
below_up a b nowhere (spot d m) h l = (l.0, absent_both b d l.1)
below_up a b (spot c k) nowhere h l = (l.0, or-right (a && c) true refl)
below_up a b (spot c k) (spot d m) h l = (l.0, presences a b c d h l.1)

pub uncertain_below : (b : Bool) (s : Spot) → not b ≡ true → not (is_certain (below_spot b s)) ≡ true
uncertain_below true s h = untrue h
uncertain_below false nowhere h = refl
uncertain_below false (spot a k) h = refl

uncertain_path : (ns : List Name) (s : Spot) → not (is_certain s) ≡ true → not (is_certain (path_spot ns s)) ≡ true
uncertain_path [] s h = h
uncertain_path (n ∷ ns) nowhere h = refl
uncertain_path (n ∷ ns) (spot a k) h = uncertain_path ns (below_spot a (step_spot n k)) (uncertain_below a (step_spot n k) h)

nowhere_path : (ns : List Name) → path_spot ns nowhere ≡ nowhere
nowhere_path [] = refl
nowhere_path (n ∷ ns) = refl

pub path_up : (ns : List Name) (s t : Spot) → WellSpot s → WellSpot t → PathLe s t → PathLe (path_spot ns s) (path_spot ns t)
path_up [] s t w v l = l
path_up (n ∷ ns) nowhere nowhere w v l = (refl, refl)
path_up (n ∷ ns) nowhere (spot b m) w v l =
    let x = path_spot ns (below_spot b (step_spot n m)) in
    (never_below (spot_kind x), uncertain_path ns (below_spot b (step_spot n m)) (uncertain_below b (step_spot n m) l.1))
path_up (n ∷ ns) (spot a never) nowhere w v l = rw (nowhere_path ns) at (path_up ns (spot (a && true) never) nowhere tt tt (refl, or-right (a && true) true refl))
path_up (n ∷ ns) (spot a k) nowhere w v l = untrue l.0
path_up (n ∷ ns) (spot a k) (spot b m) w v l =
    path_up ns (below_spot a (step_spot n k)) (below_spot b (step_spot n m)) (well_below a (step_spot n k) (well_step n k w)) (well_below b (step_spot n m) (well_step n m v))
    (below_up a b (step_spot n k) (step_spot n m) l.1 (step_up n k m w v l.0))

pub sure_up : (s t : Spot) → PathLe s t → PathLe (sure s) (sure t)
sure_up nowhere nowhere l = (refl, refl)
sure_up nowhere (spot b m) l = (l.0, refl)
sure_up (spot a k) nowhere l = (l.0, refl)
sure_up (spot a k) (spot b m) l = (l.0, refl)

pub shown_up : (q : Bool) (s t : Spot) → PathLe s t → PathLe (shown_spot q s) (shown_spot q t)
shown_up true s t l = sure_up s t l
shown_up false s t l = l

pub default_up : (s t : Spot) (k m : KindData) → WellSpot s → WellSpot t → Well k → Well m → PathLe s t → below k m ≡ true → below (default_kind s k) (default_kind t m) ≡ true
default_up nowhere nowhere k m w v a b l h = h
default_up nowhere (spot true j) k m w v a b l h = untrue l.1
default_up nowhere (spot false j) k m w v a b l h = through k m (join j m) a h (joins_above j m v b).1
default_up (spot true i) nowhere k m w v a b l h = through i never m w l.0 (never_below m)
default_up (spot true i) (spot true j) k m w v a b l h = l.0
default_up (spot true i) (spot false j) k m w v a b l h = through i j (join j m) w l.0 (joins_above j m v b).0
default_up (spot false i) nowhere k m w v a b l h = joins_least i k m w a (through i never m w l.0 (never_below m)) h
default_up (spot false i) (spot true j) k m w v a b l h = untrue l.1
default_up (spot false i) (spot false j) k m w v a b l h = join_up i k j m w a v b l.0 h
