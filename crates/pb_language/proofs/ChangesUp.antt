-- What tests teach of a kind goes up.
use Rattle.std.proofs.Common.{◌≡◌, List, [], ◌∷◌, Bool, true, false, ◌&&◌, cond, bytes_eq, codes, ⊎_elim, refl, ap}
use Rattle.pb_semantics.specs.Kind.{KindData, Slots, Cases, Shape, Spot, never, nulls, booleans, ints, texts, hosts, lists, recs, results, anything, no_cases, one, nowhere, spot, slot_at, is_skipped as is_skip}
use Rattle.pb_semantics.specs.Below.{names_among, all_cases, same_case, below, slots_below, is_covered}
use Rattle.pb_semantics.specs.Well.{Well, WellCases, is_record}
use Rattle.pb_semantics.proofs.Bools.{untrue, and-left, and-right, and-both, or-left, or-right, or-cases}
use Rattle.pb_semantics.proofs.Names.{same_name, case_shape, case_flag}
use Rattle.pb_semantics.proofs.Slots.{among}
use Rattle.pb_semantics.proofs.Through.{never_below}
use Rattle.pb_semantics.proofs.JoinAbove.{result_below, cases_below}
use Rattle.pb_language.specs.Expression.{Name, Status, is_failed, is_changed, is_skipped}
use Rattle.pb_language.specs.Scope.{with_spot}
use Rattle.pb_language.specs.Narrow.{least_record, results_of, cases_with, has_slot, answers, on_results, changed_spot, with_change, cases_changed, changed_at, may_step, can_have, there_spot, with_step, cases_stepped, defined_at}
use Rattle.pb_language.specs.Wells.{WellSpot}
use Rattle.pb_language.specs.Ordered.{SpotLe, SlotsLe, PathLe}
use Rattle.pb_language.proofs.WithSlot.{at_with}
use Rattle.pb_language.proofs.WellKinds.{well_slot}
use Rattle.pb_language.proofs.Taught.{Wells, well_with_spot, well_changed_spot, well_there_spot, well_cases_with, well_on_results, well_cases_changed, well_changed_at, well_stepped, well_defined_at}
use Rattle.pb_language.proofs.Spots.{slots_le, le_slots, known_record, known_up}

pub record KindUp (g : KindData → KindData) : Type 0 where
  pub up : (k m : KindData) → Well k → Well m → below k m ≡ true → below (g k) (g m) ≡ true
  pub wells : Wells g
  pub strict : below (g never) never ≡ true

-- a spot that is put
at_nowhere : (q : Bool) (p n : Name) (ss : Slots) → bytes_eq p n ≡ q → slot_at n ss ≡ nowhere → slot_at p ss ≡ cond q nowhere (slot_at p ss)
at_nowhere true p n ss e h = rw (same_name p n e) h
at_nowhere false p n ss e h = refl

pub at_spot : (p n : Name) (s : Spot) (ss : Slots) → (s ≡ nowhere → slot_at n ss ≡ nowhere) → slot_at p (with_spot n s ss) ≡ cond (bytes_eq p n) s (slot_at p ss)
at_spot p n nowhere ss f = at_nowhere (bytes_eq p n) p n ss refl (f refl)
at_spot p n (spot a k) ss f = at_with p n a k ss

put_step : (q : Bool) (s t u v : Spot) → SpotLe s t → SpotLe u v → SpotLe (cond q s u) (cond q t v)
put_step true s t u v x y = x
put_step false s t u v x y = y

pub spots_put : (n : Name) (s t : Spot) (ss ts : Slots) → (s ≡ nowhere → slot_at n ss ≡ nowhere) → (t ≡ nowhere → slot_at n ts ≡ nowhere) → SpotLe s t → SlotsLe ss ts → SlotsLe (with_spot n s ss) (with_spot n t ts)
spots_put n s t ss ts f g x y = record { at = λ p. rw (at_spot p n s ss f, at_spot p n t ts g) (put_step (bytes_eq p n) s t (slot_at p ss) (slot_at p ts) x (y.at p)) }

-- changes of spots
pub record SpotUp (f : Spot → Spot) : Type 0 where
  pub slots : (s t : Spot) → WellSpot s → WellSpot t → SpotLe s t → SpotLe (f s) (f t)
  pub paths : (s t : Spot) → WellSpot s → WellSpot t → PathLe s t → PathLe (f s) (f t)
  pub wells : (s : Spot) → WellSpot s → WellSpot (f s)
  pub kept : (s : Spot) → f s ≡ nowhere → s ≡ nowhere

module _ (g : KindData → KindData) (u : KindUp g) where
  changed_slots : (s t : Spot) → WellSpot s → WellSpot t → SpotLe s t → SpotLe (changed_spot g s) (changed_spot g t)
  changed_slots nowhere nowhere w v l = tt
  changed_slots nowhere (spot b m) w v l = l
  changed_slots (spot a k) nowhere w v l = untrue l
  changed_slots (spot a k) (spot b m) w v l = (l.0, u.up k m w v l.1)

  changed_paths : (s t : Spot) → WellSpot s → WellSpot t → PathLe s t → PathLe (changed_spot g s) (changed_spot g t)
  changed_paths nowhere nowhere w v l = (refl, refl)
  changed_paths nowhere (spot b m) w v l = (never_below (g m), l.1)
  changed_paths (spot a never) nowhere w v l = (u.strict, l.1)
  changed_paths (spot a k) nowhere w v l = untrue l.0
  changed_paths (spot a k) (spot b m) w v l = (u.up k m w v l.0, l.1)

  changed_kept : (s : Spot) → changed_spot g s ≡ nowhere → s ≡ nowhere
  changed_kept nowhere e = refl
  changed_kept (spot a k) e = let x : spot a (g k) ≡ nowhere = e in absurd (cc)

  pub changed_up : SpotUp (changed_spot g)
  changed_up = record { slots = changed_slots; paths = changed_paths; wells = λ s w. well_changed_spot g s u.wells w; kept = changed_kept }

  there_slots : (s t : Spot) → WellSpot s → WellSpot t → SpotLe s t → SpotLe (there_spot g s) (there_spot g t)
  there_slots nowhere nowhere w v l = (refl, refl)
  there_slots nowhere (spot b m) w v l = (refl, never_below (g m))
  there_slots (spot a k) nowhere w v l = untrue l
  there_slots (spot a k) (spot b m) w v l = (refl, u.up k m w v l.1)

  there_paths : (s t : Spot) → WellSpot s → WellSpot t → PathLe s t → PathLe (there_spot g s) (there_spot g t)
  there_paths nowhere nowhere w v l = (refl, refl)
  there_paths nowhere (spot b m) w v l = (never_below (g m), refl)
  there_paths (spot a never) nowhere w v l = (u.strict, refl)
  there_paths (spot a k) nowhere w v l = untrue l.0
  there_paths (spot a k) (spot b m) w v l = (u.up k m w v l.0, refl)

  there_kept : (s : Spot) → there_spot g s ≡ nowhere → s ≡ nowhere
  there_kept nowhere e = refl
  there_kept (spot a k) e = let x : spot true (g k) ≡ nowhere = e in absurd (cc)

  pub there_up : SpotUp (there_spot g)
  there_up = record { slots = there_slots; paths = there_paths; wells = λ s w. well_there_spot g s u.wells w; kept = there_kept }

-- a field of a record
field_up : (f : Spot → Spot) (n : Name) (ss ts : Slots) → SpotUp f → Well (recs ss) → Well (recs ts) → below (recs ss) (recs ts) ≡ true
    → below (recs (with_spot n (f (slot_at n ss)) ss)) (recs (with_spot n (f (slot_at n ts)) ts)) ≡ true
field_up f n ss ts u w v h =
    let l = slots_le ss ts h in
    le_slots (with_spot n (f (slot_at n ss)) ss) (with_spot n (f (slot_at n ts)) ts) (well_with_spot n (f (slot_at n ts)) ts (u.wells (slot_at n ts) (well_slot n ts v.1)) v).0
    (spots_put n (f (slot_at n ss)) (f (slot_at n ts)) ss ts (u.kept (slot_at n ss)) (u.kept (slot_at n ts)) (u.slots (slot_at n ss) (slot_at n ts) (well_slot n ss w.1) (well_slot n ts v.1) (l.at n)) l)

-- cases
later_case : (q : Bool) (m n : Name) (sh sj : Shape) (fl fm : Bool) (k j : KindData) (ds : Cases) → is_covered m sh fl k ds ≡ true → is_covered m sh fl k (cond q (one n sj fm j ds) ds) ≡ true
later_case true m n sh sj fl fm k j ds h = or-right (same_case m sh fl n sj fm && below k j) (is_covered m sh fl k ds) h
later_case false m n sh sj fl fm k j ds h = h

this_case : (q : Bool) (m n : Name) (sh sj : Shape) (fl fm : Bool) (k j : KindData) (ds : Cases) → q ≡ true → same_case m sh fl n sj fm ≡ true → below k j ≡ true → is_covered m sh fl k (cond q (one n sj fm j ds) ds) ≡ true
this_case true m n sh sj fl fm k j ds e s h = or-left (same_case m sh fl n sj fm && below k j) (is_covered m sh fl k ds) (and-both (same_case m sh fl n sj fm) (below k j) s h)
this_case false m n sh sj fl fm k j ds e s h = untrue e

stepped_covers : (p : KindData → Bool) (f : KindData → KindData) (m : Name) (sh : Shape) (fl : Bool) (k : KindData) (ds : Cases)
    → ((j : KindData) → is_record j ≡ true → Well j → below k j ≡ true → (p j ≡ true) × (below (f k) (f j) ≡ true)) → WellCases ds → is_covered m sh fl k ds ≡ true → is_covered m sh fl (f k) (cases_stepped p f ds) ≡ true
stepped_covers p f m sh fl k no_cases u w h = h
stepped_covers p f m sh fl k (one n sj fm j ds) u w h =
    let same = same_case m sh fl n sj fm in
    ⊎_elim (λ x. let both = u j w.0 w.1 (and-right same (below k j) x) in this_case (p j) m n sh sj fl fm (f k) (f j) (cases_stepped p f ds) both.0 (and-left same (below k j) x) both.1)
    (λ y. later_case (p j) m n sh sj fl fm (f k) (f j) (cases_stepped p f ds) (stepped_covers p f m sh fl k ds u w.2 y)) (or-cases (same && below k j) (is_covered m sh fl k ds) h)

all_step : (q : Bool) (Q : Name → Shape → Bool → KindData → Bool) (m : Name) (sh : Shape) (fl : Bool) (k : KindData) (cs : Cases) → (q ≡ true → Q m sh fl k ≡ true) → all_cases Q cs ≡ true → all_cases Q (cond q (one m sh fl k cs) cs) ≡ true
all_step true Q m sh fl k cs x y = and-both (Q m sh fl k) (all_cases Q cs) (x refl) y
all_step false Q m sh fl k cs x y = y

stepped_all : (p : KindData → Bool) (f : KindData → KindData) (P Q : Name → Shape → Bool → KindData → Bool) (cs : Cases)
    → ((m : Name) (sh : Shape) (fl : Bool) (k : KindData) → is_record k ≡ true → Well k → p k ≡ true → P m sh fl k ≡ true → Q m sh fl (f k) ≡ true) → WellCases cs → all_cases P cs ≡ true → all_cases Q (cases_stepped p f cs) ≡ true
stepped_all p f P Q no_cases u w h = refl
stepped_all p f P Q (one m sh fl k cs) u w h =
    all_step (p k) Q m sh fl (f k) (cases_stepped p f cs) (λ e. u m sh fl k w.0 w.1 e (and-left (P m sh fl k) (all_cases P cs) h)) (stepped_all p f P Q cs u w.2 (and-right (P m sh fl k) (all_cases P cs) h))

-- results whose cases are changed
stepped_results : (p : KindData → Bool) (f : KindData → KindData) (cs ds : Cases) (r q a b : KindData) → WellCases cs → WellCases ds
    → ((k j : KindData) → is_record k ≡ true → is_record j ≡ true → Well k → Well j → below k j ≡ true → (p k ≡ true → p j ≡ true) × (below (f k) (f j) ≡ true))
    → below (results cs r) (results ds q) ≡ true → below (results (cases_stepped p f cs) a) (results (cases_stepped p f ds) b) ≡ true
stepped_results p f cs ds r q a b w v u h =
    stepped_all p f (λ m sh fl k. is_covered m sh fl k ds) (λ m sh fl k. is_covered m sh fl k (cases_stepped p f ds)) cs
    (λ m sh fl k c x e y. stepped_covers p f m sh fl k ds (λ j i z n. let both = u k j c i x z n in (both.0 e, both.1)) v y) w h

stepped_record : (p : KindData → Bool) (f : KindData → KindData) (cs : Cases) (r : KindData) (ts us : Slots) → WellCases cs → WellCases (cases_stepped p f cs)
    → ((k : KindData) → is_record k ≡ true → Well k → below k (recs ts) ≡ true → below (f k) (recs us) ≡ true)
    → below (results cs r) (recs ts) ≡ true → below (results_of (cases_stepped p f cs)) (recs us) ≡ true
stepped_record p f cs r ts us w v u h =
    result_below (cases_stepped p f cs) (least_record (cases_stepped p f cs)) us v
    (stepped_all p f (λ m sh fl k. below k (recs ts)) (λ m sh fl k. below k (recs us)) cs (λ m sh fl k c x e y. u k c x y) w (cases_below cs r ts h))

changed_stepped : (f : KindData → KindData) (cs : Cases) → cases_changed f cs ≡ cases_stepped (λ k. true) f cs
changed_stepped f no_cases = refl
changed_stepped f (one m sh fl k cs) = ap (λ ds. one m sh fl (f k) ds) (changed_stepped f cs)

-- a change of a field of a record
change_up : (n : Name) (g : KindData → KindData) (k j : KindData) → KindUp g → is_record k ≡ true → is_record j ≡ true → Well k → Well j → below k j ≡ true → below (with_change n g k) (with_change n g j) ≡ true
change_up n g (recs ss) (recs ts) u a b w v h = field_up (changed_spot g) n ss ts (changed_up g u) w v h
change_up n g (recs ss) j u a b w v h = untrue b
change_up n g k j u a b w v h = untrue a

step_there : (n : Name) (g : KindData → KindData) (k j : KindData) → KindUp g → is_record k ≡ true → is_record j ≡ true → Well k → Well j → below k j ≡ true → below (with_step n g k) (with_step n g j) ≡ true
step_there n g (recs ss) (recs ts) u a b w v h = field_up (there_spot g) n ss ts (there_up g u) w v h
step_there n g (recs ss) j u a b w v h = untrue b
step_there n g k j u a b w v h = untrue a

module _ (n : Name) (ns : List Name) (f : KindData → KindData) (u : KindUp (changed_at ns f)) where
  changes : (k m : KindData) → Well k → Well m → below k m ≡ true → below (changed_at (n ∷ ns) f k) (changed_at (n ∷ ns) f m) ≡ true
  changes never m w v h = never_below (changed_at (n ∷ ns) f m)
  changes (recs ss) (recs ts) w v h = field_up (changed_spot (changed_at ns f)) n ss ts (changed_up (changed_at ns f) u) w v h
  changes (results cs r) (results ds q) w v h =
      let g = with_change n (changed_at ns f) in
      rw (changed_stepped g cs, changed_stepped g ds) (stepped_results (λ k. true) g cs ds r q (least_record (cases_stepped (λ k. true) g cs)) (least_record (cases_stepped (λ k. true) g ds)) w.0 v.0
      (λ k j a b x y z. (λ e. refl, change_up n (changed_at ns f) k j u a b x y z)) h)
  changes (results cs r) (recs ts) w v h =
      let g = with_change n (changed_at ns f) in
      let well = well_cases_changed n (changed_at ns f) cs u.wells w.0 in
      rw (changed_stepped g cs) (stepped_record (λ k. true) g cs r ts (with_spot n (changed_spot (changed_at ns f) (slot_at n ts)) ts) w.0 (rw (changed_stepped g cs) at well)
      (λ k a x y. change_up n (changed_at ns f) k (recs ts) u a refl x v y) h)
  changes (results cs r) anything w v h = refl
  changes (results cs r) m w v h = untrue h
  changes k never w v h = h
  changes k nulls w v h = h
  changes k booleans w v h = h
  changes k ints w v h = h
  changes k texts w v h = h
  changes k (hosts ms) w v h = h
  changes k (lists m o) w v h = h
  changes k (recs ts) w v h = h
  changes k (results ds q) w v h = h
  changes k anything w v h = h

pub changes_up : (ns : List Name) (f : KindData → KindData) → KindUp f → KindUp (changed_at ns f)
changes_up [] f u = record { up = λ k m w v h. u.up k m w v h; wells = λ k w. u.wells k w; strict = u.strict }
changes_up (n ∷ ns) f u = record { up = changes n ns f (changes_up ns f u); wells = λ k w. well_changed_at (n ∷ ns) f u.wells k w; strict = refl }

-- the cases that are left
left_covers : (p : Shape → Bool → KindData → Bool) (m : Name) (sh : Shape) (fl : Bool) (k : KindData) (ds : Cases)
    → ((j : KindData) → is_record j ≡ true → below k j ≡ true → p sh fl j ≡ true) → WellCases ds → is_covered m sh fl k ds ≡ true → is_covered m sh fl k (cases_with p ds) ≡ true
left_covers p m sh fl k no_cases u w h = h
left_covers p m sh fl k (one n sj fm j ds) u w h =
    let same = same_case m sh fl n sj fm in
    ⊎_elim (λ x. let s = and-left same (below k j) x in let y = and-right same (below k j) x in
    this_case (p sj fm j) m n sh sj fl fm k j (cases_with p ds) (rw (← case_shape m sh fl n sj fm s, ← case_flag m sh fl n sj fm s) (u j w.0 y)) s y)
    (λ y. later_case (p sj fm j) m n sh sj fl fm k j (cases_with p ds) (left_covers p m sh fl k ds u w.2 y)) (or-cases (same && below k j) (is_covered m sh fl k ds) h)

left_all : (p : Shape → Bool → KindData → Bool) (P Q : Name → Shape → Bool → KindData → Bool) (cs : Cases)
    → ((m : Name) (sh : Shape) (fl : Bool) (k : KindData) → is_record k ≡ true → p sh fl k ≡ true → P m sh fl k ≡ true → Q m sh fl k ≡ true) → WellCases cs → all_cases P cs ≡ true → all_cases Q (cases_with p cs) ≡ true
left_all p P Q no_cases u w h = refl
left_all p P Q (one m sh fl k cs) u w h =
    all_step (p sh fl k) Q m sh fl k (cases_with p cs) (λ e. u m sh fl k w.0 e (and-left (P m sh fl k) (all_cases P cs) h)) (left_all p P Q cs u w.2 (and-right (P m sh fl k) (all_cases P cs) h))

slot_there : (n : Name) (k j : KindData) → is_record j ≡ true → below k j ≡ true → has_slot n k ≡ true → has_slot n j ≡ true
slot_there n (recs ss) (recs ts) r h i = among n ss ts (and-left (names_among ss ts) (slots_below ss ts) h) i
slot_there n (recs ss) j r h i = untrue r
slot_there n k j r h i = untrue i

answers_up : (s : Status) (b : Bool) (sh : Shape) (fl : Bool) (k j : KindData) → is_record j ≡ true → below k j ≡ true → answers s b sh fl k ≡ true → answers s b sh fl j ≡ true
answers_up is_failed b sh fl k j r h i = i
answers_up is_skipped true sh fl k j r h i =
    let other = has_slot (codes "skipped") k in
    ⊎_elim (λ x. or-left (is_skip sh) (has_slot (codes "skipped") j) x) (λ y. or-right (is_skip sh) (has_slot (codes "skipped") j) (slot_there (codes "skipped") k j r h y)) (or-cases (is_skip sh) other i)
answers_up is_skipped false sh fl k j r h i = i
answers_up is_changed true sh fl k j r h i = i
answers_up is_changed false sh fl k j r h i = refl

module _ (s : Status) (b : Bool) where
  left : (k m : KindData) → Well k → Well m → below k m ≡ true → below (on_results (cases_with (answers s b)) k) (on_results (cases_with (answers s b)) m) ≡ true
  left never m w v h = never_below (on_results (cases_with (answers s b)) m)
  left (results cs r) (results ds q) w v h =
      let p = answers s b in
      left_all p (λ m sh fl k. is_covered m sh fl k ds) (λ m sh fl k. is_covered m sh fl k (cases_with p ds)) cs
      (λ m sh fl k c e y. left_covers p m sh fl k ds (λ j i z. answers_up s b sh fl k j i z e) v.0 y) w.0 h
  left (results cs r) (recs ts) w v h =
      let p = answers s b in
      result_below (cases_with p cs) (least_record (cases_with p cs)) ts (well_cases_with p cs w.0)
      (left_all p (λ m sh fl k. below k (recs ts)) (λ m sh fl k. below k (recs ts)) cs (λ m sh fl k c e y. y) w.0 (cases_below cs r ts h))
  left (results cs r) anything w v h = refl
  left (results cs r) m w v h = untrue h
  left k never w v h = h
  left k nulls w v h = h
  left k booleans w v h = h
  left k ints w v h = h
  left k texts w v h = h
  left k (hosts ms) w v h = h
  left k (lists m o) w v h = h
  left k (recs ts) w v h = h
  left k (results ds q) w v h = h
  left k anything w v h = h

  pub left_up : KindUp (on_results (cases_with (answers s b)))
  left_up = record { up = left; wells = λ k w. well_on_results (cases_with (answers s b)) (λ cs v. well_cases_with (answers s b) cs v) k w; strict = refl }

-- a kind that can have the steps
may_up : (p : KindData → Bool) (s t : Spot) → ((k m : KindData) → Well k → Well m → below k m ≡ true → p k ≡ true → p m ≡ true) → WellSpot s → WellSpot t → SpotLe s t → may_step p s ≡ true → may_step p t ≡ true
may_up p nowhere t u w v l h = untrue h
may_up p (spot a k) nowhere u w v l h = untrue l
may_up p (spot a k) (spot b m) u w v l h = u k m w v l.1 h

can_up : (ns : List Name) (k m : KindData) → Well k → Well m → below k m ≡ true → can_have ns k ≡ true → can_have ns m ≡ true
can_up [] k m w v h i = refl
can_up (n ∷ ns) k anything w v h i = refl
can_up (n ∷ ns) (recs ss) (recs ts) w v h i = may_up (can_have ns) (slot_at n ss) (slot_at n ts) (λ k m a b c d. can_up ns k m a b c d) (well_slot n ss w.1) (well_slot n ts v.1) ((slots_le ss ts h).at n) i
can_up (n ∷ ns) (recs ss) m w v h i = untrue h
can_up (n ∷ ns) (results cs (recs rs)) (recs ts) w v h i =
    may_up (can_have ns) (slot_at n rs) (slot_at n ts) (λ k m a b c d. can_up ns k m a b c d) (well_slot n rs w.1.1) (well_slot n ts v.1) ((slots_le rs ts (known_record cs (recs rs) ts w h)).at n) i
can_up (n ∷ ns) (results cs (recs rs)) (results ds (recs qs)) w v h i =
    may_up (can_have ns) (slot_at n rs) (slot_at n qs) (λ k m a b c d. can_up ns k m a b c d) (well_slot n rs w.1.1) (well_slot n qs v.1.1) ((slots_le rs qs (known_up cs ds (recs rs) (recs qs) w v h)).at n) i
can_up (n ∷ ns) (results cs (recs rs)) (results ds never) w v h i = untrue (known_up cs ds (recs rs) never w v h)
can_up (n ∷ ns) (results cs (recs rs)) (results ds q) w v h i = untrue v.2.known
can_up (n ∷ ns) (results cs (recs rs)) m w v h i = untrue h
can_up (n ∷ ns) anything m w v h i = untrue h
can_up (n ∷ ns) k m w v h i = untrue i

module _ (n : Name) (ns : List Name) (u : KindUp (defined_at ns)) where
  defines : (k m : KindData) → Well k → Well m → below k m ≡ true → below (defined_at (n ∷ ns) k) (defined_at (n ∷ ns) m) ≡ true
  defines never m w v h = never_below (defined_at (n ∷ ns) m)
  defines (recs ss) (recs ts) w v h = field_up (there_spot (defined_at ns)) n ss ts (there_up (defined_at ns) u) w v h
  defines (results cs r) (results ds q) w v h =
      let g = with_step n (defined_at ns) in
      let p = can_have (n ∷ ns) in
      stepped_results p g cs ds r q (least_record (cases_stepped p g cs)) (least_record (cases_stepped p g ds)) w.0 v.0
      (λ k j a b x y z. (λ e. can_up (n ∷ ns) k j x y z e, step_there n (defined_at ns) k j u a b x y z)) h
  defines (results cs r) (recs ts) w v h =
      let g = with_step n (defined_at ns) in
      let p = can_have (n ∷ ns) in
      stepped_record p g cs r ts (with_spot n (there_spot (defined_at ns) (slot_at n ts)) ts) w.0 (well_stepped p n (defined_at ns) cs u.wells w.0)
      (λ k a x y. step_there n (defined_at ns) k (recs ts) u a refl x v y) h
  defines (results cs r) anything w v h = refl
  defines (results cs r) m w v h = untrue h
  defines k never w v h = h
  defines k nulls w v h = h
  defines k booleans w v h = h
  defines k ints w v h = h
  defines k texts w v h = h
  defines k (hosts ms) w v h = h
  defines k (lists m o) w v h = h
  defines k (recs ts) w v h = h
  defines k (results ds q) w v h = h
  defines k anything w v h = h

pub defines_up : (ns : List Name) → KindUp (defined_at ns)
defines_up [] = record { up = λ k m w v h. h; wells = λ k w. w; strict = refl }
defines_up (n ∷ ns) = record { up = defines n ns (defines_up ns); wells = λ k w. well_defined_at (n ∷ ns) k w; strict = refl }
