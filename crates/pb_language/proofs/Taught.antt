-- What tests teach of a kind: a value that passes the test keeps the changed kind.
use Rattle.std.proofs.Common.{◌≡◌, ℕ, List, [], ◌∷◌, Bool, true, false, ◌&&◌, cond, Option, Some, None, is_some, ⊎_elim, refl, sym, ◌∙◌, not, codes}
use Rattle.pb_semantics.specs.Data.{Data, Fields, boolean, rec, field_value, bool_eq}
use Rattle.pb_semantics.specs.Kind.{KindData, Slots, Cases, Shape, Spot, never, recs, results, anything, no_cases, one, nowhere, spot, slot_at, ok_shape, failure_shape, skipped_shape, is_skipped as is_skip, is_there}
use Rattle.pb_semantics.specs.Keeps.{keeps, cases_kept, has_status, flag_is, spot_ok}
use Rattle.pb_semantics.specs.Below.{below, all_cases}
use Rattle.pb_semantics.specs.Well.{Well, WellCases, is_record}
use Rattle.pb_semantics.proofs.Bools.{untrue, and-left, and-right, and-both, or-left, or-right, or-cases}
use Rattle.pb_semantics.proofs.Names.{same_flag, own_flag}
use Rattle.pb_semantics.proofs.Slots.{listed_is_there}
use Rattle.pb_semantics.proofs.KeepsUp.{keeps_up}
use Rattle.pb_semantics.proofs.JoinAbove.{result_below}
use Rattle.pb_language.specs.Expression.{Name, Status, is_failed, is_changed, is_skipped}
use Rattle.pb_language.specs.Evaluation.{stuck, wrong_sort, Stuck, no_field, Outcome, value, or_stuck, value_below, is_value, has_statuses, status_of}
use Rattle.pb_language.specs.Scope.{with_spot}
use Rattle.pb_language.specs.Narrow.{cases_with, has_slot, answers, on_results, changed_spot, with_change, cases_changed, changed_at, may_step, can_have, there_spot, with_step, cases_stepped, defined_at}
use Rattle.pb_language.specs.Wells.{WellSpot}
use Rattle.pb_language.proofs.WithSlot.{well_with, record_models, kept_with}
use Rattle.pb_language.proofs.WellKinds.{well_slot, well_results}

abbrev pub Wells : (KindData → KindData) → Type 0
Wells f = (k : KindData) → Well k → Well (f k)

pub well_with_spot : (n : Name) (s : Spot) (ss : Slots) → WellSpot s → Well (recs ss) → Well (recs (with_spot n s ss))
well_with_spot n nowhere ss w v = v
well_with_spot n (spot a k) ss w v = well_with n a k ss w v

pub well_changed_spot : (f : KindData → KindData) (s : Spot) → Wells f → WellSpot s → WellSpot (changed_spot f s)
well_changed_spot f nowhere g w = tt
well_changed_spot f (spot a k) g w = g k w

pub well_there_spot : (f : KindData → KindData) (s : Spot) → Wells f → WellSpot s → WellSpot (there_spot f s)
well_there_spot f nowhere g w = tt
well_there_spot f (spot a k) g w = g k w

-- the cases that are left
well_one : (q : Bool) (m : List ℕ) (sh : Shape) (fl : Bool) (k : KindData) (cs : Cases) → is_record k ≡ true → Well k → WellCases cs → WellCases (cond q (one m sh fl k cs) cs)
well_one true m sh fl k cs r w v = (r, w, v)
well_one false m sh fl k cs r w v = v

pub well_cases_with : (f : Shape → Bool → KindData → Bool) (cs : Cases) → WellCases cs → WellCases (cases_with f cs)
well_cases_with f no_cases w = tt
well_cases_with f (one m sh fl k cs) w = well_one (f sh fl k) m sh fl k (cases_with f cs) w.0 w.1 (well_cases_with f cs w.2)

pub well_on_results : (f : Cases → Cases) → ((cs : Cases) → WellCases cs → WellCases (f cs)) → Wells (on_results f)
well_on_results f g (results cs r) w = well_results (f cs) (g cs w.0)
well_on_results f g k w = w

pub record_changed : (n : Name) (f : KindData → KindData) (k : KindData) → is_record k ≡ true → is_record (with_change n f k) ≡ true
record_changed n f (recs ss) h = refl
record_changed n f k h = h

pub well_with_change : (n : Name) (f : KindData → KindData) → Wells f → Wells (with_change n f)
well_with_change n f g (recs ss) w = well_with_spot n (changed_spot f (slot_at n ss)) ss (well_changed_spot f (slot_at n ss) g (well_slot n ss w.1)) w
well_with_change n f g k w = w

pub well_cases_changed : (n : Name) (f : KindData → KindData) (cs : Cases) → Wells f → WellCases cs → WellCases (cases_changed (with_change n f) cs)
well_cases_changed n f no_cases g w = tt
well_cases_changed n f (one m sh fl k cs) g w = (record_changed n f k w.0, well_with_change n f g k w.1, well_cases_changed n f cs g w.2)

pub well_changed_at : (ns : List Name) (f : KindData → KindData) → Wells f → Wells (changed_at ns f)
well_changed_at [] f g k w = g k w
well_changed_at (n ∷ ns) f g (recs ss) w = well_with_change n (changed_at ns f) (λ k v. well_changed_at ns f g k v) (recs ss) w
well_changed_at (n ∷ ns) f g (results cs r) w = well_results (cases_changed (with_change n (changed_at ns f)) cs) (well_cases_changed n (changed_at ns f) cs (λ k v. well_changed_at ns f g k v) w.0)
well_changed_at (n ∷ ns) f g k w = w

pub well_answered : (ns : List Name) (s : Status) (b : Bool) → Wells (changed_at ns (on_results (cases_with (answers s b))))
well_answered ns s b k w = well_changed_at ns (on_results (cases_with (answers s b))) (λ j v. well_on_results (cases_with (answers s b)) (λ cs u. well_cases_with (answers s b) cs u) j v) k w

pub record_stepped : (n : Name) (f : KindData → KindData) (k : KindData) → is_record k ≡ true → is_record (with_step n f k) ≡ true
record_stepped n f (recs ss) h = refl
record_stepped n f k h = h

pub well_with_step : (n : Name) (f : KindData → KindData) → Wells f → Wells (with_step n f)
well_with_step n f g (recs ss) w = well_with_spot n (there_spot f (slot_at n ss)) ss (well_there_spot f (slot_at n ss) g (well_slot n ss w.1)) w
well_with_step n f g k w = w

pub well_stepped : (p : KindData → Bool) (n : Name) (f : KindData → KindData) (cs : Cases) → Wells f → WellCases cs → WellCases (cases_stepped p (with_step n f) cs)
well_stepped p n f no_cases g w = tt
well_stepped p n f (one m sh fl k cs) g w =
    well_one (p k) m sh fl (with_step n f k) (cases_stepped p (with_step n f) cs) (record_stepped n f k w.0) (well_with_step n f g k w.1) (well_stepped p n f cs g w.2)

pub well_defined_at : (ns : List Name) → Wells (defined_at ns)
well_defined_at [] k w = w
well_defined_at (n ∷ ns) (recs ss) w = well_with_step n (defined_at ns) (λ k v. well_defined_at ns k v) (recs ss) w
well_defined_at (n ∷ ns) (results cs r) w =
    well_results (cases_stepped (can_have (n ∷ ns)) (with_step n (defined_at ns)) cs) (well_stepped (can_have (n ∷ ns)) n (defined_at ns) cs (λ k v. well_defined_at ns k v) w.0)
well_defined_at (n ∷ ns) k w = w

-- a change that the value keeps, at the end of a path
pub changed_ok : (o : Option Data) (s : Spot) (f : KindData → KindData) → ((d : Data) (k : KindData) → o ≡ Some d → Well k → keeps d k ≡ true → keeps d (f k) ≡ true) → WellSpot s → spot_ok o s ≡ true
    → spot_ok o (changed_spot f s) ≡ true
changed_ok None nowhere f g w h = h
changed_ok None (spot a k) f g w h = h
changed_ok (Some d) nowhere f g w h = untrue h
changed_ok (Some d) (spot a k) f g w h = g d k refl w h

kept_field : (n : Name) (fs : Fields) (f : KindData → KindData) (k : KindData) → ((d : Data) (j : KindData) → field_value n fs ≡ Some d → Well j → keeps d j ≡ true → keeps d (f j) ≡ true) → Well k
    → keeps (rec fs) k ≡ true → keeps (rec fs) (with_change n f k) ≡ true
kept_field n fs f (recs ss) g w h =
    kept_with n fs ss (changed_spot f (slot_at n ss)) w.0 h (changed_ok (field_value n fs) (slot_at n ss) f (λ d k e v i. g d k e v i) (well_slot n ss w.1) ((record_models fs ss h).at n))
kept_field n fs f k g w h = h

kept_cases_changed : (f : KindData → KindData) (fs : Fields) (cs : Cases) → ((k : KindData) → Well k → keeps (rec fs) k ≡ true → keeps (rec fs) (f k) ≡ true) → WellCases cs → cases_kept fs cs ≡ true → cases_kept fs (cases_changed f cs) ≡ true
kept_cases_changed f fs no_cases g w h = h
kept_cases_changed f fs (one m sh fl k cs) g w h =
    let status = has_status sh fl fs in
    let here = status && keeps (rec fs) (f k) in
    ⊎_elim (λ x. or-left here (cases_kept fs (cases_changed f cs)) (and-both status (keeps (rec fs) (f k)) (and-left status (keeps (rec fs) k) x) (g k w.1 (and-right status (keeps (rec fs) k) x))))
    (λ y. or-right here (cases_kept fs (cases_changed f cs)) (kept_cases_changed f fs cs g w.2 y)) (or-cases (status && keeps (rec fs) k) (cases_kept fs cs) h)

pub kept_changed : (ns : List Name) (f : KindData → KindData) (d : Data) (k : KindData) → ((e : Data) (j : KindData) → value_below ns d ≡ value e → Well j → keeps e j ≡ true → keeps e (f j) ≡ true) → Well k → keeps d k ≡ true
    → keeps d (changed_at ns f k) ≡ true
kept_changed [] f d k g w h = g d k refl w h
kept_changed (n ∷ ns) f (rec fs) (recs ss) g w h = kept_field n fs (changed_at ns f) (recs ss) (λ d k e v i. kept_changed ns f d k (λ x j y u z. g x j (rw e y) u z) v i) w h
kept_changed (n ∷ ns) f (rec fs) (results cs r) g w h =
    kept_cases_changed (with_change n (changed_at ns f)) fs cs (λ k u x. kept_field n fs (changed_at ns f) k (λ d j e v i. kept_changed ns f d j (λ x j y u z. g x j (rw e y) u z) v i) u x) w.0 h
kept_changed (n ∷ ns) f d (recs ss) g w h = untrue h
kept_changed (n ∷ ns) f d (results cs r) g w h = untrue h
kept_changed (n ∷ ns) f d k g w h = h

pub left_one : (q : Bool) (m : List ℕ) (sh : Shape) (fl : Bool) (k : KindData) (fs : Fields) (cs : Cases) → q ≡ true → has_status sh fl fs && keeps (rec fs) k ≡ true → cases_kept fs (cond q (one m sh fl k cs) cs) ≡ true
left_one true m sh fl k fs cs e h = or-left (has_status sh fl fs && keeps (rec fs) k) (cases_kept fs cs) h
left_one false m sh fl k fs cs e h = untrue e

pub later_one : (q : Bool) (m : List ℕ) (sh : Shape) (fl : Bool) (k : KindData) (fs : Fields) (cs : Cases) → cases_kept fs cs ≡ true → cases_kept fs (cond q (one m sh fl k cs) cs) ≡ true
later_one true m sh fl k fs cs h = or-right (has_status sh fl fs && keeps (rec fs) k) (cases_kept fs cs) h
later_one false m sh fl k fs cs h = h

-- the case that a result is of is among those that are left
kept_cases : (f : Shape → Bool → KindData → Bool) (fs : Fields) (cs : Cases) → ((sh : Shape) (fl : Bool) (k : KindData) → is_record k ≡ true → has_status sh fl fs ≡ true → keeps (rec fs) k ≡ true → f sh fl k ≡ true) → WellCases cs → cases_kept fs cs ≡ true
    → cases_kept fs (cases_with f cs) ≡ true
kept_cases f fs no_cases g w h = h
kept_cases f fs (one m sh fl k cs) g w h =
    let status = has_status sh fl fs in
    ⊎_elim (λ x. left_one (f sh fl k) m sh fl k fs (cases_with f cs) (g sh fl k w.0 (and-left status (keeps (rec fs) k) x) (and-right status (keeps (rec fs) k) x)) x)
    (λ y. later_one (f sh fl k) m sh fl k fs (cases_with f cs) (kept_cases f fs cs g w.2 y)) (or-cases (status && keeps (rec fs) k) (cases_kept fs cs) h)

true_flag : (c : Bool) → c ≡ bool_eq true c
true_flag true = refl
true_flag false = refl

-- what a result's status says of its case
flag_same : (o : Option Data) (b fl : Bool) → flag_is true o ≡ b → flag_is fl o ≡ true → bool_eq b fl ≡ true
flag_same None b fl h i = untrue i
flag_same (Some (boolean c)) b fl h i = let x : c ≡ b = true_flag c ∙ h in rw (same_flag fl c i, x) (own_flag b)
flag_same (Some d) b fl h i = untrue i

asked_of : (q b c : Bool) → cond q (value (boolean b)) (stuck wrong_sort) ≡ value (boolean c) → b ≡ c
asked_of true b c h = cc
asked_of false b c h = absurd (cc)

pub failed_flag : (sh : Shape) (fl : Bool) (fs : Fields) → has_status sh fl fs ≡ true → flag_is fl (field_value (codes "failed") fs) ≡ true
failed_flag ok_shape fl fs h = h
failed_flag failure_shape fl fs h = h
failed_flag skipped_shape fl fs h =
    and-left (flag_is fl (field_value (codes "failed") fs)) (flag_is true (field_value (codes "skipped") fs) && flag_is false (field_value (codes "changed") fs)) h

skipped_flag : (fl : Bool) (fs : Fields) → has_status skipped_shape fl fs ≡ true → flag_is true (field_value (codes "skipped") fs) ≡ true
skipped_flag fl fs h =
    let skipped = flag_is true (field_value (codes "skipped") fs) in
    let unchanged = flag_is false (field_value (codes "changed") fs) in
    and-left skipped unchanged (and-right (flag_is fl (field_value (codes "failed") fs)) (skipped && unchanged) h)

unchanged_flag : (fl : Bool) (fs : Fields) → has_status skipped_shape fl fs ≡ true → flag_is false (field_value (codes "changed") fs) ≡ true
unchanged_flag fl fs h =
    let skipped = flag_is true (field_value (codes "skipped") fs) in
    let unchanged = flag_is false (field_value (codes "changed") fs) in
    and-right skipped unchanged (and-right (flag_is fl (field_value (codes "failed") fs)) (skipped && unchanged) h)

flagged_there : (o : Option Data) (s : Spot) → flag_is true o ≡ true → spot_ok o s ≡ true → is_there s ≡ true
flagged_there None s h i = untrue h
flagged_there (Some d) nowhere h i = untrue i
flagged_there (Some d) (spot a k) h i = refl

flagged_slot : (fs : Fields) (k : KindData) → is_record k ≡ true → flag_is true (field_value (codes "skipped") fs) ≡ true → keeps (rec fs) k ≡ true → has_slot (codes "skipped") k ≡ true
flagged_slot fs (recs ss) r h i =
    listed_is_there (codes "skipped") ss ∙ flagged_there (field_value (codes "skipped") fs) (slot_at (codes "skipped") ss) h ((record_models fs ss i).at (codes "skipped"))
flagged_slot fs k r h i = untrue r

not_skipped : (sh : Shape) (fl : Bool) (fs : Fields) → has_status sh fl fs ≡ true → (sh ≡ skipped_shape → false ≡ true) → not (is_skip sh) ≡ true
not_skipped ok_shape fl fs h f = refl
not_skipped failure_shape fl fs h f = refl
not_skipped skipped_shape fl fs h f = f refl

-- a record of a case's status is of a case that may have its answer
answered : (s : Status) (b : Bool) (sh : Shape) (fl : Bool) (fs : Fields) (k : KindData) → is_record k ≡ true → has_status sh fl fs ≡ true → keeps (rec fs) k ≡ true → status_of s (rec fs) ≡ value (boolean b) → answers s b sh fl k ≡ true
answered is_failed b sh fl fs k r h i e =
    let x = asked_of (has_statuses fs) (flag_is true (field_value (codes "failed") fs)) b e in
    flag_same (field_value (codes "failed") fs) b fl x (failed_flag sh fl fs h)
answered is_skipped true sh fl fs k r h i e =
    let x = asked_of (has_statuses fs) (flag_is true (field_value (codes "skipped") fs)) true e in
    or-right (is_skip sh) (has_slot (codes "skipped") k) (flagged_slot fs k r x i)
answered is_skipped false sh fl fs k r h i e =
    let x = asked_of (has_statuses fs) (flag_is true (field_value (codes "skipped") fs)) false e in
    not_skipped sh fl fs h (λ y. sym x ∙ skipped_flag fl fs (rw y at h))
answered is_changed true sh fl fs k r h i e =
    let x = asked_of (has_statuses fs) (flag_is true (field_value (codes "changed") fs)) true e in
    not_skipped sh fl fs h (λ y. flag_same (field_value (codes "changed") fs) true false x (unchanged_flag fl fs (rw y at h)))
answered is_changed false sh fl fs k r h i e = refl

pub kept_answered : (s : Status) (b : Bool) (d : Data) (k : KindData) → status_of s d ≡ value (boolean b) → Well k → keeps d k ≡ true → keeps d (on_results (cases_with (answers s b)) k) ≡ true
kept_answered s b (rec fs) (results cs r) e w h = kept_cases (answers s b) fs cs (λ sh fl k y i j. answered s b sh fl fs k y i j e) w.0 h
kept_answered s b d (results cs r) e w h = untrue h
kept_answered s b d k e w h = h

-- a value that has the steps is of a kind that can have them
may_ok : (o : Option Data) (s : Spot) (p : KindData → Bool) → ((d : Data) (k : KindData) → o ≡ Some d → Well k → keeps d k ≡ true → p k ≡ true) → WellSpot s → is_some o ≡ true → spot_ok o s ≡ true → may_step p s ≡ true
may_ok None s p g w i h = untrue i
may_ok (Some d) nowhere p g w i h = untrue h
may_ok (Some d) (spot a k) p g w i h = g d k refl w h

pub some_stepped : (y : Stuck) (go : Data → Outcome) (o : Option Data) → is_value (or_stuck y go o) ≡ true → is_some o ≡ true
some_stepped y go None h = untrue h
some_stepped y go (Some d) h = refl

no_case_kept : (fs : Fields) (cs : Cases) → WellCases cs → all_cases (λ m sh fl k. below k never) cs ≡ true → cases_kept fs cs ≡ true → false ≡ true
no_case_kept fs no_cases w a h = h
no_case_kept fs (one m sh fl (recs ss) cs) w a h = a
no_case_kept fs (one m sh fl k cs) w a h = untrue w.0

can_step : (ns : List Name) (d : Data) (k : KindData) → Well k → is_value (value_below ns d) ≡ true → keeps d k ≡ true → can_have ns k ≡ true
can_step [] d k w i h = refl
can_step (n ∷ ns) (rec fs) (recs ss) w i h =
    may_ok (field_value n fs) (slot_at n ss) (can_have ns) (λ d k e v j. can_step ns d k v (rw e at i) j) (well_slot n ss w.1) (some_stepped no_field (value_below ns) (field_value n fs) i) ((record_models fs ss h).at n)
can_step (n ∷ ns) (rec fs) (results cs (recs ss)) w i h =
    let known : keeps (rec fs) (recs ss) ≡ true = keeps_up (rec fs) (results cs (recs ss)) (recs ss) (result_below cs (recs ss) ss w.0 w.2.above) h in
    may_ok (field_value n fs) (slot_at n ss) (can_have ns) (λ d k e v j. can_step ns d k v (rw e at i) j) (well_slot n ss w.1.1) (some_stepped no_field (value_below ns) (field_value n fs) i) ((record_models fs ss known).at n)
can_step (n ∷ ns) (rec fs) (results cs never) w i h = untrue (no_case_kept fs cs w.0 w.2.above h)
can_step (n ∷ ns) (rec fs) (results cs r) w i h = untrue w.2.known
can_step (n ∷ ns) d anything w i h = refl
can_step (n ∷ ns) (rec fs) k w i h = untrue h
can_step (n ∷ ns) d k w i h = untrue i

-- the first step is there
pub there_ok : (o : Option Data) (s : Spot) (f : KindData → KindData) → ((d : Data) (k : KindData) → o ≡ Some d → Well k → keeps d k ≡ true → keeps d (f k) ≡ true) → WellSpot s → is_some o ≡ true → spot_ok o s ≡ true
    → spot_ok o (there_spot f s) ≡ true
there_ok None s f g w i h = untrue i
there_ok (Some d) nowhere f g w i h = untrue h
there_ok (Some d) (spot a k) f g w i h = g d k refl w h

kept_step : (n : Name) (fs : Fields) (f : KindData → KindData) (k : KindData) → ((d : Data) (j : KindData) → field_value n fs ≡ Some d → Well j → keeps d j ≡ true → keeps d (f j) ≡ true) → Well k
    → is_some (field_value n fs) ≡ true → keeps (rec fs) k ≡ true → keeps (rec fs) (with_step n f k) ≡ true
kept_step n fs f (recs ss) g w i h = kept_with n fs ss (there_spot f (slot_at n ss)) w.0 h (there_ok (field_value n fs) (slot_at n ss) f g (well_slot n ss w.1) i ((record_models fs ss h).at n))
kept_step n fs f k g w i h = h

kept_stepped : (p : KindData → Bool) (f : KindData → KindData) (fs : Fields) (cs : Cases) → ((k : KindData) → Well k → keeps (rec fs) k ≡ true → (p k ≡ true) × (keeps (rec fs) (f k) ≡ true)) → WellCases cs → cases_kept fs cs ≡ true
    → cases_kept fs (cases_stepped p f cs) ≡ true
kept_stepped p f fs no_cases g w h = h
kept_stepped p f fs (one m sh fl k cs) g w h =
    let status = has_status sh fl fs in
    ⊎_elim (λ x. let both = g k w.1 (and-right status (keeps (rec fs) k) x) in left_one (p k) m sh fl (f k) fs (cases_stepped p f cs) both.0 (and-both status (keeps (rec fs) (f k)) (and-left status (keeps (rec fs) k) x) both.1))
    (λ y. later_one (p k) m sh fl (f k) fs (cases_stepped p f cs) (kept_stepped p f fs cs g w.2 y)) (or-cases (status && keeps (rec fs) k) (cases_kept fs cs) h)

-- a value that has the steps keeps the kind with each of them there
pub kept_defined : (ns : List Name) (d : Data) (k : KindData) → Well k → is_value (value_below ns d) ≡ true → keeps d k ≡ true → keeps d (defined_at ns k) ≡ true
kept_defined [] d k w i h = h
kept_defined (n ∷ ns) (rec fs) (recs ss) w i h =
    kept_step n fs (defined_at ns) (recs ss) (λ d j e v x. kept_defined ns d j v (rw e at i) x) w (some_stepped no_field (value_below ns) (field_value n fs) i) h
kept_defined (n ∷ ns) (rec fs) (results cs r) w i h =
    kept_stepped (can_have (n ∷ ns)) (with_step n (defined_at ns)) fs cs (λ k v x. (
      can_step (n ∷ ns) (rec fs) k v i x,
      kept_step n fs (defined_at ns) k (λ d j e u y. kept_defined ns d j u (rw e at i) y) v (some_stepped no_field (value_below ns) (field_value n fs) i) x,
    )) w.0 h
kept_defined (n ∷ ns) d (recs ss) w i h = untrue h
kept_defined (n ∷ ns) d (results cs r) w i h = untrue h
kept_defined (n ∷ ns) d k w i h = h
