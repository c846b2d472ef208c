-- What the join of two results' cases covers.
use Rattle.std.proofs.Common.{◌≡◌, ℕ, List, Bool, true, false, ◌&&◌, cond, ⊎_elim, refl}
use Rattle.pb_semantics.specs.Kind.{KindData, Cases, Shape, no_cases, one}
use Rattle.pb_semantics.specs.Below.{all_cases, same_case, below, is_covered}
use Rattle.pb_semantics.specs.Join.{append_cases, new_cases, add_cases}
use Rattle.pb_semantics.specs.Well.{Well, WellCases}
use Rattle.pb_semantics.proofs.Bools.{untrue, and-left, and-right, and-both, or-left, or-right, or-cases}
use Rattle.pb_semantics.proofs.Names.{own_case}
use Rattle.pb_semantics.proofs.Order.{all_own, covered_from}
use Rattle.pb_semantics.proofs.Through.{through}

covered_first : (m : List ℕ) (sh : Shape) (fl : Bool) (k : KindData) (cs es : Cases) → is_covered m sh fl k cs ≡ true → is_covered m sh fl k (append_cases cs es) ≡ true
covered_first m sh fl k no_cases es h = untrue h
covered_first m sh fl k (one n sj fm j cs) es h =
    let here = same_case m sh fl n sj fm && below k j in
    ⊎_elim (λ x. or-left here (is_covered m sh fl k (append_cases cs es)) x) (λ y. or-right here (is_covered m sh fl k (append_cases cs es)) (covered_first m sh fl k cs es y))
    (or-cases here (is_covered m sh fl k cs) h)

covered_second : (m : List ℕ) (sh : Shape) (fl : Bool) (k : KindData) (cs es : Cases) → is_covered m sh fl k es ≡ true → is_covered m sh fl k (append_cases cs es) ≡ true
covered_second m sh fl k no_cases es h = h
covered_second m sh fl k (one n sj fm j cs) es h = or-right (same_case m sh fl n sj fm && below k j) (is_covered m sh fl k (append_cases cs es)) (covered_second m sh fl k cs es h)

-- the first's cases are among the join's
pub first_cases : (cs ds : Cases) → all_cases (λ m sh fl k. below k k) cs ≡ true → all_cases (λ m sh fl k. is_covered m sh fl k (add_cases cs ds)) cs ≡ true
first_cases cs ds h = all_own cs (add_cases cs ds) (λ m sh fl k i. covered_first m sh fl k cs (new_cases ds cs) i) h

-- what covers a case's cover
abbrev Covers : Cases → Cases → Type 0
Covers cs xs = (m : List ℕ) (sh : Shape) (fl : Bool) (k : KindData) → is_covered m sh fl k cs ≡ true → is_covered m sh fl k xs ≡ true

new_step : (q : Bool) (m : List ℕ) (sh : Shape) (fl : Bool) (k : KindData) (cs es xs : Cases) → is_covered m sh fl k cs ≡ q → below k k ≡ true → Covers cs xs → Covers (cond q es (one m sh fl k es)) xs
    → (is_covered m sh fl k xs ≡ true) × Covers es xs
new_step true m sh fl k cs es xs e o f g = (f m sh fl k e, g)
new_step false m sh fl k cs es xs e o f g = (
  g m sh fl k (or-left (same_case m sh fl m sh fl && below k k) (is_covered m sh fl k es) (and-both (same_case m sh fl m sh fl) (below k k) (own_case m sh fl) o)),
  λ n sj fm j i. g n sj fm j (or-right (same_case n sj fm m sh fl && below j k) (is_covered n sj fm j es) i),
)

all_new : (ds cs xs : Cases) → all_cases (λ m sh fl k. below k k) ds ≡ true → Covers cs xs → Covers (new_cases ds cs) xs → all_cases (λ m sh fl k. is_covered m sh fl k xs) ds ≡ true
all_new no_cases cs xs h f g = refl
all_new (one m sh fl k ds) cs xs h f g =
    let rest = all_cases (λ m sh fl k. below k k) ds in
    let step = new_step (is_covered m sh fl k cs) m sh fl k cs (new_cases ds cs) xs refl (and-left (below k k) rest h) f g in
    and-both (is_covered m sh fl k xs) (all_cases (λ m sh fl k. is_covered m sh fl k xs) ds) step.0 (all_new ds cs xs (and-right (below k k) rest h) f step.1)

-- and the second's
pub second_cases : (cs ds : Cases) → all_cases (λ m sh fl k. below k k) ds ≡ true → all_cases (λ m sh fl k. is_covered m sh fl k (add_cases cs ds)) ds ≡ true
second_cases cs ds h = all_new ds cs (add_cases cs ds) h (λ m sh fl k i. covered_first m sh fl k cs (new_cases ds cs) i) (λ m sh fl k i. covered_second m sh fl k cs (new_cases ds cs) i)

all_append : (f : List ℕ → Shape → Bool → KindData → Bool) (cs es : Cases) → all_cases f cs ≡ true → all_cases f es ≡ true → all_cases f (append_cases cs es) ≡ true
all_append f no_cases es h i = i
all_append f (one m sh fl k cs) es h i = and-both (f m sh fl k) (all_cases f (append_cases cs es)) (and-left (f m sh fl k) (all_cases f cs) h) (all_append f cs es (and-right (f m sh fl k) (all_cases f cs) h) i)

new_all_step : (q : Bool) (f : List ℕ → Shape → Bool → KindData → Bool) (m : List ℕ) (sh : Shape) (fl : Bool) (k : KindData) (es : Cases) → f m sh fl k ≡ true → all_cases f es ≡ true → all_cases f (cond q es (one m sh fl k es)) ≡ true
new_all_step true f m sh fl k es h i = i
new_all_step false f m sh fl k es h i = and-both (f m sh fl k) (all_cases f es) h i

new_all : (f : List ℕ → Shape → Bool → KindData → Bool) (ds cs : Cases) → all_cases f ds ≡ true → all_cases f (new_cases ds cs) ≡ true
new_all f no_cases cs h = refl
new_all f (one m sh fl k ds) cs h =
    new_all_step (is_covered m sh fl k cs) f m sh fl k (new_cases ds cs) (and-left (f m sh fl k) (all_cases f ds) h) (new_all f ds cs (and-right (f m sh fl k) (all_cases f ds) h))

-- a test of both is one of the join
pub all_add : (f : List ℕ → Shape → Bool → KindData → Bool) (cs ds : Cases) → all_cases f cs ≡ true → all_cases f ds ≡ true → all_cases f (add_cases cs ds) ≡ true
all_add f cs ds h i = all_append f cs (new_cases ds cs) h (new_all f ds cs i)

pub first_all : (f : List ℕ → Shape → Bool → KindData → Bool) (cs es : Cases) → all_cases f (append_cases cs es) ≡ true → all_cases f cs ≡ true
first_all f no_cases es h = refl
first_all f (one m sh fl k cs) es h = and-both (f m sh fl k) (all_cases f cs) (and-left (f m sh fl k) (all_cases f (append_cases cs es)) h) (first_all f cs es (and-right (f m sh fl k) (all_cases f (append_cases cs es)) h))

second_all : (f : List ℕ → Shape → Bool → KindData → Bool) (cs es : Cases) → all_cases f (append_cases cs es) ≡ true → all_cases f es ≡ true
second_all f no_cases es h = h
second_all f (one m sh fl k cs) es h = second_all f cs es (and-right (f m sh fl k) (all_cases f (append_cases cs es)) h)

old_step : (q : Bool) (m : List ℕ) (sh : Shape) (fl : Bool) (k h : KindData) (cs es : Cases) → is_covered m sh fl k cs ≡ q → Well k → all_cases (λ m sh fl k. below k h) cs ≡ true
    → all_cases (λ m sh fl k. below k h) (cond q es (one m sh fl k es)) ≡ true → (below k h ≡ true) × (all_cases (λ m sh fl k. below k h) es ≡ true)
old_step true m sh fl k h cs es e w i j = (covered_from m sh fl k (λ m sh fl k. below k h) (below k h) cs (λ n sj fm l s b x. through k l h w b x) i e, j)
old_step false m sh fl k h cs es e w i j = (and-left (below k h) (all_cases (λ m sh fl k. below k h) es) j, and-right (below k h) (all_cases (λ m sh fl k. below k h) es) j)

-- a case that is covered is below what the cover is below
old_all : (h : KindData) (cs ds : Cases) → WellCases ds → all_cases (λ m sh fl k. below k h) cs ≡ true → all_cases (λ m sh fl k. below k h) (new_cases ds cs) ≡ true → all_cases (λ m sh fl k. below k h) ds ≡ true
old_all h cs no_cases w i j = refl
old_all h cs (one m sh fl k ds) w i j =
    let step = old_step (is_covered m sh fl k cs) m sh fl k h cs (new_cases ds cs) refl w.1 i j in
    and-both (below k h) (all_cases (λ m sh fl k. below k h) ds) step.0 (old_all h cs ds w.2 i step.1)

pub second_below : (h : KindData) (cs ds : Cases) → WellCases ds → all_cases (λ m sh fl k. below k h) (add_cases cs ds) ≡ true → all_cases (λ m sh fl k. below k h) ds ≡ true
second_below h cs ds w i = old_all h cs ds w (first_all (λ m sh fl k. below k h) cs (new_cases ds cs) i) (second_all (λ m sh fl k. below k h) cs (new_cases ds cs) i)

well_append : (cs es : Cases) → WellCases cs → WellCases es → WellCases (append_cases cs es)
well_append no_cases es w v = v
well_append (one m sh fl k cs) es w v = (w.0, w.1, well_append cs es w.2 v)

well_new_step : (q : Bool) (m : List ℕ) (sh : Shape) (fl : Bool) (k : KindData) (es : Cases) → WellCases (one m sh fl k no_cases) → WellCases es → WellCases (cond q es (one m sh fl k es))
well_new_step true m sh fl k es w v = v
well_new_step false m sh fl k es w v = (w.0, w.1, v)

well_new : (ds cs : Cases) → WellCases ds → WellCases (new_cases ds cs)
well_new no_cases cs w = tt
well_new (one m sh fl k ds) cs w = well_new_step (is_covered m sh fl k cs) m sh fl k (new_cases ds cs) (w.0, w.1, tt) (well_new ds cs w.2)

pub well_add : (cs ds : Cases) → WellCases cs → WellCases ds → WellCases (add_cases cs ds)
well_add cs ds w v = well_append cs (new_cases ds cs) w (well_new ds cs v)

pub first_below : (h : KindData) (cs ds : Cases) → all_cases (λ m sh fl k. below k h) (add_cases cs ds) ≡ true → all_cases (λ m sh fl k. below k h) cs ≡ true
first_below h cs ds i = first_all (λ m sh fl k. below k h) cs (new_cases ds cs) i
