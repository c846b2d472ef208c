-- All results of a task at once, and those with which it goes on and with which it fails.
use Rattle.std.proofs.Common.{◌≡◌, ◌∙◌, Bool, true, false, not, ◌&&◌, cond, List, ℕ, Option, Some, None, is_some, refl, sym, ap, ap₂}
use Rattle.pb_semantics.specs.Kind.{KindData, Cases, Shape, no_cases, one, never, nulls, booleans, ints, texts, hosts, lists, recs, results, anything}
use Rattle.pb_semantics.specs.Below.{below, all_cases, is_covered, names_among, record_below, slots_below}
use Rattle.pb_semantics.specs.Well.{Well}
use Rattle.pb_semantics.proofs.Bools.{untrue}
use Rattle.pb_language.specs.Cases.{all_results, failing_cases, going_cases, registered_kind}
use Rattle.pb_language.specs.Expression.{Expression}
use Rattle.pb_language.specs.Judgement.{has_case, has_going}
use Rattle.pb_language.specs.Narrow.{cases_with, results_of}
use Rattle.pb_language.specs.Task.{Task}
use Rattle.pb_language.proofs.After.{well_all_results, well_going, well_registered_kind}
use Rattle.pb_language.proofs.WellKinds.{well_results}
use Rattle.pb_visit.specs.Visits.{IsEither, failing_kind, going_kind}

abbrev Test : Type 0
Test = List ℕ → Shape → Bool → KindData → Bool

-- one of two tests is asked besides
first_of : (a b c : Bool) → a ≡ b && c → (e : Bool) → e && a ≡ (e && b) && c
first_of a b c h true = h
first_of a b c h false = refl

second_of : (a b c : Bool) → a ≡ b && c → (e : Bool) → e && a ≡ b && (e && c)
second_of a true c h true = h
second_of a false c h true = h
second_of a true c h false = refl
second_of a false c h false = refl

-- a test of all cases is one of those that fail and one of the others
parted : (f : Test) (cs : Cases) → all_cases f cs ≡ all_cases f (cases_with (λ sh fl k. not fl) cs) && all_cases f (cases_with (λ sh fl k. fl) cs)
parted f no_cases = refl
parted f (one m sh true k cs) = second_of (all_cases f cs) (all_cases f (cases_with (λ sh fl k. not fl) cs)) (all_cases f (cases_with (λ sh fl k. fl) cs)) (parted f cs) (f m sh true k)
parted f (one m sh false k cs) = first_of (all_cases f cs) (all_cases f (cases_with (λ sh fl k. not fl) cs)) (all_cases f (cases_with (λ sh fl k. fl) cs)) (parted f cs) (f m sh false k)

-- so is whether results are below a kind
results_parted : (cs : Cases) (r s t m : KindData)
    → below (results cs r) m ≡ below (results (cases_with (λ sh fl k. not fl) cs) s) m && below (results (cases_with (λ sh fl k. fl) cs) t) m
results_parted cs r s t anything = refl
results_parted cs r s t (recs ts) = parted (λ m sh fl k. record_below (λ ss. names_among ss ts && slots_below ss ts) k) cs
results_parted cs r s t (results ds q) = parted (λ m sh fl k. is_covered m sh fl k ds) cs
results_parted cs r s t never = refl
results_parted cs r s t nulls = refl
results_parted cs r s t booleans = refl
results_parted cs r s t ints = refl
results_parted cs r s t texts = refl
results_parted cs r s t (hosts ns) = refl
results_parted cs r s t (lists k n) = refl

own_and : (b : Bool) → b ≡ b && b
own_and true = refl
own_and false = refl

-- where a task fails it doesn't ignore that
parted_there : (q : Bool) (cs : Cases) (m : KindData) → has_case (cond q no_cases (cases_with (λ sh fl k. fl) cs)) ≡ true
    → below (results_of cs) m ≡ below (results_of (cond q cs (cases_with (λ sh fl k. not fl) cs))) m && below (results_of (cond q no_cases (cases_with (λ sh fl k. fl) cs))) m
parted_there true cs m h = untrue h
parted_there false cs m h = results_parted cs _ _ _ m

there : (q : Bool) (k j : KindData) → Some j ≡ cond q (Some k) None → (q ≡ true) × (j ≡ k)
there true k j h = (refl, cc)
there false k j h = absurd (cc)

-- without a loop
pub either_alone : (t : Task) (j k h : KindData) → Some j ≡ going_kind t None → Some k ≡ failing_kind t None → h ≡ results_of (all_results t) → IsEither (Some j) (Some k) (Some h)
either_alone t j k h goes fails all =
    let g = there (has_going t t.loop) (results_of (going_cases t)) j goes in
    let f = there (has_case (failing_cases t)) (results_of (failing_cases t)) k fails in (
      rw all (well_results (all_results t) (well_all_results t)),
      λ m. ap (λ x. below x m) all ∙ parted_there t.ignores (all_results t) m f.0 ∙ sym (ap₂ (λ x y. below x m && below y m) g.1 f.1),
    )

-- with a loop over that it has one kind
pub either_looped : (t : Task) (l j k : KindData) → Some j ≡ going_kind t (Some l) → Some k ≡ failing_kind t (Some l) → IsEither (Some j) (Some k) (Some j)
either_looped t l j k goes fails =
    let g = there (has_going t t.loop) (registered_kind t (Some l) (going_cases t)) j goes in
    let f = there (has_case (failing_cases t)) (registered_kind t (Some l) (failing_cases t)) k fails in
    (rw (g.1) (well_registered_kind t (Some l) (going_cases t) (well_going t)), λ m. own_and (below j m) ∙ ap (λ x. below j m && below x m) (g.1 ∙ sym f.1))
