-- What two tables say alike, slot by slot and host by host.
use Rattle.std.proofs.Common.{◌≡◌, ◌∙◌, ℕ, suc, ◌+◌, ◌<◌, List, [], ◌∷◌, length, Bool, true, false, cond, bytes_eq, Some, option_map, slice_get, inl, inr, refl, sym, ap, arith}
use Rattle.std.specs.Prelude.{◌||◌}
use Rattle.std.proofs.lemmas.Bool.{cases_lt}
use Rattle.pb_semantics.specs.Kind.{Slots, slot_at, is_listed}
use Rattle.pb_semantics.proofs.Bools.{true-false}
use Rattle.pb_semantics.proofs.Slots.{unlisted_nowhere}
use Rattle.pb_language.specs.Expression.{Name}
use Rattle.pb_language.specs.Scope.{View, has_view, view_of}
use Rattle.pb_hosts.specs.Tables.{views_from}

-- ---- slot by slot

-- where the second slots have the name, the first say the same of it
abbrev pub Told : Name → Slots → Slots → Type 0
Told x ss us = is_listed x us ≡ true → slot_at x ss ≡ slot_at x us

-- where the first slots have the name, the second have it
abbrev pub Stays : Name → Slots → Slots → Type 0
Stays x ss us = is_listed x ss ≡ true → is_listed x us ≡ true

-- what implies what doesn't hold doesn't hold either
pub not_either : (a b : Bool) → (a ≡ true → b ≡ true) → b ≡ false → a ≡ false
not_either true b more h = true-false b (more refl) h
not_either false b more h = refl

-- both say the same of a name
pub all_told : (x : Name) (ss us : Slots) → Told x ss us → Stays x ss us → slot_at x ss ≡ slot_at x us
all_told x ss us told stays = elim (is_listed x us) as (λ b. is_listed x us ≡ b → slot_at x ss ≡ slot_at x us) [
  | true ↦ told
  | false ↦ λ gone. unlisted_nowhere x ss (not_either (is_listed x ss) (is_listed x us) stays gone) ∙ sym (unlisted_nowhere x us gone)
] refl

-- ---- host by host

-- the same of a name at each place up to there
abbrev pub SameTo : Name → ℕ → List View → List View → Type 0
SameTo x n vs us =
    (p : ℕ) → p < n → option_map (slot_at x) (option_map (λ v. v.slots) (slice_get vs p)) ≡ option_map (slot_at x) (option_map (λ v. v.slots) (slice_get us p))

module _ (x : Name) where
  pub same_more : (n : ℕ) (vs us : List View) (ss ts : Slots) → option_map (λ v. v.slots) (slice_get vs n) ≡ Some ss → option_map (λ v. v.slots) (slice_get us n) ≡ Some ts → slot_at x ss ≡ slot_at x ts
      → SameTo x n vs us → SameTo x (n + 1) vs us
  same_more n vs us ss ts d e same before p lt = elim (cases_lt p n) [
    | inl less ↦ before p less
    | inr past ↦
        let last : p ≡ n = omega (arith, lt, past) in
        rw last (ap (option_map (slot_at x)) d ∙ ap Some same ∙ sym (ap (option_map (slot_at x)) e))
  ]

  either : (b : Bool) (s t r w : Slots) → slot_at x s ≡ slot_at x t → slot_at x r ≡ slot_at x w → slot_at x (cond b s r) ≡ slot_at x (cond b t w)
  either true s t r w d e = d
  either false s t r w d e = e

  pub same_slots : (hs : List Name) (ss ts : List Slots) (g : Name) → length ss ≡ length hs → length ts ≡ length hs → SameTo x (length hs) (views_from hs ss) (views_from hs ts)
      → slot_at x (view_of g (views_from hs ss)) ≡ slot_at x (view_of g (views_from hs ts))
  same_slots [] ss ts g d e same = refl
  same_slots (h ∷ hs) [] ts g d e same = absurd (omega (arith, d))
  same_slots (h ∷ hs) (s ∷ ss) [] g d e same = absurd (omega (arith, e))
  same_slots (h ∷ hs) (s ∷ ss) (t ∷ ts) g d e same =
      let first : Some (slot_at x s) ≡ Some (slot_at x t) = same 0 (omega arith) in
      let here : slot_at x s ≡ slot_at x t = cc in
      either (bytes_eq g h) s t (view_of g (views_from hs ss)) (view_of g (views_from hs ts)) here
      (same_slots hs ss ts g (omega (arith, d)) (omega (arith, e)) (λ p lt. same (suc p) (omega (arith, lt))))

-- the same hosts
pub same_hosts : (hs : List Name) (ss ts : List Slots) (g : Name) → length ss ≡ length hs → length ts ≡ length hs → has_view g (views_from hs ss) ≡ has_view g (views_from hs ts)
same_hosts [] ss ts g d e = refl
same_hosts (h ∷ hs) [] ts g d e = absurd (omega (arith, d))
same_hosts (h ∷ hs) (s ∷ ss) [] g d e = absurd (omega (arith, e))
same_hosts (h ∷ hs) (s ∷ ss) (t ∷ ts) g d e = ap (λ b. bytes_eq g h || b) (same_hosts hs ss ts g (omega (arith, d)) (omega (arith, e)))
