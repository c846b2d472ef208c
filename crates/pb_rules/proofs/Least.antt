-- Of all that is broken at all sites, the sooner is what the rules say one by one.
use Rattle.std.proofs.Common.{◌≡◌, ◌∙◌, ℕ, suc, ◌+◌, ◌*◌, ◌<◌, ◌≤◌, List, [], ◌∷◌, Bool, true, false, ◌&&◌, ◌||◌, nat_lt, nat_eq, cond, Option, Some, None, option_map, min, refl, sym, ap, arith}
use Rattle.std.proofs.lemmas.Bool.Decides.{nat_tests}
use Rattle.pb_language.specs.Rules.{first_line}
use Rattle.pb_language.specs.Sites.{Site}
use Rattle.pb_language.specs.Verdict.{Refusal, earlier}
use Rattle.pb_rules.specs.Broken.{Asked, broken_at, code_of, first_broken, if_broken, is_sooner, rank, refusal_of, rules_broken, site_broken, sooner}
use Rattle.pb_rules.specs.declared.broken.Broken.{Broken}
use Rattle.pb_rules.specs.declared.broken.Rule.{Rule}
use Rattle.pb_rules.specs.declared.broken.Rule.TheVariants as rule

-- a broken rule as one number, which is the lesser for the one that is told
abbrev key : Broken → ℕ
key b = 8 * b.line + rank b.rule

below : (r : Rule) → rank r < 8
below rule.Steps = omega arith
below rule.Parameters = omega arith
below rule.Names = omega arith
below rule.Chains = omega arith
below rule.Known = omega arith
below rule.Notified = omega arith
below rule.Order = omega arith
below rule.Own = omega arith

abbrev rule_at : ℕ → Rule
rule_at n = cond (nat_eq n 0) rule.Steps (cond (nat_eq n 1) rule.Parameters (cond (nat_eq n 2) rule.Names (cond (nat_eq n 3) rule.Chains (cond (nat_eq n 4) rule.Known
    (cond (nat_eq n 5) rule.Notified (cond (nat_eq n 6) rule.Order rule.Own))))))

ranked : (r : Rule) → rule_at (rank r) ≡ r
ranked rule.Steps = refl
ranked rule.Parameters = refl
ranked rule.Names = refl
ranked rule.Chains = refl
ranked rule.Known = refl
ranked rule.Notified = refl
ranked rule.Order = refl
ranked rule.Own = refl

keys-order : (l m a b : ℕ) → a < 8 → b < 8 → (nat_lt l m || (nat_eq l m && nat_lt a b)) ≡ nat_lt (8 * l + a) (8 * m + b)
keys-order l m a b x y = grind (arith, nat_tests)

sooner-key : (q r : Broken) → is_sooner q r ≡ nat_lt (key q) (key r)
sooner-key q r = keys-order q.line r.line (rank q.rule) (rank r.rule) (below q.rule) (below r.rule)

-- two with one number are one
same-line : (l m a b : ℕ) → a < 8 → b < 8 → 8 * l + a ≡ 8 * m + b → l ≡ m
same-line l m a b x y e = omega arith

same-rank : (l m a b : ℕ) → a < 8 → b < 8 → 8 * l + a ≡ 8 * m + b → a ≡ b
same-rank l m a b x y e = omega arith

abbrev broken : ℕ → Rule → Broken
broken l r = record { line = l; rule = r }

broken-with : (l m : ℕ) (r s : Rule) → l ≡ m → r ≡ s → broken l r ≡ broken m s
broken-with l m r s e f = ap (λ k. broken k r) e ∙ ap (broken m) f

same-key : (q r : Broken) → key q ≡ key r → q ≡ r
same-key q r e =
    let ranks = same-rank q.line r.line (rank q.rule) (rank r.rule) (below q.rule) (below r.rule) e in
    broken-with q.line r.line q.rule r.rule (same-line q.line r.line (rank q.rule) (rank r.rule) (below q.rule) (below r.rule) e) (sym (ranked q.rule) ∙ ap rule_at ranks ∙ ranked r.rule)

-- the least of two numbers, where there are some
abbrev least : Option ℕ → Option ℕ → Option ℕ
least None b = b
least (Some a) None = Some a
least (Some a) (Some b) = Some (min a b)

least-through : (a b c : Option ℕ) → least (least a b) c ≡ least a (least b c)
least-through None b c = refl
least-through (Some a) None c = refl
least-through (Some a) (Some b) None = refl
least-through (Some a) (Some b) (Some c) = ap Some (at a b c) where
  at : (a b c : ℕ) → min (min a b) c ≡ min a (min b c)
  at a b c = omega arith

least-turned : (a b : Option ℕ) → least a b ≡ least b a
least-turned None None = refl
least-turned None (Some b) = refl
least-turned (Some a) None = refl
least-turned (Some a) (Some b) = ap Some (at a b) where
  at : (a b : ℕ) → min a b ≡ min b a
  at a b = omega arith

abbrev keys : Option Broken → Option ℕ
keys o = option_map key o

keys-sooner : (p q : Option Broken) → keys (sooner p q) ≡ least (keys p) (keys q)
keys-sooner None q = refl
keys-sooner (Some p) None = refl
keys-sooner (Some p) (Some q) = at (is_sooner q p) (sooner-key q p) where
  lesser : (c : Bool) (a b : ℕ) → c ≡ nat_lt b a → (cond c b a) ≡ min a b
  lesser c a b e = grind (arith, nat_tests)

  at : (c : Bool) → c ≡ nat_lt (key q) (key p) → keys (cond c (Some q) (Some p)) ≡ Some (min (key p) (key q))
  at true e = ap Some (lesser true (key p) (key q) e)
  at false e = ap Some (lesser false (key p) (key q) e)

same-keys : (p q : Option Broken) → keys p ≡ keys q → p ≡ q
same-keys None None e = refl
same-keys None (Some q) e = (cc)
same-keys (Some p) None e = (cc)
same-keys (Some p) (Some q) e = ap Some (same-key p q (cc))

pub sooner-through : (p q r : Option Broken) → sooner (sooner p q) r ≡ sooner p (sooner q r)
sooner-through p q r = same-keys _ _
    (keys-sooner (sooner p q) r ∙ ap (λ k. least k (keys r)) (keys-sooner p q) ∙ least-through (keys p) (keys q) (keys r) ∙ ap (least (keys p)) (sym (keys-sooner q r)) ∙ sym (keys-sooner p (sooner q r)))

pub sooner-turned : (p q : Option Broken) → sooner p q ≡ sooner q p
sooner-turned p q = same-keys _ _ (keys-sooner p q ∙ least-turned (keys p) (keys q) ∙ sym (keys-sooner q p))

pub sooner-none : (p : Option Broken) → sooner p None ≡ p
sooner-none None = refl
sooner-none (Some p) = refl

-- four of them, the middle two turned
middle : (a b c d : Option Broken) → sooner (sooner a b) (sooner c d) ≡ sooner (sooner a c) (sooner b d)
middle a b c d =
    sooner-through a b (sooner c d) ∙ ap (sooner a) (sym (sooner-through b c d) ∙ ap (λ x. sooner x d) (sooner-turned b c) ∙ sooner-through c b d) ∙ sym (sooner-through a c (sooner b d))

-- the rules stand in their order, from that place on
abbrev pub AreRising : ℕ → List Asked → Type 0
AreRising n [] = Unit {0}
AreRising n (q ∷ qs) = (n ≤ rank q.rule) × AreRising (suc (rank q.rule)) qs

abbrev RuleFrom : ℕ → Option Rule → Type 0
RuleFrom n None = Unit {0}
RuleFrom n (Some r) = n ≤ rank r

abbrev BrokenFrom : ℕ → Option Broken → Type 0
BrokenFrom n None = Unit {0}
BrokenFrom n (Some b) = n ≤ rank b.rule

rule-lower : (m n : ℕ) (o : Option Rule) → m ≤ n → RuleFrom n o → RuleFrom m o
rule-lower m n None h k = tt
rule-lower m n (Some r) h k = at m n (rank r) h k where
  at : (m n k : ℕ) → m ≤ n → n ≤ k → m ≤ k
  at m n k x y = omega arith

suc-lower : (m n : ℕ) → m ≤ n → m ≤ suc n
suc-lower m n h = omega arith

site-from : (n : ℕ) (qs : List Asked) (s : Site) → AreRising n qs → RuleFrom n (site_broken qs s)
site-from n [] s h = tt
site-from n (q ∷ qs) s h = at (q.breaks s) (site-from (suc (rank q.rule)) qs s h.1) where
  at : (b : Bool) → RuleFrom (suc (rank q.rule)) (site_broken qs s) → RuleFrom n (if_broken b q.rule (site_broken qs s))
  at true k = h.0
  at false k = rule-lower n (suc (rank q.rule)) (site_broken qs s) (suc-lower n (rank q.rule) h.0) k

broken-from : (n l : ℕ) (o : Option Rule) → RuleFrom n o → BrokenFrom n (broken_at l o)
broken-from n l None h = tt
broken-from n l (Some r) h = h

sooner-from : (n : ℕ) (p q : Option Broken) → BrokenFrom n p → BrokenFrom n q → BrokenFrom n (sooner p q)
sooner-from n None q h k = k
sooner-from n (Some p) None h k = h
sooner-from n (Some p) (Some q) h k = at (is_sooner q p) where
  at : (c : Bool) → BrokenFrom n (cond c (Some q) (Some p))
  at true = k
  at false = h

first-from : (n : ℕ) (qs : List Asked) (ss : List Site) → AreRising n qs → BrokenFrom n (first_broken qs ss)
first-from n qs [] h = tt
first-from n qs (s ∷ ss) h =
    sooner-from n (broken_at s.line (site_broken qs s)) (first_broken qs ss) (broken-from n s.line (site_broken qs s) (site-from n qs s h)) (first-from n qs ss h)

-- the first of some rules at a site is the first of them, or of the others
one-more : (l : ℕ) (b : Bool) (r : Rule) (o : Option Rule) → RuleFrom (suc (rank r)) o → broken_at l (if_broken b r o) ≡ sooner (broken_at l (if_broken b r None)) (broken_at l o)
one-more l false r o h = refl
one-more l true r None h = refl
one-more l true r (Some x) h = sym (ap (λ c. cond c (Some (record { line = l; rule = x })) (Some (record { line = l; rule = r }))) (at l (rank x) (rank r) h)) where
  at : (l a b : ℕ) → suc b ≤ a → (nat_lt l l || (nat_eq l l && nat_lt a b)) ≡ false
  at l a b h = grind (arith, nat_tests)

rule-by-rule : (n : ℕ) (q : Asked) (qs : List Asked) (ss : List Site) → AreRising n (q ∷ qs) → first_broken (q ∷ qs) ss ≡ sooner (first_broken (q ∷ []) ss) (first_broken qs ss)
rule-by-rule n q qs [] h = refl
rule-by-rule n q qs (s ∷ ss) h =
    ap (λ x. sooner x (first_broken (q ∷ qs) ss)) (one-more s.line (q.breaks s) q.rule (site_broken qs s) (site-from (suc (rank q.rule)) qs s h.1))
    ∙ ap (sooner (sooner (broken_at s.line (site_broken (q ∷ []) s)) (broken_at s.line (site_broken qs s)))) (rule-by-rule n q qs ss h)
    ∙ middle (broken_at s.line (site_broken (q ∷ []) s)) (broken_at s.line (site_broken qs s)) (first_broken (q ∷ []) ss) (first_broken qs ss)

abbrev pub refusals : Option Broken → Option Refusal
refusals o = option_map refusal_of o

-- the rules of these come before those of the others, or are the same
abbrev BrokenUpTo : ℕ → Option Broken → Type 0
BrokenUpTo n None = Unit {0}
BrokenUpTo n (Some b) = rank b.rule ≤ n

pub refusals-sooner : (n : ℕ) (p q : Option Broken) → BrokenUpTo n p → BrokenFrom n q → refusals (sooner p q) ≡ earlier (refusals p) (refusals q)
refusals-sooner n None q h k = refl
refusals-sooner n (Some p) None h k = refl
refusals-sooner n (Some p) (Some q) h k = ap (λ c. refusals (cond c (Some q) (Some p))) (at n q.line p.line (rank q.rule) (rank p.rule) h k) ∙ move (nat_lt q.line p.line) where
  at : (n l m a b : ℕ) → b ≤ n → n ≤ a → (nat_lt l m || (nat_eq l m && nat_lt a b)) ≡ nat_lt l m
  at n l m a b x y = grind (arith, nat_tests)

  move : (c : Bool) → refusals (cond c (Some q) (Some p)) ≡ cond c (Some (refusal_of q)) (Some (refusal_of p))
  move true = refl
  move false = refl

self : (n : ℕ) → n ≤ n
self n = omega arith

up-to : (q : Asked) (s : Site) → BrokenUpTo (rank q.rule) (broken_at s.line (site_broken (q ∷ []) s))
up-to q s = at (q.breaks s) where
  at : (b : Bool) → BrokenUpTo (rank q.rule) (broken_at s.line (if_broken b q.rule None))
  at true = self (rank q.rule)
  at false = tt

sooner-up-to : (n : ℕ) (p q : Option Broken) → BrokenUpTo n p → BrokenUpTo n q → BrokenUpTo n (sooner p q)
sooner-up-to n None q h k = k
sooner-up-to n (Some p) None h k = h
sooner-up-to n (Some p) (Some q) h k = at (is_sooner q p) where
  at : (c : Bool) → BrokenUpTo n (cond c (Some q) (Some p))
  at true = k
  at false = h

all-up-to : (q : Asked) (ss : List Site) → BrokenUpTo (rank q.rule) (first_broken (q ∷ []) ss)
all-up-to q [] = tt
all-up-to q (s ∷ ss) = sooner-up-to (rank q.rule) (broken_at s.line (site_broken (q ∷ []) s)) (first_broken (q ∷ []) ss) (up-to q s) (all-up-to q ss)

one-rule : (q : Asked) (ss : List Site) → refusals (first_broken (q ∷ []) ss) ≡ first_line (code_of q.rule) q.breaks ss
one-rule q [] = refl
one-rule q (s ∷ ss) =
    refusals-sooner (rank q.rule) (broken_at s.line (site_broken (q ∷ []) s)) (first_broken (q ∷ []) ss) (up-to q s) (first-from (rank q.rule) (q ∷ []) ss (self (rank q.rule), tt))
    ∙ ap (earlier (refusals (broken_at s.line (site_broken (q ∷ []) s)))) (one-rule q ss) ∙ ap (λ o. earlier o (first_line (code_of q.rule) q.breaks ss)) (at (q.breaks s)) where
      at : (b : Bool) → refusals (broken_at s.line (if_broken b q.rule None)) ≡ cond b (Some (record { code = code_of q.rule; line = s.line; host = None })) None
      at true = refl
      at false = refl

broken-lower : (m n : ℕ) (o : Option Broken) → m ≤ n → BrokenFrom n o → BrokenFrom m o
broken-lower m n None h k = tt
broken-lower m n (Some b) h k = at m n (rank b.rule) h k where
  at : (m n k : ℕ) → m ≤ n → n ≤ k → m ≤ k
  at m n k x y = omega arith

-- the first of all is what they say one by one
pub all-rules : (n : ℕ) (qs : List Asked) (ss : List Site) → AreRising n qs → refusals (first_broken qs ss) ≡ rules_broken qs ss
all-rules n [] [] h = refl
all-rules n [] (s ∷ ss) h = all-rules n [] ss h
all-rules n (q ∷ qs) ss h =
    ap refusals (rule-by-rule n q qs ss h)
    ∙ refusals-sooner (rank q.rule) (first_broken (q ∷ []) ss) (first_broken qs ss) (all-up-to q ss)
    (broken-lower (rank q.rule) (suc (rank q.rule)) (first_broken qs ss) (suc-lower (rank q.rule) (rank q.rule) (self (rank q.rule))) (first-from (suc (rank q.rule)) qs ss h.1))
    ∙ ap (λ o. earlier o (refusals (first_broken qs ss))) (one-rule q ss) ∙ ap (earlier (first_line (code_of q.rule) q.breaks ss)) (all-rules (suc (rank q.rule)) qs ss h.1)

-- the steps are told first on their line
pub with-steps : (n : ℕ) (qs : List Asked) (ss : List Site) (l : Option ℕ) → AreRising n qs
    → refusals (sooner (option_map (λ k. record { line = k; rule = rule.Steps }) l) (first_broken qs ss)) ≡ earlier (option_map (λ k. record { code = 13; line = k; host = None }) l) (rules_broken qs ss)
with-steps n qs ss l h =
    refusals-sooner 0 (option_map (λ k. record { line = k; rule = rule.Steps }) l) (first_broken qs ss) (zero-rank l) (broken-lower 0 n (first_broken qs ss) (omega arith) (first-from n qs ss h))
    ∙ ap (earlier (refusals (option_map (λ k. record { line = k; rule = rule.Steps }) l))) (all-rules n qs ss h) ∙ ap (λ o. earlier o (rules_broken qs ss)) (code l) where
      zero-rank : (l : Option ℕ) → BrokenUpTo 0 (option_map (λ k. record { line = k; rule = rule.Steps }) l)
      zero-rank None = tt
      zero-rank (Some k) = self 0

      code : (l : Option ℕ) → refusals (option_map (λ k. record { line = k; rule = rule.Steps }) l) ≡ option_map (λ k. record { code = 13; line = k; host = None }) l
      code None = refl
      code (Some k) = refl
