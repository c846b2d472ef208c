-- Which rules are broken at which lines, and which of them is told (this project's own).
use Rattle.std.specs.Prelude.{ℕ, List, [], ◌∷◌, Bool, true, false, ◌&&◌, ◌||◌, nat_lt, nat_eq, cond}
use Rattle.std.specs.Prelude.{Option, Some, None, option_map}
use Rattle.pb_language.specs.Rules.{first_line}
use Rattle.pb_language.specs.Sites.{Site}
use Rattle.pb_language.specs.Verdict.{Refusal, earlier}
use Rattle.pb_rules.specs.declared.broken.Broken.{Broken}
use Rattle.pb_rules.specs.declared.broken.Rule.{Rule}
use Rattle.pb_rules.specs.declared.broken.Rule.TheVariants as rule

-- the number of the V code
abbrev pub code_of : Rule → ℕ
code_of rule.Steps = 13
code_of rule.Parameters = 7
code_of rule.Names = 8
code_of rule.Chains = 10
code_of rule.Known = 6
code_of rule.Notified = 5
code_of rule.Order = 12
code_of rule.Own = 9

abbrev pub refusal_of : Broken → Refusal
refusal_of b = record { code = code_of b.rule; line = b.line; host = None }

-- the place in the order in which the rules are told on one line
abbrev pub rank : Rule → ℕ
rank rule.Steps = 0
rank rule.Parameters = 1
rank rule.Names = 2
rank rule.Chains = 3
rank rule.Known = 4
rank rule.Notified = 5
rank rule.Order = 6
rank rule.Own = 7

-- of two: the lesser line, and on one line the rule that comes first
abbrev pub is_sooner : Broken → Broken → Bool
is_sooner q r = nat_lt q.line r.line
    || (nat_eq q.line r.line && nat_lt (rank q.rule) (rank r.rule))

abbrev pub sooner : Option Broken → Option Broken → Option Broken
sooner None r = r
sooner (Some q) None = Some q
sooner (Some q) (Some r) = cond (is_sooner r q) (Some r) (Some q)

-- a rule, and where it is broken
pub record Asked : Type 0 where
  pub rule : Rule
  pub breaks : Site → Bool

abbrev pub if_broken : Bool → Rule → Option Rule → Option Rule
if_broken true r o = Some r
if_broken false r o = o

-- the first of the rules that is broken at a site
abbrev pub site_broken : List Asked → Site → Option Rule
site_broken [] s = None
site_broken (q ∷ qs) s = if_broken (q.breaks s) q.rule (site_broken qs s)

abbrev pub broken_at : ℕ → Option Rule → Option Broken
broken_at l o = option_map (λ r. record { line = l; rule = r }) o

-- the first of all sites
abbrev pub first_broken : List Asked → List Site → Option Broken
first_broken qs [] = None
first_broken qs (s ∷ ss) = sooner (broken_at s.line (site_broken qs s)) (first_broken qs ss)

-- the same rule by rule: each at its first line, and on one line the rules in their order
abbrev pub rules_broken : List Asked → List Site → Option Refusal
rules_broken [] ss = None
rules_broken (q ∷ qs) ss =
    earlier (first_line (code_of q.rule) q.breaks ss) (rules_broken qs ss)
