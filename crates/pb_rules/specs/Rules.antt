-- The rules in their order, and what they say of a book.
use Rattle.std.specs.Prelude.{◌≡◌, ℕ, List, [], ◌∷◌, Bool, Option, None, option_map}
use Rattle.pb_language.specs.Book.{Book, Registry}
use Rattle.pb_language.specs.Expression.{Name}
use Rattle.pb_language.specs.Program.{Inventory}
use Rattle.pb_language.specs.Rules.{breaks_chains, breaks_give, breaks_known, breaks_names}
use Rattle.pb_language.specs.Rules.{breaks_notify, breaks_order, breaks_parameters, too_many_steps}
use Rattle.pb_language.specs.Rules.{rules_offence, vars_names}
use Rattle.pb_language.specs.Sites.{Site, sites_of}
use Rattle.pb_language.specs.Verdict.{Refusal}
use Rattle.pb_rules.specs.Broken.{Asked, first_broken, refusal_of, sooner}
use Rattle.pb_rules.specs.declared.broken.Broken.{Broken}
use Rattle.pb_rules.specs.declared.broken.Rule.{Rule}
use Rattle.pb_rules.specs.declared.broken.Rule.TheVariants as rule

abbrev pub past_steps : ℕ → Refusal
past_steps l = record { code = 13; line = l; host = None }

-- V13, at the line of the play with which there are too many
abbrev pub steps_broken : Option ℕ → Option Broken
steps_broken o = option_map (λ l. record { line = l; rule = rule.Steps }) o

abbrev pub asked : Rule → (Site → Bool) → Asked
asked r f = record { rule = r; breaks = f }

-- the rules of lines, where these names are given by `vars`
abbrev pub all_asked : Registry → Inventory → List Name → List Asked
all_asked ms v given = asked rule.Parameters (breaks_parameters ms)
    ∷ asked rule.Names (breaks_names given)
    ∷ asked rule.Chains breaks_chains
    ∷ asked rule.Known (λ s. breaks_known v s s.thing)
    ∷ asked rule.Notified breaks_notify
    ∷ asked rule.Order (λ s. breaks_order s s.thing)
    ∷ asked rule.Own breaks_give
    ∷ []

-- the sooner of V13 and of the first rule that some line breaks is the offence of the book
abbrev pub FirstIsTold : Type 0
FirstIsTold = (ms : Registry) (v : Inventory) (b : Book) (past : Option ℕ)
    → option_map past_steps past ≡ too_many_steps 0 b
    → option_map refusal_of (sooner (steps_broken past)
    (first_broken (all_asked ms v (vars_names (sites_of b))) (sites_of b)))
    ≡ rules_offence ms v b
