-- What the first rule that is broken says of a book.
use Rattle.std.proofs.Common.{◌≡◌, ◌∙◌, ℕ, List, [], ◌∷◌, ◌++◌, Bool, ◌||◌, bytes_eq, Option, Some, None, option_map, refl, sym, ap, arith}
use Rattle.pb_semantics.specs.Keeps.{is_among}
use Rattle.pb_language.proofs.Accepted.{earlier_last}
use Rattle.pb_language.specs.Book.{Book, Registry}
use Rattle.pb_language.specs.Expression.{Name}
use Rattle.pb_language.specs.Program.{Inventory}
use Rattle.pb_language.specs.Rules.{any_among, breaks_give, breaks_names, breaks_parameters, first_line, part_names, reserved_names, rules_offence, sites_offence, too_many_steps, vars_names, written_names, task_at_site}
use Rattle.pb_language.specs.Sites.{Site, sites_of}
use Rattle.pb_language.specs.Verdict.{Refusal, earlier}
use Rattle.pb_rules.specs.Broken.{Asked, broken_at, first_broken, if_broken, rules_broken, site_broken, sooner}
use Rattle.pb_rules.specs.Rules.{FirstIsTold, all_asked, past_steps, steps_broken}
use Rattle.pb_rules.proofs.Least.{AreRising, refusals, with-steps}
use Rattle.pb_rules.specs.declared.broken.Broken.{Broken}
use Rattle.pb_rules.specs.declared.broken.Rule.TheVariants as rule

-- a name is among two lists where it is among one of them
pub among-both : (n : Name) (ns ms : List Name) → is_among n (ns ++ ms) ≡ (is_among n ns || is_among n ms)
among-both n [] ms = refl
among-both n (m ∷ ns) ms = ap (λ b. bytes_eq n m || b) (among-both n ns ms) ∙ grouped (bytes_eq n m) (is_among n ns) (is_among n ms) where
  grouped : (a b c : Bool) → (a || (b || c)) ≡ ((a || b) || c)
  grouped a b c = grind arith

-- lists that have the same names
abbrev pub HaveSame : List Name → List Name → Type 0
HaveSame ns ms = (n : Name) → is_among n ns ≡ is_among n ms

any-same : (ws ns ms : List Name) → HaveSame ns ms → any_among ws ns ≡ any_among ws ms
any-same [] ns ms h = refl
any-same (w ∷ ws) ns ms h = ap (λ b. b || any_among ws ns) (h w) ∙ ap (λ b. is_among w ms || b) (any-same ws ns ms h)

with-reserved : (ns ms : List Name) → HaveSame ns ms → HaveSame (reserved_names ++ ns) (reserved_names ++ ms)
with-reserved ns ms h n = among-both n reserved_names ns ∙ ap (λ b. is_among n reserved_names || b) (h n) ∙ sym (among-both n reserved_names ms)

names-same : (ns ms : List Name) (s : Site) → HaveSame ns ms → breaks_names ns s ≡ breaks_names ms s
names-same ns ms s h =
    ap (λ b. b || any_among (part_names s.vars) reserved_names) (any-same (written_names (task_at_site s.thing)) (reserved_names ++ ns) (reserved_names ++ ms) (with-reserved ns ms h))

site-same : (rs : Registry) (v : Inventory) (ns ms : List Name) (s : Site) → HaveSame ns ms → site_broken (all_asked rs v ns) s ≡ site_broken (all_asked rs v ms) s
site-same rs v ns ms s h = ap (λ b. if_broken (breaks_parameters rs s) rule.Parameters (if_broken b rule.Names (site_broken (others (all_asked rs v ns)) s))) (names-same ns ms s h) where
  others : List Asked → List Asked
  others (p ∷ q ∷ qs) = qs
  others qs = qs

-- which list has the given names plays no part
pub first-same : (rs : Registry) (v : Inventory) (ns ms : List Name) (ss : List Site) → HaveSame ns ms → first_broken (all_asked rs v ns) ss ≡ first_broken (all_asked rs v ms) ss
first-same rs v ns ms [] h = refl
first-same rs v ns ms (s ∷ ss) h =
    ap (λ o. sooner (broken_at s.line o) (first_broken (all_asked rs v ns) ss)) (site-same rs v ns ms s h)
    ∙ ap (sooner (broken_at s.line (site_broken (all_asked rs v ms) s))) (first-same rs v ns ms ss h)

-- the rules in their order are those of a book
all-told : (rs : Registry) (v : Inventory) (b : Book) (ss : List Site) → sites_offence rs v b ss ≡ earlier (too_many_steps 0 b) (rules_broken (all_asked rs v (vars_names ss)) ss)
all-told rs v b ss = rw (earlier_last (first_line 9 breaks_give ss)) refl

all-in-order : (rs : Registry) (v : Inventory) (ns : List Name) → AreRising 0 (all_asked rs v ns)
all-in-order rs v ns = (omega arith, (omega arith, (omega arith, (omega arith, (omega arith, (omega arith, (omega arith, tt)))))))

pub first-told : FirstIsTold
first-told rs v b past e =
    let names = vars_names (sites_of b) in
    with-steps 0 (all_asked rs v names) (sites_of b) past (all-in-order rs v names) ∙ ap (λ o. earlier o (rules_broken (all_asked rs v names) (sites_of b))) e ∙ sym (all-told rs v b (sites_of b))

-- the same where the given names stand in another list
pub book-told : (rs : Registry) (v : Inventory) (b : Book) (given : List Name) (past : Option ℕ) (found : Option Broken) → HaveSame given (vars_names (sites_of b))
    → option_map past_steps past ≡ too_many_steps 0 b → found ≡ first_broken (all_asked rs v given) (sites_of b)
    → refusals (sooner (steps_broken past) found) ≡ rules_offence rs v b
book-told rs v b given past found h e f =
    ap (λ o. refusals (sooner (steps_broken past) o)) (f ∙ first-same rs v given (vars_names (sites_of b)) (sites_of b) h) ∙ first-told rs v b past e
