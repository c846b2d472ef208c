-- The hosts that a play's pattern finds.
use Rattle.std.proofs.Common.{◌≡◌, List, [], ◌∷◌, ◌++◌, Bool, true, false, cond, Some, None, String, Global, string_bytes, refl, sym, ap, ◌∙◌}
use Rattle.std.specs.declared.sync.Arc.{Arc}
use Rattle.pb_language.specs.BookForm.{words_from}
use Rattle.pb_language.specs.Expression.{Name}
use Rattle.pb_language.specs.Plays.{pattern_hosts}
use Rattle.pb_language.specs.Program.{Inventory}
use Rattle.pb_language.specs.Rules.{words_known}
use Rattle.pb_inventory.specs.Documents as inventory
use Rattle.pb_inventory.specs.Patterns.{hosts_found, patterns_words}
use Rattle.pb_play.specs.Plays.{words_in}
use Rattle.pb_task.specs.Tasks.{names_view}

those-found : (known : Bool) (hs ns : List Name) → cond known (Some hs) None ≡ Some ns → ns ≡ hs
those-found true hs ns h = cc
those-found false hs ns h = absurd (cc)

same-words : (ps : List (Arc (String Global) Global)) → patterns_words (inventory.names_view ps) ≡ words_in (names_view ps)
same-words [] = refl
same-words (p ∷ ps) = ap (λ ws. words_from [] (string_bytes p.value) ++ ws) (same-words ps)

pub pattern-found : (v : Inventory) (ps qs : List (Arc (String Global) Global)) (hs : List Name) → qs ≡ ps → hosts_found v [] (patterns_words (inventory.names_view qs)) ≡ Some hs → hs ≡ pattern_hosts v [] (words_in (names_view ps))
pattern-found v ps qs hs e h =
    let words = patterns_words (inventory.names_view qs) in
    those-found (words_known v words) (pattern_hosts v [] words) hs h ∙ ap (λ xs. pattern_hosts v [] (patterns_words (inventory.names_view xs))) e ∙ ap (pattern_hosts v []) (same-words ps)

none-found : (known : Bool) (hs : List Name) → cond known (Some hs) None ≡ None → known ≡ false
none-found true hs h = absurd (cc)
none-found false hs h = refl

pub pattern-unknown : (v : Inventory) (ps qs : List (Arc (String Global) Global)) → qs ≡ ps → hosts_found v [] (patterns_words (inventory.names_view qs)) ≡ None → words_known v (words_in (names_view ps)) ≡ false
pattern-unknown v ps qs e h =
    let words = patterns_words (inventory.names_view qs) in
    ap (words_known v) (sym (ap (λ xs. patterns_words (inventory.names_view xs)) e ∙ same-words ps)) ∙ none-found (words_known v words) (pattern_hosts v [] words) h
