-- The hosts that a play's pattern finds.
use Rattle.std.proofs.Common.{◌≡◌, ℕ, ◌<◌, List, [], ◌∷◌, ◌++◌, length, map, Bool, true, false, cond, Some, None, option_map, slice_get, String, Global, string_bytes, refl, sym, ap, ◌∙◌, arith}
use Rattle.std.specs.List.{All}
use Rattle.std.proofs.lemmas.List.{length-map}
use Rattle.std.specs.declared.sync.Arc.{Arc}
use Rattle.pb_semantics.specs.Keeps.{is_among}
use Rattle.pb_language.specs.BookForm.{words_from}
use Rattle.pb_language.specs.Expression.{Name}
use Rattle.pb_language.specs.Plays.{pattern_hosts}
use Rattle.pb_language.specs.Program.{Inventory}
use Rattle.pb_language.specs.Rules.{words_known}
use Rattle.pb_language.specs.World.{HostVariables}
use Rattle.pb_inventory.specs.Documents as inventory
use Rattle.pb_inventory.specs.Graph.{is_in}
use Rattle.pb_inventory.specs.Numbered.{are_apart, named}
use Rattle.pb_inventory.specs.Patterns.{hosts_found, patterns_words}
use Rattle.pb_inventory.proofs.NamedCycles.{is_in-named}
use Rattle.pb_inventory.proofs.PatternHosts.{within-all}
use Rattle.pb_play.specs.Plays.{words_in}
use Rattle.pb_task.specs.Tasks.{names_view}
use Rattle.pb_hosts.proofs.Places.{host_there}

found_step : (q : Bool) (hs ns : List Name) → cond q (Some hs) None ≡ Some ns → ns ≡ hs
found_step true hs ns h = cc
found_step false hs ns h = absurd (cc)

same_words : (ps : List (Arc (String Global) Global)) → patterns_words (inventory.names_view ps) ≡ words_in (names_view ps)
same_words [] = refl
same_words (p ∷ ps) = ap (λ ws. words_from [] (string_bytes p.value) ++ ws) (same_words ps)

pub pattern_found : (v : Inventory) (ps qs : List (Arc (String Global) Global)) (hs : List Name) → qs ≡ ps → hosts_found v [] (patterns_words (inventory.names_view qs)) ≡ Some hs → hs ≡ pattern_hosts v [] (words_in (names_view ps))
pattern_found v ps qs hs e h =
    found_step (words_known v (patterns_words (inventory.names_view qs))) (pattern_hosts v [] (patterns_words (inventory.names_view qs))) hs h
    ∙ ap (λ xs. pattern_hosts v [] (patterns_words (inventory.names_view xs))) e ∙ ap (pattern_hosts v []) (same_words ps)

-- ---- whether a host is one of them

pub cast_has : (xs : List HostVariables) (ps : List ℕ) (h : ℕ) (b : Bool) → are_apart (map (λ x. x.name) xs) ≡ true → All (λ p. p < length xs) ps → h < length xs → is_in h ps ≡ b
    → option_map (λ x. is_among x.name (named (map (λ y. y.name) xs) ps)) (slice_get xs h) ≡ Some b
cast_has xs ps h b apart placed lt e =
    let hs = map (λ (x : HostVariables). x.name) xs in
    let size = length-map xs (λ (x : HostVariables). x.name) in
    host_there (λ n. is_among n (named hs ps)) xs h lt ∙ ap Some (is_in-named hs apart h ps (omega (arith, size, lt)) (within-all hs (length xs) ps placed (sym size)) ∙ e)
