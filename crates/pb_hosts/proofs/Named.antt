-- The names of hosts at their places, put among others.
use Rattle.std.proofs.Common.{◌≡◌, ℕ, ◌+◌, ◌<◌, ◌≤◌, List, ◌∷◌, length, get_or, drop, drop-cons, add-one, map, Some, option_map, slice_get, refl, sym, ap, ◌∙◌}
use Rattle.std.proofs.lemmas.List.{drop_all}
use Rattle.pb_semantics.specs.Join.{add_names, put_name}
use Rattle.pb_language.specs.Expression.{Name}
use Rattle.pb_language.specs.World.{HostVariables}
use Rattle.pb_inventory.specs.Numbered.{named}
use Rattle.pb_hosts.proofs.Places.{name_there}

pub next_number : (ps : List ℕ) (i : ℕ) → i < length ps → drop i ps ≡ get_or ps i 0 ∷ drop (i + 1) ps
next_number ps i lt = drop-cons ps i 0 lt ∙ rw (add-one i) refl

-- one name more
pub name_added : (xs : List HostVariables) (ps : List ℕ) (i : ℕ) (n : Name) (ms ks os : List Name) → i < length ps → option_map (λ h. h.name) (slice_get xs (get_or ps i 0)) ≡ Some n
    → add_names (named (map (λ h. h.name) xs) (drop i ps)) ms ≡ os → ks ≡ put_name n ms → add_names (named (map (λ h. h.name) xs) (drop (i + 1) ps)) ks ≡ os
name_added xs ps i n ms ks os lt name e put =
    let hs = map (λ (h : HostVariables). h.name) xs in
    let rest = named hs (drop (i + 1) ps) in
    ap (add_names rest) put ∙ ap (λ m. add_names rest (put_name m ms)) (sym (name_there xs (get_or ps i 0) n name))
    ∙ ap (λ js. add_names (named hs js) ms) (sym (next_number ps i lt)) ∙ e

pub all_added : (hs : List Name) (ps : List ℕ) (i : ℕ) (ms os : List Name) → length ps ≤ i → add_names (named hs (drop i ps)) ms ≡ os → ms ≡ os
all_added hs ps i ms os le e = ap (λ js. add_names (named hs js) ms) (sym (drop_all i ps le)) ∙ e
