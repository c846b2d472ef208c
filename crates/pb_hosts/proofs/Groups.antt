-- The groups of an inventory as slots, and the members of one of them.
use Rattle.std.proofs.Common.{◌≡◌, ℕ, zero, suc, ◌+◌, ◌<◌, List, [], ◌∷◌, drop, map, true, false, cond, bytes_eq, Option, Some, None, option_map, slice_get, Vec, String, Global, string_bytes, add-one, refl, sym, ap, subst, ◌∙◌, arith}
use Rattle.std.specs.List.{All, list_all}
use Rattle.std.specs.Map.{lookup}
use Rattle.std.specs.Prelude.{nat_lt}
use Rattle.std.proofs.lemmas.Bool.Decides.{nat_tests}
use Rattle.std.proofs.lemmas.List.Elements.{All-weaker}
use Rattle.std.proofs.lemmas.List.Sums.{AllPass-from_list_all}
use Rattle.std.proofs.lemmas.Option.{slice_get-map}
use Rattle.pb_semantics.specs.Kind.{Slots, put_slot}
use Rattle.pb_semantics.proofs.Bools.{and-left, and-right}
use Rattle.pb_language.specs.Expression.{Name}
use Rattle.pb_language.specs.Plays.{group_named}
use Rattle.pb_language.specs.Setting.{group_slots, host_list}
use Rattle.pb_language.specs.World.{Group, member_of, name_at}
use Rattle.pb_inventory.specs.Numbered.{named}
use Rattle.pb_inventory.specs.Views.{are_placed, group_view}
use Rattle.pb_inventory.proofs.PatternHosts.{group-found}
use Rattle.pb_hosts.proofs.Rising.{Rising, rising_with, with_put}

rising_groups : (gs : List Group) → Rising (group_slots gs)
rising_groups [] = tt
rising_groups (g ∷ gs) = rising_with g.name true (host_list g.hosts) (group_slots gs) (rising_groups gs)

-- one group more, in front of those behind it
put_step : (gs : List Group) (i : ℕ) (ss us : Slots) → ss ≡ group_slots (drop (suc i) gs)
    → option_map (λ g. put_slot g.name true (host_list g.hosts) ss) (slice_get gs i) ≡ Some us → us ≡ group_slots (drop i gs)
put_step [] i ss us e h = absurd (cc)
put_step (g ∷ gs) zero ss us e h =
    let put : put_slot g.name true (host_list g.hosts) ss ≡ us = cc in
    sym put ∙ ap (put_slot g.name true (host_list g.hosts)) e ∙ sym (with_put g.name true (host_list g.hosts) (group_slots gs) (rising_groups gs))
put_step (g ∷ gs) (suc i) ss us e h = put_step gs i ss us e h

pub group_more : (gs : List Group) (i : ℕ) (ss us : Slots) → ss ≡ group_slots (drop (i + 1) gs)
    → option_map (λ g. put_slot g.name true (host_list g.hosts) ss) (slice_get gs i) ≡ Some us → us ≡ group_slots (drop i gs)
group_more gs i ss us e h = put_step gs i ss us (e ∙ ap (λ j. group_slots (drop j gs)) (add-one i)) h

-- ---- members

abbrev pub member_in : ℕ → Option (List Name) → Option Name
member_in p None = None
member_in p (Some hs) = name_at p hs

member_group : (n : Name) (p : ℕ) (gs : List Group) → member_of n p gs ≡ member_in p (group_named n gs)
member_group n p [] = refl
member_group n p (g ∷ gs) = elim (bytes_eq n g.name) as (λ b. cond b (name_at p g.hosts) (member_of n p gs) ≡ member_in p (cond b (Some g.hosts) (group_named n gs))) [
  | true ↦ refl
  | false ↦ member_group n p gs
]

-- the group that is looked up
pub member_found : (hs : List Name) (n : Name) (p : ℕ) (es : List (String Global × Vec ℕ Global)) (gs : List Group) → map (group_view hs) es ≡ gs
    → member_of n p gs ≡ member_in p (option_map (λ ms. named hs ms.items) (lookup (λ k. bytes_eq n (string_bytes k)) es))
member_found hs n p es gs e = ap (member_of n p) (sym e) ∙ member_group n p (map (group_view hs) es) ∙ ap (member_in p) (group-found hs n es)

pub name_got : (p : ℕ) (ns : List Name) → name_at p ns ≡ slice_get ns p
name_got p [] = refl
name_got zero (n ∷ ns) = refl
name_got (suc p) (n ∷ ns) = name_got p ns

-- ---- the group at a place

pub group_put : (hs : List Name) (es : List (String Global × Vec ℕ Global)) (gs : List Group) (i : ℕ) (e : String Global × Vec ℕ Global) (ss us : Slots) → map (group_view hs) es ≡ gs
    → Some e ≡ slice_get es i → us ≡ put_slot (string_bytes e.0) true (host_list (named hs e.1.items)) ss
    → option_map (λ g. put_slot g.name true (host_list g.hosts) ss) (slice_get gs i) ≡ Some us
group_put hs es gs i e ss us views at put =
    let f = λ (g : Group). put_slot g.name true (host_list g.hosts) ss in
    ap (λ xs. option_map f (slice_get xs i)) (sym views) ∙ ap (option_map f) (slice_get-map (group_view hs) es i ∙ ap (option_map (group_view hs)) (sym at)) ∙ ap Some (sym put)

below_all : (count : ℕ) (ps : List ℕ) → list_all (λ i. nat_lt i count) ps ≡ true → All (λ p. p < count) ps
below_all count ps h = All-weaker (λ p. nat_lt p count ≡ true) (λ p. p < count) (λ p e. grind (arith, nat_tests, e)) ps (AllPass-from_list_all (λ i. nat_lt i count) ps h)

-- its members are hosts
pub placed_at : (count : ℕ) (es : List (String Global × Vec ℕ Global)) (i : ℕ) (e : String Global × Vec ℕ Global) → are_placed count es ≡ true → Some e ≡ slice_get es i → All (λ p. p < count) e.1.items
placed_at count [] i e placed at = absurd (cc)
placed_at count (x ∷ es) zero e placed at =
    let same : x ≡ e = cc in
    subst (λ (y : String Global × Vec ℕ Global). All (λ p. p < count) y.1.items) same (below_all count x.1.items (and-left (list_all (λ i. nat_lt i count) x.1.items) (are_placed count es) placed))
placed_at count (x ∷ es) (suc i) e placed at = placed_at count es i e (and-right (list_all (λ i. nat_lt i count) x.1.items) (are_placed count es) placed) at
