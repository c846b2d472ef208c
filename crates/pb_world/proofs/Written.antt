-- Values that are written to the slots of a host.
use Rattle.std.proofs.Common.{◌≡◌, ◌≢◌, ◌∙◌, ℕ, zero, suc, ◌<◌, List, [], ◌∷◌, ◌++◌, length, get_or, set, map, true, false, cond, nat_eq, Some, None, option_map, String, Global, string_bytes, ⊎_elim, refl, sym, ap, subst, arith}
use Rattle.std.specs.List.{All}
use Rattle.std.proofs.lemmas.Bool.Decides.{eqb_tells}
use Rattle.std.proofs.lemmas.List.{get_or-set_other, get_or-set_same, length-map, length-set, map-set}
use Rattle.std.proofs.lemmas.List.Elements.{All-append, All-head, All-set, All-tail}
use Rattle.std.proofs.lemmas.Option.{get_or_from_slice_get, slice_get_within}
use Rattle.pb_semantics.specs.Data.{Fields, no_fields, field, put_all, put_field}
use Rattle.pb_language.specs.Expression.{Name}
use Rattle.pb_language.specs.Theorem.{are_distinct}
use Rattle.pb_language.specs.World.{HostVariables}
use Rattle.pb_facts.specs.Facts.{Held, IsBlock, row_of, with_value}
use Rattle.pb_facts.specs.Variables.{VariablesArePut, variables_over}
use Rattle.pb_slots.specs.Slots.{slot_in}
use Rattle.pb_value.specs.Append.{append_fields}
use Rattle.pb_value.specs.View.{fields_view, view}
use Rattle.pb_value.specs.declared.value.Value.{Value}
use Rattle.pb_world.specs.Variables.{given_variables, host_variables}
use Rattle.pb_world.specs.Writes.{have_slots, slot_fields, with_values}
use Rattle.pb_world.proofs.InSlots.{slot-found}

abbrev pub Placed : Type 0
Placed = ℕ × Value

abbrev pub Named : Type 0
Named = String Global × Value

pub none-left : {A : Type 0} (xs : List A) → length xs ≡ 0 → xs ≡ []
none-left [] h = refl
none-left (x ∷ xs) h = absurd (omega (arith, h))

-- ---- slots of names

-- one field more
pub fields-next : (names : List Name) (done : List Placed) (s : ℕ) (v : Value) (n : String Global) (rest : List Named) → slot_in names (string_bytes n) ≡ Some s
    → append_fields (slot_fields names (done ++ (s, v) ∷ [])) (fields_view rest) ≡ append_fields (slot_fields names done) (fields_view ((n, v) ∷ rest))
fields-next names [] s v n rest h = ap (λ m. field m (view v) (fields_view rest)) (get_or_from_slice_get names s (string_bytes n) [] (slot-found (string_bytes n) names s h))
fields-next names (w ∷ ws) s v n rest h = ap (field (get_or names w.0 []) (view w.1)) (fields-next names ws s v n rest h)

found-within : (names : List Name) (n : Name) (s : ℕ) → slot_in names n ≡ Some s → s < length names
found-within names n s h = slice_get_within names s n (slot-found n names s h)

abbrev pub IsPlaced : ℕ → Placed → Type 0
IsPlaced count w = w.0 < count

pub placed-next : (names : List Name) (done : List Placed) (s : ℕ) (v : Value) (n : Name) → slot_in names n ≡ Some s → All (IsPlaced (length names)) done → All (IsPlaced (length names)) (done ++ (s, v) ∷ [])
placed-next names done s v n h placed = All-append (IsPlaced (length names)) done ((s, v) ∷ []) placed (one (found-within names n s h)) where
  one : s < length names → All (IsPlaced (length names)) ((s, v) ∷ [])
  one lt zero d l = lt
  one lt (suc k) d l = absurd (omega (arith, l))

pub all-found : (names : List Name) (n : String Global) (v : Value) (rest : List Named) (s : ℕ) → slot_in names (string_bytes n) ≡ Some s → have_slots names ((n, v) ∷ rest) ≡ have_slots names rest
all-found names n v rest s h = rw h refl

pub one-missing : (names : List Name) (n : String Global) (v : Value) (rest : List Named) → slot_in names (string_bytes n) ≡ None → have_slots names ((n, v) ∷ rest) ≡ false
one-missing names n v rest h = rw h refl

pub fields-whole : (fs : Fields) → append_fields fs (fields_view []) ≡ fs
fields-whole no_fields = refl
fields-whole (field n d fs) = ap (field n d) (fields-whole fs)

-- ---- the variables of a host

block-set : (held : Held) (host slot : ℕ) (v : Value) → IsBlock held → host < held.hosts → IsBlock (with_value held host slot v)
block-set held host slot v b lt = record {
  hosts = length-set held.rows host (set (row_of held host) slot (Some v)) ∙ b.hosts;
  slots = All-set (λ row. length row ≡ held.slots) held.rows host (set (row_of held host) slot (Some v)) (length-set (row_of held host) slot (Some v) ∙ b.slots host [] (subst (λ n. host < n) (sym b.hosts) lt)) b.slots;
}

row-set : (held : Held) (host slot : ℕ) (v : Value) → IsBlock held → host < held.hosts → row_of (with_value held host slot v) host ≡ set (row_of held host) slot (Some v)
row-set held host slot v b lt = get_or-set_same held.rows host (set (row_of held host) slot (Some v)) [] (subst (λ n. host < n) (sym b.hosts) lt)

module _ (hs : List HostVariables) (names : List Name) (apart : are_distinct names ≡ true) (laws : VariablesArePut) where
  -- one value is set
  own-set : (held : Held) (host slot : ℕ) (v : Value) → length names ≡ held.slots → IsBlock held → host < held.hosts → slot < held.slots
      → host_variables hs names (with_value held host slot v) host ≡ put_field (get_or names slot []) (view v) (host_variables hs names held host)
  own-set held host slot v count b lt few =
      let row = row_of held host in
      let base = given_variables hs host in
      let size : length (map (option_map view) row) ≡ length names = length-map row (option_map view) ∙ b.slots host [] (subst (λ n. host < n) (sym b.hosts) lt) ∙ sym count in
      ap (λ r. variables_over base names (map (option_map view) r)) (row-set held host slot v b lt) ∙ ap (variables_over base names) (map-set (option_map view) row slot (Some v))
      ∙ laws base names (map (option_map view) row) slot (view v) apart size (subst (λ n. slot < n) (sym count) few)

  others-set : (held : Held) (host slot k : ℕ) (v : Value) → k ≢ host → host_variables hs names (with_value held host slot v) k ≡ host_variables hs names held k
  others-set held host slot k v apart = ap (λ r. variables_over (given_variables hs k) names (map (option_map view) r)) (get_or-set_other held.rows host k (set (row_of held host) slot (Some v)) [] apart)

  -- all of them are set, on the host and on another one
  own-written : (held : Held) (host : ℕ) (ws : List Placed) → length names ≡ held.slots → IsBlock held → host < held.hosts → All (IsPlaced held.slots) ws
      → host_variables hs names (with_values held host ws) host ≡ put_all (slot_fields names ws) (host_variables hs names held host)
  own-written held host [] count b lt few = refl
  own-written held host (w ∷ ws) count b lt few =
      own-written (with_value held host w.0 w.1) host ws count (block-set held host w.0 w.1 b lt) lt (All-tail (IsPlaced held.slots) w ws few)
      ∙ ap (put_all (slot_fields names ws)) (own-set held host w.0 w.1 count b lt (All-head (IsPlaced held.slots) w ws few))

  others-written : (held : Held) (host k : ℕ) (ws : List Placed) → k ≢ host → host_variables hs names (with_values held host ws) k ≡ host_variables hs names held k
  others-written held host k [] apart = refl
  others-written held host k (w ∷ ws) apart = others-written (with_value held host w.0 w.1) host k ws apart ∙ others-set held host w.0 k w.1 apart

  pub are-written : (held : Held) (host k : ℕ) (ws : List Placed) → length names ≡ held.slots → IsBlock held → host < held.hosts → All (IsPlaced held.slots) ws
      → host_variables hs names (with_values held host ws) k ≡ cond (nat_eq k host) (put_all (slot_fields names ws) (host_variables hs names held host)) (host_variables hs names held k)
  are-written held host k ws count b lt few = ⊎_elim same other (eqb_tells k host) where
    same : (nat_eq k host ≡ true) × (k ≡ host) → host_variables hs names (with_values held host ws) k ≡ cond (nat_eq k host) (put_all (slot_fields names ws) (host_variables hs names held host)) (host_variables hs names held k)
    same h = rw h.0 (ap (host_variables hs names (with_values held host ws)) h.1 ∙ own-written held host ws count b lt few)

    other : (nat_eq k host ≡ false) × (k ≡ host → ⊥) → host_variables hs names (with_values held host ws) k ≡ cond (nat_eq k host) (put_all (slot_fields names ws) (host_variables hs names held host)) (host_variables hs names held k)
    other h = rw h.0 (others-written held host k ws h.1)
