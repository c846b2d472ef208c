-- The members of groups by their names, where the groups and the hosts are numbered.
use Rattle.std.proofs.Common.{◌≡◌, ℕ, zero, suc, ◌<◌, List, [], ◌∷◌, ◌++◌, length, get_or, Bool, true, false, cond, refl, sym, ap, ◌∙◌, inl, inr}
use Rattle.std.specs.List.{flat_map}
use Rattle.std.specs.Prelude.{nat_eq}
use Rattle.std.proofs.lemmas.Bool.{cond_both, eqb-true, false≢true, or_cases}
use Rattle.pb_language.specs.Expression.{Name}
use Rattle.pb_language.specs.Families as families
use Rattle.pb_language.specs.Families.{members_within, own_hosts}
use Rattle.pb_language.specs.Plays.{add_hosts}
use Rattle.pb_language.specs.Written.{Written}
use Rattle.pb_inventory.specs.Families.{add_numbers, once}
use Rattle.pb_inventory.specs.Graph.{IsOrder, children_at, is_in, parents_count}
use Rattle.pb_inventory.specs.Held.{held}
use Rattle.pb_inventory.specs.Numbered.{AreNumbered, are_apart, name_of, named}
use Rattle.pb_inventory.proofs.Apart.{host_order-apart}
use Rattle.pb_inventory.proofs.Members.{flat_map-same, from-flat_map, is_in-append, is_in-head, is_in-tail}
use Rattle.pb_inventory.proofs.NamedCycles.{child-within, flat_map-named, is_in-named, named-append, named-flat_map, parents_count-few}
use Rattle.pb_inventory.proofs.Orders.{held_enough}

abbrev pub AreWithin : List Name → List ℕ → Type 0
AreWithin hs ms = (j : ℕ) → is_in j ms ≡ true → j < length hs

named_step : (b : Bool) (hs : List Name) (m : ℕ) (ms : List ℕ) → named hs (cond b ms (ms ++ m ∷ [])) ≡ cond b (named hs ms) (named hs ms ++ name_of hs m ∷ [])
named_step true hs m ms = refl
named_step false hs m ms = named-append hs ms (m ∷ [])

within_step : (hs : List Name) (m : ℕ) (ms : List ℕ) → m < length hs → AreWithin hs ms → AreWithin hs (cond (is_in m ms) ms (ms ++ m ∷ []))
within_step hs m ms lt within = cond_both (is_in m ms) ms (ms ++ m ∷ []) (λ xs. AreWithin hs xs)
    (λ there. within)
    (λ none j h. elim (is_in-append j ms (m ∷ []) h) [
      | inl e ↦ within j e
      | inr r ↦ elim (or_cases (nat_eq j m) false r) [
        | inl same ↦ rw (eqb-true j m same) lt
        | inr no_more ↦ absurd (false≢true no_more)
      ]
    ])

pub named-add_numbers : (hs : List Name) → are_apart hs ≡ true → (ms ls : List ℕ) → AreWithin hs ms → AreWithin hs ls → named hs (add_numbers ms ls) ≡ add_hosts (named hs ms) (named hs ls)
named-add_numbers hs apart ms [] within others = refl
named-add_numbers hs apart ms (l ∷ ls) within others =
    let lt = others l (is_in-head l ls) in
    named-add_numbers hs apart (cond (is_in l ms) ms (ms ++ l ∷ [])) ls (within_step hs l ms lt within) (λ j h. others j (is_in-tail j l ls h))
    ∙ ap (λ os. add_hosts os (named hs ls)) (named_step (is_in l ms) hs l ms
    ∙ ap (λ b. cond b (named hs ms) (named hs ms ++ name_of hs l ∷ [])) (sym (is_in-named hs apart l ms lt within)))

-- numbers, each once, name each of their names once
named-once : (hs : List Name) → are_apart hs ≡ true → (ls : List ℕ) → AreWithin hs ls → named hs (once ls) ≡ families.once (named hs ls)
named-once hs apart ls within = named-add_numbers hs apart [] ls (λ j h. absurd (false≢true h)) within

module _ {ws : List Written} {hs ns : List Name} {os cs : List (List ℕ)} (a : AreNumbered ws hs ns os cs) where
  hosts-apart : are_apart hs ≡ true
  hosts-apart = ap are_apart a.hosts ∙ host_order-apart ws

  held-within : (k i : ℕ) → AreWithin hs (held k (λ n. get_or os n []) cs i)
  held-within zero i h e = a.placed i h e
  held-within (suc k) i h e =
      let ds = children_at cs i in
      elim (is_in-append h (get_or os i []) (flat_map (held k (λ n. get_or os n []) cs) ds) e) [
        | inl own ↦ a.placed i h own
        | inr r ↦ let p = from-flat_map h (held k (λ n. get_or os n []) cs) ds r in held-within k p.0 h p.2
      ]

  -- the hosts of a group and those below it are those that its number holds
  pub members_within-numbered : (k i : ℕ) → i < length ns → members_within k ws (name_of ns i) ≡ named hs (held k (λ n. get_or os n []) cs i)
  members_within-numbered zero i lt = sym (a.own i lt)
  members_within-numbered (suc k) i lt =
      let n = name_of ns i in
      let ds = children_at cs i in
      let own = λ (j : ℕ). get_or os j [] in
      ap (λ ms. own_hosts n ws ++ flat_map (members_within k ws) ms) (sym (a.children i lt))
      ∙ ap (λ xs. own_hosts n ws ++ xs) (flat_map-named (members_within k ws) ns ds
      ∙ flat_map-same (λ c. members_within k ws (name_of ns c)) (λ c. named hs (held k own cs c)) ds (λ c h. members_within-numbered k c (child-within a i c h))
      ∙ named-flat_map hs (held k own cs) ds)
      ∙ ap (λ xs. xs ++ named hs (flat_map (held k own cs) ds)) (sym (a.own i lt))
      ∙ sym (named-append hs (own i) (flat_map (held k own cs) ds))

  -- the members of a group, each once, are those of its number
  pub members-numbered : (order : List ℕ) → IsOrder cs order → (i : ℕ) → i < length ns
      → named hs (once (held (parents_count cs) (λ n. get_or os n []) cs i)) ≡ families.once (members_within (length ws) ws (name_of ns i))
  members-numbered order o i lt =
      let own = λ (j : ℕ). get_or os j [] in
      let enough = held_enough own cs order a.graph o (length ws) i (rw a.counted lt) (parents_count-few a) in
      named-once hs hosts-apart (held (parents_count cs) own cs i) (held-within (parents_count cs) i)
      ∙ ap (λ ms. families.once (named hs ms)) (sym enough)
      ∙ ap families.once (sym (members_within-numbered (length ws) i lt))
