-- Lists that groups have of their own, by the groups' numbers.
use Rattle.std.proofs.Common.{◌≡◌, ℕ, ◌<◌, List, [], ◌∷◌, ◌++◌, length, get_or, set, replicate, Bool, true, false, cond, true≢false, refl, sym, ap, ◌∙◌, arith, inl, inr}
use Rattle.std.specs.Prelude.{◌||◌}
use Rattle.std.specs.Str.{bytes_eq}
use Rattle.std.proofs.lemmas.Bool.{cases_eq}
use Rattle.std.proofs.lemmas.List.{get_or-replicate, get_or-set_other}
use Rattle.std.proofs.lemmas.Grind.{get_or-set_at}
use Rattle.pb_semantics.specs.Keeps.{is_among}
use Rattle.pb_semantics.proofs.Names.{own_name}
use Rattle.pb_language.specs.Expression.{Name}
use Rattle.pb_semantics.specs.Data.{Fields, no_fields}
use Rattle.pb_language.specs.Families.{own_children, own_hosts, own_variables}
use Rattle.pb_language.specs.Inventories.{overlaid}
use Rattle.pb_inventory.specs.Views.{laid}
use Rattle.pb_language.specs.Written.{Written}
use Rattle.pb_inventory.specs.Numbered.{are_apart, name_of, named, written_names}
use Rattle.pb_inventory.proofs.Apart.{name_of-same, unlike}

-- what the first group of that name has
abbrev pub first : (Written → List Name) → Name → List Written → List Name
first part n [] = []
first part n (w ∷ ws) = cond (bytes_eq n w.name) (part w) (first part n ws)

pub own_hosts-first : (n : Name) (ws : List Written) → first (λ w. w.hosts) n ws ≡ own_hosts n ws
own_hosts-first n [] = refl
own_hosts-first n (w ∷ ws) = ap (cond (bytes_eq n w.name) w.hosts) (own_hosts-first n ws)

pub own_children-first : (n : Name) (ws : List Written) → first (λ w. w.children) n ws ≡ own_children n ws
own_children-first n [] = refl
own_children-first n (w ∷ ws) = ap (cond (bytes_eq n w.name) w.children) (own_children-first n ws)

first-other : (part : Written → List Name) (n : Name) (ws : List Written) (w : Written) → bytes_eq n w.name ≡ false → first part n (ws ++ w ∷ []) ≡ first part n ws
first-other part n [] w h = ap (λ b. cond b (part w) []) h
first-other part n (v ∷ ws) w h = ap (cond (bytes_eq n v.name) (part v)) (first-other part n ws w h)

first-new : (part : Written → List Name) (n : Name) (ws : List Written) (w : Written) → n ≡ w.name → is_among n (written_names ws) ≡ false → first part n (ws ++ w ∷ []) ≡ part w
first-new part n [] w e h = ap (λ b. cond b (part w) []) (ap (λ m. bytes_eq m w.name) e ∙ own_name w.name)
first-new part n (v ∷ ws) w e h = at_first (bytes_eq n v.name) refl (first-new part n ws w e) where
  at_first : (b : Bool) → bytes_eq n v.name ≡ b → (is_among n (written_names ws) ≡ false → first part n (ws ++ w ∷ []) ≡ part w) → cond b (part v) (first part n (ws ++ w ∷ [])) ≡ part w
  at_first true i k = absurd (true≢false (sym (ap (λ b. b || is_among n (written_names ws)) i) ∙ h))
  at_first false i k = k (sym (ap (λ b. b || is_among n (written_names ws)) i) ∙ h)

abbrev pub HasLists : (Written → List Name) → List Name → List Name → List (List ℕ) → List Written → Type 0
HasLists part ts ns lists ws = (i : ℕ) → i < length ns → named ts (get_or lists i []) ≡ first part (name_of ns i) ws

pub lists-none : (part : Written → List Name) (ts ns : List Name) (lists : List (List ℕ)) → lists ≡ replicate (length ns) [] → HasLists part ts ns lists []
lists-none part ts ns lists e = λ i lt. ap (named ts) (ap (λ ls. get_or ls i []) e ∙ get_or-replicate (length ns) i [] [] lt)

-- the next group has its list at its number
pub lists-more : (part : Written → List Name) (ts ns : List Name) (lists : List (List ℕ)) (ws : List Written) (w : Written) (k : ℕ) (l : List ℕ) → are_apart ns ≡ true → length lists ≡ length ns → k < length ns → name_of ns k ≡ w.name
    → is_among w.name (written_names ws) ≡ false → named ts l ≡ part w → HasLists part ts ns lists ws → HasLists part ts ns (set lists k l) (ws ++ w ∷ [])
lists-more part ts ns lists ws w k l apart count lt name new list has = λ i few. elim (cases_eq i k) [
  | inl e ↦
      let named_so : name_of ns i ≡ w.name = ap (name_of ns) e ∙ name in
      ap (named ts) (get_or-set_at lists k i l [] e (omega arith)) ∙ list ∙ sym (first-new part (name_of ns i) ws w named_so (ap (λ n. is_among n (written_names ws)) named_so ∙ new))
  | inr ne ↦
      let others : bytes_eq (name_of ns i) w.name ≡ false = unlike (name_of ns i) w.name (λ e. ne (name_of-same ns apart i k few lt (e ∙ sym name))) in
      ap (named ts) (get_or-set_other lists k i l [] ne) ∙ has i few ∙ sym (first-other part (name_of ns i) ws w others)
]

-- ---- variables

variables-other : (n : Name) (ws : List Written) (w : Written) → bytes_eq n w.name ≡ false → own_variables n (ws ++ w ∷ []) ≡ own_variables n ws
variables-other n [] w h = ap (λ b. cond b w.variables no_fields) h
variables-other n (v ∷ ws) w h = ap (cond (bytes_eq n v.name) v.variables) (variables-other n ws w h)

variables-new : (n : Name) (ws : List Written) (w : Written) → n ≡ w.name → is_among n (written_names ws) ≡ false → own_variables n (ws ++ w ∷ []) ≡ w.variables
variables-new n [] w e h = ap (λ b. cond b w.variables no_fields) (ap (λ m. bytes_eq m w.name) e ∙ own_name w.name)
variables-new n (v ∷ ws) w e h = at_first (bytes_eq n v.name) refl (variables-new n ws w e) where
  at_first : (b : Bool) → bytes_eq n v.name ≡ b → (is_among n (written_names ws) ≡ false → own_variables n (ws ++ w ∷ []) ≡ w.variables) → cond b v.variables (own_variables n (ws ++ w ∷ [])) ≡ w.variables
  at_first true i k = absurd (true≢false (sym (ap (λ b. b || is_among n (written_names ws)) i) ∙ h))
  at_first false i k = k (sym (ap (λ b. b || is_among n (written_names ws)) i) ∙ h)

-- each group's layer gives what its variables do
abbrev pub HasLayers : List Name → List Fields → List Written → Type 0
HasLayers ns ls ws = (i : ℕ) → i < length ns → (vs : Fields) → laid vs (get_or ls i no_fields) ≡ overlaid vs (own_variables (name_of ns i) ws)

pub layers-more : (ns : List Name) (ls : List Fields) (ws : List Written) (w : Written) (k : ℕ) (l : Fields) → are_apart ns ≡ true → length ls ≡ length ns → k < length ns → name_of ns k ≡ w.name
    → is_among w.name (written_names ws) ≡ false → ((vs : Fields) → laid vs l ≡ overlaid vs w.variables) → HasLayers ns ls ws → HasLayers ns (set ls k l) (ws ++ w ∷ [])
layers-more ns ls ws w k l apart count lt name new layer has = λ i few vs. elim (cases_eq i k) [
  | inl e ↦
      let named_so : name_of ns i ≡ w.name = ap (name_of ns) e ∙ name in
      ap (laid vs) (get_or-set_at ls k i l no_fields e (omega arith)) ∙ layer vs ∙ ap (overlaid vs) (sym (variables-new (name_of ns i) ws w named_so (ap (λ n. is_among n (written_names ws)) named_so ∙ new)))
  | inr ne ↦
      let other : bytes_eq (name_of ns i) w.name ≡ false = unlike (name_of ns i) w.name (λ e. ne (name_of-same ns apart i k few lt (e ∙ sym name))) in
      ap (laid vs) (get_or-set_other ls k i l no_fields ne) ∙ has i few vs ∙ ap (overlaid vs) (sym (variables-other (name_of ns i) ws w other))
]
