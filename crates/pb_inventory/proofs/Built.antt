-- Groups that are put in their order, and the inventory of all parts.
use Rattle.std.proofs.Common.{◌≡◌, ◌∙◌, ℕ, suc, ◌+◌, ◌<◌, List, [], ◌∷◌, ◌++◌, Bool, true, false, Option, Some, None, Result, Ok, Err, Vec, String, Global, append_assoc, ap, get_or, map, length, length-append, string_bytes, take, refl, sym, arith, inl, inr, IfOk, MatchOption, cond, true≢false}
use Rattle.std.specs.Prelude.{nat_lt}
use Rattle.std.specs.List.{All, list_all, list_any}
use Rattle.std.specs.Str.{bytes_eq}
use Rattle.std.proofs.lemmas.Bool.{cases_Bool, cases_lt, or_left, or_right}
use Rattle.std.proofs.lemmas.Bool.Decides.{nat_tests}
use Rattle.std.proofs.lemmas.List.{length-map, map-append}
use Rattle.std.proofs.Math.ListN.{get_or-eq_default}
use Rattle.indexmap.specs.IndexMap.{insert_entry}
use Rattle.pb_semantics.specs.Keeps.{is_among}
use Rattle.pb_semantics.proofs.Bools.{and-both, and-left, and-right}
use Rattle.pb_language.specs.Expression.{Name}
use Rattle.pb_language.specs.Families.{group_names, groups_of, has_cycle, host_order, members, own_children}
use Rattle.pb_language.specs.Program.{Inventory}
use Rattle.pb_language.specs.World.{Group, HostVariables}
use Rattle.pb_language.specs.Written.{Written, all_group}
use Rattle.pb_inventory.specs.Families.{lists_of}
use Rattle.pb_inventory.specs.Graph.{HasCycle, IsOrder, children_at, is_in}
use Rattle.pb_inventory.specs.Numbered.{AreNumbered, are_apart, name_of, named}
use Rattle.pb_inventory.specs.Tables.{HaveMembers}
use Rattle.pb_inventory.specs.Views.{are_placed, group_view}
use Rattle.pb_inventory.proofs.HostAt.{new-name}
use Rattle.pb_inventory.proofs.Keys.{insert-new}
use Rattle.pb_inventory.proofs.Marked.{taken-next}
use Rattle.pb_inventory.proofs.NamedCycles.{has_cycle-found, has_cycle-none, is_among-named}

abbrev pub Entries : Type 0
Entries = List (String Global × Vec ℕ Global)

abbrev pub entry_names : Entries → List Name
entry_names es = map (λ e. string_bytes e.0) es

abbrev pub entry_lists : Entries → List (List ℕ)
entry_lists es = map (λ e. e.1.items) es

-- how many entries are there, where so many lists are left
pub entries-few : (es : Entries) (rest all : List (Vec ℕ Global)) → entry_lists es ++ lists_of rest ≡ lists_of all → length es + length rest ≡ length all
entries-few es rest all e =
    omega (arith, ap length e, length-append (entry_lists es) (lists_of rest), length-map es (λ e. e.1.items), length-map rest (λ v. v.items), length-map all (λ v. v.items))

-- the entry of the next name goes behind the others
pub next-entry : (ns : List Name) (es : Entries) (k : String Global) (v : Vec ℕ Global) → are_apart ns ≡ true → length es < length ns → string_bytes k ≡ name_of ns (length es) → entry_names es ≡ take (length es) ns
    → insert_entry (λ a b. bytes_eq (string_bytes a) (string_bytes b)) es k v ≡ es ++ (k, v) ∷ []
next-entry ns es k v apart lt name so = insert-new es k v (ap (λ n. is_among n (entry_names es)) name ∙ ap (is_among (name_of ns (length es))) so ∙ new-name ns (length es) lt apart)

pub next-named : (ns : List Name) (es : Entries) (k : String Global) (v : Vec ℕ Global) → length es < length ns → string_bytes k ≡ name_of ns (length es) → entry_names es ≡ take (length es) ns
    → entry_names (es ++ (k, v) ∷ []) ≡ take (length (es ++ (k, v) ∷ [])) ns
next-named ns es k v lt name so =
    let entry : String Global × Vec ℕ Global = (k, v) in
    map-append (λ (e : String Global × Vec ℕ Global). string_bytes e.0) es (entry ∷ []) ∙ ap (λ xs. xs ++ string_bytes k ∷ []) so ∙ ap (λ n. take (length es) ns ++ n ∷ []) name ∙ sym (taken-next ns (length es) lt)
    ∙ ap (λ n. take n ns) (sym (length-append es (entry ∷ [])))

pub next-listed : (es : Entries) (k : String Global) (v : Vec ℕ Global) (rest : List (Vec ℕ Global)) → entry_lists (es ++ (k, v) ∷ []) ++ lists_of rest ≡ entry_lists es ++ lists_of (v ∷ rest)
next-listed es k v rest =
    let entry : String Global × Vec ℕ Global = (k, v) in
    ap (λ xs. xs ++ lists_of rest) (map-append (λ (e : String Global × Vec ℕ Global). e.1.items) es (entry ∷ [])) ∙ append_assoc (entry_lists es) (v.items ∷ []) (lists_of rest)

all-below : (limit : ℕ) (ps : List ℕ) → All (λ p. p < limit) ps → list_all (λ i. nat_lt i limit) ps ≡ true
all-below limit [] below = refl
all-below limit (p ∷ ps) below =
    let first : p < limit = below 0 0 (omega arith) in
    and-both (nat_lt p limit) (list_all (λ i. nat_lt i limit) ps) (grind (arith, nat_tests)) (all-below limit ps (λ k d lt. below (suc k) d (omega (arith, lt))))

pub next-placed : (limit : ℕ) (es : Entries) (k : String Global) (v : Vec ℕ Global) → are_placed limit es ≡ true → All (λ p. p < limit) v.items → are_placed limit (es ++ (k, v) ∷ []) ≡ true
next-placed limit [] k v placed below = and-both (list_all (λ i. nat_lt i limit) v.items) true (all-below limit v.items below) refl
next-placed limit (e ∷ es) k v placed below =
    and-both (list_all (λ i. nat_lt i limit) e.1.items) (are_placed limit (es ++ (k, v) ∷ [])) (and-left (list_all (λ i. nat_lt i limit) e.1.items) (are_placed limit es) placed)
    (next-placed limit es k v (and-right (list_all (λ i. nat_lt i limit) e.1.items) (are_placed limit es) placed) below)

abbrev named_groups : List Written → List Name → List Group
named_groups ws ns = map (λ n. record { name = n; hosts = members ws n }) ns

-- groups with the places of their members are the groups by name
pub groups-viewed : (ws : List Written) (hs : List Name) (es : Entries) → ((i : ℕ) → i < length es → named hs (get_or (entry_lists es) i []) ≡ members ws (name_of (entry_names es) i))
    → map (group_view hs) es ≡ map (λ n. record { name = n; hosts = members ws n }) (entry_names es)
groups-viewed ws hs [] h = refl
groups-viewed ws hs (e ∷ es) h =
    let n = string_bytes e.0 in
    ap (λ (m : List Name). record { name = n; hosts = m } ∷ map (group_view hs) es) (h 0 (omega arith))
    ∙ ap (λ (gs : List Group). record { name = n; hosts = members ws n } ∷ gs) (groups-viewed ws hs es (λ i lt. h (suc i) (omega (arith, lt))))

pub groups-placed : (ws : List Written) (hs ns : List Name) (ms : List (List ℕ)) (es : Entries) → HaveMembers ns ms es → ns ≡ group_names ws → ((i : ℕ) → i < length ns → named hs (get_or ms i []) ≡ members ws (name_of ns i))
    → map (group_view hs) es ≡ groups_of ws
groups-placed ws hs ns ms es have names each =
    let count : length es ≡ length ns = sym (length-map es (λ e. string_bytes e.0)) ∙ ap length have.names in
    groups-viewed ws hs es (λ i lt. ap (λ xs. named hs (get_or xs i [])) have.members ∙ each i (omega (arith, lt, count)) ∙ ap (λ xs. members ws (name_of xs i)) (sym have.names))
    ∙ ap (λ (xs : List Name). named_groups ws xs) (have.names ∙ names)

pub inventory-is : (i : Inventory) (hs : List HostVariables) (gs : List Group) → i.hosts ≡ hs → i.groups ≡ gs → i ≡ record { hosts = hs; groups = gs }
inventory-is i hs gs h g = rw (← h, ← g) refl

-- ---- cycles

module _ {ws : List Written} {hs ns : List Name} {os cs : List (List ℕ)} (a : AreNumbered ws hs ns os cs) where
  -- an order was found, or a cycle
  pub cycle-told : {E : Type 0} (r : Result (Option (Vec ℕ Global)) E) → list_any (λ w. is_among all_group w.children) ws ≡ false → IfOk r (λ o. MatchOption o (HasCycle cs) (λ v. IsOrder cs v.items))
      → IfOk r (λ o. MatchOption o (has_cycle ws ≡ true) (λ v. has_cycle ws ≡ false))
  cycle-told (Ok None) root told = has_cycle-found a told
  cycle-told (Ok (Some v)) root told = has_cycle-none a v.items told root
  cycle-told (Err e) root told = tt

  child-written : (x n : Name) (vs : List Written) → is_among x (own_children n vs) ≡ true → list_any (λ w. is_among x w.children) vs ≡ true
  child-written x n [] h = absurd (true≢false (sym h))
  child-written x n (v ∷ vs) h = by_name (bytes_eq n v.name) refl (child-written x n vs) where
    by_name : (b : Bool) → bytes_eq n v.name ≡ b → (is_among x (own_children n vs) ≡ true → list_any (λ w. is_among x w.children) vs ≡ true) → list_any (λ w. is_among x w.children) (v ∷ vs) ≡ true
    by_name true e k = or_left (is_among x v.children) (list_any (λ w. is_among x w.children) vs) (ap (λ b. is_among x (cond b v.children (own_children n vs))) (sym e) ∙ h)
    by_name false e k = or_right (is_among x v.children) (list_any (λ w. is_among x w.children) vs) (k (ap (λ b. is_among x (cond b v.children (own_children n vs))) (sym e) ∙ h))

  -- the group of all hosts is no child, by its number
  pub root-free : (root : ℕ) → name_of ns root ≡ all_group → list_any (λ w. is_among all_group w.children) ws ≡ false → (i : ℕ) → is_in root (children_at cs i) ≡ false
  root-free root name none i = elim (cases_Bool (is_in root (children_at cs i))) [
    | inl there ↦ elim (cases_lt i (length ns)) [
      | inl lt ↦
          let child : is_among all_group (own_children (name_of ns i) ws) ≡ true = ap (λ n. is_among n (own_children (name_of ns i) ws)) (sym name) ∙ ap (is_among (name_of ns root)) (sym (a.children i lt)) ∙ is_among-named ns root (children_at cs i) there in
          absurd (true≢false (sym (child-written all_group (name_of ns i) ws child) ∙ none))
      | inr le ↦ absurd (true≢false (sym there ∙ ap (is_in root) (get_or-eq_default cs [] (omega (arith, le, a.counted)))))
    ]
    | inr free ↦ free
  ]

-- where there is a host some group is written
pub some-written : (ws : List Written) (hs : List Name) → hs ≡ host_order ws → 0 < length hs → 0 < length ws
some-written [] hs e lt = absurd (omega (arith, lt, ap length e))
some-written (w ∷ ws) hs e lt = omega arith
