-- What hosts have of their groups by numbers is what they have of them by names.
use Rattle.std.proofs.Common.{◌≡◌, ℕ, zero, suc, ◌+◌, ◌<◌, ◌≤◌, List, [], ◌∷◌, ◌++◌, length, get_or, take, map, Bool, true, false, not, ◌&&◌, ◌==◌, cond, eqb, refl, sym, ap, ◌∙◌, arith, inl, inr}
use Rattle.std.specs.List.{filter, fold, range_with_len}
use Rattle.std.specs.Str.{bytes_eq}
use Rattle.std.proofs.lemmas.Bool.{cases_eq, eq-eqb, ne_eqb}
use Rattle.std.proofs.lemmas.List.{map-append, take_more}
use Rattle.std.proofs.lemmas.List.Elements.{filter-append}
use Rattle.std.proofs.lemmas.List.Sums.{fold-append}
use Rattle.pb_semantics.specs.Data.{Fields, no_fields}
use Rattle.pb_semantics.specs.Keeps.{is_among}
use Rattle.pb_semantics.proofs.Names.{own_name, same_name}
use Rattle.pb_language.specs.Expression.{Name}
use Rattle.pb_language.specs.Families.{depth, group_names, groups_of, members, own_variables}
use Rattle.pb_language.specs.Inventories.{group_variables, overlaid}
use Rattle.pb_language.specs.Program.{memberships_of}
use Rattle.pb_language.specs.Written.{Document, Written, all_group}
use Rattle.pb_inventory.specs.Graph.{is_in}
use Rattle.pb_inventory.specs.HostGroups.{by_depth, groups_above, has_host, layers_where, names_where, numbers_where}
use Rattle.pb_inventory.specs.Numbered.{AreFamilies, are_apart, name_of, named}
use Rattle.pb_inventory.specs.Views.{laid, layered}
use Rattle.pb_inventory.proofs.HostRows.{numbers-more}
use Rattle.pb_inventory.proofs.Members.{is_in-head, is_in-tail}
use Rattle.pb_inventory.proofs.Apart.{name_of-same}

-- ---- hosts by their places

same_place : (hs : List Name) → are_apart hs ≡ true → (h x : ℕ) → h < length hs → x < length hs → bytes_eq (name_of hs h) (name_of hs x) ≡ eqb h x
same_place hs apart h x lt within = elim (cases_eq h x) [
  | inl e ↦ ap (λ y. bytes_eq (name_of hs h) (name_of hs y)) (sym e) ∙ own_name (name_of hs h) ∙ sym (eq-eqb h x e)
  | inr ne ↦ (elim (bytes_eq (name_of hs h) (name_of hs x)) as (λ b. bytes_eq (name_of hs h) (name_of hs x) ≡ b → b ≡ false) [
    | true ↦ λ e. absurd (ne (name_of-same hs apart h x lt within (same_name (name_of hs h) (name_of hs x) e)))
    | false ↦ λ e. refl
  ]) refl ∙ sym (ne_eqb h x ne)
]

-- a host stands among those at some places just where its place is one of them
pub among-named : (hs : List Name) → are_apart hs ≡ true → (ms : List ℕ) → ((x : ℕ) → is_in x ms ≡ true → x < length hs) → (h : ℕ) → h < length hs → is_among (name_of hs h) (named hs ms) ≡ is_in h ms
among-named hs apart [] known h lt = refl
among-named hs apart (m ∷ ms) known h lt =
    let first = same_place hs apart h m lt (known m (is_in-head m ms)) in
    let rest = among-named hs apart ms (λ x i. known x (is_in-tail x m ms i)) h lt in
    rw (first, rest) refl

-- ---- groups by their numbers

named-more : {A : Type 0} → (at : ℕ → A) (f : ℕ → Bool) (n : ℕ) → map at (numbers_where f (n + 1)) ≡ map at (numbers_where f n) ++ cond (f n) (at n ∷ []) []
named-more at f n = ap (map at) (numbers-more f n) ∙ map-append at (numbers_where f n) (cond (f n) (n ∷ []) []) ∙ ap (λ xs. map at (numbers_where f n) ++ xs) (elim (f n) as (λ b. map at (cond b (n ∷ []) []) ≡ cond b (at n ∷ []) []) [ true ↦ refl | false ↦ refl ])

pub named-first : (ns : List Name) (f : ℕ → Bool) (g : Name → Bool) → ((i : ℕ) → i < length ns → f i ≡ g (name_of ns i)) → (n : ℕ) → n ≤ length ns → named ns (numbers_where f n) ≡ filter g (take n ns)
named-first ns f g same zero le = refl
named-first ns f g same (suc n) le =
    let next : suc n ≡ n + 1 = omega arith in
    let lt : n < length ns = omega (arith, le) in
    let x = name_of ns n in
    ap (λ k. named ns (numbers_where f k)) next ∙ named-more (name_of ns) f n ∙ ap (λ xs. xs ++ cond (f n) (x ∷ []) []) (named-first ns f g same n (omega (arith, le)))
    ∙ ap (λ b. filter g (take n ns) ++ cond b (x ∷ []) []) (same n lt) ∙ sym (filter-append g (take n ns) (x ∷ [])) ∙ ap (filter g) (sym (take_more ns n [] lt)) ∙ ap (λ k. filter g (take k ns)) (sym next)

take-all : {A : Type 0} → (xs : List A) → take (length xs) xs ≡ xs
take-all [] = refl
take-all (x ∷ xs) = ap (λ ys. x ∷ ys) (take-all xs)

-- the names of the groups whose numbers pass a test
pub named-where : (ns : List Name) (f : ℕ → Bool) (g : Name → Bool) → ((i : ℕ) → i < length ns → f i ≡ g (name_of ns i)) → named ns (numbers_where f (length ns)) ≡ filter g ns
named-where ns f g same = named-first ns f g same (length ns) (omega arith) ∙ ap (filter g) (take-all ns)

filter-twice : (f g : ℕ → Bool) (xs : List ℕ) → filter f (filter g xs) ≡ filter (λ i. g i && f i) xs
filter-twice f g [] = refl
filter-twice f g (x ∷ xs) = elim (g x) as (λ b. filter f (cond b (x ∷ filter g xs) (filter g xs)) ≡ cond (b && f x) (x ∷ filter (λ i. g i && f i) xs) (filter (λ i. g i && f i) xs)) [
  | true ↦ ap (λ ys. cond (f x) (x ∷ ys) ys) (filter-twice f g xs)
  | false ↦ filter-twice f g xs
]

-- ---- under the definitions

memberships-filtered : (ws : List Written) (h : Name) (ns : List Name)
    → memberships_of h (map (λ n. record { name = n; hosts = members ws n }) ns) ≡ filter (λ n. is_among h (members ws n) && not (bytes_eq n all_group)) ns
memberships-filtered ws h [] = refl
memberships-filtered ws h (n ∷ ns) = ap (λ xs. cond (is_among h (members ws n) && not (bytes_eq n all_group)) (n ∷ xs) xs) (memberships-filtered ws h ns)

module _ (d : Document) (hs ns : List Name) (ms : List (List ℕ)) (ds : List ℕ) (ls : List Fields) (are : AreFamilies d hs ns ms ds ls) (apart : are_apart hs ≡ true) where
  has-member : (h : ℕ) → h < length hs → (i : ℕ) → i < length ns → has_host ms h i ≡ is_among (name_of hs h) (members d.groups (name_of ns i))
  has-member h lt i within = sym (among-named hs apart (get_or ms i []) (λ x e. are.placed i x e) h lt) ∙ ap (is_among (name_of hs h)) (are.members i within)

  -- the names of the groups of a host
  pub memberships-named : (h : ℕ) → h < length hs → names_where (has_host ms h) ns ≡ memberships_of (name_of hs h) (groups_of d.groups)
  memberships-named h lt =
      named-where ns (λ i. has_host ms h i && not (bytes_eq (name_of ns i) all_group)) (λ n. is_among (name_of hs h) (members d.groups n) && not (bytes_eq n all_group))
      (λ i within. ap (λ b. b && not (bytes_eq (name_of ns i) all_group)) (has-member h lt i within))
      ∙ sym (memberships-filtered d.groups (name_of hs h) ns) ∙ ap (λ xs. memberships_of (name_of hs h) (map (λ n. record { name = n; hosts = members d.groups n }) xs)) are.names

  over : Fields → Name → Fields
  over vs n = overlaid vs (own_variables n d.groups)

  layer : ℕ → Fields
  layer i = get_or ls i no_fields

  laid-where : (q : ℕ → Bool) (vs : Fields) (n : ℕ) → n ≤ length ns → fold laid vs (map layer (numbers_where q n)) ≡ fold over vs (named ns (numbers_where q n))
  unfolding over layer
  laid-where q vs zero le = refl
  laid-where q vs (suc n) le =
      let next : suc n ≡ n + 1 = omega arith in
      let lt : n < length ns = omega (arith, le) in
      let so_far = fold over vs (named ns (numbers_where q n)) in
      ap (λ k. fold laid vs (map layer (numbers_where q k))) next ∙ ap (fold laid vs) (named-more layer q n) ∙ fold-append laid vs (map layer (numbers_where q n)) (cond (q n) (layer n ∷ []) [])
      ∙ ap (λ a. fold laid a (cond (q n) (layer n ∷ []) [])) (laid-where q vs n (omega (arith, le)))
      ∙ (elim (q n) as (λ b. fold laid so_far (cond b (layer n ∷ []) []) ≡ fold over so_far (cond b (name_of ns n ∷ []) [])) [ true ↦ are.layers n lt so_far | false ↦ refl ])
      ∙ sym (fold-append over vs (named ns (numbers_where q n)) (cond (q n) (name_of ns n ∷ []) [])) ∙ ap (fold over vs) (sym (named-more (name_of ns) q n)) ∙ ap (λ k. fold over vs (named ns (numbers_where q k))) (sym next)

  layers-above : (h : ℕ) → h < length hs → (k : ℕ) → layered (layers_where (has_host ms h) (groups_above ds k) ls) ≡ group_variables d.groups (name_of hs h) k
  unfolding over layer
  layers-above h lt zero = refl
  layers-above h lt (suc k) =
      let f = has_host ms h in
      let g : ℕ → Bool = λ i. get_or ds i 0 == k in
      let q : ℕ → Bool = λ i. g i && f i in
      let xs = groups_above ds k in
      let ys = numbers_where g (length ds) in
      let deep : Name → Bool = λ n. (depth d.groups n == k) && is_among (name_of hs h) (members d.groups n) in
      let below = group_variables d.groups (name_of hs h) k in
      ap (λ is. layered (map layer is)) (filter-append f xs ys) ∙ ap layered (map-append layer (filter f xs) (filter f ys)) ∙ fold-append laid no_fields (map layer (filter f xs)) (map layer (filter f ys))
      ∙ ap (λ vs. fold laid vs (map layer (filter f ys))) (layers-above h lt k) ∙ ap (λ is. fold laid below (map layer is)) (filter-twice f g (range_with_len 0 (length ds)) ∙ ap (numbers_where q) are.counted.1)
      ∙ laid-where q below (length ns) (omega arith)
      ∙ ap (fold over below) (named-where ns q deep (λ i within. ap (λ n. (n == k) && f i) (are.depths (omega (arith, lt)) i within) ∙ ap (λ b. (depth d.groups (name_of ns i) == k) && b) (has-member h lt i within)))
      ∙ ap (λ names. fold over below (filter deep names)) are.names

  -- the layers of the groups of a host
  pub layers-named : (h : ℕ) → h < length hs → layered (layers_where (has_host ms h) (by_depth ds) ls) ≡ group_variables d.groups (name_of hs h) (suc (length (group_names d.groups)))
  layers-named h lt = layers-above h lt (suc (length ds)) ∙ ap (λ n. group_variables d.groups (name_of hs h) (suc n)) (are.counted.1 ∙ ap length are.names)
