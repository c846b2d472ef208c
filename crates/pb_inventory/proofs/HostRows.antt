-- Tables of the hosts of groups, and the groups that pass a test.
use Rattle.std.proofs.Common.{◌≡◌, ◌≢◌, ℕ, zero, suc, ◌+◌, ◌<◌, ◌≤◌, List, [], ◌∷◌, ◌++◌, length, get_or, set, replicate, map, Bool, true, false, not, ◌&&◌, ◌||◌, cond, eqb, Vec, Global, refl, sym, ap, ◌∙◌, arith, inl, inr}
use Rattle.std.specs.List.{All, filter, range_with_len}
use Rattle.std.specs.Str.{bytes_eq}
use Rattle.std.proofs.lemmas.Bool.{cases_eq, eq-eqb, ne_eqb, or_right}
use Rattle.std.proofs.lemmas.Grind.{get_or-set_at}
use Rattle.std.proofs.lemmas.List.{append-nil, get_or-map, get_or-replicate, get_or-set_other, length-map, length-replicate, length-set, map-append}
use Rattle.std.proofs.lemmas.List.Elements.{All-append, All-filter, All-nil, All-tail, All-weaker, filter-append}
use Rattle.std.proofs.lemmas.List.FromFn.{fill_by_all, get_or-map-range_with_len, get_or-range_with_len, length-map-range_with_len, length-range_with_len}
use Rattle.pb_semantics.specs.Data.{Fields, no_fields}
use Rattle.pb_language.specs.Expression.{Name}
use Rattle.pb_language.specs.Written.{all_group}
use Rattle.pb_inventory.specs.Graph.{is_in}
use Rattle.pb_inventory.specs.HostGroups.{by_depth, flag_at, flags_of, groups_above, has_host, layers_where, names_where, numbers_where, row_of}
use Rattle.pb_inventory.specs.Numbered.{name_of, named}
use Rattle.pb_inventory.proofs.Onces.{is_in-joined}

-- ---- which hosts are members

row_at : (hosts : ℕ) (ms : List ℕ) (h : ℕ) → h < hosts → get_or (row_of hosts ms) h false ≡ is_in h ms
row_at hosts ms h lt = get_or-map-range_with_len (λ k. is_in k ms) 0 hosts h h false lt (omega arith)

row_length : (hosts : ℕ) (ms : List ℕ) → length (row_of hosts ms) ≡ hosts
row_length hosts ms = length-map-range_with_len (λ k. is_in k ms) 0 hosts

or_none : (b : Bool) → b ≡ (b || false)
or_none true = refl
or_none false = refl

other_in : (k m : ℕ) (ms : List ℕ) → k ≢ m → is_in k ms ≡ is_in k (ms ++ m ∷ [])
other_in k m ms ne = or_none (is_in k ms) ∙ ap (λ b. is_in k ms || (b || false)) (sym (ne_eqb k m ne)) ∙ sym (is_in-joined k ms (m ∷ []))

own_in : (k m : ℕ) (ms : List ℕ) → k ≡ m → true ≡ is_in k (ms ++ m ∷ [])
own_in k m ms e = sym (is_in-joined k ms (m ∷ []) ∙ or_right (is_in k ms) (eqb k m || false) (rw (eq-eqb k m e) refl))

pub row-none : (hosts : ℕ) → replicate hosts false ≡ row_of hosts []
row-none hosts = fill_by_all (λ h. is_in h []) (replicate hosts false) hosts false (length-replicate hosts false) (λ k lt. get_or-replicate hosts k false false lt)

pub row-set : (hosts : ℕ) (ms : List ℕ) (m : ℕ) → m < hosts → set (row_of hosts ms) m true ≡ row_of hosts (ms ++ m ∷ [])
row-set hosts ms m lt =
    let row = row_of hosts ms in
    fill_by_all (λ h. is_in h (ms ++ m ∷ [])) (set row m true) hosts false (length-set row m true ∙ row_length hosts ms) (λ k within. elim (cases_eq k m) [
      | inl e ↦ get_or-set_at row m k true false e (omega (arith, row_length hosts ms)) ∙ own_in k m ms e
      | inr ne ↦ get_or-set_other row m k true false ne ∙ row_at hosts ms k within ∙ other_in k m ms ne
    ])

pub row-past : (hosts : ℕ) (ms : List ℕ) (m : ℕ) → hosts ≤ m → row_of hosts ms ≡ row_of hosts (ms ++ m ∷ [])
row-past hosts ms m past = fill_by_all (λ h. is_in h (ms ++ m ∷ [])) (row_of hosts ms) hosts false (row_length hosts ms) (λ k within.
    let ne : k ≢ m = omega arith in
    row_at hosts ms k within ∙ other_in k m ms ne)

-- what the table says of a group
pub flag-is : (hosts : ℕ) (ms : List (List ℕ)) (rows : List (Vec Bool Global)) → flags_of rows ≡ map (row_of hosts) ms → (h i : ℕ) → h < hosts → i < length ms → flag_at rows h i ≡ has_host ms h i
flag-is hosts ms rows e h i lt within =
    ap (λ xs. get_or (get_or xs i []) h false) e ∙ ap (λ row. get_or row h false) (get_or-map (row_of hosts) ms i [] [] within) ∙ row_at hosts (get_or ms i []) h lt

pub rows-count : (hosts : ℕ) (ms : List (List ℕ)) (rows : List (Vec Bool Global)) → flags_of rows ≡ map (row_of hosts) ms → length rows ≡ length ms
rows-count hosts ms rows e = sym (length-map rows (λ row. row.items)) ∙ ap length e ∙ length-map ms (row_of hosts)

pub rows-wide : (hosts : ℕ) (ms : List (List ℕ)) (rows : List (Vec Bool Global)) → flags_of rows ≡ map (row_of hosts) ms → (h : ℕ) → h < hosts → All (λ row. h < length row.items) rows
rows-wide hosts ms rows e h lt = λ k d within.
    let few : k < length ms = omega (arith, rows-count hosts ms rows e) in
    let row : (get_or rows k d).items ≡ row_of hosts (get_or ms k []) = sym (get_or-map (λ row. row.items) rows k d [] within) ∙ ap (λ xs. get_or xs k []) e ∙ get_or-map (row_of hosts) ms k [] [] few in
    omega (arith, ap length row, row_length hosts (get_or ms k []))

-- ---- the numbers that pass a test

range-more : (a n : ℕ) → range_with_len a (suc n) ≡ range_with_len a n ++ (a + n) ∷ []
range-more a zero = let e : a + 0 ≡ a = omega arith in rw e refl
range-more a (suc n) =
    let e : (a + 1) + n ≡ a + suc n = omega arith in
    ap (λ xs. a ∷ xs) (range-more (a + 1) n ∙ ap (λ m. range_with_len (a + 1) n ++ m ∷ []) e)

pub numbers-more : (f : ℕ → Bool) (n : ℕ) → numbers_where f (n + 1) ≡ numbers_where f n ++ cond (f n) (n ∷ []) []
numbers-more f n =
    let next : n + 1 ≡ suc n = omega arith in
    let e : 0 + n ≡ n = omega arith in
    ap (numbers_where f) next ∙ ap (filter f) (range-more 0 n) ∙ filter-append f (range_with_len 0 n) ((0 + n) ∷ []) ∙ ap (λ m. numbers_where f n ++ cond (f m) (m ∷ []) []) e

pub numbers-taken : (f : ℕ → Bool) (n : ℕ) → f n ≡ true → numbers_where f (n + 1) ≡ numbers_where f n ++ n ∷ []
numbers-taken f n h = numbers-more f n ∙ ap (λ b. numbers_where f n ++ cond b (n ∷ []) []) h

pub numbers-passed : (f : ℕ → Bool) (n : ℕ) → f n ≡ false → numbers_where f (n + 1) ≡ numbers_where f n
numbers-passed f n h = numbers-more f n ∙ ap (λ b. numbers_where f n ++ cond b (n ∷ []) []) h ∙ append-nil (numbers_where f n)

range-below : (n : ℕ) → All (λ i. i < n) (range_with_len 0 n)
range-below n = λ k d lt. omega (arith, length-range_with_len 0 n, get_or-range_with_len 0 n k d (omega (arith, length-range_with_len 0 n)))

pub numbers-below : (f : ℕ → Bool) (n : ℕ) → All (λ i. i < n) (numbers_where f n)
numbers-below f n = All-filter f (λ i. i < n) (range_with_len 0 n) (range-below n)

pub filter-same : (f g : ℕ → Bool) (xs : List ℕ) → All (λ i. f i ≡ g i) xs → filter f xs ≡ filter g xs
filter-same f g [] h = refl
filter-same f g (x ∷ xs) h =
    let first : f x ≡ g x = h 0 0 (omega arith) in
    rw (first, filter-same f g xs (All-tail (λ i. f i ≡ g i) x xs h)) refl

pub numbers-same : (f g : ℕ → Bool) (n : ℕ) → ((i : ℕ) → i < n → f i ≡ g i) → numbers_where f n ≡ numbers_where g n
numbers-same f g n h = filter-same f g (range_with_len 0 n) (All-weaker (λ i. i < n) (λ i. f i ≡ g i) h (range_with_len 0 n) (range-below n))

pub names-same : (f g : ℕ → Bool) (ns : List Name) → ((i : ℕ) → i < length ns → f i ≡ g i) → names_where f ns ≡ names_where g ns
names-same f g ns h = ap (named ns) (numbers-same (λ i. f i && not (bytes_eq (name_of ns i) all_group)) (λ i. g i && not (bytes_eq (name_of ns i) all_group)) (length ns)
    (λ i lt. ap (λ b. b && not (bytes_eq (name_of ns i) all_group)) (h i lt)))

groups-below : (ds : List ℕ) (k : ℕ) → All (λ i. i < length ds) (groups_above ds k)
groups-below ds zero = All-nil (λ i. i < length ds)
groups-below ds (suc k) = All-append (λ i. i < length ds) (groups_above ds k) (numbers_where (λ i. eqb (get_or ds i 0) k) (length ds)) (groups-below ds k) (numbers-below (λ i. eqb (get_or ds i 0) k) (length ds))

pub order-below : (ds : List ℕ) → All (λ i. i < length ds) (by_depth ds)
order-below ds = groups-below ds (suc (length ds))

pub layers-same : (f g : ℕ → Bool) (ds : List ℕ) (ls : List Fields) → ((i : ℕ) → i < length ds → f i ≡ g i) → layers_where f (by_depth ds) ls ≡ layers_where g (by_depth ds) ls
layers-same f g ds ls h = ap (map (λ i. get_or ls i no_fields)) (filter-same f g (by_depth ds) (All-weaker (λ i. i < length ds) (λ i. f i ≡ g i) h (by_depth ds) (order-below ds)))

pub named-taken : (ns : List Name) (f : ℕ → Bool) (n : ℕ) → f n ≡ true → named ns (numbers_where f (n + 1)) ≡ named ns (numbers_where f n) ++ name_of ns n ∷ []
named-taken ns f n h = ap (named ns) (numbers-taken f n h) ∙ map-append (name_of ns) (numbers_where f n) (n ∷ [])
