-- A group at its place among those that are written.
use Rattle.std.proofs.Common.{◌≡◌, ℕ, zero, suc, ◌+◌, ◌<◌, List, [], ◌∷◌, ◌++◌, length, get_or, take, map, Bool, true, false, string_bytes, add-one, refl, sym, ap, ◌∙◌, arith}
use Rattle.std.specs.Prelude.{◌||◌}
use Rattle.std.specs.List.{list_all, list_any}
use Rattle.std.specs.Str.{bytes_eq}
use Rattle.pb_semantics.specs.Keeps.{is_among}
use Rattle.pb_semantics.proofs.Bools.{and-both}
use Rattle.pb_semantics.proofs.Names.{own_name}
use Rattle.pb_language.specs.Expression.{Name}
use Rattle.pb_language.specs.Families.{group_names, host_order}
use Rattle.pb_language.specs.Written as language
use Rattle.pb_language.specs.Written.{listed_hosts}
use Rattle.pb_inventory.specs.Documents.{names_view, written_view}
use Rattle.pb_inventory.specs.Numbered.{are_apart, written_names}
use Rattle.pb_inventory.specs.declared.document.Written.{Written}
use Rattle.pb_inventory.proofs.Apart.{apart_first, apart_rest, differs, group_names-child, group_names-written}
use Rattle.pb_inventory.proofs.Listed.{host_order-among, is_among-append}
use Rattle.std.proofs.lemmas.Bool.{or_right}

-- what holds of the group holds of some group
pub any-at : (f : language.Written → Bool) (gs : List Written) (i : ℕ) (g : Written) → i < length gs → g ≡ get_or gs i g → f (written_view g) ≡ true → list_any f (map written_view gs) ≡ true
any-at f [] i g lt e h = absurd (omega (arith, lt))
any-at f (x ∷ gs) zero g lt e h = ap (λ b. b || list_any f (map written_view gs)) (ap (λ y. f (written_view y)) (sym e) ∙ h)
any-at f (x ∷ gs) (suc i) g lt e h = or_right (f (written_view x)) (list_any f (map written_view gs)) (any-at f gs i g (omega (arith, lt)) e h)

named-any : (n : Name) (ws : List language.Written) → is_among n (written_names ws) ≡ list_any (λ w. bytes_eq n w.name) ws
named-any n [] = refl
named-any n (w ∷ ws) = ap (λ b. bytes_eq n w.name || b) (named-any n ws)

listed-any : (n : Name) (ws : List language.Written) → is_among n (listed_hosts ws) ≡ list_any (λ w. is_among n w.hosts) ws
listed-any n [] = refl
listed-any n (w ∷ ws) = is_among-append n w.hosts (listed_hosts ws) ∙ ap (λ b. is_among n w.hosts || b) (listed-any n ws)

written-at : (gs : List Written) (i : ℕ) (g : Written) → i < length gs → g ≡ get_or gs i g → is_among (string_bytes g.name.value) (written_names (map written_view gs)) ≡ true
written-at gs i g lt e = named-any (string_bytes g.name.value) (map written_view gs) ∙ any-at (λ w. bytes_eq (string_bytes g.name.value) w.name) gs i g lt e (own_name (string_bytes g.name.value))

-- its name is that of a group
pub group_name-at : (gs : List Written) (i : ℕ) (g : Written) → i < length gs → g ≡ get_or gs i g → is_among (string_bytes g.name.value) (group_names (map written_view gs)) ≡ true
group_name-at gs i g lt e = group_names-written (string_bytes g.name.value) (map written_view gs) (written-at gs i g lt e)

all-of : (f : Name → Bool) (ms ns : List Name) → ((n : Name) → is_among n ms ≡ true → f n ≡ true) → ((n : Name) → is_among n ns ≡ true → is_among n ms ≡ true) → list_all f ns ≡ true
all-of f ms [] h k = refl
all-of f ms (n ∷ ns) h k = and-both (f n) (list_all f ns) (h n (k n (ap (λ b. b || is_among n ns) (own_name n)))) (all-of f ms ns h (λ m i. k m (or_right (bytes_eq m n) (is_among m ns) i)))

pub all-each : (f : Name → Bool) (ns : List Name) → ((n : Name) → is_among n ns ≡ true → f n ≡ true) → list_all f ns ≡ true
all-each f ns h = all-of f ns ns h (λ n i. i)

-- its children are groups
pub children-at : (gs : List Written) (i : ℕ) (g : Written) → i < length gs → g ≡ get_or gs i g → list_all (λ n. is_among n (group_names (map written_view gs))) (names_view g.children.items) ≡ true
children-at gs i g lt e = all-each _ (names_view g.children.items) (λ n h. group_names-child n (map written_view gs) (any-at (λ w. is_among n w.children) gs i g lt e h))

-- its hosts stand in host order
pub hosts-at : (gs : List Written) (i : ℕ) (g : Written) → i < length gs → g ≡ get_or gs i g → list_all (λ n. is_among n (host_order (map written_view gs))) (names_view g.hosts.items) ≡ true
hosts-at gs i g lt e = all-each _ (names_view g.hosts.items) (λ n h. host_order-among n (map written_view gs) ∙ listed-any n (map written_view gs) ∙ any-at (λ w. is_among n w.hosts) gs i g lt e h)

-- it comes next, as each item of a list does
pub taken-more : {A B : Type 0} (f : A → B) (xs : List A) (i : ℕ) (x : A) → i < length xs → x ≡ get_or xs i x → map f (take (i + 1) xs) ≡ map f (take i xs) ++ f x ∷ []
taken-more f xs i x lt e = ap (λ n. map f (take n xs)) (add-one i) ∙ taken f xs i x lt e where
  taken : {A B : Type 0} (f : A → B) (xs : List A) (i : ℕ) (x : A) → i < length xs → x ≡ get_or xs i x → map f (take (suc i) xs) ≡ map f (take i xs) ++ f x ∷ []
  taken f [] i x lt e = absurd (omega (arith, lt))
  taken f (y ∷ xs) zero x lt e = ap (λ z. f z ∷ []) (sym e)
  taken f (y ∷ xs) (suc i) x lt e = ap (λ zs. f y ∷ zs) (taken f xs i x (omega (arith, lt)) e)

-- and none before it has its name
pub new-at : (gs : List Written) (i : ℕ) (g : Written) → i < length gs → g ≡ get_or gs i g → are_apart (written_names (map written_view gs)) ≡ true → is_among (string_bytes g.name.value) (written_names (map written_view (take i gs))) ≡ false
new-at [] i g lt e a = absurd (omega (arith, lt))
new-at (x ∷ gs) zero g lt e a = refl
new-at (x ∷ gs) (suc i) g lt e a =
    let others = written_names (map written_view gs) in
    let n = string_bytes g.name.value in
    let m = string_bytes x.name.value in
    ap (λ b. b || is_among n (written_names (map written_view (take i gs)))) (differs n m others (written-at gs i g (omega (arith, lt)) e) (apart_first m others a)) ∙ new-at gs i g (omega (arith, lt)) e (apart_rest m others a)
