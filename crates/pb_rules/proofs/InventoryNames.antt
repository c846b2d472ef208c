-- Hosts and groups of an inventory, found by their names.
use Rattle.std.proofs.Common.{◌≡◌, ◌∙◌, ℕ, zero, suc, ◌+◌, ◌≤◌, List, [], ◌∷◌, Bool, true, false, ◌||◌, bytes_eq, nat_lt, cond, drop, length, map, Option, Some, None, is_some, option_map, slice_get, String, Global, Vec, string_bytes, refl, sym, ap, arith, add-one}
use Rattle.std.proofs.lemmas.List.{drop_all}
use Rattle.std.specs.Map.{lookup}
use Rattle.pb_language.specs.Expression.{Name}
use Rattle.pb_language.specs.Plays.{is_host}
use Rattle.pb_language.specs.Rules.{is_group}
use Rattle.pb_language.specs.World.{HostVariables, member_of, name_at}
use Rattle.pb_inventory.proofs.PatternHosts.{group-found}
use Rattle.pb_inventory.specs.Numbered.{named}
use Rattle.pb_inventory.specs.Views.{group_view}

-- the next host, and those behind it
host-next : (hs : List HostVariables) (i : ℕ) (n m : Name) → option_map (λ h. h.name) (slice_get hs i) ≡ Some n → is_host m (drop i hs) ≡ (bytes_eq m n || is_host m (drop (suc i) hs))
host-next [] zero n m h = absurd (cc)
host-next [] (suc i) n m h = absurd (cc)
host-next (x ∷ hs) zero n m h = let e : x.name ≡ n = cc in ap (λ k. bytes_eq m k || is_host m hs) e
host-next (x ∷ hs) (suc i) n m h = host-next hs i n m h

pub host-left : (hs : List HostVariables) (i : ℕ) (n m : Name) → option_map (λ h. h.name) (slice_get hs i) ≡ Some n → is_host m (drop i hs) ≡ (bytes_eq m n || is_host m (drop (i + 1) hs))
host-left hs i n m h = rw add-one (host-next hs i n m h)

or-none : (a : Bool) → (a || false) ≡ a
or-none a = grind arith

-- no host is left
pub hosts-all : (hs : List HostVariables) (i : ℕ) (m : Name) (had : Bool) → length hs ≤ i → (had || is_host m (drop i hs)) ≡ is_host m hs → had ≡ is_host m hs
hosts-all hs i m had past h = sym (or-none had) ∙ ap (λ xs. had || is_host m xs) (sym (drop_all i hs past)) ∙ h

-- a group that is looked up has so many hosts
abbrev pub is_within : ℕ → Option (Vec ℕ Global) → Bool
is_within i None = false
is_within i (Some m) = nat_lt i (length m.items)

none-below : (i : ℕ) → false ≡ nat_lt i 0
none-below i = grind arith

some-below : (k : ℕ) → true ≡ nat_lt 0 (suc k)
some-below k = grind arith

one-less : (i k : ℕ) → nat_lt i k ≡ nat_lt (suc i) (suc k)
one-less i k = grind arith

placed : (hs : List Name) (is : List ℕ) (i : ℕ) → is_some (name_at i (named hs is)) ≡ nat_lt i (length is)
placed hs [] i = none-below i
placed hs (j ∷ is) zero = some-below (length is)
placed hs (j ∷ is) (suc i) = placed hs is i ∙ one-less i (length is)

pub member-there : (hs : List Name) (n : Name) (i : ℕ) (es : List (String Global × Vec ℕ Global))
    → is_within i (lookup (λ k. bytes_eq n (string_bytes k)) es) ≡ is_some (member_of n i (map (group_view hs) es))
member-there hs n i [] = refl
member-there hs n i (e ∷ es) =
    let rest = lookup (λ k. bytes_eq n (string_bytes k)) es in
    elim (bytes_eq n (string_bytes e.0)) as (λ b. is_within i (cond b (Some e.1) rest) ≡ is_some (cond b (name_at i (named hs e.1.items)) (member_of n i (map (group_view hs) es)))) [
      | true ↦ sym (placed hs e.1.items i)
      | false ↦ member-there hs n i es
    ]

some-map : {A B : Type 0} (f : A → B) (o : Option A) → is_some o ≡ is_some (option_map f o)
some-map f None = refl
some-map f (Some x) = refl

pub group-there : (hs : List Name) (n : Name) (es : List (String Global × Vec ℕ Global)) → is_some (lookup (λ k. bytes_eq n (string_bytes k)) es) ≡ is_group n (map (group_view hs) es)
group-there hs n es = some-map (λ ms. named hs ms.items) (lookup (λ k. bytes_eq n (string_bytes k)) es) ∙ ap is_some (sym (group-found hs n es))
