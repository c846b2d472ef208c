-- Hosts that are listed, and each of them once.
use Rattle.std.proofs.Common.{◌≡◌, List, [], ◌∷◌, ◌++◌, Bool, true, false, cond, true≢false, refl, sym, ap, ◌∙◌}
use Rattle.std.specs.Prelude.{◌||◌, ◌&&◌, not}
use Rattle.std.specs.List.{list_all}
use Rattle.std.specs.Str.{bytes_eq}
use Rattle.pb_semantics.specs.Data.{Fields, no_fields, field}
use Rattle.pb_semantics.specs.Keeps.{is_among}
use Rattle.pb_semantics.proofs.Bools.{and-left, and-right}
use Rattle.pb_semantics.proofs.Names.{same_name}
use Rattle.pb_language.specs.Expression.{Name}
use Rattle.pb_language.specs.Families.{host_order}
use Rattle.pb_language.specs.Plays.{add_hosts}
use Rattle.pb_language.specs.Written.{Written, are_hostvars, is_record, listed_hosts}
use Rattle.pb_inventory.specs.Hosts.{with_host}

or-nothing : (a : Bool) → a ≡ a || false
or-nothing true = refl
or-nothing false = refl

or-through : (a b c : Bool) → (a || b) || c ≡ a || (b || c)
or-through true b c = refl
or-through false b c = refl

or-known : (a b : Bool) → (b ≡ true → a ≡ true) → a ≡ a || b
or-known true b h = refl
or-known false true h = h refl
or-known false false h = refl

pub is_among-append : (n : Name) (ms ls : List Name) → is_among n (ms ++ ls) ≡ is_among n ms || is_among n ls
is_among-append n [] ls = refl
is_among-append n (m ∷ ms) ls = ap (λ b. bytes_eq n m || b) (is_among-append n ms ls) ∙ sym (or-through (bytes_eq n m) (is_among n ms) (is_among n ls))

-- the hosts with one more have it and those before
is_among-with : (m : Name) (ns : List Name) (x : Name) → is_among m (with_host ns x) ≡ is_among m ns || bytes_eq m x
is_among-with m ns x = with_test (is_among x ns) refl where
  with_test : (b : Bool) → is_among x ns ≡ b → is_among m (cond b ns (ns ++ x ∷ [])) ≡ is_among m ns || bytes_eq m x
  with_test true h = or-known (is_among m ns) (bytes_eq m x) (λ e. ap (λ y. is_among y ns) (same_name m x e) ∙ h)
  with_test false h = is_among-append m ns (x ∷ []) ∙ ap (λ b. is_among m ns || b) (sym (or-nothing (bytes_eq m x)))

pub add_hosts-among : (m : Name) (ns ms : List Name) → is_among m (add_hosts ns ms) ≡ is_among m ns || is_among m ms
add_hosts-among m ns [] = or-nothing (is_among m ns)
add_hosts-among m ns (x ∷ ms) =
    add_hosts-among m (with_host ns x) ms ∙ ap (λ b. b || is_among m ms) (is_among-with m ns x) ∙ or-through (is_among m ns) (bytes_eq m x) (is_among m ms)

-- a host is one of those in host order exactly where some group lists it
pub host_order-among : (m : Name) (ws : List Written) → is_among m (host_order ws) ≡ is_among m (listed_hosts ws)
host_order-among m ws = add_hosts-among m [] (listed_hosts ws)

and-nothing : (a : Bool) → a ≡ a && true
and-nothing true = refl
and-nothing false = refl

and-through : (a b c : Bool) → (a && b) && c ≡ a && (b && c)
and-through true b c = refl
and-through false b c = refl

and-known : (a b : Bool) → (a ≡ true → b ≡ true) → a ≡ a && b
and-known true b h = sym (h refl)
and-known false b h = refl

all-append : (f : Name → Bool) (ms ls : List Name) → list_all f (ms ++ ls) ≡ list_all f ms && list_all f ls
all-append f [] ls = refl
all-append f (m ∷ ms) ls = ap (λ b. f m && b) (all-append f ms ls) ∙ sym (and-through (f m) (list_all f ms) (list_all f ls))

pub all-among : (f : Name → Bool) (x : Name) (ns : List Name) → is_among x ns ≡ true → list_all f ns ≡ true → f x ≡ true
all-among f x [] h a = absurd (true≢false (sym h))
all-among f x (n ∷ ns) h a = at_first (bytes_eq x n) refl (λ k. all-among f x ns k (and-right (f n) (list_all f ns) a)) where
  at_first : (b : Bool) → bytes_eq x n ≡ b → (is_among x ns ≡ true → f x ≡ true) → f x ≡ true
  at_first true e k = ap f (same_name x n e) ∙ and-left (f n) (list_all f ns) a
  at_first false e k = k (sym (ap (λ b. b || is_among x ns) e) ∙ h)

all-with : (f : Name → Bool) (ns : List Name) (x : Name) → list_all f (with_host ns x) ≡ list_all f ns && f x
all-with f ns x = with_test (is_among x ns) refl where
  with_test : (b : Bool) → is_among x ns ≡ b → list_all f (cond b ns (ns ++ x ∷ [])) ≡ list_all f ns && f x
  with_test true h = and-known (list_all f ns) (f x) (all-among f x ns h)
  with_test false h = all-append f ns (x ∷ []) ∙ ap (λ b. list_all f ns && b) (sym (and-nothing (f x)))

add_hosts-all : (f : Name → Bool) (ns ms : List Name) → list_all f (add_hosts ns ms) ≡ list_all f ns && list_all f ms
add_hosts-all f ns [] = and-nothing (list_all f ns)
add_hosts-all f ns (x ∷ ms) = add_hosts-all f (with_host ns x) ms ∙ ap (λ b. b && list_all f ms) (all-with f ns x) ∙ and-through (list_all f ns) (f x) (list_all f ms)

-- what holds of each host in host order holds of each that is listed
pub host_order-all : (f : Name → Bool) (ws : List Written) → list_all f (host_order ws) ≡ list_all f (listed_hosts ws)
host_order-all f ws = add_hosts-all f [] (listed_hosts ws)

pub are_hostvars-same : (hs ks : List Name) → ((n : Name) → is_among n hs ≡ is_among n ks) → (fs : Fields) → are_hostvars hs fs ≡ are_hostvars ks fs
are_hostvars-same hs ks h no_fields = refl
are_hostvars-same hs ks h (field n d fs) = ap (λ b. (not b || is_record d) && are_hostvars hs fs) (h n) ∙ ap (λ b. (not (is_among n ks) || is_record d) && b) (are_hostvars-same hs ks h fs)
