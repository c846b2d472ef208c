-- Hosts by their names and by their places.
use Rattle.std.proofs.Common.{◌≡◌, ◌∙◌, ℕ, zero, suc, ◌+◌, ◌<◌, List, [], ◌∷◌, length, Bool, true, false, not, ◌||◌, bytes_eq, cond, nat_eq, Option, Some, None, refl, sym, ap, subst, arith}
use Rattle.std.specs.Prelude.{slice_get}
use Rattle.std.specs.List.{All}
use Rattle.pb_semantics.specs.Data.{Fields, no_fields}
use Rattle.pb_semantics.specs.Keeps.{is_among}
use Rattle.pb_semantics.proofs.Bools.{and-left, and-right, neither-left, neither-right, not-true, true-false, untrue}
use Rattle.pb_semantics.proofs.Names.{own_name, same_name}
use Rattle.pb_language.specs.Expression.{Name}
use Rattle.pb_language.specs.Plays.{group_named, is_host}
use Rattle.pb_language.specs.World.{Group, HostVariables, member_of, name_at, variables_of}
use Rattle.pb_inventory.specs.Graph.{is_in}
use Rattle.pb_inventory.specs.Numbered.{are_apart, name_of, named}
use Rattle.pb_world.specs.Hosts.{hosts_from, names_of_hosts}

passed : {A : Type 0} (q : Bool) (a b : A) → q ≡ false → cond q a b ≡ b
passed true a b h = untrue (sym h)
passed false a b h = refl

chosen : {A : Type 0} (q : Bool) (a b : A) → q ≡ true → cond q a b ≡ a
chosen true a b h = refl
chosen false a b h = untrue h

-- a name that stands once has one place
among-later : (ns : List Name) (i : ℕ) → i < length ns → is_among (name_of ns i) ns ≡ true
among-later [] i l = absurd (omega (arith, l))
among-later (n ∷ ns) zero l = rw (own_name n) refl
among-later (n ∷ ns) (suc i) l = later (bytes_eq (name_of ns i) n) (is_among (name_of ns i) ns) (among-later ns i (omega (arith, l))) where
  later : (a b : Bool) → b ≡ true → (a || b) ≡ true
  later a b h = rw h (grind arith)

first-apart : (n : Name) (ns : List Name) (i : ℕ) → are_apart (n ∷ ns) ≡ true → i < length ns → bytes_eq n (name_of ns i) ≡ false
first-apart n ns i a l = differs (bytes_eq n (name_of ns i)) refl where
  differs : (q : Bool) → bytes_eq n (name_of ns i) ≡ q → q ≡ false
  differs true e = true-false (is_among n ns) (subst (λ k. is_among k ns ≡ true) (sym (same_name n (name_of ns i) e)) (among-later ns i l)) (not-true (is_among n ns) (and-left (not (is_among n ns)) (are_apart ns) a))
  differs false e = refl

turned : (n m : Name) → bytes_eq n m ≡ false → bytes_eq m n ≡ false
turned n m h = other (bytes_eq m n) refl where
  other : (q : Bool) → bytes_eq m n ≡ q → q ≡ false
  other true e = true-false (bytes_eq n m) (ap (λ k. bytes_eq k m) (sym (same_name m n e)) ∙ own_name m) h
  other false e = refl

same-place : (ns : List Name) (p m : ℕ) → are_apart ns ≡ true → p < length ns → m < length ns → bytes_eq (name_of ns p) (name_of ns m) ≡ nat_eq p m
same-place [] p m a l k = absurd (omega (arith, l))
same-place (n ∷ ns) zero zero a l k = own_name n
same-place (n ∷ ns) zero (suc m) a l k = first-apart n ns m a (omega (arith, k)) ∙ sym (before m) where
  before : (m : ℕ) → nat_eq 0 (suc m) ≡ false
  before m = grind arith
same-place (n ∷ ns) (suc p) zero a l k = turned n (name_of ns p) (first-apart n ns p a (omega (arith, l))) ∙ sym (behind p) where
  behind : (p : ℕ) → nat_eq (suc p) 0 ≡ false
  behind p = grind arith
same-place (n ∷ ns) (suc p) (suc m) a l k = same-place ns p m (and-right (not (is_among n ns)) (are_apart ns) a) (omega (arith, l)) (omega (arith, k)) ∙ next p m where
  next : (p m : ℕ) → nat_eq p m ≡ nat_eq (suc p) (suc m)
  next p m = grind arith

first-of : (P : ℕ → Type 0) (m : ℕ) (ms : List ℕ) → All P (m ∷ ms) → P m
first-of P m ms all = all zero m (omega arith)

others-of : (P : ℕ → Type 0) (m : ℕ) (ms : List ℕ) → All P (m ∷ ms) → All P ms
others-of P m ms all k d l = all (suc k) d (omega (arith, l))

-- among hosts that are named by their places
pub among-named : (ns : List Name) (p : ℕ) (ms : List ℕ) → are_apart ns ≡ true → p < length ns → All (λ m. m < length ns) ms → is_among (name_of ns p) (named ns ms) ≡ is_in p ms
among-named ns p [] a l all = refl
among-named ns p (m ∷ ms) a l all = both (same-place ns p m a l (first-of (λ m. m < length ns) m ms all)) (among-named ns p ms a l (others-of (λ m. m < length ns) m ms all)) where
  both : {x y u v : Bool} → x ≡ y → u ≡ v → (x || u) ≡ (y || v)
  both h k = rw (h, k) refl

unknown-at : (hs : List HostVariables) (n : Name) (m : ℕ) → is_host n hs ≡ false → m < length (names_of_hosts hs) → bytes_eq n (name_of (names_of_hosts hs) m) ≡ false
unknown-at [] n m none l = absurd (omega (arith, l))
unknown-at (h ∷ hs) n zero none l = neither-left (bytes_eq n h.name) (is_host n hs) none
unknown-at (h ∷ hs) n (suc m) none l = unknown-at hs n m (neither-right (bytes_eq n h.name) (is_host n hs) none) (omega (arith, l))

pub unknown-named : (hs : List HostVariables) (n : Name) (ms : List ℕ) → is_host n hs ≡ false → All (λ m. m < length (names_of_hosts hs)) ms → is_among n (named (names_of_hosts hs) ms) ≡ false
unknown-named hs n [] none all = refl
unknown-named hs n (m ∷ ms) none all =
    let few : ℕ → Type 0 = λ k. k < length (names_of_hosts hs) in
    neither (unknown-at hs n m none (first-of few m ms all)) (unknown-named hs n ms none (others-of few m ms all)) where
      neither : {x y : Bool} → x ≡ false → y ≡ false → (x || y) ≡ false
      neither h k = rw (h, k) refl

-- the variables of a host that is named
pub variables-at : (f : ℕ → Fields) (k : ℕ) (hs : List HostVariables) (p : ℕ) → are_apart (names_of_hosts hs) ≡ true → p < length (names_of_hosts hs)
    → variables_of (name_of (names_of_hosts hs) p) (hosts_from f k hs) ≡ f (k + p)
variables-at f k [] p a l = absurd (omega (arith, l))
variables-at f k (h ∷ hs) zero a l =
    let e : k ≡ k + 0 = omega arith in
    chosen (bytes_eq h.name h.name) (f k) (variables_of h.name (hosts_from f (suc k) hs)) (own_name h.name) ∙ ap f e
variables-at f k (h ∷ hs) (suc p) a l =
    let ns = names_of_hosts hs in
    let e : suc k + p ≡ k + suc p = omega arith in
    passed (bytes_eq (name_of ns p) h.name) (f k) (variables_of (name_of ns p) (hosts_from f (suc k) hs)) (turned h.name (name_of ns p) (first-apart h.name ns p a (omega (arith, l))))
    ∙ variables-at f (suc k) hs p (and-right (not (is_among h.name ns)) (are_apart ns) a) (omega (arith, l)) ∙ ap f e

pub variables-unknown : (f : ℕ → Fields) (k : ℕ) (hs : List HostVariables) (n : Name) → is_host n hs ≡ false → variables_of n (hosts_from f k hs) ≡ no_fields
variables-unknown f k [] n none = refl
variables-unknown f k (h ∷ hs) n none =
    passed (bytes_eq n h.name) (f k) (variables_of n (hosts_from f (suc k) hs)) (neither-left (bytes_eq n h.name) (is_host n hs) none) ∙ variables-unknown f (suc k) hs n (neither-right (bytes_eq n h.name) (is_host n hs) none)

-- the members of a group
abbrev pub member_in : ℕ → Option (List Name) → Option Name
member_in p None = None
member_in p (Some hs) = name_at p hs

pub member-in : (g : Name) (p : ℕ) (gs : List Group) → member_of g p gs ≡ member_in p (group_named g gs)
member-in g p [] = refl
member-in g p (x ∷ gs) = by (bytes_eq g x.name) (member-in g p gs) where
  by : (q : Bool) → member_of g p gs ≡ member_in p (group_named g gs) → cond q (name_at p x.hosts) (member_of g p gs) ≡ member_in p (cond q (Some x.hosts) (group_named g gs))
  by true h = refl
  by false h = h

pub name-at : (p : ℕ) (ns : List Name) → name_at p ns ≡ slice_get ns p
name-at p [] = refl
name-at zero (n ∷ ns) = refl
name-at (suc p) (n ∷ ns) = name-at p ns
