-- Hosts in a list, and what a world sees of them.
use Rattle.std.proofs.Common.{◌≡◌, ◌≤◌, ◌+◌, ◌⊎◌, inl, inr, ⊎_elim, ℕ, zero, suc, nat_eq, List, [], ◌∷◌, Bool, true, false, not, ◌&&◌, ◌||◌, cond, Some, length, refl, sym, ap, subst, ◌∙◌, arith, true≢false, bytes_eq}
use Rattle.std.proofs.lemmas.Bool.Decides.{nat_tests}
use Rattle.pb_semantics.specs.Data.{no_fields}
use Rattle.pb_semantics.specs.Keeps.{is_among}
use Rattle.pb_semantics.specs.Below.{are_among}
use Rattle.pb_semantics.proofs.Bools.{untrue, and-left, and-right, and-both, or-left, or-right, or-cases, not-true}
use Rattle.pb_semantics.proofs.Names.{same_name, own_name}
use Rattle.pb_language.specs.Expression.{Name}
use Rattle.pb_language.specs.World.{variables_of}
use Rattle.pb_language.specs.Theorem.{are_distinct}
use Rattle.pb_language.specs.Program.{Batch}
use Rattle.pb_language.specs.Machine.{Stage, Host, is_on, is_active_host, still_active, variables_seen, host_at, put_host, stands_at, all_stand, is_idle, all_idle, begun, all_begun}

abbrev pub names_of : List Host → List Name
names_of [] = []
names_of (h ∷ hs) = h.name ∷ names_of hs

pub names_put : (k : ℕ) (x h : Host) (hs : List Host) → host_at k hs ≡ Some h → x.name ≡ h.name → names_of (put_host k x hs) ≡ names_of hs
names_put k x h [] e i = refl
names_put zero x h (y ∷ hs) e i = let j : y ≡ h = cc in ap (λ n. n ∷ names_of hs) (i ∙ sym (ap (λ z. z.name) j))
names_put (suc k) x h (y ∷ hs) e i = ap (λ ns. y.name ∷ ns) (names_put k x h hs e i)

-- a host in a list of which one is given anew
pub put_at : (j k : ℕ) (x : Host) (hs : List Host) (y : Host) → host_at j (put_host k x hs) ≡ Some y → ((j ≡ k) × (x ≡ y)) ⊎ (host_at j hs ≡ Some y)
put_at j k x [] y e = inr e
put_at zero zero x (h ∷ hs) y e = let i : x ≡ y = cc in inl (refl, i)
put_at zero (suc k) x (h ∷ hs) y e = inr e
put_at (suc j) zero x (h ∷ hs) y e = inr e
put_at (suc j) (suc k) x (h ∷ hs) y e = ⊎_elim (λ p. inl (ap suc p.0, p.1)) (λ p. inr p) (put_at j k x hs y e)

pub put_here : (k : ℕ) (x : Host) (hs : List Host) (h : Host) → host_at k hs ≡ Some h → host_at k (put_host k x hs) ≡ Some x
put_here k x [] h e = absurd (true≢false (cc))
put_here zero x (y ∷ hs) h e = refl
put_here (suc k) x (y ∷ hs) h e = put_here k x hs h e

unlike_below : (j k : ℕ) → nat_eq (suc j) (suc k) ≡ false → nat_eq j k ≡ false
unlike_below j k e = grind (arith, nat_tests)

pub put_apart : (j k : ℕ) (x : Host) (hs : List Host) → nat_eq j k ≡ false → host_at k (put_host j x hs) ≡ host_at k hs
put_apart j k x [] e = refl
put_apart zero zero x (h ∷ hs) e = absurd (true≢false (cc))
put_apart zero (suc k) x (h ∷ hs) e = refl
put_apart (suc j) zero x (h ∷ hs) e = refl
put_apart (suc j) (suc k) x (h ∷ hs) e = put_apart j k x hs (unlike_below j k e)

-- and one of a batch that begins
pub host_begun : (b : Batch) (k : ℕ) (hs : List Host) (y : Host) → host_at k (all_begun b hs) ≡ Some y → (h : Host) × (host_at k hs ≡ Some h) × (begun b h ≡ y)
host_begun b k [] y e = absurd (true≢false (cc))
host_begun b zero (h ∷ hs) y e = let i : begun b h ≡ y = cc in (h, refl, i)
host_begun b (suc k) (h ∷ hs) y e = host_begun b k hs y e

pub idle_at : (k : ℕ) (hs : List Host) (h : Host) → all_idle hs ≡ true → host_at k hs ≡ Some h → is_idle h.stage ≡ true
idle_at k [] h i e = absurd (true≢false (cc))
idle_at zero (x ∷ hs) h i e = let j : x ≡ h = cc in subst (λ z. is_idle z.stage ≡ true) j (and-left (is_idle x.stage) (all_idle hs) i)
idle_at (suc k) (x ∷ hs) h i e = idle_at k hs h (and-right (is_idle x.stage) (all_idle hs) i) e

pub at_among : (k : ℕ) (hs : List Host) (h : Host) → host_at k hs ≡ Some h → is_among h.name (names_of hs) ≡ true
at_among k [] h e = absurd (true≢false (cc))
at_among zero (y ∷ hs) h e = let j : y ≡ h = cc in subst (λ z. is_among z.name (y.name ∷ names_of hs) ≡ true) j (or-left (bytes_eq y.name y.name) (is_among y.name (names_of hs)) (own_name y.name))
at_among (suc k) (y ∷ hs) h e = or-right (bytes_eq h.name y.name) (is_among h.name (names_of hs)) (at_among k hs h e)

pub apart_names : (q : Bool) (n m : Name) (ns : List Name) → bytes_eq n m ≡ q → is_among n ns ≡ true → not (is_among m ns) ≡ true → q ≡ false
apart_names true n m ns e i d = untrue (sym (not-true (is_among m ns) d) ∙ subst (λ z. is_among z ns ≡ true) (same_name n m e) i)
apart_names false n m ns e i d = refl

-- of hosts with names of their own each is seen by its name
pub seen_at : (k : ℕ) (hs : List Host) (h : Host) → are_distinct (names_of hs) ≡ true → host_at k hs ≡ Some h → variables_of h.name (variables_seen hs) ≡ h.variables
seen_at k [] h d e = absurd (true≢false (cc))
seen_at zero (y ∷ hs) h d e = let j : y ≡ h = cc in subst (λ z. variables_of z.name (variables_seen (y ∷ hs)) ≡ z.variables) j (rw (own_name y.name) refl)
seen_at (suc k) (y ∷ hs) h d e =
    let rest = names_of hs in
    let other = apart_names (bytes_eq h.name y.name) h.name y.name rest refl (at_among k hs h e) (and-left (not (is_among y.name rest)) (are_distinct rest) d) in
    rw other (seen_at k hs h (and-right (not (is_among y.name rest)) (are_distinct rest) d) e)

seen_step : (q : Bool) (g : Name) (y : Host) (hs : List Host) → bytes_eq g y.name ≡ q → ((k : ℕ) × (h : Host) × (host_at k hs ≡ Some h) × (variables_of g (variables_seen hs) ≡ h.variables) × (g ≡ h.name)) ⊎ ((variables_of g (variables_seen hs) ≡ no_fields) × (is_among g (names_of hs) ≡ false))
    → ((k : ℕ) × (h : Host) × (host_at k (y ∷ hs) ≡ Some h) × (variables_of g (variables_seen (y ∷ hs)) ≡ h.variables) × (g ≡ h.name)) ⊎ ((variables_of g (variables_seen (y ∷ hs)) ≡ no_fields) × (is_among g (names_of (y ∷ hs)) ≡ false))
seen_step true g y hs e r = inl (0, y, refl, rw e refl, same_name g y.name e)
seen_step false g y hs e r = ⊎_elim (λ x. inl (suc x.0, x.1, x.2, rw e x.3, x.4)) (λ x. inr (rw e x.0, rw e x.1)) r

-- a name is that of a host, or is seen as that of none
pub seen : (g : Name) (hs : List Host) → ((k : ℕ) × (h : Host) × (host_at k hs ≡ Some h) × (variables_of g (variables_seen hs) ≡ h.variables) × (g ≡ h.name)) ⊎ ((variables_of g (variables_seen hs) ≡ no_fields) × (is_among g (names_of hs) ≡ false))
seen g [] = inr (refl, refl)
seen g (y ∷ hs) = seen_step (bytes_eq g y.name) g y hs refl (seen g hs)

-- an active host of that name
pub active_at : (g : Name) (hs : List Host) → is_active_host g hs ≡ true → (k : ℕ) × (h : Host) × (host_at k hs ≡ Some h) × (is_on h ≡ true) × (g ≡ h.name)
active_at g [] i = untrue i
active_at g (y ∷ hs) i =
    ⊎_elim (λ x. (0, y, refl, and-left (is_on y) (bytes_eq g y.name) x, same_name g y.name (and-right (is_on y) (bytes_eq g y.name) x)))
    (λ x. let z = active_at g hs x in (suc z.0, z.1, z.2, z.3, z.4)) (or-cases (is_on y && bytes_eq g y.name) (is_active_host g hs) i)

kept_among : (q : Bool) (g n : Name) (ns ms : List Name) (hs : List Host) → is_active_host n hs ≡ q → (is_among g ns ≡ true → (is_among g ms ≡ true) × (is_active_host g hs ≡ true)) → is_among g (cond q (n ∷ ns) ns) ≡ true
    → (bytes_eq g n || is_among g ms ≡ true) × (is_active_host g hs ≡ true)
kept_among true g n ns ms hs e f i =
    ⊎_elim (λ x. (or-left (bytes_eq g n) (is_among g ms) x, rw (same_name g n x) e)) (λ x. let y = f x in (or-right (bytes_eq g n) (is_among g ms) y.0, y.1)) (or-cases (bytes_eq g n) (is_among g ns) i)
kept_among false g n ns ms hs e f i = let y = f i in (or-right (bytes_eq g n) (is_among g ms) y.0, y.1)

-- what is still active is one of those and is active
pub still_among : (g : Name) (hs : List Host) (ms : List Name) → is_among g (still_active hs ms) ≡ true → (is_among g ms ≡ true) × (is_active_host g hs ≡ true)
still_among g hs [] i = untrue i
still_among g hs (n ∷ ms) i = kept_among (is_active_host n hs) g n (still_active hs ms) ms hs refl (still_among g hs ms) i

some_among : (q : Bool) (n : Name) (ns os : List Name) → is_among n os ≡ true → are_among ns os ≡ true → are_among (cond q (n ∷ ns) ns) os ≡ true
some_among true n ns os i h = and-both (is_among n os) (are_among ns os) i h
some_among false n ns os i h = h

pub all_still : (hs : List Host) (ms os : List Name) → are_among ms os ≡ true → are_among (still_active hs ms) os ≡ true
all_still hs [] os h = refl
all_still hs (n ∷ ms) os h = some_among (is_active_host n hs) n (still_active hs ms) os (and-left (is_among n os) (are_among ms os) h) (all_still hs ms os (and-right (is_among n os) (are_among ms os) h))

some_few : (q : Bool) (n : Name) (ns : List Name) (m : ℕ) → length ns ≤ m → length (cond q (n ∷ ns) ns) ≤ 1 + m
some_few true n ns m h = omega (arith, h)
some_few false n ns m h = omega (arith, h)

pub few_still : (hs : List Host) (ms : List Name) → length (still_active hs ms) ≤ length ms
few_still hs [] = omega arith
few_still hs (n ∷ ms) = let y = some_few (is_active_host n hs) n (still_active hs ms) (length ms) (few_still hs ms) in omega (arith, y)

pub stand_at : (q k : ℕ) (hs : List Host) (h : Host) → all_stand q hs ≡ true → host_at k hs ≡ Some h → stands_at q h.stage ≡ true
stand_at q k [] h l e = absurd (true≢false (cc))
stand_at q zero (x ∷ hs) h l e = let i : x ≡ h = cc in subst (λ y. stands_at q y.stage ≡ true) i (and-left (stands_at q x.stage) (all_stand q hs) l)
stand_at q (suc k) (x ∷ hs) h l e = stand_at q k hs h (and-right (stands_at q x.stage) (all_stand q hs) l) e

-- the sum over all hosts, of which one is given anew
abbrev pub total : (Name → Stage → ℕ) → List Host → ℕ
total f [] = 0
total f (h ∷ hs) = f h.name h.stage + total f hs

pub total_put : (f : Name → Stage → ℕ) (k : ℕ) (x : Host) (hs : List Host) (h : Host) → host_at k hs ≡ Some h → total f (put_host k x hs) + f h.name h.stage ≡ total f hs + f x.name x.stage
total_put f k x [] h e = absurd (true≢false (cc))
total_put f zero x (y ∷ hs) h e = let i : y ≡ h = cc in let j = ap (λ z. f z.name z.stage) i in omega arith
total_put f (suc k) x (y ∷ hs) h e = let i = total_put f k x hs h e in omega arith
