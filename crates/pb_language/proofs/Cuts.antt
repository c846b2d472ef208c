-- The batches of a play are its hosts, cut in order.
use Rattle.std.proofs.Common.{◌≡◌, ◌≤◌, ◌-◌, ⊎_elim, ℕ, zero, suc, List, [], ◌∷◌, ◌++◌, Bool, true, false, not, ◌||◌, cond, length, refl, sym, ap, ◌∙◌, arith, true≢false, bytes_eq, unwrap_or}
use Rattle.pb_semantics.specs.Keeps.{is_among}
use Rattle.pb_semantics.specs.Below.{are_among}
use Rattle.pb_semantics.proofs.Bools.{untrue, and-left, and-right, and-both, or-cases, not-true, neither-left, neither-right, neither-both}
use Rattle.pb_semantics.proofs.Names.{same_name, own_name}
use Rattle.pb_semantics.proofs.Hosts.{own_among}
use Rattle.pb_language.specs.Expression.{Name}
use Rattle.pb_language.specs.Book.{Cut, PlayData, Book, Registry}
use Rattle.pb_language.specs.Plays.{group_named, word_hosts, add_hosts, pattern_hosts, next_cuts, first_size, first_hosts, other_hosts, cut_hosts, play_with, program_of}
use Rattle.pb_language.specs.Program.{Inventory, Program}
use Rattle.pb_language.specs.Theorem.{are_distinct}
use Rattle.pb_language.proofs.Positions.{in_any}
use Rattle.pb_language.proofs.Turns.{AllApart, AllWithin, CutFine}

first_or_other : (x : Name) (k : ℕ) (hs : List Name) → is_among x hs ≡ is_among x (first_hosts k hs) || is_among x (other_hosts k hs)
first_or_other x zero hs = refl
first_or_other x (suc k) [] = refl
first_or_other x (suc k) (h ∷ hs) = or_through (bytes_eq x h) (is_among x hs) (is_among x (first_hosts k hs)) (is_among x (other_hosts k hs)) (first_or_other x k hs)
  where
    or_through : (a b c d : Bool) → b ≡ c || d → a || b ≡ (a || c) || d
    or_through true b c d e = refl
    or_through false b c d e = e

not-of : (a : Bool) → a ≡ false → not a ≡ true
not-of true e = absurd (true≢false e)
not-of false e = refl

distinct_first : (h : Name) (hs : List Name) → are_distinct (h ∷ hs) ≡ true → is_among h hs ≡ false
distinct_first h hs d = not-true (is_among h hs) (and-left (not (is_among h hs)) (are_distinct hs) d)

distinct_rest : (h : Name) (hs : List Name) → are_distinct (h ∷ hs) ≡ true → are_distinct hs ≡ true
distinct_rest h hs d = and-right (not (is_among h hs)) (are_distinct hs) d

other_distinct : (k : ℕ) (hs : List Name) → are_distinct hs ≡ true → are_distinct (other_hosts k hs) ≡ true
other_distinct zero hs d = d
other_distinct (suc k) [] d = d
other_distinct (suc k) (h ∷ hs) d = other_distinct k hs (distinct_rest h hs d)

-- of distinct hosts none is both among the first and among the others
apart_step : (x h : Name) (k : ℕ) (hs : List Name) → is_among h hs ≡ false → (is_among x (first_hosts k hs) ≡ true → is_among x (other_hosts k hs) ≡ false) → bytes_eq x h || is_among x (first_hosts k hs) ≡ true → is_among x (other_hosts k hs) ≡ false
apart_step x h k hs away f i =
    ⊎_elim (λ e. rw (same_name x h e) (neither-right (is_among h (first_hosts k hs)) (is_among h (other_hosts k hs)) (sym (first_or_other h k hs) ∙ away))) (λ e. f e) (or-cases (bytes_eq x h) (is_among x (first_hosts k hs)) i)

apart_hosts : (x : Name) (k : ℕ) (hs : List Name) → are_distinct hs ≡ true → is_among x (first_hosts k hs) ≡ true → is_among x (other_hosts k hs) ≡ false
apart_hosts x zero hs d i = untrue i
apart_hosts x (suc k) [] d i = untrue i
apart_hosts x (suc k) (h ∷ hs) d i = apart_step x h k hs (distinct_first h hs d) (apart_hosts x k hs (distinct_rest h hs d)) i

other_few : (k : ℕ) (hs : List Name) → length (other_hosts k hs) ≤ length hs
other_few zero hs = omega arith
other_few (suc k) [] = omega arith
other_few (suc k) (h ∷ hs) = let i = other_few k hs in omega (arith, i)

first_few : (k : ℕ) (hs : List Name) → length (first_hosts k hs) ≤ length hs
first_few zero hs = omega arith
first_few (suc k) [] = omega arith
first_few (suc k) (h ∷ hs) = let i = first_few k hs in omega (arith, i)

-- each host is in one of the batches
or_same : (a b c d : Bool) → b ≡ c || d → a || b ≡ (a || c) || d
or_same true b c d e = refl
or_same false b c d e = e

cut_parts : (x : Name) (n k : ℕ) (cs : List Cut) (hs : List Name) → length hs ≤ k → is_among x hs ≡ in_any x (cut_hosts n k cs hs)
cut_parts x n zero cs [] l = refl
cut_parts x n zero cs (h ∷ hs) l = absurd (omega (arith, l))
cut_parts x n (suc k) cs [] l = refl
cut_parts x n (suc k) cs (h ∷ hs) l =
    let m = first_size n cs - 1 in
    let few = other_few m hs in
    let rest = cut_parts x n k (next_cuts cs) (other_hosts m hs) (omega (arith, l, few)) in
    or_same (bytes_eq x h) (is_among x hs) (is_among x (first_hosts m hs)) (in_any x (cut_hosts n k (next_cuts cs) (other_hosts m hs))) (first_or_other x m hs ∙ ap (λ q. is_among x (first_hosts m hs) || q) rest)

cut_apart : (n k : ℕ) (cs : List Cut) (hs : List Name) → are_distinct hs ≡ true → length hs ≤ k → AllApart (cut_hosts n k cs hs)
cut_apart n zero cs hs d l = tt
cut_apart n (suc k) cs [] d l = tt
cut_apart n (suc k) cs (h ∷ hs) d l =
    let m = first_size n cs - 1 in
    let few = other_few m hs in
    let low : length (other_hosts m hs) ≤ k = omega (arith, l, few) in (
      λ x i. sym (cut_parts x n k (next_cuts cs) (other_hosts m hs) low) ∙ apart_step x h m hs (distinct_first h hs d) (apart_hosts x m hs (distinct_rest h hs d)) i,
      cut_apart n k (next_cuts cs) (other_hosts m hs) (other_distinct m hs (distinct_rest h hs d)) low,
    )

first_within : (k : ℕ) (hs os : List Name) → are_among hs os ≡ true → are_among (first_hosts k hs) os ≡ true
first_within zero hs os i = refl
first_within (suc k) [] os i = refl
first_within (suc k) (h ∷ hs) os i = and-both (is_among h os) (are_among (first_hosts k hs) os) (and-left (is_among h os) (are_among hs os) i) (first_within k hs os (and-right (is_among h os) (are_among hs os) i))

other_within : (k : ℕ) (hs os : List Name) → are_among hs os ≡ true → are_among (other_hosts k hs) os ≡ true
other_within zero hs os i = i
other_within (suc k) [] os i = refl
other_within (suc k) (h ∷ hs) os i = other_within k hs os (and-right (is_among h os) (are_among hs os) i)

cut_within : (n k : ℕ) (cs : List Cut) (hs os : List Name) → are_among hs os ≡ true → length hs ≤ length os → AllWithin os (cut_hosts n k cs hs)
cut_within n zero cs hs os i l = tt
cut_within n (suc k) cs [] os i l = tt
cut_within n (suc k) cs (h ∷ hs) os i l =
    let m = first_size n cs - 1 in
    let few = other_few m hs in
    let some = first_few m hs in
    let rest = and-right (is_among h os) (are_among hs os) i in (
      and-both (is_among h os) (are_among (first_hosts m hs) os) (and-left (is_among h os) (are_among hs os) i) (first_within m hs os rest),
      omega (arith, l, some),
      cut_within n k (next_cuts cs) (other_hosts m hs) os (other_within m hs os rest) (omega (arith, l, few)),
    )

-- the hosts of a pattern are distinct
last_among : (x : Name) (ns : List Name) (m : Name) → is_among x (ns ++ m ∷ []) ≡ is_among x ns || bytes_eq x m
last_among x [] m = or_false (bytes_eq x m)
  where
    or_false : (a : Bool) → a || false ≡ a
    or_false true = refl
    or_false false = refl
last_among x (n ∷ ns) m = ap (λ q. bytes_eq x n || q) (last_among x ns m) ∙ or_deep (bytes_eq x n) (is_among x ns) (bytes_eq x m)
  where
    or_deep : (a b c : Bool) → a || (b || c) ≡ (a || b) || c
    or_deep true b c = refl
    or_deep false b c = refl

unlike : (q : Bool) (n m : Name) → bytes_eq n m ≡ q → bytes_eq m n ≡ false → q ≡ false
unlike true n m e i = absurd (true≢false (sym (own_name n) ∙ (ap (λ z. bytes_eq z n) (same_name n m e) ∙ i)))
unlike false n m e i = refl

last_distinct : (ns : List Name) (m : Name) → are_distinct ns ≡ true → is_among m ns ≡ false → are_distinct (ns ++ m ∷ []) ≡ true
last_distinct [] m d i = refl
last_distinct (n ∷ ns) m d i =
    and-both (not (is_among n (ns ++ m ∷ []))) (are_distinct (ns ++ m ∷ [])) (not-of (is_among n (ns ++ m ∷ [])) (last_among n ns m ∙ neither-both (is_among n ns) (bytes_eq n m) (distinct_first n ns d) (unlike (bytes_eq n m) n m refl (neither-left (bytes_eq m n) (is_among m ns) i))))
    (last_distinct ns m (distinct_rest n ns d) (neither-right (bytes_eq m n) (is_among m ns) i))

added_distinct : (q : Bool) (ns : List Name) (m : Name) → is_among m ns ≡ q → are_distinct ns ≡ true → are_distinct (cond q ns (ns ++ m ∷ [])) ≡ true
added_distinct true ns m e d = d
added_distinct false ns m e d = last_distinct ns m d e

add_distinct : (ns ms : List Name) → are_distinct ns ≡ true → are_distinct (add_hosts ns ms) ≡ true
add_distinct ns [] d = d
add_distinct ns (m ∷ ms) d = add_distinct (cond (is_among m ns) ns (ns ++ m ∷ [])) ms (added_distinct (is_among m ns) ns m refl d)

pattern_distinct : (inventory : Inventory) (ns ws : List Name) → are_distinct ns ≡ true → are_distinct (pattern_hosts inventory ns ws) ≡ true
pattern_distinct inventory ns [] d = d
pattern_distinct inventory ns (w ∷ ws) d =
    pattern_distinct inventory (add_hosts ns (unwrap_or (word_hosts inventory w (group_named w inventory.groups)) [])) ws (add_distinct ns (unwrap_or (word_hosts inventory w (group_named w inventory.groups)) []) d)

play_cut : (ms : Registry) (p : PlayData) (hs : List Name) → are_distinct hs ≡ true → CutFine (play_with ms p hs)
play_cut ms p hs d = record {
  parts = λ x. cut_parts x (length hs) (length hs) p.serial hs (omega arith);
  apart = cut_apart (length hs) (length hs) p.serial hs d (omega arith);
  within = cut_within (length hs) (length hs) p.serial hs hs (own_among hs) (omega arith);
}

abbrev pub AllCut : Program → Type 0
AllCut [] = Unit {0}
AllCut (p ∷ ps) = CutFine p × AllCut ps

-- the batches of each play of a book are its hosts, cut
pub program_cut : (ms : Registry) (inventory : Inventory) (b : Book) → AllCut (program_of ms inventory b)
program_cut ms inventory [] = tt
program_cut ms inventory (p ∷ ps) = (play_cut ms p (pattern_hosts inventory [] p.pattern) (pattern_distinct inventory [] p.pattern refl), program_cut ms inventory ps)
