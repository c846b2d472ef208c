-- Batches by their sizes.
use Rattle.std.proofs.Common.{Result, Ok, Err, IfOk, Vec, Global, ◌≡◌, ℕ, zero, suc, ◌-◌, ◌≤◌, ◌<◌, min, List, [], ◌∷◌, length, map, refl, sym, ap, ◌∙◌, arith}
use Rattle.std.proofs.Math.Nat.{min_comm, min-zero, sub-add-min_cancel, suc-min-suc, zero-min}
use Rattle.pb_language.specs.Book.{Cut}
use Rattle.pb_language.specs.Expression.{Name}
use Rattle.pb_language.specs.Plays.{batches_for, cut_hosts, first_hosts, first_size, next_cuts, other_hosts}
use Rattle.std.specs.declared.alloc.AllocError.{AllocError}
use Rattle.pb_play.specs.Batches.{sizes_left}
use Rattle.pb_play.specs.Plays.{cut_view}
use Rattle.pb_play.specs.declared.play.Cut.{Cut as Entry}

first-length : (k : ℕ) (hs : List Name) → length (first_hosts k hs) ≡ min k (length hs)
first-length zero hs = sym (zero-min (length hs))
first-length (suc k) [] = sym (min-zero (suc k))
first-length (suc k) (h ∷ hs) = ap suc (first-length k hs) ∙ sym (suc-min-suc k (length hs))

other-length : (k : ℕ) (hs : List Name) → length (other_hosts k hs) ≡ length hs - k
other-length zero hs = omega arith
other-length (suc k) [] = omega arith
other-length (suc k) (h ∷ hs) = other-length k hs ∙ omega arith

pub sizes-of : (n k : ℕ) (cs : List Cut) (hs : List Name) → map length (cut_hosts n k cs hs) ≡ sizes_left n k cs (length hs)
sizes-of n zero cs hs = refl
sizes-of n (suc k) cs [] = refl
sizes-of n (suc k) cs (h ∷ hs) =
    ap (λ m. suc m ∷ map length (cut_hosts n k (next_cuts cs) (other_hosts (first_size n cs - 1) hs))) (first-length (first_size n cs - 1) hs)
    ∙ ap (λ ms. suc (min (first_size n cs - 1) (length hs)) ∷ ms) (sizes-of n k (next_cuts cs) (other_hosts (first_size n cs - 1) hs) ∙ ap (sizes_left n k (next_cuts cs)) (other-length (first_size n cs - 1) hs))

batches-of : (cs : List Cut) (hs : List Name) (n : ℕ) → length hs ≡ n → map length (batches_for cs hs) ≡ sizes_left n n cs n
batches-of cs hs n e = sizes-of (length hs) (length hs) cs hs ∙ ap (λ m. sizes_left m m cs m) e

pub none-left : (n k : ℕ) (cs : List Cut) → sizes_left n k cs zero ≡ []
none-left n zero cs = refl
none-left n (suc k) cs = refl

less-some : (a p : ℕ) → p - a ≡ suc p - suc (min a p)
less-some a p = omega (arith, sub-add-min_cancel p a, min_comm p a)

pub next-batch : (n k : ℕ) (cs : List Cut) (m s : ℕ) → 0 < m → m ≤ k → s ≡ suc (min (first_size n cs - 1) (m - 1)) → (j : ℕ) × (m - s ≤ j) × (sizes_left n k cs m ≡ s ∷ sizes_left n j (next_cuts cs) (m - s))
next-batch n zero cs m s h lt e = absurd (omega (arith, h, lt))
next-batch n (suc j) cs zero s h lt e = absurd (omega (arith, h))
next-batch n (suc j) cs (suc p) s h lt e =
    let same : s ≡ suc (min (first_size n cs - 1) p) = e ∙ ap (λ q. suc (min (first_size n cs - 1) q)) (omega arith) in
    let left : p - (first_size n cs - 1) ≡ suc p - s = less-some (first_size n cs - 1) p ∙ ap (λ q. suc p - q) (sym same) in
    (j, omega (arith, lt, same), ap (λ q. q ∷ sizes_left n j (next_cuts cs) (p - (first_size n cs - 1))) (sym same) ∙ ap (λ q. s ∷ sizes_left n j (next_cuts cs) q) left)

-- a batch has at least one host, and at most those that are left
pub all-left : (s l : ℕ) → 0 < l → l ≤ s → l ≡ suc (min (s - 1) (l - 1))
all-left s l h lt = omega (arith, h, lt, sub-add-min_cancel (l - 1) (s - 1), min_comm (l - 1) (s - 1))

pub some-left : (s l : ℕ) → 0 < s → s < l → s ≡ suc (min (s - 1) (l - 1))
some-left s l h lt = omega (arith, h, lt, sub-add-min_cancel (s - 1) (l - 1))

pub one-left : (l : ℕ) → 1 ≡ suc (min (0 - 1) (l - 1))
one-left l = omega (arith, zero-min (l - 1))

-- the sizes that were made are those of the batches
pub made-sizes : (ys xs : List Entry) (n : ℕ) (r : Result (Vec ℕ Global) AllocError) → ys ≡ xs → IfOk r (λ v. v.items ≡ sizes_left n n (map cut_view ys) n)
    → IfOk r (λ v. (hs : List Name) → length hs ≡ n → v.items ≡ map length (batches_for (map cut_view xs) hs))
made-sizes ys xs n (Ok v) same h = λ hs e. h ∙ ap (λ (zs : List Entry). sizes_left n n (map cut_view zs) n) same ∙ sym (batches-of (map cut_view xs) hs n e)
made-sizes ys xs n (Err e) same h = tt
