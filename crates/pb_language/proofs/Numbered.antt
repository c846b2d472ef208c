-- A tree of values is read off its numbers.
use Rattle.std.proofs.Common.{◌≡◌, ◌≤◌, ◌<◌, ℕ, suc, ◌+◌, nat_lt, Bool, true, false, cond, refl, ◌∙◌, arith}
use Rattle.std.proofs.lemmas.Bool.Decides.{nat_tests}
use Rattle.pb_language.specs.Task.{Handlers, no_handlers, handler, Row, end, task, flush, section, block}
use Rattle.pb_language.specs.Judgement.{Exit}
use Rattle.pb_language.specs.Nodes.{FlushValues, Values}
use Rattle.pb_language.specs.Links.{handler_places, size, flush_at, values_at, flush_numbers, numbered}

pub less : (i m : ℕ) (x y : Exit) → i < m → cond (nat_lt i m) x y ≡ x
less i m x y h = go (nat_lt i m) (grind (arith, nat_tests)) where
  go : (q : Bool) → q ≡ true → cond q x y ≡ x
  go true e = refl
  go false e = absurd (cc)

pub more : (i m : ℕ) (x y : Exit) → m ≤ i → cond (nat_lt i m) x y ≡ y
more i m x y h = go (nat_lt i m) (grind (arith, nat_tests)) where
  go : (q : Bool) → q ≡ false → cond q x y ≡ y
  go true e = absurd (cc)
  go false e = refl

pair : {A B : Type 0} (x y : A) (u v : B) → x ≡ y → u ≡ v → ◌≡◌ {A = A × B} (x, u) (y, v)
pair x y u v p q = rw (p, q) refl

five : {A B C D E : Type 0} (a p : A) (b q : B) (c r : C) (d s : D) (e t : E) → a ≡ p → b ≡ q → c ≡ r → d ≡ s → e ≡ t → ◌≡◌ {A = A × B × C × D × E} (a, b, c, d, e) (p, q, r, s, t)
five a p b q c r d s e t u v w x y = rw (u, v, w, x, y) refl

four : {A B C D : Type 0} (a p : A) (b q : B) (c r : C) (d s : D) → a ≡ p → b ≡ q → c ≡ r → d ≡ s → ◌≡◌ {A = A × B × C × D} (a, b, c, d) (p, q, r, s)
four a p b q c r d s u v w x = rw (u, v, w, x) refl

flush_read : (hs : Handlers) (vs : FlushValues hs) (o : ℕ) (val : ℕ → Exit) → ((i : ℕ) → o ≤ i → i < o + handler_places hs → val i ≡ flush_numbers hs vs o i) → flush_at val hs o ≡ vs
flush_read no_handlers vs o val f = refl
flush_read (handler n t hs) vs o val f =
    pair (val o) vs.0 (flush_at val hs (suc o)) vs.1 (f o (grind arith) (grind arith) ∙ less o (suc o) vs.0 (flush_numbers hs vs.1 (suc o) o) (grind arith))
    (flush_read hs vs.1 (suc o) val (λ i l m. f i (grind arith) (grind arith) ∙ more i (suc o) vs.0 (flush_numbers hs vs.1 (suc o) i) l))

pub read_row : (row : Row) (vs : Values row) (o : ℕ) (val : ℕ → Exit) → ((i : ℕ) → o ≤ i → i < o + size row → val i ≡ numbered row vs o i) → values_at val row o ≡ vs
read_row end vs o val f = refl
read_row (task t row) vs o val f =
    pair (val o) vs.0 (values_at val row (suc o)) vs.1 (f o (grind arith) (grind arith) ∙ less o (suc o) vs.0 (numbered row vs.1 (suc o) o) (grind arith))
    (read_row row vs.1 (suc o) val (λ i l m. f i (grind arith) (grind arith) ∙ more i (suc o) vs.0 (numbered row vs.1 (suc o) i) l))
read_row (flush hs row) vs o val f =
    let m = o + handler_places hs in
    pair (flush_at val hs o) vs.0 (values_at val row m) vs.1 (flush_read hs vs.0 o val (λ i l k. f i l (grind arith) ∙ less i (o + handler_places hs) (flush_numbers hs vs.0 o i) (numbered row vs.1 (o + handler_places hs) i) k))
    (read_row row vs.1 m val (λ i l k. f i (grind arith) (grind arith) ∙ more i (o + handler_places hs) (flush_numbers hs vs.0 o i) (numbered row vs.1 (o + handler_places hs) i) l))
read_row (section body hs row) vs o val f =
    let c = handler_places hs in
    four (values_at val body o) vs.0 (flush_at val hs (o + size body)) vs.1 (flush_at val hs (o + size body + c)) vs.2 (values_at val row (o + size body + c + c)) vs.3
    (read_row body vs.0 o val (λ i l k. f i l (grind arith) ∙ less i (o + size body) _ _ k))
    (flush_read hs vs.1 (o + size body) val (λ i l k. f i (grind arith) (grind arith) ∙ more i (o + size body) _ _ l ∙ less i (o + size body + handler_places hs) _ _ k))
    (flush_read hs vs.2 (o + size body + c) val (λ i l k. f i (grind arith) (grind arith) ∙ more i (o + size body) _ _ (grind arith) ∙ more i (o + size body + handler_places hs) _ _ l ∙ less i (o + size body + handler_places hs + handler_places hs) _ _ k))
    (read_row row vs.3 (o + size body + c + c) val (λ i l k. f i (grind arith) (grind arith) ∙ more i (o + size body) _ _ (grind arith) ∙ more i (o + size body + handler_places hs) _ _ (grind arith) ∙ more i (o + size body + handler_places hs + handler_places hs) _ _ l))
read_row (block d body saves rescued always row) vs o val f =
    five (values_at val body o) vs.0 (values_at val rescued (o + size body)) vs.1 (values_at val always (o + size body + size rescued)) vs.2 (values_at val always (o + size body + size rescued + size always)) vs.3
    (values_at val row (o + size body + size rescued + size always + size always)) vs.4
    (read_row body vs.0 o val (λ i l k. f i l (grind arith) ∙ less i (o + size body) _ _ k))
    (read_row rescued vs.1 (o + size body) val (λ i l k. f i (grind arith) (grind arith) ∙ more i (o + size body) _ _ l ∙ less i (o + size body + size rescued) _ _ k))
    (read_row always vs.2 (o + size body + size rescued) val (λ i l k. f i (grind arith) (grind arith) ∙ more i (o + size body) _ _ (grind arith) ∙ more i (o + size body + size rescued) _ _ l ∙ less i (o + size body + size rescued + size always) _ _ k))
    (read_row always vs.3 (o + size body + size rescued + size always) val (λ i l k. f i (grind arith) (grind arith) ∙ more i (o + size body) _ _ (grind arith) ∙ more i (o + size body + size rescued) _ _ (grind arith)
    ∙ more i (o + size body + size rescued + size always) _ _ l ∙ less i (o + size body + size rescued + size always + size always) _ _ k))
    (read_row row vs.4 (o + size body + size rescued + size always + size always) val (λ i l k. f i (grind arith) (grind arith) ∙ more i (o + size body) _ _ (grind arith) ∙ more i (o + size body + size rescued) _ _ (grind arith)
    ∙ more i (o + size body + size rescued + size always) _ _ (grind arith) ∙ more i (o + size body + size rescued + size always + size always) _ _ l))
