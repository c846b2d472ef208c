-- The tasks of a row, each once, and what it says of a list that its places go up by one.
use Rattle.std.proofs.Common.{◌≡◌, ◌<◌, ◌≤◌, ℕ, suc, List, [], ◌∷◌, ◌++◌, ◌⊎◌, inl, inr, refl, sym, subst, arith}
use Rattle.pb_language.specs.Task.{Task, Row, end, task, flush, section, block}
use Rattle.pb_flow.specs.Flow.{flush_tasks, tasks_of}

-- of an `always` and a forced flush one copy
abbrev pub firsts : Row → List Task
firsts end = []
firsts (task t row) = t ∷ firsts row
firsts (flush hs row) = flush_tasks hs ++ firsts row
firsts (section body hs row) = firsts body ++ (flush_tasks hs ++ firsts row)
firsts (block d body saves rescued always row) = firsts body ++ (firsts rescued ++ (firsts always ++ firsts row))

-- the first has the one place, and the next one would have the other
abbrev pub GoUp : ℕ → List Task → ℕ → Type 0
GoUp p [] q = p ≡ q
GoUp p (t ∷ ts) q = (t.place ≡ p) × GoUp (suc p) ts q

pub up_both : (p q r : ℕ) (xs ys : List Task) → GoUp p xs q → GoUp q ys r → GoUp p (xs ++ ys) r
up_both p q r [] ys a b = subst (λ k. GoUp k ys r) (sym a) b
up_both p q r (x ∷ xs) ys a b = (a.0, up_both (suc p) q r xs ys a.1 b)

pub up_apart : (p r : ℕ) (xs ys : List Task) → GoUp p (xs ++ ys) r → (q : ℕ) × GoUp p xs q × GoUp q ys r
up_apart p r [] ys a = (p, refl, a)
up_apart p r (x ∷ xs) ys a = let k = up_apart (suc p) r xs ys a.1 in (k.0, (a.0, k.1), k.2)

up_less : (p q : ℕ) (ts : List Task) → GoUp p ts q → p ≤ q
up_less p q [] a = omega (arith, a)
up_less p q (t ∷ ts) a = omega (arith, up_less (suc p) q ts a.1)

-- a task of a list
pub data In : Task → List Task → Type 0 where
  here : {t : Task} {ts : List Task} → In t (t ∷ ts)
  there : {t u : Task} {ts : List Task} → In t ts → In t (u ∷ ts)

pub in_first : (t : Task) (xs ys : List Task) → In t xs → In t (xs ++ ys)
in_first t xs ys here = here
in_first t xs ys (there {ts = ts} i) = there (in_first t ts ys i)

pub in_second : (t : Task) (xs ys : List Task) → In t ys → In t (xs ++ ys)
in_second t [] ys i = i
in_second t (x ∷ xs) ys i = there (in_second t xs ys i)

in_more : (t x : Task) (xs ys : List Task) → In t xs ⊎ In t ys → In t (x ∷ xs) ⊎ In t ys
in_more t x xs ys (inl i) = inl (there i)
in_more t x xs ys (inr i) = inr i

in_head : (t x : Task) (xs ys : List Task) → (In t (xs ++ ys) → In t xs ⊎ In t ys) → In t (x ∷ (xs ++ ys)) → In t (x ∷ xs) ⊎ In t ys
in_head t x xs ys go here = inl here
in_head t x xs ys go (there i) = in_more t x xs ys (go i)

pub in_apart : (t : Task) (xs ys : List Task) → In t (xs ++ ys) → In t xs ⊎ In t ys
in_apart t [] ys i = inr i
in_apart t (x ∷ xs) ys i = in_head t x xs ys (in_apart t xs ys) i

-- the copies are of these tasks
either_in : (t : Task) (xs ys zs : List Task) → (In t xs → In t zs) → (In t ys → In t zs) → In t (xs ++ ys) → In t zs
either_in t xs ys zs f g i = from (in_apart t xs ys i) where
  from : In t xs ⊎ In t ys → In t zs
  from (inl j) = f j
  from (inr j) = g j

tail_in : (t u : Task) (xs ys : List Task) → (In t xs → In t ys) → In t (u ∷ xs) → In t (u ∷ ys)
tail_in t u xs ys go here = here
tail_in t u xs ys go (there i) = there (go i)

pub copies_in : (t : Task) (row : Row) → In t (tasks_of row) → In t (firsts row)
copies_in t end i = i
copies_in t (task u row) i = tail_in t u (tasks_of row) (firsts row) (copies_in t row) i
copies_in t (flush hs row) i = either_in t (flush_tasks hs) (tasks_of row) (flush_tasks hs ++ firsts row) (in_first t (flush_tasks hs) (firsts row)) (λ j. in_second t (flush_tasks hs) (firsts row) (copies_in t row j)) i
copies_in t (section body hs row) i =
    let fs = flush_tasks hs in
    let rest = fs ++ firsts row in
    let all = firsts body ++ rest in
    let flushed : In t fs → In t all = λ j. in_second t (firsts body) rest (in_first t fs (firsts row) j) in
    either_in t (tasks_of body) (fs ++ (fs ++ tasks_of row)) all (λ j. in_first t (firsts body) rest (copies_in t body j))
    (either_in t fs (fs ++ tasks_of row) all flushed (either_in t fs (tasks_of row) all flushed (λ j. in_second t (firsts body) rest (in_second t fs (firsts row) (copies_in t row j))))) i
copies_in t (block d body saves rescued always row) i =
    let third = firsts always ++ firsts row in
    let second = firsts rescued ++ third in
    let all = firsts body ++ second in
    let from : In t third → In t all = λ j. in_second t (firsts body) second (in_second t (firsts rescued) third j) in
    let ended : In t (tasks_of always) → In t all = λ j. from (in_first t (firsts always) (firsts row) (copies_in t always j)) in
    either_in t (tasks_of body) (tasks_of rescued ++ (tasks_of always ++ (tasks_of always ++ tasks_of row))) all (λ j. in_first t (firsts body) second (copies_in t body j))
    (either_in t (tasks_of rescued) (tasks_of always ++ (tasks_of always ++ tasks_of row)) all (λ j. in_second t (firsts body) second (in_first t (firsts rescued) third (copies_in t rescued j)))
    (either_in t (tasks_of always) (tasks_of always ++ tasks_of row) all ended (either_in t (tasks_of always) (tasks_of row) all ended (λ j. from (in_second t (firsts always) (firsts row) (copies_in t row j)))))) i

-- where places go up, a task is the only one of its place
pub at_least : (p q : ℕ) (t : Task) (ts : List Task) → GoUp p ts q → In t ts → p ≤ t.place
at_least p q t ts a here = omega (arith, a.0)
at_least p q t ts a (there {ts = us} i) = omega (arith, at_least (suc p) q t us a.1 i)

pub less_than : (p q : ℕ) (t : Task) (ts : List Task) → GoUp p ts q → In t ts → t.place < q
less_than p q t ts a (here {ts = us}) = omega (arith, a.0, up_less (suc p) q us a.1)
less_than p q t ts a (there {ts = us} i) = less_than (suc p) q t us a.1 i

pub only_one : (p q : ℕ) (t u : Task) (ts : List Task) → GoUp p ts q → In t ts → In u ts → t.place ≡ u.place → u ≡ t
only_one p q t u ts a here here e = refl
only_one p q t u ts a (here {ts = us}) (there j) e = absurd (omega (arith, a.0, e, at_least (suc p) q u us a.1 j))
only_one p q t u ts a (there {ts = us} i) here e = absurd (omega (arith, a.0, e, at_least (suc p) q t us a.1 i))
only_one p q t u ts a (there {ts = us} i) (there j) e = only_one (suc p) q t u us a.1 i j e
