-- Counting the first node of each place, with the greatest length of its loop, gives the calls of a play's row.
use Rattle.std.proofs.Common.{◌≡◌, ◌<◌, ◌+◌, ◌*◌, ℕ, suc, max, nat_eq, List, [], ◌∷◌, ◌++◌, Bool, true, false, cond, Option, Some, None, refl, sym, ap, subst, ◌∙◌, arith}
use Rattle.std.proofs.lemmas.Bool.{ne_eqb}
use Rattle.pb_language.specs.Expression.{Expression}
use Rattle.pb_language.specs.Give.{retries_of}
use Rattle.pb_language.specs.Judgement.{Exit, dead, live, loop_length}
use Rattle.pb_language.specs.Plays.{play_row}
use Rattle.pb_language.specs.Setting.{Setting}
use Rattle.pb_language.specs.Tables.{greatest_length, place_length, place_calls, flush_calls, row_calls}
use Rattle.pb_language.specs.Task.{Action, call_of, debug, set_fact, assertion, failure_of, Task, Handlers, no_handlers, handler, Row, end, task, flush, section, block}
use Rattle.pb_language.specs.Walk.{Visit, visits_at}
use Rattle.pb_language.proofs.Accepted.{same_place}
use Rattle.pb_language.proofs.Same.{same_number}
use Rattle.pb_language.proofs.Ways.{AllVisits}
use Rattle.pb_language.proofs.Rounds.{both_visits}
use Rattle.pb_flow.specs.Flow.{flush_tasks, tasks_of}
use Rattle.pb_route.specs.Visited.{nodes_visits}
use Rattle.pb_route.specs.Places.{length_at, items_at, calls_at, places_calls, PlacesAreCounted}
use Rattle.pb_route.proofs.PlacesFirsts.{firsts, GoUp, up_apart, In, here, there, copies_in, less_than, only_one}
use Rattle.pb_route.proofs.PlacesRows.{play_up}

-- a list of tasks read from a place to before another: each has the next place, or is a copy of an earlier one
data Reading : ℕ → List Task → List Task → ℕ → Type 0 where
  all_read : {p : ℕ} → Reading p [] [] p
  next_place : {p q : ℕ} {t : Task} {ts fs : List Task} → t.place ≡ p → Reading (suc p) ts fs q → Reading p (t ∷ ts) (t ∷ fs) q
  a_copy : {p q : ℕ} {t : Task} {ts fs : List Task} → t.place < p → Reading p ts fs q → Reading p (t ∷ ts) fs q

read_both : (p q r : ℕ) (ts fs us gs : List Task) → Reading p ts fs q → Reading q us gs r → Reading p (ts ++ us) (fs ++ gs) r
read_both p q r ts fs us gs all_read b = b
read_both p q r ts fs us gs (next_place {ts = xs} {fs = ys} e a) b = next_place e (read_both (suc p) q r xs ys us gs a b)
read_both p q r ts fs us gs (a_copy {ts = xs} l a) b = a_copy l (read_both p q r xs fs us gs a b)

copies_read : (p q : ℕ) (ts us fs : List Task) → ((t : Task) → In t ts → t.place < p) → Reading p us fs q → Reading p (ts ++ us) fs q
copies_read p q [] us fs low a = a
copies_read p q (t ∷ ts) us fs low a = a_copy (low t here) (copies_read p q ts us fs (λ u i. low u (there i)) a)

list_read : (p q : ℕ) (ts : List Task) → GoUp p ts q → Reading p ts ts q
list_read p q [] a = subst (λ k. Reading p [] [] k) a all_read
list_read p q (t ∷ ts) a = next_place a.0 (list_read (suc p) q ts a.1)

row_read : (p q : ℕ) (row : Row) → GoUp p (firsts row) q → Reading p (tasks_of row) (firsts row) q
row_read p q end a = list_read p q [] a
row_read p q (task t row) a = next_place a.0 (row_read (suc p) q row a.1)
row_read p q (flush hs row) a =
    let fs = flush_tasks hs in
    let x = up_apart p q fs (firsts row) a in
    read_both p x.0 q fs fs (tasks_of row) (firsts row) (list_read p x.0 fs x.1) (row_read x.0 q row x.2)
row_read p q (section body hs row) a =
    let fs = flush_tasks hs in
    let x = up_apart p q (firsts body) (fs ++ firsts row) a in
    let y = up_apart x.0 q fs (firsts row) x.2 in
    read_both p x.0 q (tasks_of body) (firsts body) (fs ++ (fs ++ tasks_of row)) (fs ++ firsts row) (row_read p x.0 body x.1)
    (read_both x.0 y.0 q fs fs (fs ++ tasks_of row) (firsts row) (list_read x.0 y.0 fs y.1)
    (copies_read y.0 q fs (tasks_of row) (firsts row) (λ t i. less_than x.0 y.0 t fs y.1 i) (row_read y.0 q row y.2)))
row_read p q (block d body saves rescued always row) a =
    let rest = tasks_of row in
    let last = tasks_of always in
    let x = up_apart p q (firsts body) (firsts rescued ++ (firsts always ++ firsts row)) a in
    let y = up_apart x.0 q (firsts rescued) (firsts always ++ firsts row) x.2 in
    let z = up_apart y.0 q (firsts always) (firsts row) y.2 in
    read_both p x.0 q (tasks_of body) (firsts body) (tasks_of rescued ++ (last ++ (last ++ rest))) (firsts rescued ++ (firsts always ++ firsts row)) (row_read p x.0 body x.1)
    (read_both x.0 y.0 q (tasks_of rescued) (firsts rescued) (last ++ (last ++ rest)) (firsts always ++ firsts row) (row_read x.0 y.0 rescued y.1)
    (read_both y.0 z.0 q last (firsts always) (last ++ rest) (firsts row) (row_read y.0 z.0 always z.1)
    (copies_read z.0 q last rest (firsts row) (λ t i. less_than y.0 z.0 t (firsts always) z.1 (copies_in t always i)) (row_read z.0 q row z.2))))

-- the calls of tasks, summed
abbrev total : (Task → ℕ) → List Task → ℕ
total f [] = 0
total f (t ∷ ts) = f t + total f ts

total-append : (f : Task → ℕ) (xs ys : List Task) → total f (xs ++ ys) ≡ total f xs + total f ys
total-append f [] ys = omega arith
total-append f (x ∷ xs) ys = omega (arith, total-append f xs ys)

total_same : (f g : Task → ℕ) (ts : List Task) → ((t : Task) → In t ts → f t ≡ g t) → total f ts ≡ total g ts
total_same f g [] h = refl
total_same f g (t ∷ ts) h = ap (λ k. k + total f ts) (h t here) ∙ ap (λ k. g t + k) (total_same f g ts (λ u i. h u (there i)))

module _ (vs : List Visit) where
  abbrev placed : Task → ℕ
  placed t = place_calls vs t t.action

  abbrev called : Task → ℕ
  called t = calls_at vs t t.action

  -- a row's are those of its tasks, each once
  flush_total : (hs : Handlers) → flush_calls vs hs ≡ total placed (flush_tasks hs)
  flush_total no_handlers = refl
  flush_total (handler n t hs) = ap (λ k. placed t + k) (flush_total hs)

  row_total : (row : Row) → row_calls vs row ≡ total placed (firsts row)
  row_total end = refl
  row_total (task t row) = ap (λ k. placed t + k) (row_total row)
  row_total (flush hs row) = omega (arith, flush_total hs, row_total row, total-append placed (flush_tasks hs) (firsts row))
  row_total (section body hs row) =
      let rest = flush_tasks hs ++ firsts row in
      omega (arith, row_total body, flush_total hs, row_total row, total-append placed (firsts body) rest, total-append placed (flush_tasks hs) (firsts row))
  row_total (block d body saves rescued always row) =
      let third = firsts always ++ firsts row in
      let second = firsts rescued ++ third in
      omega (arith, row_total body, row_total rescued, row_total always, row_total row, total-append placed (firsts body) second, total-append placed (firsts rescued) third, total-append placed (firsts always) (firsts row))

  -- reading counts these too
  reading_counts : (p q : ℕ) (ts fs : List Task) → Reading p ts fs q → places_calls vs p ts ≡ total called fs
  reading_counts p q ts fs all_read = refl
  reading_counts p q ts fs (next_place {t = t} {ts = xs} {fs = ys} e a) =
      ap (λ k. cond k (called t + places_calls vs (suc p) xs) (places_calls vs p xs)) (ap (λ k. nat_eq t.place k) (sym e) ∙ same_place t.place) ∙ ap (λ k. called t + k) (reading_counts (suc p) q xs ys a)
  reading_counts p q ts fs (a_copy {t = t} {ts = xs} l a) =
      ap (λ k. cond k (called t + places_calls vs (suc p) xs) (places_calls vs p xs)) (ne_eqb t.place p (λ e. omega (arith, l, e))) ∙ reading_counts p q xs fs a

-- the visits are those of the tasks, so at a place all have one loop
node_in : (st : Setting) (all : List Task) (t : Task) (e : Exit) → In t all → AllVisits (λ v. In v.visited all) (visits_at st t e)
node_in st all t dead i = tt
node_in st all t (live env) i = (i, tt)

nodes_in : (st : Setting) (all ts : List Task) (val : ℕ → Exit) (n : ℕ) → ((t : Task) → In t ts → In t all) → AllVisits (λ v. In v.visited all) (nodes_visits st ts val n)
nodes_in st all [] val n f = tt
nodes_in st all (t ∷ ts) val n f =
    both_visits (λ v. In v.visited all) (visits_at st t (val n)) (nodes_visits st ts val (suc n)) (node_in st all t (val n) (f t here)) (nodes_in st all ts val (suc n) (λ u i. f u (there i)))

either_length : (q : Bool) (a b x y : ℕ) → (q ≡ true → a ≡ b) → x ≡ y → cond q (max a x) x ≡ cond q (max b y) y
either_length true a b x y f e = ap (λ k. max k x) (f refl) ∙ ap (λ k. max b k) e
either_length false a b x y f e = e

module _ (all : List Task) (p : ℕ) (e : Expression) (loops : (u : Task) → In u all → p ≡ u.place → u.loop ≡ Some e) where
  same_length : (vs : List Visit) → AllVisits (λ v. In v.visited all) vs → greatest_length p e vs ≡ length_at p vs
  same_length [] a = refl
  same_length (v ∷ vs) a =
      either_length (nat_eq p v.visited.place) (loop_length v.setting v.visited v.env (Some e)) (loop_length v.setting v.visited v.env v.visited.loop) (greatest_length p e vs) (length_at p vs)
      (λ h. ap (λ o. loop_length v.setting v.visited v.env o) (sym (loops v.visited a.0 (same_number p v.visited.place h)))) (same_length vs a.1)

module _ (all : List Task) (vs : List Visit) (visited : AllVisits (λ v. In v.visited all) vs) where
  same_items : (t : Task) (o : Option Expression) → ((u : Task) → In u all → t.place ≡ u.place → u.loop ≡ o) → place_length t o vs ≡ items_at vs t.place o
  same_items t None loops = refl
  same_items t (Some e) loops = same_length all t.place e loops vs visited

  same_calls : (t : Task) (a : Action) → ((u : Task) → In u all → t.place ≡ u.place → u.loop ≡ t.loop) → place_calls vs t a ≡ calls_at vs t a
  same_calls t (call_of m ps) loops = ap (λ k. suc (retries_of t.attempts) * k) (same_items t t.loop loops)
  same_calls t (debug e) loops = refl
  same_calls t (set_fact ps) loops = refl
  same_calls t (assertion es o) loops = refl
  same_calls t (failure_of o) loops = refl

row_counted : (row : Row) (q : ℕ) (st : Setting) (val : ℕ → Exit) → GoUp 0 (firsts row) q → row_calls (nodes_visits st (tasks_of row) val 1) row ≡ places_calls (nodes_visits st (tasks_of row) val 1) 0 (tasks_of row)
row_counted row q st val up =
    let fs = firsts row in
    let vs = nodes_visits st (tasks_of row) val 1 in
    let visited = nodes_in st fs (tasks_of row) val 1 (λ t i. copies_in t row i) in
    row_total vs row
    ∙ total_same (placed vs) (called vs) fs (λ t i. same_calls fs vs visited t t.action (λ u j e. ap (λ (x : Task). x.loop) (only_one 0 q t u fs up i j e)))
    ∙ sym (reading_counts vs 0 q (tasks_of row) fs (row_read 0 q row up))

pub places_are_counted : PlacesAreCounted
places_are_counted ms play st val = let up = play_up ms play in row_counted (play_row ms play) up.0 st val up.1
