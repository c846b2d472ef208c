-- What an index answers is what a scan of the hosts does.
use Rattle.std.proofs.Common.{◌≡◌, ◌<◌, ◌≤◌, ℕ, zero, suc, ◌+◌, List, [], ◌∷◌, map, set, length, Bool, true, false, not, ◌&&◌, ◌||◌, nat_eq, nat_lt, nat_le, cond, Option, Some, None, slice_get, refl, sym, ap, ap₂, subst, ◌∙◌, eq-eqb, arith}
use Rattle.std.proofs.lemmas.Bool.{ltb-true, ltb-false, leb-true, le-leb, lt-ltb, le-ltb, eqb-true}
use Rattle.pb_semantics.proofs.Bools.{untrue}
use Rattle.pb_language.specs.Drive.{Starting, lower}
use Rattle.pb_core.specs.declared.index.ReadyIndex.{ReadyIndex}
use Rattle.pb_core.specs.Activities.{Activity, idle, ready, runs, running_in, all_idle_in, is_at_least, none_behind, can_start_in, start_of, first_in, always, next_in, number_of, starting_of, is_not_behind}
use Rattle.pb_core.specs.Indexes.{Places, has_place, is_ready, HasPlaces, exchanged, IsIndexOf, HoldsOnly, is_not_ready, TakesOut, PutsIn, BeginsIn, LeavesIn, waits_at, GoesOnIn}
use Rattle.pb_core.proofs.Nexts.{kept, next_kept}

below_both : (p : ℕ) (x y : Starting) (l a b : Bool) → nat_lt y.place x.place ≡ l → nat_le p x.place ≡ a → nat_le p y.place ≡ b → is_not_behind p (cond l (Some y) (Some x)) ≡ a && b
below_both p x y true true b e f g = g
below_both p x y true false false e f g = g
below_both p x y true false true e f g =
    let less = ltb-true y.place x.place e in let low : p ≤ y.place = leb-true p y.place g in untrue (sym f ∙ le-leb p x.place (omega arith))
below_both p x y false false b e f g = f
below_both p x y false true true e f g = f
below_both p x y false true false e f g =
    let more = ltb-false y.place x.place e in let low : p ≤ x.place = leb-true p x.place f in untrue (sym g ∙ le-leb p y.place (omega arith))

below_lower : (p : ℕ) (x y : Option Starting) → is_not_behind p (lower x y) ≡ is_not_behind p x && is_not_behind p y
below_lower p None y = refl
below_lower p (Some x) None = yes (nat_le p x.place) where
  yes : (b : Bool) → b ≡ b && true
  yes true = refl
  yes false = refl
below_lower p (Some x) (Some y) = below_both p x y (nat_lt y.place x.place) (nat_le p x.place) (nat_le p y.place) refl refl refl

one_behind : (p k : ℕ) (x : Activity) → is_at_least p x ≡ is_not_behind p (start_of always k x) && is_not_behind p (start_of always k (exchanged x))
one_behind p k idle = refl
one_behind p k (ready q) = yes (nat_le p q) where
  yes : (b : Bool) → b ≡ b && true
  yes true = refl
  yes false = refl
one_behind p k (runs q) = refl

four : (a b c d : Bool) → (a && b) && (c && d) ≡ (a && c) && (b && d)
four true true c d = refl
four true false true d = refl
four true false false d = refl
four false b c d = refl

-- no host is behind a place where neither the lowest that waits is nor the lowest that runs
behind_first : (p k : ℕ) (xs : List Activity) → none_behind p xs ≡ is_not_behind p (first_in always k xs) && is_not_behind p (first_in always k (map exchanged xs))
behind_first p k [] = refl
behind_first p k (x ∷ xs) =
    ap₂ (λ a b. a && b) (one_behind p k x) (behind_first p (suc k) xs)
    ∙ four (is_not_behind p (start_of always k x)) (is_not_behind p (start_of always k (exchanged x))) (is_not_behind p (first_in always (suc k) xs)) (is_not_behind p (first_in always (suc k) (map exchanged xs)))
    ∙ sym (ap₂ (λ a b. a && b) (below_lower p (start_of always k x) (first_in always (suc k) xs)) (below_lower p (start_of always k (exchanged x)) (first_in always (suc k) (map exchanged xs))))

next_of : (forks : ℕ) (l : Bool) (xs : List Activity) (o : Option Starting) → o ≡ first_in always 0 xs → next_in forks l xs ≡ kept (can_start_in forks l xs) o
next_of forks l xs o e = next_kept forks l xs ∙ ap (kept (can_start_in forks l xs)) (sym e)

pub next_empty : (xs : List Activity) (forks : ℕ) (l : Bool) → None ≡ first_in always 0 xs → None ≡ number_of (next_in forks l xs)
next_empty xs forks l e = sym (ap number_of (next_of forks l xs None e))

-- the lowest starts next, where it can
pub next_lowest : (xs : List Activity) (forks n p : ℕ) (l q : Bool) → starting_of (Some (n, p)) ≡ first_in always 0 xs → q ≡ can_start_in forks l xs p → cond q (Some n) None ≡ number_of (next_in forks l xs)
next_lowest xs forks n p l q low can =
    either q ∙ ap (λ b. number_of (cond b (Some (let x : Starting = record { number = n; place = p } in x)) None)) can
    ∙ sym (ap number_of (next_of forks l xs (Some (record { number = n; place = p })) low)) where
      either : (b : Bool) → cond b (Some n) None ≡ number_of (cond b (Some (let x : Starting = record { number = n; place = p } in x)) None)
      either true = refl
      either false = refl

not_flip : (b : Bool) → not b ≡ true → b ≡ false
not_flip false e = refl
not_flip true e = untrue e

not_back : (b : Bool) → not b ≡ false → b ≡ true
not_back true e = refl
not_back false e = untrue (sym e)

not_twice : (b : Bool) → not (not b) ≡ b
not_twice true = refl
not_twice false = refl

-- whether a host at a place can start, by how many run
module _ (x : ReadyIndex) (xs : List Activity) (i : IsIndexOf x xs) (forks p m : ℕ) (count : m ≡ length x.running.keys) (l : Bool) where
  pub start_full : forks ≤ m → false ≡ can_start_in forks l xs p
  start_full h = sym (ap (λ b. b && (not l || none_behind p xs)) (ap (λ n. nat_lt n forks) (sym i.count ∙ sym count) ∙ le-ltb m forks h))

  fork_free : m < forks → nat_lt (running_in xs) forks ≡ true
  fork_free h = ap (λ n. nat_lt n forks) (sym i.count ∙ sym count) ∙ lt-ltb m forks h

  pub start_free : m < forks → l ≡ false → true ≡ can_start_in forks l xs p
  start_free h free = sym (ap₂ (λ a b. a && (not b || none_behind p xs)) (fork_free h) free)

  pub start_linear : (q : Bool) → m < forks → l ≡ true → q ≡ none_behind p xs → q ≡ can_start_in forks l xs p
  start_linear q h linear e = e ∙ sym (ap₂ (λ a b. a && (not b || none_behind p xs)) (fork_free h) linear)

-- whether a host stands before a place, by the lowest that waits and the lowest that runs
module _ (xs : List Activity) (p : ℕ) (o : Option (ℕ × ℕ)) (waits : starting_of o ≡ first_in always 0 xs) where
  pub behind_waiting : not (is_not_behind p (starting_of o)) ≡ true → false ≡ none_behind p xs
  behind_waiting h =
      sym (behind_first p 0 xs ∙ ap (λ a. a && is_not_behind p (first_in always 0 (map exchanged xs))) (ap (is_not_behind p) (sym waits) ∙ not_flip (is_not_behind p (starting_of o)) h))

  pub behind_running : (r : Option (ℕ × ℕ)) → not (is_not_behind p (starting_of o)) ≡ false → starting_of r ≡ first_in always 0 (map exchanged xs) → not (not (is_not_behind p (starting_of r))) ≡ none_behind p xs
  behind_running r h run =
      not_twice (is_not_behind p (starting_of r)) ∙ ap (is_not_behind p) run
      ∙ sym (behind_first p 0 xs ∙ ap (λ a. a && is_not_behind p (first_in always 0 (map exchanged xs))) (ap (is_not_behind p) (sym waits) ∙ not_back (is_not_behind p (starting_of o)) h))

-- whether all hosts are idle
abbrev is_none_first : Option Starting → Bool
is_none_first None = true
is_none_first (Some x) = false

lower_some : (x : Starting) (o : Option Starting) → is_none_first (lower (Some x) o) ≡ false
lower_some x None = refl
lower_some x (Some y) = pick (nat_lt y.place x.place) where
  pick : (b : Bool) → is_none_first (cond b (Some y) (Some x)) ≡ false
  pick true = refl
  pick false = refl

and_zero : (b : Bool) (n : ℕ) → b && nat_eq (suc n) 0 ≡ false
and_zero b n = both b (nat_eq (suc n) 0) (no n) where
  both : (a c : Bool) → c ≡ false → a && c ≡ false
  both true c e = e
  both false c e = refl

  no : (n : ℕ) → nat_eq (suc n) 0 ≡ false
  no n = is_no (nat_eq (suc n) 0) refl where
    is_no : (q : Bool) → nat_eq (suc n) 0 ≡ q → q ≡ false
    is_no true e = let same : suc n ≡ 0 = eqb_true e in absurd (omega arith) where
      eqb_true : nat_eq (suc n) 0 ≡ true → suc n ≡ 0
      eqb_true = eqb-true (suc n) 0
    is_no false e = refl

idle_first : (k : ℕ) (xs : List Activity) → all_idle_in xs ≡ is_none_first (first_in always k xs) && nat_eq (running_in xs) 0
idle_first k [] = sym (eq-eqb 0 0 refl)
idle_first k (idle ∷ xs) = idle_first (suc k) xs
idle_first k (ready p ∷ xs) = sym (ap (λ b. b && nat_eq (running_in xs) 0) (lower_some (record { number = k; place = p }) (first_in always (suc k) xs)))
idle_first k (runs p ∷ xs) = sym (and_zero (is_none_first (first_in always (suc k) xs)) (running_in xs))

pub idle_waits : (xs : List Activity) (o : Option (ℕ × ℕ)) (y : ℕ × ℕ) → o ≡ Some y → starting_of o ≡ first_in always 0 xs → false ≡ all_idle_in xs
idle_waits xs o y is e = sym (idle_first 0 xs ∙ ap (λ f. is_none_first f && nat_eq (running_in xs) 0) (sym e ∙ ap starting_of is))

pub idle_runs : (xs : List Activity) (m n : ℕ) (q : Bool) → None ≡ first_in always 0 xs → n ≡ running_in xs → m ≡ n → nat_eq m 0 ≡ q → q ≡ all_idle_in xs
idle_runs xs m n q e count len is = sym (idle_first 0 xs ∙ ap₂ (λ f r. is_none_first f && nat_eq r 0) (sym e) (sym (len ∙ count)) ∙ is)

-- a host starts
pub map_set : {A B : Type 0} → (f : A → B) (xs : List A) (k : ℕ) (y : A) → map f (set xs k y) ≡ set (map f xs) k (f y)
map_set f [] k y = refl
map_set f (x ∷ xs) zero y = refl
map_set f (x ∷ xs) (suc k) y = ap (λ ys. f x ∷ ys) (map_set f xs k y)

pub map_at : {A B : Type 0} → (f : A → B) (xs : List A) (k : ℕ) (x : A) → slice_get xs k ≡ Some x → slice_get (map f xs) k ≡ Some (f x)
map_at f [] k x e = cc
map_at f (y ∷ xs) zero x e = let same : y ≡ x = cc in ap (λ z. Some (f z)) same
map_at f (y ∷ xs) (suc k) x e = map_at f xs k x e

count_more : (xs : List Activity) (k p : ℕ) → slice_get xs k ≡ Some (ready p) → running_in (set xs k (runs p)) ≡ running_in xs + 1
count_more [] k p e = cc
count_more (ready q ∷ xs) zero p e = omega arith
count_more (idle ∷ xs) zero p e = cc
count_more (runs q ∷ xs) zero p e = cc
count_more (idle ∷ xs) (suc k) p e = count_more xs k p e
count_more (ready q ∷ xs) (suc k) p e = count_more xs k p e
count_more (runs q ∷ xs) (suc k) p e = let more = count_more xs k p e in omega (arith, more)

count_less : (xs : List Activity) (k p : ℕ) (o : Option ℕ) → slice_get xs k ≡ Some (runs p) → running_in xs ≡ running_in (set xs k (waits_at o)) + 1
count_less [] k p o e = cc
count_less (runs q ∷ xs) zero p None e = omega arith
count_less (runs q ∷ xs) zero p (Some n) e = omega arith
count_less (idle ∷ xs) zero p o e = cc
count_less (ready q ∷ xs) zero p o e = cc
count_less (idle ∷ xs) (suc k) p o e = count_less xs k p o e
count_less (ready q ∷ xs) (suc k) p o e = count_less xs k p o e
count_less (runs q ∷ xs) (suc k) p o e = let less = count_less xs k p o e in omega (arith, less)

still_idle : (xs : List Activity) (k p q j : ℕ) → slice_get xs k ≡ Some (runs p) → is_ready q (slice_get xs j) ≡ is_ready q (slice_get (set xs k idle) j)
still_idle [] k p q j e = refl
still_idle (runs n ∷ xs) zero p q zero e = refl
still_idle (idle ∷ xs) zero p q zero e = cc
still_idle (ready n ∷ xs) zero p q zero e = cc
still_idle (x ∷ xs) zero p q (suc j) e = refl
still_idle (x ∷ xs) (suc k) p q zero e = refl
still_idle (x ∷ xs) (suc k) p q (suc j) e = still_idle xs k p q j e

is_at : (p : ℕ) (o : Option Activity) → o ≡ Some (ready p) → is_ready p o ≡ true
is_at p o e = ap (is_ready p) e ∙ eq-eqb p p refl

is_away : (p q : ℕ) (o : Option Activity) → o ≡ Some (runs q) → is_ready p o ≡ false
is_away p q o e = ap (is_ready p) e

module _ (old : ReadyIndex) (k p : ℕ) where
  pub begins_in : (waiting running : Places) → PutsIn k p old.running running → TakesOut k p old.waiting waiting → BeginsIn k p old (record { waiting = waiting; running = running })
  begins_in waiting running puts takes = record {
    index = λ xs i e.
        let at : slice_get (map exchanged xs) k ≡ Some (runs p) = map_at exchanged xs k (ready p) e in
        let new : has_place p k old.running ≡ false = i.running p k ∙ is_away p p (slice_get (map exchanged xs) k) at in
        let more = count_more xs k p e in
        let longer = puts.count new in
        let was = i.count in record {
          waiting = takes.places xs (runs p) i.waiting e refl;
          running = subst (HasPlaces running) (sym (map_set exchanged xs k (runs p))) (puts.places (map exchanged xs) (runs p) i.running at refl);
          count = omega (arith, more, longer, was);
        };
  }

  module _ (running : Places) (takes : TakesOut k p old.running running) where
    runs_less : (xs : List Activity) (o : Option ℕ) → IsIndexOf old xs → slice_get xs k ≡ Some (runs p) → length running.keys ≡ running_in (set xs k (waits_at o))
    runs_less xs o i e =
        let at : slice_get (map exchanged xs) k ≡ Some (ready p) = map_at exchanged xs k (runs p) e in
        let there : has_place p k old.running ≡ true = i.running p k ∙ is_at p (slice_get (map exchanged xs) k) at in
        let less = count_less xs k p o e in
        let shorter = takes.count there in
        let was = i.count in omega (arith, less, shorter, was)

    runs_no_more : (xs : List Activity) (o : Option ℕ) → IsIndexOf old xs → slice_get xs k ≡ Some (runs p) → HasPlaces running (map exchanged (set xs k (waits_at o)))
    runs_no_more xs o i e =
        let at : slice_get (map exchanged xs) k ≡ Some (ready p) = map_at exchanged xs k (runs p) e in
        subst (HasPlaces running) (sym (map_set exchanged xs k (waits_at o))) (takes.places (map exchanged xs) (exchanged (waits_at o)) i.running at (nowhere o)) where
          nowhere : (o : Option ℕ) → is_not_ready (exchanged (waits_at o)) ≡ true
          nowhere None = refl
          nowhere (Some q) = refl

    pub leaves_in : LeavesIn k p old (record old { running = running })
    leaves_in = record {
      index = λ xs i e. record {
        waiting = λ q j. i.waiting q j ∙ still_idle xs k p q j e;
        running = runs_no_more xs None i e;
        count = runs_less xs None i e;
      };
    }

    pub goes_on_in : (waiting : Places) (q : ℕ) → PutsIn k q old.waiting waiting → GoesOnIn k p (Some q) old (record { waiting = waiting; running = running })
    goes_on_in waiting q puts = record {
      index = λ xs i e. record {
        waiting = puts.places xs (runs p) i.waiting e refl;
        running = runs_no_more xs (Some q) i e;
        count = runs_less xs (Some q) i e;
      };
    }

pub leaves_on : (k p : ℕ) (old new : ReadyIndex) → LeavesIn k p old new → GoesOnIn k p None old new
leaves_on k p old new leaves = record { index = λ xs i e. leaves.index xs i e }

-- hosts of which none runs
none_run : (xs : List Activity) (p k : ℕ) → running_in xs ≡ 0 → is_ready p (slice_get (map exchanged xs) k) ≡ false
none_run [] p k e = refl
none_run (idle ∷ xs) p zero e = refl
none_run (idle ∷ xs) p (suc k) e = none_run xs p k e
none_run (ready q ∷ xs) p zero e = refl
none_run (ready q ∷ xs) p (suc k) e = none_run xs p k e
none_run (runs q ∷ xs) p k e = absurd (omega (arith, e))

no_places : (s : Places) → s.keys ≡ [] → (p k : ℕ) → has_place p k s ≡ false
no_places s e p k = ap (λ (ks : List (ℕ × ℕ)). has_place p k (let t : Places = record { keys = ks } in t)) e

pub holds_only : (f : ℕ → ℕ → Bool) (x : ReadyIndex) (xs : List Activity) → HoldsOnly f x → running_in xs ≡ 0 → ((p k : ℕ) → f p k ≡ is_ready p (slice_get xs k)) → IsIndexOf x xs
holds_only f x xs holds none same = record {
  waiting = λ p k. holds.waiting p k ∙ same p k;
  running = λ p k. no_places x.running holds.running p k ∙ sym (none_run xs p k none);
  count = ap length holds.running ∙ sym none;
}
