-- Turns one after the other, and the hosts of a batch that are active.
use Rattle.std.proofs.Common.{◌≡◌, ◌<◌, ℕ, zero, suc, ◌+◌, ◌-◌, List, [], ◌∷◌, ◌++◌, map, length, drop, take, get_or, Bool, true, false, nat_lt, cond, Some, None, slice_get, refl, sym, ap, ap₂, subst, ◌∙◌, arith}
use Rattle.std.proofs.lemmas.Bool.{ltb-true, ltb-false}
use Rattle.std.proofs.lemmas.List.{take_more}
use Rattle.pb_semantics.proofs.Bools.{untrue}
use Rattle.pb_language.specs.Expression.{Name}
use Rattle.pb_language.specs.Program as program
use Rattle.pb_language.specs.Machine.{turn}
use Rattle.pb_machine.specs.Hosts.{FlatHost}
use Rattle.pb_machine.specs.Run.{FlatState, enabled, is_active_host, still_active}
use Rattle.pb_core.specs.declared.batch.Batch.{Batch}
use Rattle.pb_core.specs.declared.host.HostState.{HostState}
use Rattle.pb_core.specs.declared.run.RunCore.{RunCore}
use Rattle.pb_core.specs.Readings.{Reading}
use Rattle.pb_core.specs.Hosts.{PlaySize}
use Rattle.pb_core.specs.Entries.{AreHosts, AreHere, IsHere}
use Rattle.pb_core.specs.Cores.{AreBatches, IsCore, scheduled_batches, scheduled_plays, size_of}
use Rattle.pb_history.specs.Happens.{turned}
use Rattle.pb_core.specs.Events.{AreActive, CanTurn, IsDisabled, Turns, TurnsTo, active_in}
use Rattle.pb_core.proofs.Cores.{drop_at, drop_past, no_batches}
use Rattle.pb_core.proofs.Beginnings.{active_here}

module _ {P : Type 0} where
  -- Turns one after the other
  pub turned_first : (old new : RunCore P) → CanTurn old true → Turns old new → TurnsTo 1 old new
  turned_first old new can turns = record {
    core = λ reading s i. turns reading s i (sym (can reading s i));
    enabled = λ reading s i. first s (sym (can reading s i));
  } where
    first : (s : FlatState) → enabled s turn ≡ true → (n : ℕ) → n < 1 → enabled (turned n s) turn ≡ true
    first s on zero h = on
    first s on (suc n) h = absurd (omega arith)

  pub turned_more : (n m : ℕ) (old now new : RunCore P) → TurnsTo n old now → CanTurn now true → Turns now new → m ≡ n + 1 → TurnsTo m old new
  turned_more n m old now new before can turns next =
      let after : suc n ≡ m = omega (arith, next) in
      subst (λ k. TurnsTo k old new) after (record {
        core = λ reading s i. turns reading (turned n s) (before.core reading s i) (on reading s i);
        enabled = λ reading s i j h. by reading s i j h (nat_lt j n) refl;
      }) where
        on : (reading : Reading P) (s : FlatState) → IsCore reading old s → enabled (turned n s) turn ≡ true
        on reading s i = sym (can reading (turned n s) (before.core reading s i))

        by : (reading : Reading P) (s : FlatState) → IsCore reading old s → (j : ℕ) → j < suc n → (q : Bool) → nat_lt j n ≡ q → enabled (turned j s) turn ≡ true
        by reading s i j h true e = before.enabled reading s i j (ltb-true j n e)
        by reading s i j h false e =
            let past = ltb-false j n e in
            let same : n ≡ j = omega (arith, past, h) in
            subst (λ k. enabled (turned k s) turn ≡ true) same (on reading s i)

  pub off_later : (n : ℕ) (old now : RunCore P) → TurnsTo n old now → CanTurn now true → IsDisabled turn now → IsDisabled turn old
  off_later n old now before can off reading s i =
      let core = before.core reading s i in
      untrue (sym (off reading (turned n s) core) ∙ sym (can reading (turned n s) core))

-- which hosts are active
active_join : (hs : List FlatHost) (ns : List Name) (n : Name) → still_active hs (ns ++ n ∷ []) ≡ still_active hs ns ++ cond (is_active_host n hs) (n ∷ []) []
active_join hs [] n = refl
active_join hs (m ∷ ns) n = by (is_active_host m hs) (active_join hs ns n) where
  by : (q : Bool) → still_active hs (ns ++ n ∷ []) ≡ still_active hs ns ++ cond (is_active_host n hs) (n ∷ []) []
      → cond q (m ∷ still_active hs (ns ++ n ∷ [])) (still_active hs (ns ++ n ∷ [])) ≡ cond q (m ∷ still_active hs ns) (still_active hs ns) ++ cond (is_active_host n hs) (n ∷ []) []
  by true rest = ap (λ xs. m ∷ xs) rest
  by false rest = rest

map_join : {A B : Type 0} → (f : A → B) (xs : List A) (x : A) → map f (xs ++ x ∷ []) ≡ map f xs ++ f x ∷ []
map_join f [] x = refl
map_join f (y ∷ xs) x = ap (λ ys. f y ∷ ys) (map_join f xs x)

no_more : {A : Type 0} → (xs : List A) → xs ++ [] ≡ xs
no_more [] = refl
no_more (x ∷ xs) = ap (λ ys. x ∷ ys) (no_more xs)

module _ {P : Type 0} (xs : List (HostState P)) (ms ns : List ℕ) (i : ℕ) (so : AreHere xs (take i ms) ns) (few : i < length ms) where
  next_active : (reading : Reading P) (z : PlaySize) (hs : List FlatHost) → AreHosts reading z xs hs → (q : Bool) → IsHere xs (get_or ms i 0) q
      → still_active hs (map reading.name (take (i + 1) ms)) ≡ map reading.name ns ++ cond q (reading.name (get_or ms i 0) ∷ []) []
  next_active reading z hs are q here =
      ap (λ ks. still_active hs (map reading.name ks)) (take_more ms i 0 few) ∙ ap (still_active hs) (map_join reading.name (take i ms) (get_or ms i 0))
      ∙ active_join hs (map reading.name (take i ms)) (reading.name (get_or ms i 0))
      ∙ ap₂ (λ ks b. ks ++ cond b (reading.name (get_or ms i 0) ∷ []) []) (sym (so reading z hs are)) (active_here reading z xs hs (get_or ms i 0) are ∙ sym (here reading z hs are))

  pub here_more : (ks : List ℕ) → IsHere xs (get_or ms i 0) true → ks ≡ ns ++ get_or ms i 0 ∷ [] → AreHere xs (take (i + 1) ms) ks
  here_more ks here made reading z hs are =
      ap (map reading.name) made ∙ map_join reading.name ns (get_or ms i 0) ∙ sym (next_active reading z hs are true here)

  pub here_less : IsHere xs (get_or ms i 0) false → AreHere xs (take (i + 1) ms) ns
  here_less here reading z hs are = sym (no_more (map reading.name ns)) ∙ sym (next_active reading z hs are false here)

module _ {P : Type 0} (c : RunCore P) where
  pub active_none : slice_get (scheduled_batches c) c.current ≡ None → AreActive c []
  active_none e reading s i =
      sym (ap (active_in s.hosts) (no_batches reading.name (scheduled_plays c) (drop c.current (scheduled_batches c)) s.batches (drop_past (scheduled_batches c) c.current e) i.batches))

  pub active_by : (b : Batch) (ms : List ℕ) → slice_get (scheduled_batches c) c.current ≡ Some b → AreHere c.hosts.items b.members.items ms → AreActive c ms
  active_by b ms e here reading s i = here reading (size_of s.batches) s.hosts i.hosts ∙ by s.batches (subst (λ cs. AreBatches reading.name (scheduled_plays c) cs s.batches) (drop_at (scheduled_batches c) c.current b e) i.batches) where
    by : (bs : List program.Batch) → AreBatches reading.name (scheduled_plays c) (b ∷ drop (suc c.current) (scheduled_batches c)) bs → still_active s.hosts (map reading.name b.members.items) ≡ active_in s.hosts bs
    by [] j = absurd j
    by (d ∷ later) j = ap (still_active s.hosts) (sym j.0.members)
