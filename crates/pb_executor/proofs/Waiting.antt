-- Where nothing can be started and no Turn is due, a job is out or the run is over.
use Rattle.std.proofs.Common.{◌≡◌, ℕ, zero, suc, ◌+◌, List, [], ◌∷◌, Bool, true, false, not, ◌&&◌, cond, Option, Some, None, inl, inr, refl, sym, ap, subst, ◌∙◌, arith}
use Rattle.pb_semantics.proofs.Bools.{and-right}
use Rattle.pb_language.specs.Drive.{Starting, first_starting, lower, next_start, starting}
use Rattle.pb_language.specs.Machine.{Host, State, Stage, begins, can_start, enabled, gone, host_at, is_out, is_possible, of_host, over, runs, start, turn, waits}
use Rattle.pb_language.specs.Program.{Batch}
use Rattle.pb_language.specs.Theorem.{CanGoOn, none_out}

none_first : (x y : Option Starting) → lower x y ≡ None → x ≡ None
none_first None y e = refl
none_first (Some x) None e = e
none_first (Some x) (Some y) e = absurd (by _ e) where
  by : (q : Bool) → cond q (Some y) (Some x) ≡ None → ⊥
  by true f = cc
  by false f = cc

none_then : (x y : Option Starting) → lower x y ≡ None → y ≡ None
none_then None y e = e
none_then (Some x) None e = refl
none_then (Some x) (Some y) e = absurd (by _ e) where
  by : (q : Bool) → cond q (Some y) (Some x) ≡ None → ⊥
  by true f = cc
  by false f = cc

starts_there : (s : State) (k : ℕ) (b : Batch) (g : Stage) → enabled s (start k) ≡ true → can_start s b g ≡ true → starting s k g ≡ None → ⊥
starts_there s k b (waits over) on can none = cc
starts_there s k b (waits gone) on can none = cc
starts_there s k b (waits (begins t x y)) on can none =
    let some : ◌≡◌ {A = Option Starting} (Some (record { number = k; place = t.place })) None = sym (ap (λ q. cond q (Some (record { number = k; place = t.place })) None) on) ∙ none in cc
starts_there s k b (runs t n ps x y) on can none = cc

some_starts : (s : State) (b : Batch) (j k : ℕ) (hs : List Host) → of_host (host_at k hs) (λ h. can_start s b h.stage) ≡ true → enabled s (start (j + k)) ≡ true → first_starting s j hs ≡ None → ⊥
some_starts s b j k [] can on none = cc
some_starts s b j zero (h ∷ hs) can on none =
    let same : j + 0 ≡ j = omega arith in
    starts_there s j b h.stage (subst (λ n. enabled s (start n) ≡ true) same on) can (none_first (starting s j h.stage) (first_starting s (suc j) hs) none)
some_starts s b j (suc k) (h ∷ hs) can on none =
    let same : j + suc k ≡ suc j + k = omega arith in
    some_starts s b (suc j) k hs can (subst (λ n. enabled s (start n) ≡ true) same on) (none_then (starting s j h.stage) (first_starting s (suc j) hs) none)

starts_next : (s : State) (k : ℕ) → enabled s (start k) ≡ true → next_start s ≡ None → ⊥
starts_next s k on none = by s.batches (and-right (not s.is_stopped) (is_possible s s.batches (start k)) on) where
  by : (bs : List Batch) → is_possible s bs (start k) ≡ true → ⊥
  by [] p = cc
  by (b ∷ bs) p = let same : k ≡ 0 + k = omega arith in some_starts s b 0 k s.hosts p (subst (λ n. enabled s (start n) ≡ true) same on) none

pub cannot_go_on : (s : State) → next_start s ≡ None → enabled s turn ≡ false → CanGoOn s → ⊥
cannot_go_on s none off can = elim can [
  | inl x ↦ starts_next s x.0 x.1 none
  | inr on ↦ let no : true ≡ false = sym on ∙ off in cc
]

pub some_out : (hs : List Host) → (none_out hs ≡ true → ⊥) → (k : ℕ) × (of_host (host_at k hs) (λ h. is_out h.stage) ≡ true)
some_out [] all = absurd (all refl)
some_out (h ∷ hs) all = by (is_out h.stage) refl (λ here. some_out hs (λ none. all (ap (λ q. not q && none_out hs) here ∙ none))) where
  by : (q : Bool) → is_out h.stage ≡ q → (is_out h.stage ≡ false → (k : ℕ) × (of_host (host_at k hs) (λ x. is_out x.stage) ≡ true)) → (k : ℕ) × (of_host (host_at k (h ∷ hs)) (λ x. is_out x.stage) ≡ true)
  by true e rest = (0, e)
  by false e rest = (suc (rest e).0, (rest e).1)
