-- The Turns that are due.
use Rattle.std.proofs.Common.{◌≡◌, ◌<◌, ◌≤◌, ℕ, zero, suc, List, [], ◌∷◌, length, Bool, true, false, not, cond, refl, sym, ap, subst, ◌∙◌, arith}
use Rattle.pb_semantics.proofs.Bools.{and-right}
use Rattle.pb_language.specs.Program.{Batch}
use Rattle.pb_language.specs.Machine as machine
use Rattle.pb_language.specs.Machine.{turn, any_names}
use Rattle.pb_machine.specs.Run.{FlatState, enabled, is_possible, happened, step, still_active, with_batches}
use Rattle.pb_machine.specs.Simulation.{state_of}
use Rattle.pb_machine.proofs.Machines.{same_enabled, same_step}
use Rattle.pb_history.specs.Happens.{turned}
use Rattle.pb_history.specs.Laws.{TurnsAreDue}
use Rattle.pb_history.specs.Turns.{turned_for, turns_for}

pub turned_front : (n : ℕ) (s : FlatState) → turned n (step s turn) ≡ turned (suc n) s
turned_front zero s = refl
turned_front (suc n) s = ap (λ t. step t turn) (turned_front n s)

with_is : (s : FlatState) (bs : List Batch) → (with_batches s bs).batches ≡ bs
with_is s [] = refl
with_is s (b ∷ bs) = refl

kept_some : (q : Bool) (bs : List Batch) → length (cond q bs []) ≤ length bs
kept_some true bs = omega arith
kept_some false bs = omega arith

-- a Turn leaves fewer batches
pub fewer : (s : FlatState) → enabled s turn ≡ true → length (step s turn).batches < length s.batches
fewer s on = by s.batches refl (and-right (not s.is_stopped) (is_possible s s.batches turn) on) where
  by : (bs : List Batch) → s.batches ≡ bs → is_possible s bs turn ≡ true → length (step s turn).batches < length s.batches
  by [] same q = cc
  by (b ∷ bs) same q =
      let next = cond (any_names (still_active s.hosts b.members)) bs [] in
      let gone : (step s turn).batches ≡ next =
      ap (λ t. (cond t (happened s s.batches turn) s).batches) on ∙ ap (λ xs. (happened s xs turn).batches) same ∙ with_is s next in
      let few = kept_some (any_names (still_active s.hosts b.members)) bs in
      omega (arith, ap length gone, ap length same, few)

due : (m n : ℕ) (s : FlatState) → length s.batches ≤ m → ((i : ℕ) → i < n → enabled (turned i s) turn ≡ true) → enabled (turned n s) turn ≡ false
    → (turned_for m (state_of s) ≡ state_of (turned n s)) × (turns_for m (state_of s) ≡ n)
due zero zero s few on off = (refl, refl)
due zero (suc n) s few on off = let less = fewer s (on 0 (omega arith)) in absurd (omega (arith, less, few))
due (suc m) zero s few on off =
    let no : machine.enabled (state_of s) turn ≡ false = same_enabled s turn ∙ off in
    (ap (λ b. cond b (turned_for m (machine.step (state_of s) turn)) (state_of s)) no, ap (λ b. cond b (suc (turns_for m (machine.step (state_of s) turn))) 0) no)
due (suc m) (suc n) s few on off =
    let yes : machine.enabled (state_of s) turn ≡ true = same_enabled s turn ∙ on 0 (omega arith) in
    let less = fewer s (on 0 (omega arith)) in
    let rest = due m n (step s turn) (omega (arith, less, few))
    (λ i within. subst (λ t. enabled t turn ≡ true) (sym (turned_front i s)) (on (suc i) (omega (arith, within))))
    (subst (λ t. enabled t turn ≡ false) (sym (turned_front n s)) off) in
    let next = machine.step (state_of s) turn in (
      ap (λ b. cond b (turned_for m next) (state_of s)) yes ∙ ap (turned_for m) (same_step s turn) ∙ rest.0 ∙ ap state_of (turned_front n s),
      ap (λ b. cond b (suc (turns_for m next)) 0) yes ∙ ap (λ t. suc (turns_for m t)) (same_step s turn) ∙ ap suc rest.1,
    )

pub turns_are_due : TurnsAreDue
turns_are_due s n on off = due (length s.batches) n s (omega arith) on off
