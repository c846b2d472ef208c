-- Each step of a row leads to higher nodes.
use Rattle.std.proofs.Common.{◌≡◌, ◌≤◌, ℕ, suc, ◌+◌, List, [], ◌∷◌, ◌++◌, Option, Some, None, length, refl, ap, arith}
use Rattle.pb_language.specs.Task.{Handlers, no_handlers, handler, Row, end, task, flush, section, block}
use Rattle.pb_language.specs.Links.{handler_places, size}
use Rattle.pb_machine.specs.Steps.{holding, releasing, Target, Step, leaving, moving, flush_target, row_target, flush_steps, saved_target, row_steps, end_target}
use Rattle.pb_machine.specs.Laws.{IsHigher, AreHigher, StepsLeadOn}
use Rattle.pb_machine.proofs.Tests.{Beyond, beyond_more}
use Rattle.pb_machine.proofs.Targets.{flush_length, row_length, flush_beyond, row_beyond, saved_beyond}

pub higher : (o last : ℕ) (n : Option ℕ) → Beyond (suc o) last n → IsHigher last o n
higher o last None w = tt
higher o last (Some n) w = (omega arith, w.1)

pub beyond : (o last : ℕ) (n : Option ℕ) → IsHigher last o n → Beyond (suc o) last n
beyond o last None w = tt
beyond o last (Some n) w = (omega arith, w.1)

both : (o k last : ℕ) (xs ys : List Step) → o + length xs ≡ k → AreHigher last o xs
    → AreHigher last k ys → AreHigher last o (xs ++ ys)
both o k last [] ys e h i = let f : k ≡ o = omega arith in subst_higher f i where
  subst_higher : k ≡ o → AreHigher last k ys → AreHigher last o ys
  subst_higher f i = rw (← f) i
both o k last (x ∷ xs) ys e h i = (h.0, h.1, both (suc o) k last xs ys (omega arith) h.2 i)

flush_higher : (hs : Handlers) (o k last : ℕ) (after : Target) → o + handler_places hs ≡ k
    → k ≤ last → Beyond k last after.to → AreHigher last o (flush_steps hs o after)
flush_higher no_handlers o k last after e le w = tt
flush_higher (handler n t hs) o k last after e le w =
    (higher o last (flush_target hs (suc o) after).to (flush_beyond hs (suc o) k last after (omega arith) le w), tt, flush_higher hs (suc o) k last after (omega arith) le w)

pub row_higher : (row : Row) (m o k last : ℕ) (well hurt : Target) → o + size row ≡ k → k ≤ last
    → Beyond k last well.to → Beyond k last hurt.to → AreHigher last o (row_steps row m o well hurt)
row_higher end m o k last well hurt e le v w = tt
row_higher (task t row) m o k last well hurt e le v w = (
  higher o last (row_target row (suc o) well).to (row_beyond row (suc o) k last well (omega arith) le v),
  higher o last hurt.to (beyond_more k (suc o) last hurt.to (omega arith) w),
  row_higher row m (suc o) k last well hurt (omega arith) le v w,
)
row_higher (flush hs row) m o k last well hurt e le v w =
    let n = o + handler_places hs in
    let next = row_target row n well in
    both o n last (flush_steps hs o next) (row_steps row m n well hurt) (ap (λ i. o + i) (flush_length hs o next))
    (flush_higher hs o n last next refl (omega arith) (row_beyond row n k last well (omega arith) le v))
    (row_higher row m n k last well hurt (omega arith) le v w)
row_higher (section body hs row) m o k last well hurt e le v w =
    let a = o + size body in
    let f = a + handler_places hs in
    let n = f + handler_places hs in
    let next = row_target row n well in
    let on = flush_target hs a next in
    let fails = flush_target hs f leaving in
    let rest = row_steps row m n well hurt in
    let at_next : Beyond n last next.to = row_beyond row n k last well (omega arith) le v in
    both o a last (row_steps body m o on fails) (flush_steps hs a next ++ (flush_steps hs f leaving ++ rest)) (ap (λ i. o + i) (row_length body m o on fails))
    (row_higher body m o a last on fails refl (omega arith) (flush_beyond hs a f last next refl (omega arith) (beyond_more n f last next.to (omega arith) at_next))
    (beyond_more f a last fails.to (omega arith) (flush_beyond hs f n last leaving refl (omega arith) tt)))
    (both a f last (flush_steps hs a next) (flush_steps hs f leaving ++ rest) (ap (λ i. a + i) (flush_length hs a next)) (flush_higher hs a f last next refl (omega arith) (beyond_more n f last next.to (omega arith) at_next))
    (both f n last (flush_steps hs f leaving) rest (ap (λ i. f + i) (flush_length hs f leaving)) (flush_higher hs f n last leaving refl (omega arith) tt) (row_higher row m n k last well hurt (omega arith) le v w)))
row_higher (block d body saves rescued always row) m o k last well hurt e le v w =
    let r = o + size body in
    let a = r + size rescued in
    let f = a + size always in
    let n = f + size always in
    let next = row_target row n well in
    let out = moving (releasing m) hurt in
    let on = row_target always a next in
    let fails = moving (holding m) (row_target always f out) in
    let in_rescue = row_target rescued r on in
    let saved = saved_target d saves in_rescue fails in
    let rest = row_steps row m n well hurt in
    let g = row_steps always (suc m) f out hurt in
    let y = row_steps always m a next hurt in
    let s = row_steps rescued m r on fails in
    let at_next : Beyond n last next.to = row_beyond row n k last well (omega arith) le v in
    let at_hurt : Beyond n last hurt.to = beyond_more k n last hurt.to (omega arith) w in
    let at_on : Beyond a last on.to = row_beyond always a f last next refl (omega arith) (beyond_more n f last next.to (omega arith) at_next) in
    let at_fails : Beyond f last fails.to = row_beyond always f n last out refl (omega arith) at_hurt in
    let at_saved : Beyond r last saved.to = saved_beyond d saves r last in_rescue fails (row_beyond rescued r a last on refl (omega arith) at_on) (beyond_more f r last fails.to (omega arith) at_fails) in
    both o r last (row_steps body m o on saved) (s ++ (y ++ (g ++ rest))) (ap (λ i. o + i) (row_length body m o on saved))
    (row_higher body m o r last on saved refl (omega arith) (beyond_more a r last on.to (omega arith) at_on) at_saved)
    (both r a last s (y ++ (g ++ rest)) (ap (λ i. r + i) (row_length rescued m r on fails)) (row_higher rescued m r a last on fails refl (omega arith) at_on (beyond_more f a last fails.to (omega arith) at_fails))
    (both a f last y (g ++ rest) (ap (λ i. a + i) (row_length always m a next hurt)) (row_higher always m a f last next hurt refl (omega arith) (beyond_more n f last next.to (omega arith) at_next) (beyond_more n f last hurt.to (omega arith) at_hurt))
    (both f n last g rest (ap (λ i. f + i) (row_length always (suc m) f out hurt)) (row_higher always (suc m) f n last out hurt refl (omega arith) at_hurt at_hurt) (row_higher row m n k last well hurt (omega arith) le v w))))

pub play_higher : (row : Row)
    → AreHigher (suc (size row)) 1 (row_steps row 0 1 (end_target row) leaving)
play_higher row = row_higher row 0 1 (suc (size row)) (suc (size row)) (end_target row) leaving (omega arith) (omega arith) (omega arith, omega arith) tt

pub steps_lead_on : StepsLeadOn
steps_lead_on row =
    let last = suc (size row) in
    (higher 0 last (row_target row 1 (end_target row)).to (row_beyond row 1 last last (end_target row) (omega arith) (omega arith) (omega arith, omega arith)), play_higher row)
