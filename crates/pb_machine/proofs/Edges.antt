-- The steps of a row lead along its edges.
use Rattle.std.proofs.Common.{◌≡◌, ℕ, suc, ◌+◌, List, [], ◌∷◌, ◌++◌, length, refl, sym, ap, ap₂, ◌∙◌, append_assoc, arith}
use Rattle.pb_language.specs.Task.{Handlers, no_handlers, handler, Row, end, task, flush, section, block}
use Rattle.pb_language.specs.Links.{Link, goes, fails, passes, link_to, links, entry, flush_entry, flush_links, saved_entry, handler_places, size}
use Rattle.pb_machine.specs.Steps.{holding, releasing, Target, Step, leaving, moving, flush_target, row_target, flush_steps, saved_target, row_steps, end_target}
use Rattle.pb_machine.specs.Laws.{step_links, steps_links, StepsLeadAlongLinks}
use Rattle.pb_machine.proofs.Targets.{flush_to, row_to, saved_to, flush_length, row_length}

glued : (o k : ℕ) (xs ys : List Step) (a b : List Link) → o + length xs ≡ k → steps_links o xs ≡ a
    → steps_links k ys ≡ b → steps_links o (xs ++ ys) ≡ a ++ b
glued o k [] ys a b e h i = ap (λ j. steps_links j ys) (let f : o ≡ k = omega arith in f) ∙ i ∙ ap (λ ls. ls ++ b) h
glued o k (x ∷ xs) ys a b e h i =
    ap (λ ls. step_links o x ++ ls) (glued (suc o) k xs ys (steps_links (suc o) xs) b (omega arith) refl i)
    ∙ sym (append_assoc (step_links o x) (steps_links (suc o) xs) b)
    ∙ ap (λ ls. ls ++ b) h

first_two : (a b c x y : List Link) → a ≡ x → c ≡ y → (a ++ b) ++ c ≡ x ++ (b ++ y)
first_two a b c x y h i = append_assoc a b c ∙ ap₂ (λ p q. p ++ (b ++ q)) h i

first_three : (a b c : List Link) → (a ++ (b ++ [])) ++ c ≡ a ++ (b ++ c)
first_three a b c = simp append_assoc

pub flush_edges : (hs : Handlers) (o : ℕ) (after : Target)
    → steps_links o (flush_steps hs o after) ≡ flush_links hs o after.to
flush_edges no_handlers o after = refl
flush_edges (handler n t hs) o after =
    let next = (flush_target hs (suc o) after).to in
    first_three (link_to o t passes next) (link_to o t goes next) (steps_links (suc o) (flush_steps hs (suc o) after))
    ∙ ap₂ (λ x ls. link_to o t passes x ++ (link_to o t goes x ++ ls)) (flush_to hs (suc o) after) (flush_edges hs (suc o) after)

pub row_edges : (row : Row) (m o : ℕ) (well hurt : Target)
    → steps_links o (row_steps row m o well hurt) ≡ links row o well.to hurt.to
row_edges end m o well hurt = refl
row_edges (task t row) m o well hurt =
    first_two (link_to o t goes (row_target row (suc o) well).to) (link_to o t fails hurt.to) _ _ _
    (ap (link_to o t goes) (row_to row (suc o) well)) (row_edges row m (suc o) well hurt)
row_edges (flush hs row) m o well hurt =
    let n = o + handler_places hs in
    let next = row_target row n well in
    glued o n (flush_steps hs o next) (row_steps row m n well hurt) _ _ (ap (λ k. o + k) (flush_length hs o next))
    (flush_edges hs o next ∙ ap (flush_links hs o) (row_to row n well)) (row_edges row m n well hurt)
row_edges (section body hs row) m o well hurt =
    let a = o + size body in
    let f = a + handler_places hs in
    let n = f + handler_places hs in
    let next = row_target row n well in
    let on = flush_target hs a next in
    let fails = flush_target hs f leaving in
    let w = row_steps row m n well hurt in
    let e = row_to row n well in
    glued o a (row_steps body m o on fails) (flush_steps hs a next ++ (flush_steps hs f leaving ++ w)) _ _ (ap (λ k. o + k) (row_length body m o on fails))
    (row_edges body m o on fails ∙ ap₂ (links body o) (flush_to hs a next ∙ ap (flush_entry hs a) e) (flush_to hs f leaving))
    (glued a f (flush_steps hs a next) (flush_steps hs f leaving ++ w) _ _ (ap (λ k. a + k) (flush_length hs a next)) (flush_edges hs a next ∙ ap (flush_links hs a) e)
    (glued f n (flush_steps hs f leaving) w _ _ (ap (λ k. f + k) (flush_length hs f leaving)) (flush_edges hs f leaving) (row_edges row m n well hurt)))
row_edges (block d body saves rescued always row) m o well hurt =
    let r = o + size body in
    let a = r + size rescued in
    let f = a + size always in
    let n = f + size always in
    let next = row_target row n well in
    let out = moving (releasing m) hurt in
    let on = row_target always a next in
    let fails = moving (holding m) (row_target always f out) in
    let in_rescue = row_target rescued r on in
    let saved = saved_target d saves in_rescue fails in
    let w = row_steps row m n well hurt in
    let g = row_steps always (suc m) f out hurt in
    let y = row_steps always m a next hurt in
    let s = row_steps rescued m r on fails in
    let e = row_to row n well in
    let to_on : on.to ≡ entry always a (entry row n well.to) = row_to always a next ∙ ap (entry always a) e in
    let to_fails : fails.to ≡ entry always f hurt.to = row_to always f out in
    let to_rescue : in_rescue.to ≡ entry rescued r (entry always a (entry row n well.to)) = row_to rescued r on ∙ ap (entry rescued r) to_on in
    glued o r (row_steps body m o on saved) (s ++ (y ++ (g ++ w))) _ _ (ap (λ k. o + k) (row_length body m o on saved))
    (row_edges body m o on saved ∙ ap₂ (links body o) to_on (saved_to d saves in_rescue fails ∙ ap₂ (saved_entry saves) to_rescue to_fails))
    (glued r a s (y ++ (g ++ w)) _ _ (ap (λ k. r + k) (row_length rescued m r on fails)) (row_edges rescued m r on fails ∙ ap₂ (links rescued r) to_on to_fails)
    (glued a f y (g ++ w) _ _ (ap (λ k. a + k) (row_length always m a next hurt)) (row_edges always m a next hurt ∙ ap (λ x. links always a x hurt.to) e)
    (glued f n g w _ _ (ap (λ k. f + k) (row_length always (suc m) f out hurt)) (row_edges always (suc m) f out hurt) (row_edges row m n well hurt))))

pub steps_lead_along_links : StepsLeadAlongLinks
steps_lead_along_links row = (
  row_length row 0 1 (end_target row) leaving,
  row_to row 1 (end_target row),
  row_edges row 0 1 (end_target row) leaving,
)
