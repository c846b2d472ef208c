-- The targets of a row's steps are its entries, there are as many steps as nodes, and each target is beyond where it stands.
use Rattle.std.proofs.Common.{[], ◌≡◌, ◌≤◌, ℕ, suc, ◌+◌, List, ◌++◌, Bool, true, false, length, refl, ap, ◌∙◌, length-append, arith}
use Rattle.pb_language.specs.Task.{Handlers, no_handlers, handler, Row, end, task, flush, section, block}
use Rattle.pb_language.specs.Links.{handler_places, size, entry, flush_entry, saved_entry}
use Rattle.pb_machine.specs.Steps.{holding, releasing, Target, Step, leaving, moving, flush_target, row_target, flush_steps, saved_target, row_steps}
use Rattle.pb_machine.proofs.Tests.{Beyond, beyond_more}

pub flush_to : (hs : Handlers) (o : ℕ) (after : Target)
    → (flush_target hs o after).to ≡ flush_entry hs o after.to
flush_to no_handlers o after = refl
flush_to (handler n t hs) o after = refl

pub row_to : (row : Row) (o : ℕ) (after : Target)
    → (row_target row o after).to ≡ entry row o after.to
row_to end o after = refl
row_to (task t row) o after = refl
row_to (flush hs row) o after =
    let n = o + handler_places hs in
    flush_to hs o (row_target row n after) ∙ ap (flush_entry hs o) (row_to row n after)
row_to (section body hs row) o after =
    let a = o + size body in
    let n = a + handler_places hs + handler_places hs in
    let next = row_target row n after in
    row_to body o (flush_target hs a next) ∙ ap (entry body o) (flush_to hs a next ∙ ap (flush_entry hs a) (row_to row n after))
row_to (block d body saves rescued always row) o after =
    let a = o + size body + size rescued in
    let n = a + size always + size always in
    let next = row_target row n after in
    row_to body o (row_target always a next) ∙ ap (entry body o) (row_to always a next ∙ ap (entry always a) (row_to row n after))

pub saved_to : (d : ℕ) (saves : Bool) (x y : Target)
    → (saved_target d saves x y).to ≡ saved_entry saves x.to y.to
saved_to d true x y = refl
saved_to d false x y = refl

pub flush_length : (hs : Handlers) (o : ℕ) (after : Target)
    → length (flush_steps hs o after) ≡ handler_places hs
flush_length no_handlers o after = refl
flush_length (handler n t hs) o after = ap suc (flush_length hs (suc o) after)

two : (xs ys : List Step) (a b : ℕ) → length xs ≡ a → length ys ≡ b → length (xs ++ ys) ≡ a + b
two xs ys a b h i = omega (arith, length-append xs ys)

pub row_length : (row : Row) (m o : ℕ) (well hurt : Target)
    → length (row_steps row m o well hurt) ≡ size row
row_length end m o well hurt = refl
row_length (task t row) m o well hurt = ap suc (row_length row m (suc o) well hurt)
row_length (flush hs row) m o well hurt =
    let n = o + handler_places hs in
    two (flush_steps hs o (row_target row n well)) (row_steps row m n well hurt) _ _ (flush_length hs o _) (row_length row m n well hurt)
row_length (section body hs row) m o well hurt =
    let a = o + size body in
    let f = a + handler_places hs in
    let n = f + handler_places hs in
    let next = row_target row n well in
    two (row_steps body m o (flush_target hs a next) (flush_target hs f leaving)) (flush_steps hs a next ++ (flush_steps hs f leaving ++ row_steps row m n well hurt)) _ _ (row_length body m o _ _)
    (two (flush_steps hs a next) (flush_steps hs f leaving ++ row_steps row m n well hurt) _ _ (flush_length hs a _)
    (two (flush_steps hs f leaving) (row_steps row m n well hurt) _ _ (flush_length hs f _) (row_length row m n well hurt)))
row_length (block d body saves rescued always row) m o well hurt =
    let r = o + size body in
    let a = r + size rescued in
    let f = a + size always in
    let n = f + size always in
    let next = row_target row n well in
    let out = moving (releasing m) hurt in
    let on = row_target always a next in
    let fails = moving (holding m) (row_target always f out) in
    let w = row_steps row m n well hurt in
    let g = row_steps always (suc m) f out hurt in
    let e = row_steps always m a next hurt in
    let s = row_steps rescued m r on fails in
    two (row_steps body m o on (saved_target d saves (row_target rescued r on) fails)) (s ++ (e ++ (g ++ w))) _ _ (row_length body m o _ _)
    (two s (e ++ (g ++ w)) _ _ (row_length rescued m r on fails)
    (two e (g ++ w) _ _ (row_length always m a next hurt) (two g w _ _ (row_length always (suc m) f out hurt) (row_length row m n well hurt))))

pub flush_beyond : (hs : Handlers) (o k last : ℕ) (after : Target) → o + handler_places hs ≡ k
    → k ≤ last → Beyond k last after.to → Beyond o last (flush_target hs o after).to
flush_beyond no_handlers o k last after e le w = beyond_more k o last after.to (omega arith) w
flush_beyond (handler n t hs) o k last after e le w = (omega arith, omega arith)

pub row_beyond : (row : Row) (o k last : ℕ) (after : Target) → o + size row ≡ k → k ≤ last
    → Beyond k last after.to → Beyond o last (row_target row o after).to
row_beyond end o k last after e le w = beyond_more k o last after.to (omega arith) w
row_beyond (task t row) o k last after e le w = (omega arith, omega arith)
row_beyond (flush hs row) o k last after e le w =
    let n = o + handler_places hs in
    flush_beyond hs o n last (row_target row n after) refl (omega arith) (row_beyond row n k last after (omega arith) le w)
row_beyond (section body hs row) o k last after e le w =
    let a = o + size body in
    let f = a + handler_places hs in
    let n = f + handler_places hs in
    let next = row_target row n after in
    row_beyond body o a last (flush_target hs a next) refl (omega arith)
    (flush_beyond hs a f last next refl (omega arith) (beyond_more n f last next.to (omega arith) (row_beyond row n k last after (omega arith) le w)))
row_beyond (block d body saves rescued always row) o k last after e le w =
    let r = o + size body in
    let a = r + size rescued in
    let f = a + size always in
    let n = f + size always in
    let next = row_target row n after in
    row_beyond body o r last (row_target always a next) refl (omega arith)
    (beyond_more a r last (row_target always a next).to (omega arith) (row_beyond always a f last next refl (omega arith) (beyond_more n f last next.to (omega arith) (row_beyond row n k last after (omega arith) le w))))

pub saved_beyond : (d : ℕ) (saves : Bool) (lo last : ℕ) (x y : Target) → Beyond lo last x.to
    → Beyond lo last y.to → Beyond lo last (saved_target d saves x y).to
saved_beyond d true lo last x y v w = v
saved_beyond d false lo last x y v w = w

-- nothing happens on the way into a row, where nothing does on the way to what follows it
flush_plain : (hs : Handlers) (o : ℕ) (after : Target) → after.moves ≡ []
    → (flush_target hs o after).moves ≡ []
flush_plain no_handlers o after h = h
flush_plain (handler n t hs) o after h = refl

pub row_plain : (row : Row) (o : ℕ) (after : Target) → after.moves ≡ []
    → (row_target row o after).moves ≡ []
row_plain end o after h = h
row_plain (task t row) o after h = refl
row_plain (flush hs row) o after h = flush_plain hs o _ (row_plain row (o + handler_places hs) after h)
row_plain (section body hs row) o after h =
    let a = o + size body in
    row_plain body o _ (flush_plain hs a _ (row_plain row (a + handler_places hs + handler_places hs) after h))
row_plain (block d body saves rescued always row) o after h =
    let a = o + size body + size rescued in
    row_plain body o _ (row_plain always a _ (row_plain row (a + size always + size always) after h))
