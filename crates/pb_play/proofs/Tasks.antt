-- A task of a section, by what is read of it.
use Rattle.std.proofs.Common.{◌≡◌, ℕ, suc, Bool, true, false, not, ◌||◌, ◌&&◌, cond, Option, Some, None, option_map, Ok, Err, codes, bytes_eq, nat_lt, refl, ap, ◌∙◌}
use Rattle.pb_semantics.specs.Data.{Fields, no_fields, field}
use Rattle.pb_language.specs.Book.{Registry, TaskData, flush_step}
use Rattle.pb_language.specs.BookForm.{Before, Reading, is_flush, most_lines, or_code, refused_at, standing, task_before, task_in}
use Rattle.pb_language.specs.BookForm.{unless as unless_at}
use Rattle.pb_language.specs.Keywords.{Standing, as_handler}
use Rattle.pb_language.specs.TaskForm.{code_where, fits_work, fit_works, has_left_out, has_no_lone_work, has_unreadable, has_wrong_value, is_missing, is_past_limits, is_unknown, lone, loop_reads, reads_all, task_of, task_offence, work_found, works_in}
use Rattle.pb_language.specs.TaskForm as form
use Rattle.pb_semantics.specs.Data.{field_value}
use Rattle.pb_task.specs.Offences.{task_read, unless}
use Rattle.pb_play.specs.Parts.{step_with}

pub where-none : (b : Bool) (n : ℕ) (o : Option ℕ) → code_where b n o ≡ None → (b ≡ false) × (o ≡ None)
where-none true n o h = absurd (cc)
where-none false n o h = (refl, h)

pub or-false : (a b : Bool) → a || b ≡ false → (a ≡ false) × (b ≡ false)
or-false true b h = absurd (cc)
or-false false b h = (refl, h)

not-false : (b : Bool) → not b ≡ false → b ≡ true
not-false true h = refl
not-false false h = absurd (cc)

missing-map : {A B : Type 0} (f : A → B) (o : Option A) → is_missing (option_map f o) ≡ is_missing o
missing-map f None = refl
missing-map f (Some a) = refl

-- nothing is wrong with the task
wrong-none : (ms : Registry) (s : Standing) (fs : Fields) → task_offence ms s fs ≡ None → (has_wrong_value ms s fs ≡ false) × (has_unreadable ms s fs ≡ false)
wrong-none ms s fs h =
    let a = where-none (has_left_out s fs) 3 _ h in
    let b = where-none (has_wrong_value ms s fs) 4 _ a.1 in
    let c = where-none (has_no_lone_work s fs) 5 _ b.1 in
    let d = where-none (is_unknown ms (lone (works_in s fs))) 6 _ c.1 in
    let e = where-none (has_unreadable ms s fs) 7 _ d.1 in
    (b.0, e.0)

-- a task is read then
pub task-there : (ms : Registry) (s : Standing) (l : ℕ) (fs : Fields) → task_offence ms s fs ≡ None → is_missing (task_of ms s l fs) ≡ false
task-there ms s l fs h =
    let a = or-false (not (reads_all fs)) _ (wrong-none ms s fs h).1 in
    let b = or-false (not (loop_reads (field_value (codes "loop") fs))) (is_missing (work_found ms (lone (works_in s fs)))) a.1 in
    missing-map _ (work_found ms (lone (works_in s fs))) ∙ b.1

fits-lone : (ms : Registry) (fs ws : Fields) → fit_works ms as_handler fs ws ≡ true → is_flush (lone ws) ≡ false
fits-lone ms fs no_fields h = refl
fits-lone ms fs (field n d no_fields) h = at (bytes_eq n (codes "meta")) h where
  at : (q : Bool) → cond q (form.is_meta as_handler fs d) (cond (form.is_action n) (form.is_arguments None d) (cond (form.is_known_work ms n) (form.is_arguments (form.free_form (form.module_at n ms)) d) true)) && true ≡ true → q ≡ false
  at true h = absurd (cc)
  at false h = refl
fits-lone ms fs (field n d (field m e ws)) h = refl

-- no handler is a flush
pub no-flush : (ms : Registry) (fs : Fields) → task_offence ms as_handler fs ≡ None → is_flush (lone (works_in as_handler fs)) ≡ false
no-flush ms fs h =
    let a = or-false _ _ (wrong-none ms as_handler fs h).0 in
    let b = or-false _ _ a.1 in
    let c = or-false (not (fit_works ms as_handler fs (works_in as_handler fs))) _ b.1 in
    fits-lone ms fs (works_in as_handler fs) (not-false _ c.0)

-- ---- a step that is no block

abbrev step_told : ℕ → Option ℕ → Bool → Option TaskData → Reading Before
step_told l o f q = unless_at l o (Ok (cond f (flush_step l) (task_before q), suc l))

ok-by : (l : ℕ) (o : Option ℕ) (f : Bool) (q t : Option TaskData) → (o ≡ None → is_missing q ≡ false) → unless o (cond f None q) ≡ Ok t → step_told l (or_code o None) f q ≡ Ok (step_with l t, suc l)
ok-by l (Some n) f q t there h = absurd (cc)
ok-by l None true q t there h =
    let same : None ≡ t = cc in
    ap (λ x. Ok (step_with l x, suc l)) same
ok-by l None false None t there h = let no = there refl in absurd (cc)
ok-by l None false (Some w) t there h =
    let same : Some w ≡ t = cc in
    ap (λ x. Ok (step_with l x, suc l)) same

long-by : (l : ℕ) (o : Option ℕ) (f : Bool) (q t : Option TaskData) → unless o (cond f None q) ≡ Ok t → step_told l (or_code o (Some 8)) f q ≡ refused_at l 8
long-by l (Some n) f q t h = absurd (cc)
long-by l None f q t h = refl

err-by : (l n : ℕ) (o c : Option ℕ) (f : Bool) (q : Option TaskData) → unless o (cond f None q) ≡ Err n → step_told l (or_code o c) f q ≡ refused_at l n
err-by l n (Some m) c f q h = let same : m ≡ n = cc in ap (λ x. refused_at l x) same
err-by l n None c f q h = absurd (cc)

pub task-refused : (ms : Registry) (k l n : ℕ) (fs : Fields) → task_read ms (standing k) l fs ≡ Err n → task_in ms k l fs ≡ refused_at l n
task-refused ms k l n fs h = err-by l n (task_offence ms (standing k) fs) (code_where (nat_lt most_lines l) 8 None) (is_flush (lone (works_in (standing k) fs))) (task_of ms (standing k) l fs) h

pub task-long : (ms : Registry) (k l : ℕ) (fs : Fields) (t : Option TaskData) → task_read ms (standing k) l fs ≡ Ok t → nat_lt most_lines l ≡ true → task_in ms k l fs ≡ refused_at l 8
task-long ms k l fs t h long =
    ap (λ b. step_told l (or_code (task_offence ms (standing k) fs) (code_where b 8 None)) (is_flush (lone (works_in (standing k) fs))) (task_of ms (standing k) l fs)) long
    ∙ long-by l (task_offence ms (standing k) fs) (is_flush (lone (works_in (standing k) fs))) (task_of ms (standing k) l fs) t h

pub task-read : (ms : Registry) (k l : ℕ) (fs : Fields) (t : Option TaskData) → task_read ms (standing k) l fs ≡ Ok t → nat_lt most_lines l ≡ false → task_in ms k l fs ≡ Ok (step_with l t, suc l)
task-read ms k l fs t h short =
    ap (λ b. step_told l (or_code (task_offence ms (standing k) fs) (code_where b 8 None)) (is_flush (lone (works_in (standing k) fs))) (task_of ms (standing k) l fs)) short
    ∙ ok-by l (task_offence ms (standing k) fs) (is_flush (lone (works_in (standing k) fs))) (task_of ms (standing k) l fs) t (task-there ms (standing k) l fs) h
