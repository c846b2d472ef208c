-- Results that are admitted one after the other.
use denote.Ref.{Bor}
use Rattle.std.proofs.Common.{◌≡◌, ◌≤◌, ℕ, suc, zero, ◌+◌, List, [], ◌∷◌, ◌++◌, map, take, drop, length, cond, Bool, true, false, Option, Some, None, option_map, refl, sym, ap, ◌∙◌, subst, append_assoc, arith}
use Rattle.pb_semantics.specs.Admission.{taken, admission}
use Rattle.pb_semantics.specs.Data.{Data, Fields, rec}
use Rattle.pb_semantics.specs.Kind.{ok_shape}
use Rattle.pb_semantics.specs.Signature.{ModuleData}
use Rattle.pb_language.specs.Give as language
use Rattle.pb_language.specs.Expression.{Parts}
use Rattle.pb_language.specs.Give.{admitted, breached, unreached, with_own, own_of, set_by_answer, admit_answer, admit_entry, admit_passes, object, unreachable, broken}
use Rattle.pb_language.specs.Start as started
use Rattle.pb_language.specs.Start.{acts, calls, skips}
use Rattle.pb_language.specs.Task.{Action, call_of}
use Rattle.pb_finish.specs.Answers.{IsFaultOf, answer_data, first_of, other_answers}
use Rattle.pb_finish.specs.Breaches.{IsFirstBreach}
use Rattle.pb_finish.specs.Facts.{fields_in}
use Rattle.pb_finish.specs.Results.{IsAdmitted, answers_after, is_call_entry, own_with, put_item, result_view}
use Rattle.pb_finish.specs.declared.admission.AdmittedItem.{AdmittedItem}
use Rattle.pb_finish.specs.declared.admission.AdmittedItem.TheVariants as items
use Rattle.pb_finish.specs.declared.admission.ItemResult.{ItemResult}
use Rattle.pb_finish.specs.declared.answer.Answer.{Answer}
use Rattle.pb_finish.specs.declared.answer.AnswerFault.{AnswerFault}

-- results before those that are admitted
abbrev pub after_owns : List language.Own → language.Admitted → language.Admitted
after_owns done (admitted os) = admitted (done ++ os)
after_owns done breached = breached
after_owns done unreached = unreached

pub owns-first : (a : language.Admitted) → after_owns [] a ≡ a
owns-first (admitted os) = refl
owns-first breached = refl
owns-first unreached = refl

pub owns-step : (done : List language.Own) (o : language.Own) (a : language.Admitted) → after_owns done (with_own o a) ≡ after_owns (done ++ o ∷ []) a
owns-step done o (admitted os) = ap admitted (sym (append_assoc done (o ∷ []) os))
owns-step done o breached = refl
owns-step done o unreached = refl

first_mapped : (xs : List Answer) → first_of (map answer_data xs) ≡ option_map answer_data (first_of xs)
first_mapped [] = refl
first_mapped (x ∷ xs) = refl

read_answer : (r : Option (Bor Answer)) → option_map answer_data (option_map (λ a. a.now) r) ≡ option_map (λ a. answer_data a.now) r
read_answer None = refl
read_answer (Some a) = refl

-- the next answer, where it is read
pub next-answer : (xs : List Answer) (r : Option (Bor Answer)) → option_map (λ a. a.now) r ≡ first_of xs → first_of (map answer_data xs) ≡ option_map (λ a. answer_data a.now) r
next-answer xs r is = first_mapped xs ∙ ap (option_map answer_data) (sym is) ∙ read_answer r

other-drop : (k : ℕ) (xs : List Answer) → other_answers (map answer_data (drop k xs)) ≡ map answer_data (drop (suc k) xs)
other-drop zero [] = refl
other-drop zero (x ∷ xs) = refl
other-drop (suc k) [] = refl
other-drop (suc k) (x ∷ xs) = other-drop k xs

-- the answers after those that were looked at
pub answers-left : (c : Bool) (k : ℕ) (xs : List Answer) → answers_after c (map answer_data (drop k xs)) ≡ map answer_data (drop (k + cond c 1 0) xs)
answers-left true k xs = other-drop k xs ∙ ap (λ n. map answer_data (drop n xs)) (let e : suc k ≡ k + 1 = omega arith in e)
answers-left false k xs = ap (λ n. map answer_data (drop n xs)) (let e : k ≡ k + 0 = omega arith in e)

pub cond-small : (c : Bool) → cond c 1 0 ≤ 1
cond-small true = omega arith
cond-small false = omega arith

-- an answer that isn't failed, which is a record or none
pub own-some : (o : Option Data) (m : ModuleData) (d : Data) (fs : Fields) (r : language.Admitted) → Some fs ≡ fields_in (Some d)
    → own_of o m (taken d) (λ own. with_own own r) ≡ with_own (own_with o ok_shape fs (set_by_answer m fs)) r
own-some o m (rec gs) fs r is = let same : fs ≡ gs = cc in rw same refl
own-some o m d fs r is = absurd (cc)

pub own-none : (o : Option Data) (m : ModuleData) (d : Data) (go : language.Own → language.Admitted) → None ≡ fields_in (Some d) → own_of o m (taken d) go ≡ breached
own-none o m (rec gs) go is = absurd (cc)
own-none o m d go is = refl

-- the answer of a call that can be read
pub object-admitted : (i : Option Data) (m : ModuleData) (ps : Parts) (d : Data) (go : List language.Answer → language.Admitted) (xs : List language.Answer) (k : AdmittedItem) → first_of xs ≡ Some (object d)
    → ((r : language.Admitted) → own_of i m (admission m.ok m.failure d) (λ own. with_own own r) ≡ put_item k r) → admit_answer i (call_of m ps) xs (λ own ys. with_own own (go ys)) ≡ put_item k (go (other_answers xs))
object-admitted i m ps d go [] k is h = absurd (cc)
object-admitted i m ps d go (object e ∷ xs) k is h = let same : e ≡ d = cc in rw same (h (go xs))
object-admitted i m ps d go (unreachable ∷ xs) k is h = absurd (cc)
object-admitted i m ps d go (broken ∷ xs) k is h = absurd (cc)

-- a pass and its answer, and then the others
pub pass-admitted : (a : Action) (done : List language.Own) (p : started.Pass) (ps : List started.Pass) (xs : List language.Answer) (o : Option language.Answer) (k : AdmittedItem) (whole : language.Admitted)
    → whole ≡ after_owns done (admit_passes a (p ∷ ps) xs) → first_of xs ≡ o → IsAdmitted k a p o → whole ≡ after_owns done (put_item k (admit_passes a ps (answers_after (is_call_entry p.entry) xs)))
pass-admitted a done p ps xs o k whole all is h = all ∙ ap (after_owns done) (h (admit_passes a ps) xs is)

-- results of which all answers before a place are looked at, whatever stands from there on
abbrev pub AreLooked : Action → List started.Pass → List Answer → ℕ → List language.Own → List started.Pass → Type 0
AreLooked a ps xs n done left = (ys : List language.Answer) → admit_passes a ps (map answer_data (take n xs) ++ ys) ≡ after_owns done (admit_passes a left ys)

-- what the next answer makes of an item, where it is this one
abbrev pub IsNext : AdmittedItem → Action → Option Data → started.Entry → Option Answer → Type 0
IsNext k a i e o = (go : List language.Answer → language.Admitted) (ys : List language.Answer) → first_of ys ≡ option_map answer_data o → admit_entry a i e go ys ≡ put_item k (go (answers_after (is_call_entry e) ys))

pub next-read : (k : AdmittedItem) (a : Action) (p : started.Pass) (xs : List Answer) (r : Option (Bor Answer)) → option_map (λ x. x.now) r ≡ first_of xs → IsAdmitted k a p (option_map (λ x. answer_data x.now) r) → IsNext k a p.item p.entry (first_of xs)
next-read k a p xs r is h go ys at = h go ys (at ∙ sym (first_mapped xs) ∙ next-answer xs r is)

taken-more : (n : ℕ) (xs more : List Answer) (x : Answer) (ys : List language.Answer) → drop n xs ≡ x ∷ more → map answer_data (take (suc n) xs) ++ ys ≡ map answer_data (take n xs) ++ answer_data x ∷ ys
taken-more zero [] more x ys is = absurd (cc)
taken-more zero (y ∷ xs) more x ys is = let same : y ≡ x = cc in ap (λ z. answer_data z ∷ ys) same
taken-more (suc n) [] more x ys is = absurd (cc)
taken-more (suc n) (y ∷ xs) more x ys is = ap (λ zs. answer_data y ∷ zs) (taken-more n xs more x ys is)

dropped-within : (n : ℕ) (xs more : List Answer) (x : Answer) → drop n xs ≡ x ∷ more → suc n ≤ length xs
dropped-within zero [] more x is = absurd (cc)
dropped-within zero (y ∷ xs) more x is = omega arith
dropped-within (suc n) [] more x is = absurd (cc)
dropped-within (suc n) (y ∷ xs) more x is = let within : suc n ≤ length xs = dropped-within n xs more x is in omega (arith, within)

module _ (a : Action) (ps left : List started.Pass) (xs : List Answer) (n : ℕ) (done : List language.Own) (r : ItemResult) where
  -- the answers before the next one are looked at
  abbrev AreNext : ℕ → Type 0
  AreNext m = (ys : List language.Answer) → admit_passes a ps (map answer_data (take m xs) ++ ys) ≡ after_owns (done ++ result_view r ∷ []) (admit_passes a left ys)

  abbrev Before : Option Data → started.Entry → Type 0
  Before i e = (ys : List language.Answer) → admit_passes a ps (map answer_data (take n xs) ++ ys) ≡ after_owns done (admit_entry a i e (admit_passes a left) ys)

  next-called : (i : Option Data) (d : Data) (zs : List Answer) → drop n xs ≡ zs → Before i (calls d) → IsNext (items.Result r) a i (calls d) (first_of zs) → (suc n ≤ length xs) × AreNext (suc n)
  next-called i d [] is all h = let none : breached ≡ admitted (result_view r ∷ []) = h (λ zs. admitted []) [] refl in absurd (cc)
  next-called i d (x ∷ more) is all h = (
    dropped-within n xs more x is,
    λ ys.
        ap (admit_passes a ps) (taken-more n xs more x ys is) ∙ all (answer_data x ∷ ys) ∙ ap (after_owns done) (h (admit_passes a left) (answer_data x ∷ ys) refl) ∙ owns-step done (result_view r) (admit_passes a left ys),
  )

  next-uncalled : (i : Option Data) (e : started.Entry) → Before i e → ((ys : List language.Answer) → admit_entry a i e (admit_passes a left) ys ≡ with_own (result_view r) (admit_passes a left ys)) → AreNext n
  next-uncalled i e all h ys = all ys ∙ ap (after_owns done) (h ys) ∙ owns-step done (result_view r) (admit_passes a left ys)

  pub next-entry : (i : Option Data) (e : started.Entry) → n ≤ length xs → Before i e → IsNext (items.Result r) a i e (first_of (drop n xs)) → (n + cond (is_call_entry e) 1 0 ≤ length xs) × AreNext (n + cond (is_call_entry e) 1 0)
  next-entry i skips within all h =
      let same : n ≡ n + 0 = omega arith in
      subst (λ (m : ℕ). (m ≤ length xs) × AreNext m) same (within, next-uncalled i skips all (λ ys. h (λ zs. admit_passes a left ys) (map answer_data (drop n xs)) (first_mapped (drop n xs))))
  next-entry i (acts sh fs gs) within all h =
      let same : n ≡ n + 0 = omega arith in
      subst (λ (m : ℕ). (m ≤ length xs) × AreNext m) same (within, next-uncalled i (acts sh fs gs) all (λ ys. h (λ zs. admit_passes a left ys) (map answer_data (drop n xs)) (first_mapped (drop n xs))))
  next-entry i (calls d) within all h =
      let same : suc n ≡ n + 1 = omega arith in
      subst (λ (m : ℕ). (m ≤ length xs) × AreNext m) same (next-called i d (drop n xs) refl all h)

-- a breach is that of a call
breach-called : (a : Action) (i : Option Data) (e : started.Entry) (q : AnswerFault) (zs : List Answer) → IsNext (items.Breached q) a i e (first_of zs) → is_call_entry e ≡ true
breach-called a i skips q zs h = let none : with_own (language.skipped_own i) (admitted []) ≡ breached = h (λ ys. admitted []) (map answer_data zs) (first_mapped zs) in absurd (cc)
breach-called a i (acts sh fs gs) q zs h = let none : with_own (language.acted i sh fs gs) (admitted []) ≡ breached = h (λ ys. admitted []) (map answer_data zs) (first_mapped zs) in absurd (cc)
breach-called a i (calls d) q zs h = refl

never-reached : (a : Action) (i : Option Data) (e : started.Entry) (go : List language.Answer → language.Admitted) (ys : List language.Answer) → is_call_entry e ≡ true → admit_entry a i e go (unreachable ∷ ys) ≡ unreached
never-reached a i skips go ys is = absurd (cc)
never-reached a i (acts sh fs gs) go ys is = absurd (cc)
never-reached (call_of m ps) i (calls d) go ys is = refl
never-reached a i (calls d) go ys is = refl

-- the first breach
pub first-breach : (a : Action) (ps left : List started.Pass) (p : started.Pass) (xs : List Answer) (n : ℕ) (done : List language.Own) (q : AnswerFault)
    → n ≤ length xs → AreLooked a ps xs n done (p ∷ left) → IsNext (items.Breached q) a p.item p.entry (first_of (drop n xs)) → IsFaultOf q (first_of (drop n xs)) → IsFirstBreach a ps xs (record { call = n; fault = q })
first-breach a ps left p xs n done q within all h fault = record {
  fault = fault;
  within = within;
  asked = λ ys. all (unreachable ∷ ys) ∙ ap (after_owns done) (never-reached a p.item p.entry (admit_passes a left) ys (breach-called a p.item p.entry q (drop n xs) h));
  refused = λ x ys is. all (answer_data x ∷ ys) ∙ ap (after_owns done) (h (admit_passes a left) (answer_data x ∷ ys) (ap (option_map answer_data) (sym is)));
}
