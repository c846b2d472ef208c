-- The handlers of a play, as they are read one after the other, and the names of those before.
use Rattle.std.proofs.Common.{◌≡◌, ℕ, suc, Bool, true, false, ◌||◌, cond, Option, Some, None, Result, Ok, Err, List, [], ◌∷◌, ◌++◌, length, codes, bytes_eq, nat_le, nat_lt, refl, sym, ap, ◌∙◌, add-one}
use Rattle.std.proofs.lemmas.List.{length_push}
use Rattle.std.specs.List.{list_any}
use Rattle.pb_semantics.specs.Data.{Data, Fields, Items, field_value, rec, item}
use Rattle.pb_semantics.specs.Keeps.{is_among}
use Rattle.pb_language.specs.Book.{HandlerData, Registry, TaskData}
use Rattle.pb_language.specs.BookForm.{Offence, Reading, changed, handler_before, handlers_in, is_flush, is_second, most_handlers, most_lines, named_too, or_code, unless as unless_at}
use Rattle.pb_language.specs.Expression.{Name}
use Rattle.pb_language.specs.Keywords.{as_handler}
use Rattle.pb_language.specs.TaskForm.{code_where, is_missing, lone, task_of, task_offence, text_in, works_in}
use Rattle.pb_play.specs.Handlers.{at_line, handler_doing, handler_of, handler_read, handler_with, is_named, names_met, names_onto, work_read, work_told}
use Rattle.pb_task.specs.Offences.{task_read, unless}
use Rattle.pb_play.proofs.Tasks.{no-flush, task-there}

-- ---- the names

or-swap : (a b c : Bool) → (a || b) || c ≡ b || (a || c)
or-swap true true c = refl
or-swap true false c = refl
or-swap false b c = refl

among-onto : (n : Name) (ns : List Name) (hs : List HandlerData) → is_among n (names_onto ns hs) ≡ is_among n ns || list_any (is_named n) hs
among-onto n ns [] = at (is_among n ns) where
  at : (a : Bool) → a ≡ a || false
  at true = refl
  at false = refl
among-onto n ns (h ∷ hs) = among-onto n (named_too ns h.name) hs ∙ at h.name where
  at : (m : Option Name) → is_among n (named_too ns m) || list_any (is_named n) hs ≡ is_among n ns || (is_named n (record { work = h.work; name = m; topics = h.topics }) || list_any (is_named n) hs)
  at None = refl
  at (Some m) = or-swap (bytes_eq n m) (is_among n ns) (list_any (is_named n) hs)

-- some handler has the name
pub among-met : (n : Name) (hs : List HandlerData) → is_among n (names_met hs) ≡ list_any (is_named n) hs
among-met n hs = among-onto n [] hs

onto-push : (ns : List Name) (hs : List HandlerData) (h : HandlerData) → names_onto ns (hs ++ h ∷ []) ≡ named_too (names_onto ns hs) h.name
onto-push ns [] h = refl
onto-push ns (g ∷ hs) h = onto-push (named_too ns g.name) hs h

-- ---- one handler

abbrev told : ℕ → Option ℕ → Option TaskData → Bool → Bool → Bool → Fields → Reading (List HandlerData) → Reading (List HandlerData)
told l o q long many second fs rest =
    unless_at l (or_code (or_code o (code_where long 8 None)) (code_where many 8 (code_where second 9 None))) (changed (handler_before fs q) rest)

abbrev doing : ℕ → Option ℕ → Option TaskData → Bool → Bool → Bool → Fields → Result HandlerData Offence
doing l o q long many second fs = handler_doing l (code_where (long || many) 8 (code_where second 9 None)) fs (work_told l o q)

told-ok : (l : ℕ) (o : Option ℕ) (q : Option TaskData) (long many second : Bool) (fs : Fields) (rest : Reading (List HandlerData)) (h : HandlerData) → (o ≡ None → is_missing q ≡ false)
    → doing l o q long many second fs ≡ Ok h → told l o q long many second fs rest ≡ changed (λ hs. h ∷ hs) rest
told-ok l (Some n) q long many second fs rest h there e = absurd (cc)
told-ok l None None long many second fs rest h there e = absurd (cc)
told-ok l None (Some t) true many second fs rest h there e = absurd (cc)
told-ok l None (Some t) false true second fs rest h there e = absurd (cc)
told-ok l None (Some t) false false true fs rest h there e = absurd (cc)
told-ok l None (Some t) false false false fs rest h there e =
    let same : handler_with fs t ≡ h = cc in
    ap (λ (x : HandlerData). changed (λ hs. x ∷ hs) rest) same

told-err : (l : ℕ) (o : Option ℕ) (q : Option TaskData) (long many second : Bool) (fs : Fields) (rest : Reading (List HandlerData)) (e : Offence) → (o ≡ None → is_missing q ≡ false)
    → doing l o q long many second fs ≡ Err e → told l o q long many second fs rest ≡ Err e
told-err l (Some n) q long many second fs rest e there h = let same : ◌≡◌ {A = Offence} (record { line = l; code = n }) e = cc in ap (λ x. Err x) same
told-err l None None long many second fs rest e there h = let no = there refl in absurd (cc)
told-err l None (Some t) true many second fs rest e there h = let same : ◌≡◌ {A = Offence} (record { line = l; code = 8 }) e = cc in ap (λ x. Err x) same
told-err l None (Some t) false true second fs rest e there h = let same : ◌≡◌ {A = Offence} (record { line = l; code = 8 }) e = cc in ap (λ x. Err x) same
told-err l None (Some t) false false true fs rest e there h = let same : ◌≡◌ {A = Offence} (record { line = l; code = 9 }) e = cc in ap (λ x. Err x) same
told-err l None (Some t) false false false fs rest e there h = absurd (cc)

told-name : (l : ℕ) (o : Option ℕ) (q : Option TaskData) (long many second : Bool) (fs : Fields) (h : HandlerData) → doing l o q long many second fs ≡ Ok h → text_in (field_value (codes "name") fs) ≡ h.name
told-name l (Some n) q long many second fs h e = absurd (cc)
told-name l None None long many second fs h e = absurd (cc)
told-name l None (Some t) true many second fs h e = absurd (cc)
told-name l None (Some t) false true second fs h e = absurd (cc)
told-name l None (Some t) false false true fs h e = absurd (cc)
told-name l None (Some t) false false false fs h e =
    let same : handler_with fs t ≡ h = cc in
    ap (λ (x : HandlerData). x.name) same

-- ---- the handlers of a list

-- what is left behind these
abbrev pub behind_these : Registry → ℕ → List HandlerData → Items → Reading (List HandlerData)
behind_these ms l hs ds = handlers_in ms l (length hs) (names_met hs) ds

first-of : (ms : Registry) (l : ℕ) (hs : List HandlerData) (fs : Fields) (ds : Items) (h : HandlerData) → handler_of ms l hs fs ≡ Ok h → behind_these ms l hs (item (rec fs) ds) ≡ changed (λ xs. h ∷ xs) (behind_these ms (suc l) (hs ++ h ∷ []) ds)
first-of ms l hs fs ds h e =
    let o = task_offence ms as_handler fs in
    let q = task_of ms as_handler l fs in
    let long = nat_lt most_lines l in
    let many = nat_le most_handlers (length hs) in
    let second = is_second (names_met hs) (text_in (field_value (codes "name") fs)) in
    told-ok l o q long many second fs (handlers_in ms (suc l) (suc (length hs)) (named_too (names_met hs) (text_in (field_value (codes "name") fs))) ds) h (task-there ms as_handler l fs) e
    ∙ ap (λ n. changed (λ xs. h ∷ xs) (handlers_in ms (suc l) (suc (length hs)) (named_too (names_met hs) n) ds)) (told-name l o q long many second fs h e)
    ∙ ap (λ ns. changed (λ xs. h ∷ xs) (handlers_in ms (suc l) (suc (length hs)) ns ds)) (sym (onto-push [] hs h))
    ∙ ap (λ n. changed (λ xs. h ∷ xs) (handlers_in ms (suc l) n (names_met (hs ++ h ∷ [])) ds)) (sym (length_push hs h ∙ add-one (length hs)))

first-refused : (ms : Registry) (l : ℕ) (hs : List HandlerData) (fs : Fields) (ds : Items) (e : Offence) → handler_of ms l hs fs ≡ Err e → behind_these ms l hs (item (rec fs) ds) ≡ Err e
first-refused ms l hs fs ds e h =
    told-err l (task_offence ms as_handler fs) (task_of ms as_handler l fs) (nat_lt most_lines l) (nat_le most_handlers (length hs)) (is_second (names_met hs) (text_in (field_value (codes "name") fs))) fs
    (handlers_in ms (suc l) (suc (length hs)) (named_too (names_met hs) (text_in (field_value (codes "name") fs))) ds) e (task-there ms as_handler l fs) h

pub handler-first : (ms : Registry) (l : ℕ) (hs : List HandlerData) (d : Data) (ds : Items) (h : HandlerData) → handler_read ms l hs d ≡ Ok h → behind_these ms l hs (item d ds) ≡ changed (λ xs. h ∷ xs) (behind_these ms (suc l) (hs ++ h ∷ []) ds)
handler-first ms l hs (rec fs) ds h e = first-of ms l hs fs ds h e
handler-first ms l hs d ds h e = absurd (cc)

pub handler-refused : (ms : Registry) (l : ℕ) (hs : List HandlerData) (d : Data) (ds : Items) (e : Offence) → handler_read ms l hs d ≡ Err e → behind_these ms l hs (item d ds) ≡ Err e
handler-refused ms l hs (rec fs) ds e h = first-refused ms l hs fs ds e h
handler-refused ms l hs d ds e h =
    let same : ◌≡◌ {A = Offence} (record { line = l; code = 2 }) e = cc in
    ap (λ x. Err x) same

-- ---- the task that a handler does

work-ok : (l : ℕ) (o : Option ℕ) (q : Option TaskData) (t : TaskData) → unless o (cond false None q) ≡ Ok (Some t) → work_told l o q ≡ Ok t
work-ok l (Some n) q t h = absurd (cc)
work-ok l None None t h = absurd (cc)
work-ok l None (Some x) t h =
    let same : x ≡ t = cc in
    ap (λ y. Ok y) same

work-none : (l : ℕ) (o : Option ℕ) (q : Option TaskData) → (o ≡ None → is_missing q ≡ false) → (unless o (cond false None q) ≡ Ok None) → work_told l o q ≡ at_line l 4
work-none l (Some n) q there h = absurd (cc)
work-none l None None there h = refl
work-none l None (Some x) there h = absurd (cc)

pub work-refused : (ms : Registry) (l n : ℕ) (fs : Fields) → task_read ms as_handler l fs ≡ Err n → work_read ms l fs ≡ at_line l n
work-refused ms l n fs h = at (cond (is_flush (lone (works_in as_handler fs))) None (task_of ms as_handler l fs)) (task_offence ms as_handler fs) h where
  at : (q : Option TaskData) (o : Option ℕ) → unless o q ≡ Err n → work_told l o (task_of ms as_handler l fs) ≡ at_line l n
  at q None e = absurd (cc)
  at q (Some m) e = let same : m ≡ n = cc in ap (λ x. at_line l x) same

flushes : (ms : Registry) (l : ℕ) (fs : Fields) (t : Option TaskData) → task_read ms as_handler l fs ≡ Ok t → is_flush (lone (works_in as_handler fs)) ≡ false
flushes ms l fs t h = no-flush ms fs (at (cond (is_flush (lone (works_in as_handler fs))) None (task_of ms as_handler l fs)) (task_offence ms as_handler fs) h) where
  at : (q : Option TaskData) (o : Option ℕ) → unless o q ≡ Ok t → o ≡ None
  at q None e = refl
  at q (Some m) e = absurd (cc)

pub work-done : (ms : Registry) (l : ℕ) (fs : Fields) (t : TaskData) → task_read ms as_handler l fs ≡ Ok (Some t) → work_read ms l fs ≡ Ok t
work-done ms l fs t h = work-ok l (task_offence ms as_handler fs) (task_of ms as_handler l fs) t
    (ap (λ f. unless (task_offence ms as_handler fs) (cond f None (task_of ms as_handler l fs))) (sym (flushes ms l fs (Some t) h)) ∙ h)

pub work-missing : (ms : Registry) (l : ℕ) (fs : Fields) → task_read ms as_handler l fs ≡ Ok None → work_read ms l fs ≡ at_line l 4
work-missing ms l fs h = work-none l (task_offence ms as_handler fs) (task_of ms as_handler l fs) (task-there ms as_handler l fs)
    (ap (λ f. unless (task_offence ms as_handler fs) (cond f None (task_of ms as_handler l fs))) (sym (flushes ms l fs None h)) ∙ h)
