-- What a task is read to, by its form, its texts and its limits.
use Rattle.std.proofs.Common.{◌≡◌, ◌⊎◌, inl, inr, ℕ, Bool, true, false, not, ◌&&◌, ◌||◌, cond, [], ◌∷◌, bytes_eq, codes, Option, Some, None, Ok, Err, is_some, option_map, unwrap_or, refl, sym, ap, subst, ◌∙◌}
use Rattle.std.specs.List.{list_all}
use Rattle.std.proofs.lemmas.Slice.Eq.{bytes_eq-Decides}
use Rattle.pb_semantics.specs.Data.{Data, Fields, null, boolean, int, text, list, rec, opaque, no_fields, field, field_value}
use Rattle.pb_semantics.specs.Keeps.{is_among}
use Rattle.pb_semantics.specs.Signature.{ModuleData}
use Rattle.pb_semantics.proofs.Bools.{and-left, neither-left, neither-right}
use Rattle.pb_language.specs.Book.{Registry, TaskData, Work, debug_work, fail_work, module_work, set_fact_work}
use Rattle.pb_language.specs.BookForm as book
use Rattle.pb_language.specs.Expression.{Name, Expression, Expressions, no_expressions, Parts, no_parts}
use Rattle.pb_language.specs.Keywords.{Standing, at_top, in_block, as_handler, keywords_of}
use Rattle.pb_language.specs.Nesting.{some_field_holds}
use Rattle.pb_language.specs.TaskForm.{arguments_in, assertion, boolean_in, code_where, conditions_found, conditions_given, fit_keywords, fit_works, fits_until, fits_work, free_form, has_left_out, has_no_lone_work, has_unreadable, has_wrong_value, is_action, is_arguments, is_flush, is_known_work, is_meta, is_missing, is_past_limits, is_unknown, keys_of, lone, loop_in, loop_reads, module_at, task_of, task_offence, text_in, topics_in, vars_found, work_found, work_of, works_in}
use Rattle.pb_language.specs.Texts.{conditions_in, is_opaque, value_of}
use Rattle.pb_task.specs.Clauses.{Texts, attempts_with, clauses_of, conditions_at, loop_at, task_doing, task_of_texts, task_with, texts_from, texts_in}
use Rattle.pb_task.specs.Doings.{Doing, assert_that, debug, doing_in, fail, flush, module_of, set_fact, work_doing}
use Rattle.pb_task.specs.Offences.{form_offence, task_read, unless}

not-false : (a : Bool) → not a ≡ false → a ≡ true
not-false true h = refl
not-false false h = absurd (cc)

-- the codes of a form come first
codes-form : (a b c e : Bool) (later : Option ℕ) (n : ℕ) → code_where a 3 (code_where b 4 (code_where c 5 (code_where e 6 None))) ≡ Some n
    → code_where a 3 (code_where b 4 (code_where c 5 (code_where e 6 later))) ≡ Some n
codes-form true b c e later n h = h
codes-form false true c e later n h = h
codes-form false false true e later n h = h
codes-form false false false true later n h = h
codes-form false false false false later n h = absurd (cc)

codes-later : (a b c e : Bool) (later : Option ℕ) → code_where a 3 (code_where b 4 (code_where c 5 (code_where e 6 None))) ≡ None
    → code_where a 3 (code_where b 4 (code_where c 5 (code_where e 6 later))) ≡ later
codes-later true b c e later h = absurd (cc)
codes-later false true c e later h = absurd (cc)
codes-later false false true e later h = absurd (cc)
codes-later false false false true later h = absurd (cc)
codes-later false false false false later h = refl

codes-none : (a b c e : Bool) → code_where a 3 (code_where b 4 (code_where c 5 (code_where e 6 None))) ≡ None → (b ≡ false) × (c ≡ false) × (e ≡ false)
codes-none true b c e h = absurd (cc)
codes-none false true c e h = absurd (cc)
codes-none false false true e h = absurd (cc)
codes-none false false false true h = absurd (cc)
codes-none false false false false h = (refl, refl, refl)

form-parts : (ms : Registry) (s : Standing) (fs : Fields) → form_offence ms s fs ≡ None → (has_wrong_value ms s fs ≡ false) × (has_no_lone_work s fs ≡ false) × (is_unknown ms (lone (works_in s fs)) ≡ false)
form-parts ms s fs h = codes-none (has_left_out s fs) (has_wrong_value ms s fs) (has_no_lone_work s fs) (is_unknown ms (lone (works_in s fs))) h

offence-later : (ms : Registry) (s : Standing) (fs : Fields) → form_offence ms s fs ≡ None → task_offence ms s fs ≡ code_where (has_unreadable ms s fs) 7 (code_where (is_past_limits s fs) 8 None)
offence-later ms s fs h = codes-later (has_left_out s fs) (has_wrong_value ms s fs) (has_no_lone_work s fs) (is_unknown ms (lone (works_in s fs))) (code_where (has_unreadable ms s fs) 7 (code_where (is_past_limits s fs) 8 None)) h

pub refused-form : (ms : Registry) (s : Standing) (l : ℕ) (fs : Fields) (n : ℕ) → form_offence ms s fs ≡ Some n → task_read ms s l fs ≡ Err n
refused-form ms s l fs n h =
    ap (λ o. unless o (cond (book.is_flush (lone (works_in s fs))) None (task_of ms s l fs)))
    (codes-form (has_left_out s fs) (has_wrong_value ms s fs) (has_no_lone_work s fs) (is_unknown ms (lone (works_in s fs))) (code_where (has_unreadable ms s fs) 7 (code_where (is_past_limits s fs) 8 None)) n h)

pub lone-there : (ms : Registry) (s : Standing) (fs : Fields) → form_offence ms s fs ≡ None → lone (works_in s fs) ≡ None → ⊥
lone-there ms s fs h g =
    let here : has_no_lone_work s fs ≡ false = (form-parts ms s fs h).1 in
    let gone : has_no_lone_work s fs ≡ true = ap (λ (o : Option (Name × Data)). is_missing o) g in
    absurd (cc)

-- a name is known where it stands for something
pub known-doing : (ms : Registry) (n : Name) → is_known_work ms n ≡ is_some (doing_in ms n)
known-doing ms n = at (bytes_eq n (codes "debug")) (bytes_eq n (codes "set_fact")) (bytes_eq n (codes "assert")) (bytes_eq n (codes "fail")) (bytes_eq n (codes "meta")) (module_at n ms) where
  at : (a b c e f : Bool) (o : Option ModuleData) → ((a || (b || (c || (e || false)))) || (f || not (is_missing o))) ≡ is_some (cond a (Some debug) (cond b (Some set_fact) (cond e (Some fail) (cond c (Some assert_that) (cond f (Some flush) (option_map module_of o))))))
  at true b c e f o = refl
  at false true c e f o = refl
  at false false true true f o = refl
  at false false true false f o = refl
  at false false false true f o = refl
  at false false false false true o = refl
  at false false false false false None = refl
  at false false false false false (Some m) = refl

pub known-there : (ms : Registry) (s : Standing) (fs : Fields) (n : Name) (d : Data) → form_offence ms s fs ≡ None → lone (works_in s fs) ≡ Some (n, d) → doing_in ms n ≡ None → ⊥
known-there ms s fs n d h g k =
    let seen : not (is_known_work ms n) ≡ false = sym (ap (is_unknown ms) g) ∙ (form-parts ms s fs h).2 in
    let missing : is_known_work ms n ≡ false = known-doing ms n ∙ ap (λ (o : Option Doing). is_some o) k in
    absurd (cc)

-- the module that a name finds has that name
module-name : (n : Name) (ms : Registry) (m : ModuleData) → module_at n ms ≡ Some m → m.name ≡ n
module-name n [] m e = absurd (cc)
module-name n (k ∷ ms) m e = at (bytes_eq k.name n) (bytes_eq-Decides k.name n).0 (module-name n ms m) e where
  at : (b : Bool) → (b ≡ true → k.name ≡ n) → (module_at n ms ≡ Some m → m.name ≡ n) → cond b (Some k) (module_at n ms) ≡ Some m → m.name ≡ n
  at true here there h =
      let same : k ≡ m = cc in
      ap (λ (x : ModuleData). x.name) (sym same) ∙ here refl
  at false here there h = there h

-- what a name does, against what the entry of that name asks for
abbrev Agree : Option (Option Work) → Option Work → Bool → Type 0
Agree given asked flushes = ((given ≡ Some None) × (flushes ≡ true)) ⊎ ((flushes ≡ false) × (given ≡ option_map (λ w. Some w) asked))

agree-by : (n : Name) (d : Data) (w : Doing) (a b c e f : Bool) (o : Option ModuleData) → (a ≡ true → f ≡ false) → (b ≡ true → f ≡ false) → (c ≡ true → f ≡ false) → (e ≡ true → f ≡ false)
    → ((m : ModuleData) → o ≡ Some m → m.name ≡ n)
    → cond a (Some debug) (cond b (Some set_fact) (cond c (Some fail) (cond e (Some assert_that) (cond f (Some flush) (option_map module_of o))))) ≡ Some w
    → Agree (work_doing w d) (cond a (option_map debug_work (arguments_in None d)) (cond b (option_map set_fact_work (arguments_in None d)) (cond c (option_map fail_work (arguments_in None d))
    (cond e (assertion d) (option_map (module_work n) (arguments_in (free_form o) d)))))) f
agree-by n d w true b c e f o pa pb pc pe named h = let same : debug ≡ w = cc in inr (pa refl, ap (λ x. work_doing x d) (sym same))
agree-by n d w false true c e f o pa pb pc pe named h = let same : set_fact ≡ w = cc in inr (pb refl, ap (λ x. work_doing x d) (sym same))
agree-by n d w false false true e f o pa pb pc pe named h = let same : fail ≡ w = cc in inr (pc refl, ap (λ x. work_doing x d) (sym same))
agree-by n d w false false false true f o pa pb pc pe named h = let same : assert_that ≡ w = cc in inr (pe refl, ap (λ x. work_doing x d) (sym same))
agree-by n d w false false false false true o pa pb pc pe named h = let same : flush ≡ w = cc in inl (ap (λ x. work_doing x d) (sym same), refl)
agree-by n d w false false false false false None pa pb pc pe named h = absurd (cc)
agree-by n d w false false false false false (Some m) pa pb pc pe named h =
    let same : module_of m ≡ w = cc in
    inr (refl, ap (λ x. work_doing x d) (sym same) ∙ ap (λ k. option_map (λ w. Some w) (option_map (module_work k) (arguments_in m.free d))) (named m refl))

agree : (ms : Registry) (n : Name) (d : Data) (w : Doing) → doing_in ms n ≡ Some w → Agree (work_doing w d) (work_of ms n d) (bytes_eq n (codes "meta"))
agree ms n d w h = agree-by n d w (bytes_eq n (codes "debug")) (bytes_eq n (codes "set_fact")) (bytes_eq n (codes "fail")) (bytes_eq n (codes "assert")) (bytes_eq n (codes "meta")) (module_at n ms)
    (λ e. ap (λ x. bytes_eq x (codes "meta")) ((bytes_eq-Decides n (codes "debug")).0 e))
    (λ e. ap (λ x. bytes_eq x (codes "meta")) ((bytes_eq-Decides n (codes "set_fact")).0 e))
    (λ e. ap (λ x. bytes_eq x (codes "meta")) ((bytes_eq-Decides n (codes "fail")).0 e))
    (λ e. ap (λ x. bytes_eq x (codes "meta")) ((bytes_eq-Decides n (codes "assert")).0 e))
    (module-name n ms) h

-- a flush has its text, and it reads
flush-text : (s : Standing) (d : Data) → is_flush s d ≡ true → d ≡ text (codes "flush_handlers")
flush-text at_top null h = absurd (cc)
flush-text at_top (boolean b) h = absurd (cc)
flush-text at_top (int i) h = absurd (cc)
flush-text at_top (text bs) h = ap text ((bytes_eq-Decides bs (codes "flush_handlers")).0 h)
flush-text at_top (list ds) h = absurd (cc)
flush-text at_top (rec fs) h = absurd (cc)
flush-text at_top opaque h = absurd (cc)
flush-text in_block d h = absurd (cc)
flush-text as_handler d h = absurd (cc)

flush-reads : (free : Option Name) → is_missing (option_map (module_work (codes "meta")) (arguments_in free (text (codes "flush_handlers")))) ≡ false
flush-reads None = refl
flush-reads (Some k) = refl

lone-works : (fs : Fields) (n : Name) (d : Data) → lone fs ≡ Some (n, d) → fs ≡ field n d no_fields
lone-works no_fields n d h = absurd (cc)
lone-works (field m e no_fields) n d h =
    let same : ◌≡◌ {A = Name × Data} (m, e) (n, d) = cc in
    ap (λ (x : Name × Data). field x.0 x.1 no_fields) same
lone-works (field m e (field k f fs)) n d h = absurd (cc)

flush-there : (ms : Registry) (s : Standing) (fs : Fields) (n : Name) (d : Data) → form_offence ms s fs ≡ None → lone (works_in s fs) ≡ Some (n, d) → bytes_eq n (codes "meta") ≡ true → is_missing (work_of ms n d) ≡ false
flush-there ms s fs n d h g meta =
    let right : fit_works ms s fs (works_in s fs) ≡ true = not-false (fit_works ms s fs (works_in s fs))
    (neither-left (not (fit_works ms s fs (works_in s fs))) (not (fits_until s fs))
    (neither-right (not (fit_keywords s fs)) (not (fit_works ms s fs (works_in s fs)) || not (fits_until s fs))
    (neither-right (some_field_holds is_opaque fs) (not (fit_keywords s fs) || (not (fit_works ms s fs (works_in s fs)) || not (fits_until s fs))) (form-parts ms s fs h).0))) in
    let one : fit_works ms s fs (field n d no_fields) ≡ true = ap (fit_works ms s fs) (sym (lone-works (works_in s fs) n d g)) ∙ right in
    let fit : fits_work ms s fs n d ≡ true = and-left (fits_work ms s fs n d) true one in
    let form : is_meta s fs d ≡ true = first (bytes_eq n (codes "meta")) (is_meta s fs d) (cond (is_action n) (is_arguments None d) (cond (is_known_work ms n) (is_arguments (free_form (module_at n ms)) d) true)) meta fit in
    let said : d ≡ text (codes "flush_handlers") = flush-text s d (and-left (is_flush s d) (list_all (λ n. bytes_eq n (codes "name") || not (is_among n (keywords_of s))) (keys_of fs)) form) in
    ap (λ x. is_missing (work_of ms x d)) ((bytes_eq-Decides n (codes "meta")).0 meta) ∙ ap (λ x. is_missing (work_of ms (codes "meta") x)) said ∙ flush-reads (free_form (module_at (codes "meta") ms))
  where
    first : (b x y : Bool) → b ≡ true → cond b x y ≡ true → x ≡ true
    first true x y e f = f
    first false x y e f = absurd (cc)

-- the conditions and the loop by what is at their places
abbrev found : Option (Option Expressions) → Option Expressions
found o = option_map (λ x. unwrap_or x no_expressions) o

abbrev given : {A : Type 0} → Option (Option A) → Option A
given None = None
given (Some x) = x

found-at : (o : Option Data) → conditions_found o ≡ found (conditions_at o)
found-at None = refl
found-at (Some d) = at (conditions_in d) where
  at : (q : Option Expressions) → q ≡ found (option_map (λ es. Some es) q)
  at None = refl
  at (Some es) = refl

given-at : (o : Option Data) → conditions_given o ≡ given (conditions_at o)
given-at None = refl
given-at (Some d) = at (conditions_in d) where
  at : (q : Option Expressions) → q ≡ given (option_map (λ es. Some es) q)
  at None = refl
  at (Some es) = refl

reads-at : (o : Option Data) → loop_reads o ≡ not (is_missing (loop_at o))
reads-at None = refl
reads-at (Some d) = at (value_of d) where
  at : (q : Option Expression) → not (is_missing q) ≡ not (is_missing (option_map (λ e. Some e) q))
  at None = refl
  at (Some e) = refl

loop-at : (o : Option Data) → loop_in o ≡ given (loop_at o)
loop-at None = refl
loop-at (Some d) = at (value_of d) where
  at : (q : Option Expression) → q ≡ given (option_map (λ e. Some e) q)
  at None = refl
  at (Some e) = refl

abbrev unreadable : Option (Option Expressions) → Option (Option Expressions) → Option (Option Expressions) → Option (Option Expressions) → Option Parts → Option (Option Expression) → Bool → Bool
unreadable w c f u v e m = not (not (is_missing (found w)) && (not (is_missing (found c)) && (not (is_missing (found f)) && (not (is_missing (found u)) && not (is_missing v)))))
    || (not (not (is_missing e)) || m)

unreadable-none : (w c f u : Option (Option Expressions)) (v : Option Parts) (e : Option (Option Expression)) (m : Bool) → texts_from (clauses_of w c f u) v e ≡ None → unreadable w c f u v e m ≡ true
unreadable-none None c f u v e m h = refl
unreadable-none (Some w) None f u v e m h = refl
unreadable-none (Some w) (Some c) None u v e m h = refl
unreadable-none (Some w) (Some c) (Some f) None v e m h = refl
unreadable-none (Some w) (Some c) (Some f) (Some u) None e m h = refl
unreadable-none (Some w) (Some c) (Some f) (Some u) (Some v) None m h = refl
unreadable-none (Some w) (Some c) (Some f) (Some u) (Some v) (Some e) m h = absurd (cc)

unreadable-some : (w c f u : Option (Option Expressions)) (v : Option Parts) (e : Option (Option Expression)) (m : Bool) (t : Texts) → texts_from (clauses_of w c f u) v e ≡ Some t → unreadable w c f u v e m ≡ m
unreadable-some None c f u v e m t h = absurd (cc)
unreadable-some (Some w) None f u v e m t h = absurd (cc)
unreadable-some (Some w) (Some c) None u v e m t h = absurd (cc)
unreadable-some (Some w) (Some c) (Some f) None v e m t h = absurd (cc)
unreadable-some (Some w) (Some c) (Some f) (Some u) None e m t h = absurd (cc)
unreadable-some (Some w) (Some c) (Some f) (Some u) (Some v) None m t h = absurd (cc)
unreadable-some (Some w) (Some c) (Some f) (Some u) (Some v) (Some e) m t h = refl

unreadable-at : (a b c u : Option Data) (v : Option Parts) (e : Option Data) (m : Bool)
    → (not (not (is_missing (conditions_found a)) && (not (is_missing (conditions_found b)) && (not (is_missing (conditions_found c)) && (not (is_missing (conditions_found u)) && not (is_missing v))))) || (not (loop_reads e) || m))
    ≡ unreadable (conditions_at a) (conditions_at b) (conditions_at c) (conditions_at u) v (loop_at e) m
unreadable-at a b c u v e m = rw (found-at a, found-at b, found-at c, found-at u, reads-at e) refl

unread : (ms : Registry) (s : Standing) (fs : Fields) → has_unreadable ms s fs ≡ unreadable (conditions_at (field_value (codes "when") fs)) (conditions_at (field_value (codes "changed_when") fs)) (conditions_at (field_value (codes "failed_when") fs))
    (conditions_at (field_value (codes "until") fs)) (vars_found (field_value (codes "vars") fs)) (loop_at (field_value (codes "loop") fs)) (is_missing (work_found ms (lone (works_in s fs))))
unread ms s fs = unreadable-at (field_value (codes "when") fs) (field_value (codes "changed_when") fs) (field_value (codes "failed_when") fs) (field_value (codes "until") fs)
    (vars_found (field_value (codes "vars") fs)) (field_value (codes "loop") fs) (is_missing (work_found ms (lone (works_in s fs))))

unread-none : (ms : Registry) (s : Standing) (fs : Fields) → texts_in fs ≡ None → has_unreadable ms s fs ≡ true
unread-none ms s fs h = unread ms s fs ∙ unreadable-none (conditions_at (field_value (codes "when") fs)) (conditions_at (field_value (codes "changed_when") fs)) (conditions_at (field_value (codes "failed_when") fs))
    (conditions_at (field_value (codes "until") fs)) (vars_found (field_value (codes "vars") fs)) (loop_at (field_value (codes "loop") fs)) (is_missing (work_found ms (lone (works_in s fs)))) h

unread-some : (ms : Registry) (s : Standing) (fs : Fields) (t : Texts) → texts_in fs ≡ Some t → has_unreadable ms s fs ≡ is_missing (work_found ms (lone (works_in s fs)))
unread-some ms s fs t h = unread ms s fs ∙ unreadable-some (conditions_at (field_value (codes "when") fs)) (conditions_at (field_value (codes "changed_when") fs)) (conditions_at (field_value (codes "failed_when") fs))
    (conditions_at (field_value (codes "until") fs)) (vars_found (field_value (codes "vars") fs)) (loop_at (field_value (codes "loop") fs)) (is_missing (work_found ms (lone (works_in s fs)))) t h

-- the task by what its texts are
abbrev task_by : ℕ → Fields → Expressions → Option Expression → Parts → Option Expressions → Option Expressions → Option Expressions → Option Work → Option TaskData
task_by l fs when loop vars changed failed until k = option_map (λ w. record {
  line = l;
  work = w;
  condition = when;
  loop = loop;
  register = text_in (field_value (codes "register") fs);
  vars = vars;
  notify = topics_in (field_value (codes "notify") fs);
  changed_when = changed;
  failed_when = failed;
  attempts = attempts_with until (field_value (codes "retries") fs);
  ignore_errors = boolean_in (field_value (codes "ignore_errors") fs);
}) k

built : (l : ℕ) (fs : Fields) (w c f u : Option (Option Expressions)) (v : Option Parts) (e : Option (Option Expression)) (t : Texts) (k : Option Work) → texts_from (clauses_of w c f u) v e ≡ Some t
    → task_by l fs (unwrap_or (found w) no_expressions) (given e) (unwrap_or v no_parts) (given c) (given f) (given u) k ≡ option_map (task_with l fs t) k
built l fs None c f u v e t k h = absurd (cc)
built l fs (Some w) None f u v e t k h = absurd (cc)
built l fs (Some w) (Some c) None u v e t k h = absurd (cc)
built l fs (Some w) (Some c) (Some f) None v e t k h = absurd (cc)
built l fs (Some w) (Some c) (Some f) (Some u) None e t k h = absurd (cc)
built l fs (Some w) (Some c) (Some f) (Some u) (Some v) None t k h = absurd (cc)
built l fs (Some w) (Some c) (Some f) (Some u) (Some v) (Some e) t k h =
    let same : ◌≡◌ {A = Texts} (record { clauses = record { when = w; changed_when = c; failed_when = f; until = u }; vars = v; loop = e }) t = cc in
    ap (λ (x : Texts). option_map (task_with l fs x) k) same

built-at : (l : ℕ) (fs : Fields) (a b c u : Option Data) (v : Option Parts) (e : Option Data) (k : Option Work)
    → task_by l fs (unwrap_or (conditions_found a) no_expressions) (loop_in e) (unwrap_or v no_parts) (conditions_given b) (conditions_given c) (conditions_given u) k
    ≡ task_by l fs (unwrap_or (found (conditions_at a)) no_expressions) (given (loop_at e)) (unwrap_or v no_parts) (given (conditions_at b)) (given (conditions_at c)) (given (conditions_at u)) k
built-at l fs a b c u v e k = rw (found-at a, given-at b, given-at c, given-at u, loop-at e) refl

task-built : (ms : Registry) (s : Standing) (l : ℕ) (fs : Fields) (t : Texts) → texts_in fs ≡ Some t → task_of ms s l fs ≡ option_map (task_with l fs t) (work_found ms (lone (works_in s fs)))
task-built ms s l fs t h =
    built-at l fs (field_value (codes "when") fs) (field_value (codes "changed_when") fs) (field_value (codes "failed_when") fs) (field_value (codes "until") fs)
    (vars_found (field_value (codes "vars") fs)) (field_value (codes "loop") fs) (work_found ms (lone (works_in s fs)))
    ∙ built l fs (conditions_at (field_value (codes "when") fs)) (conditions_at (field_value (codes "changed_when") fs)) (conditions_at (field_value (codes "failed_when") fs)) (conditions_at (field_value (codes "until") fs))
    (vars_found (field_value (codes "vars") fs)) (loop_at (field_value (codes "loop") fs)) t (work_found ms (lone (works_in s fs))) h

-- what is missing where nothing is done, and what is there where something is
none-of : (l : ℕ) (fs : Fields) (ts : Option Texts) (k : Option (Option Work)) → task_of_texts l fs ts k ≡ None → (ts ≡ None) ⊎ ((t : Texts) × (ts ≡ Some t) × (k ≡ None))
none-of l fs None k h = inl refl
none-of l fs (Some t) None h = inr (t, refl, refl)
none-of l fs (Some t) (Some w) h = absurd (cc)

some-of : (l : ℕ) (fs : Fields) (ts : Option Texts) (k : Option (Option Work)) (r : Option TaskData) → task_of_texts l fs ts k ≡ Some r
    → (t : Texts) × (w : Option Work) × (ts ≡ Some t) × (k ≡ Some w) × (option_map (task_with l fs t) w ≡ r)
some-of l fs None k r h = absurd (cc)
some-of l fs (Some t) None r h = absurd (cc)
some-of l fs (Some t) (Some w) r h = (t, w, refl, refl, (cc))

agree-none : (k : Option (Option Work)) (o : Option Work) (b : Bool) → Agree k o b → k ≡ None → is_missing o ≡ true
agree-none k o b (inl p) h = let has = p.0 in absurd (cc)
agree-none k None b (inr p) h = refl
agree-none k (Some w) b (inr p) h = let has = p.1 in absurd (cc)

agree-some : (k : Option (Option Work)) (o : Option Work) (b : Bool) (w : Option Work) → (b ≡ true → is_missing o ≡ false) → Agree k o b → k ≡ Some w → is_missing o ≡ false
agree-some k o b w there (inl p) h = there p.1
agree-some k None b w there (inr p) h = let has = p.1 in absurd (cc)
agree-some k (Some x) b w there (inr p) h = refl

agree-task : (k : Option (Option Work)) (o : Option Work) (b : Bool) (w : Option Work) (f : Work → TaskData) → Agree k o b → k ≡ Some w → cond b None (option_map f o) ≡ option_map f w
agree-task k o b w f (inl p) h =
    let same : ◌≡◌ {A = Option (Option Work)} (Some None) (Some w) = sym p.0 ∙ h in
    let none : None ≡ w = cc in
    ap (λ x. cond x None (option_map f o)) p.1 ∙ ap (option_map f) none
agree-task k None b w f (inr p) h = let has = p.1 in absurd (cc)
agree-task k (Some x) b w f (inr p) h =
    let same : ◌≡◌ {A = Option (Option Work)} (Some (Some x)) (Some w) = sym p.1 ∙ h in
    let there : Some x ≡ w = cc in
    ap (λ q. cond q None (Some (f x))) p.0 ∙ ap (option_map f) there

agree-found : (ms : Registry) (s : Standing) (fs : Fields) (n : Name) (d : Data) (w : Doing) → lone (works_in s fs) ≡ Some (n, d) → doing_in ms n ≡ Some w
    → Agree (work_doing w d) (work_found ms (lone (works_in s fs))) (book.is_flush (lone (works_in s fs)))
agree-found ms s fs n d w g k = subst (λ (o : Option (Name × Data)). Agree (work_doing w d) (work_found ms o) (book.is_flush o)) (sym g) (agree ms n d w k)

flush-found : (ms : Registry) (s : Standing) (fs : Fields) (n : Name) (d : Data) → form_offence ms s fs ≡ None → lone (works_in s fs) ≡ Some (n, d)
    → book.is_flush (lone (works_in s fs)) ≡ true → is_missing (work_found ms (lone (works_in s fs))) ≡ false
flush-found ms s fs n d h g meta = ap (λ (o : Option (Name × Data)). is_missing (work_found ms o)) g ∙ flush-there ms s fs n d h g (ap (λ (o : Option (Name × Data)). book.is_flush o) (sym g) ∙ meta)

-- what is read where the form is right, by whether the texts are read and are in their limits
read-by : (ms : Registry) (s : Standing) (l : ℕ) (fs : Fields) (a b : Bool) → form_offence ms s fs ≡ None → has_unreadable ms s fs ≡ a → is_past_limits s fs ≡ b
    → task_read ms s l fs ≡ unless (code_where a 7 (code_where b 8 None)) (cond (book.is_flush (lone (works_in s fs))) None (task_of ms s l fs))
read-by ms s l fs a b h x y =
    ap (λ o. unless o (cond (book.is_flush (lone (works_in s fs))) None (task_of ms s l fs)))
    (offence-later ms s fs h ∙ ap (λ q. code_where q 7 (code_where (is_past_limits s fs) 8 None)) x ∙ ap (λ q. code_where a 7 (code_where q 8 None)) y)

pub read-none : (ms : Registry) (s : Standing) (l : ℕ) (fs : Fields) (n : Name) (d : Data) (w : Doing) → form_offence ms s fs ≡ None → lone (works_in s fs) ≡ Some (n, d) → doing_in ms n ≡ Some w
    → task_doing w l fs d ≡ None → task_read ms s l fs ≡ Err 7
read-none ms s l fs n d w h g k t = read-by ms s l fs true (is_past_limits s fs) h (at (none-of l fs (texts_in fs) (work_doing w d) t)) refl where
  at : (texts_in fs ≡ None) ⊎ ((t : Texts) × (texts_in fs ≡ Some t) × (work_doing w d ≡ None)) → has_unreadable ms s fs ≡ true
  at (inl e) = unread-none ms s fs e
  at (inr p) = unread-some ms s fs p.0 p.1 ∙ agree-none (work_doing w d) (work_found ms (lone (works_in s fs))) (book.is_flush (lone (works_in s fs))) (agree-found ms s fs n d w g k) p.2

-- where the task is there, its texts are read
reads : (ms : Registry) (s : Standing) (l : ℕ) (fs : Fields) (n : Name) (d : Data) (w : Doing) (r : Option TaskData) → form_offence ms s fs ≡ None → lone (works_in s fs) ≡ Some (n, d) → doing_in ms n ≡ Some w
    → task_doing w l fs d ≡ Some r → has_unreadable ms s fs ≡ false
reads ms s l fs n d w r h g k t =
    let p = some-of l fs (texts_in fs) (work_doing w d) r t in
    unread-some ms s fs p.0 p.2
    ∙ agree-some (work_doing w d) (work_found ms (lone (works_in s fs))) (book.is_flush (lone (works_in s fs))) p.1 (flush-found ms s fs n d h g) (agree-found ms s fs n d w g k) p.3

pub read-long : (ms : Registry) (s : Standing) (l : ℕ) (fs : Fields) (n : Name) (d : Data) (w : Doing) (r : Option TaskData) → form_offence ms s fs ≡ None → lone (works_in s fs) ≡ Some (n, d) → doing_in ms n ≡ Some w
    → task_doing w l fs d ≡ Some r → is_past_limits s fs ≡ true → task_read ms s l fs ≡ Err 8
read-long ms s l fs n d w r h g k t p = read-by ms s l fs false true h (reads ms s l fs n d w r h g k t) p

pub read-task : (ms : Registry) (s : Standing) (l : ℕ) (fs : Fields) (n : Name) (d : Data) (w : Doing) (r : Option TaskData) → form_offence ms s fs ≡ None → lone (works_in s fs) ≡ Some (n, d) → doing_in ms n ≡ Some w
    → task_doing w l fs d ≡ Some r → is_past_limits s fs ≡ false → task_read ms s l fs ≡ Ok r
read-task ms s l fs n d w r h g k t p =
    let q = some-of l fs (texts_in fs) (work_doing w d) r t in
    let work = work_found ms (lone (works_in s fs)) in
    let flushes = book.is_flush (lone (works_in s fs)) in
    let same : cond flushes None (task_of ms s l fs) ≡ r = ap (cond flushes None) (task-built ms s l fs q.0 q.2) ∙ agree-task (work_doing w d) work flushes q.1 (task_with l fs q.0) (agree-found ms s fs n d w g k) q.3 ∙ q.4 in
    read-by ms s l fs false false h (reads ms s l fs n d w r h g k t) p ∙ ap (λ o. Ok o) same
