-- The lines of a book that was read are counted from 1, within the limit.
use Rattle.std.proofs.Common.{◌≡◌, ℕ, suc, Bool, true, false, not, ◌||◌, ◌&&◌, cond, Option, Some, None, option_map, unwrap_or, Ok, Err, List, [], ◌∷◌, codes, bytes_eq, nat_le, nat_lt, refl, sym, ap, ◌∙◌, IfOk, Vec, Global, map, Result}
use Rattle.std.proofs.lemmas.Bool.{ltb-false, le-leb, eq-eqb}
use Rattle.pb_semantics.specs.Gives.{Gives}
use Rattle.pb_play.specs.Faults.{offence_of}
use Rattle.pb_play.specs.Plays.{play_view}
use Rattle.pb_play.specs.declared.fault.PlayFault.{PlayFault}
use Rattle.pb_play.specs.declared.play.Play.{Play}
use Rattle.pb_semantics.specs.Data.{Data, Fields, Items, no_fields, field, field_value, list, rec, no_items, item}
use Rattle.pb_language.specs.Book.{BlockData, Book, HandlerData, PlayData, Registry, Steps, TaskData, Work, block_step, flush_step, no_steps}
use Rattle.pb_language.specs.BookForm.{Before, Reading, and_then, block_offence, block_of, book_from, book_read, changed, gathering_in, gathers, handler_before, handlers_in, handlers_of, has_other_key, has_wrong_block_value, has_wrong_play_value, is_flush, is_large_block, is_large_play, is_second, is_unreadable_block, line_offence, most_handlers, most_lines, named_too, or_code, part_in, part_of, play_in, play_of, play_offence, plays_in, section_of, standing, step_in, steps_in, task_before, task_in, unless}
use Rattle.pb_language.specs.Expression.{Name, no_expressions, no_parts}
use Rattle.pb_language.specs.Keywords.{Standing, as_handler, block_keywords, play_keywords}
use Rattle.pb_language.specs.TaskForm.{code_where, attempts_in, boolean_in, conditions_found, conditions_given, has_key, is_missing, lone, loop_in, task_of, task_offence, text_in, topics_in, vars_found, work_found, works_in}
use Rattle.pb_play.specs.Counted.{behind_gathering, behind_handlers, behind_play, behind_plays, behind_steps, counted, is_counted, is_there, then_lines}
use Rattle.pb_play.proofs.Tasks.{or-false, task-there, where-none}

-- ---- a line within the limit

within : (l : ℕ) → nat_lt most_lines l ≡ false → counted l l ≡ Some (suc l)
within l h =
    ap (λ b. cond (b && nat_le l most_lines) (Some (suc l)) None) (eq-eqb l l refl)
    ∙ ap (λ b. cond b (Some (suc l)) None) (le-leb l most_lines (ltb-false most_lines l h))

-- where nothing is refused, the line is within the limit
line-none : (l : ℕ) (o : Option ℕ) → line_offence l o ≡ None → (o ≡ None) × (nat_lt most_lines l ≡ false)
line-none l (Some n) h = absurd (cc)
line-none l None h = (refl, (where-none (nat_lt most_lines l) 8 None h).0)

block-none : (k l : ℕ) (fs : Fields) → block_offence k l fs ≡ None → nat_lt most_lines l ≡ false
block-none k l fs h =
    let a = where-none (has_other_key block_keywords fs) 3 _ h in
    let b = where-none (has_wrong_block_value fs) 4 _ a.1 in
    let c = where-none (is_unreadable_block fs) 7 _ b.1 in
    let d = where-none (is_large_block k fs || nat_lt most_lines l) 8 None c.1 in
    (or-false (is_large_block k fs) (nat_lt most_lines l) d.0).1

ok-pair : {A : Type 0} (a b : A) (l n : ℕ) → ◌≡◌ {A = Reading A} (Ok (a, l)) (Ok (b, n)) → (a ≡ b) × (l ≡ n)
ok-pair {A = A} a b l n h =
    let both : ◌≡◌ {A = A × ℕ} (a, l) (b, n) = cc in
    (ap (λ (x : A × ℕ). x.0) both, ap (λ (x : A × ℕ). x.1) both)

-- what is read is counted from that line on to the line behind
abbrev StepsCount : ℕ → Reading Steps → Type 0
StepsCount l r = (ss : Steps) (n : ℕ) → r ≡ Ok (ss, n) → behind_steps l ss ≡ Some n

abbrev StepCounts : ℕ → Reading Before → Type 0
StepCounts l r = (f : Before) (n : ℕ) → r ≡ Ok (f, n) → (ss : Steps) → behind_steps l (f ss) ≡ behind_steps n ss

no-steps-count : (l : ℕ) → StepsCount l (Ok (no_steps, l))
no-steps-count l ss n h =
    let both = ok-pair no_steps ss l n h in
    ap (λ (x : Steps). behind_steps l x) (sym both.0) ∙ ap (λ x. Some x) both.1

-- ---- a task, a flush, a block

ready-counts : (l m : ℕ) (g : Before) → ((ss : Steps) → behind_steps l (g ss) ≡ behind_steps m ss) → StepCounts l (Ok (g, m))
ready-counts l m g c f n h ss =
    let both = ok-pair g f m n h in
    ap (λ (x : Before). behind_steps l (x ss)) (sym both.0) ∙ c ss ∙ ap (λ x. behind_steps x ss) both.1

task-counts : (l : ℕ) (o : Option ℕ) (flushes : Bool) (q : Option TaskData) → (o ≡ None → is_missing q ≡ false) → ((t : TaskData) → q ≡ Some t → l ≡ t.line)
    → StepCounts l (unless l (line_offence l o) (Ok (cond flushes (flush_step l) (task_before q), suc l)))
task-counts l o flushes q there same = at (line_offence l o) (line-none l o) where
  at-flush : (fl : Bool) (q : Option TaskData) → nat_lt most_lines l ≡ false → is_missing q ≡ false → ((t : TaskData) → q ≡ Some t → l ≡ t.line) → (ss : Steps) → behind_steps l (cond fl (flush_step l) (task_before q) ss) ≡ behind_steps (suc l) ss
  at-flush true q short is same ss = ap (λ a. then_lines a (λ m. behind_steps m ss)) (within l short)
  at-flush false None short is same ss = absurd (cc)
  at-flush false (Some t) short is same ss = ap (λ m. then_lines (counted l m) (λ m. behind_steps m ss)) (sym (same t refl)) ∙ ap (λ a. then_lines a (λ m. behind_steps m ss)) (within l short)

  at : (p : Option ℕ) → (p ≡ None → (o ≡ None) × (nat_lt most_lines l ≡ false)) → StepCounts l (unless l p (Ok (cond flushes (flush_step l) (task_before q), suc l)))
  at (Some c) none = λ f n h ss. absurd (cc)
  at None none = ready-counts l (suc l) _ (at-flush flushes q (none refl).1 (there (none refl).0) same)

-- the line of a task is the one given
task-line : (ms : Registry) (s : Standing) (l : ℕ) (fs : Fields) (t : TaskData) → task_of ms s l fs ≡ Some t → l ≡ t.line
task-line ms s l fs t h = at (work_found ms (lone (works_in s fs))) h where
  of : Work → TaskData
  of w = record {
    line = l;
    work = w;
    condition = unwrap_or (conditions_found (field_value (codes "when") fs)) no_expressions;
    loop = loop_in (field_value (codes "loop") fs);
    register = text_in (field_value (codes "register") fs);
    vars = unwrap_or (vars_found (field_value (codes "vars") fs)) no_parts;
    notify = topics_in (field_value (codes "notify") fs);
    changed_when = conditions_given (field_value (codes "changed_when") fs);
    failed_when = conditions_given (field_value (codes "failed_when") fs);
    attempts = attempts_in fs;
    ignore_errors = boolean_in (field_value (codes "ignore_errors") fs);
  }

  at : (o : Option Work) → option_map of o ≡ Some t → l ≡ t.line
  at None h = absurd (cc)
  at (Some w) h = let same : of w ≡ t = cc in ap (λ (x : TaskData). x.line) same

task-in-counts : (ms : Registry) (k l : ℕ) (fs : Fields) → StepCounts l (task_in ms k l fs)
task-in-counts ms k l fs = task-counts l (task_offence ms (standing k) fs) (is_flush (lone (works_in (standing k) fs))) (task_of ms (standing k) l fs) (task-there ms (standing k) l fs) (task-line ms (standing k) l fs)

-- the three parts of a block, one behind the other
block-counts : (l : ℕ) (o : Option ℕ) (b : BlockData) (body : Reading Steps) (rescue always : ℕ → Reading Steps) → (o ≡ None → nat_lt most_lines l ≡ false) → l ≡ b.line
    → StepsCount (suc l) body → ((m : ℕ) → StepsCount m (rescue m)) → ((m : ℕ) → StepsCount m (always m))
    → StepCounts l (unless l o (and_then body (λ xs m. and_then (rescue m) (λ ys n. changed (λ zs. block_step b xs ys zs) (always n)))))
block-counts l (Some c) b body rescue always short same p q r = λ f n h ss. absurd (cc)
block-counts l None b (Err e) rescue always short same p q r = λ f n h ss. absurd (cc)
block-counts l None b (Ok xs) rescue always short same p q r = on-rescue (rescue xs.1) (q xs.1) where
  on-always : (ys : Steps × ℕ) (zs : Reading Steps) → behind_steps xs.1 ys.0 ≡ Some ys.1 → StepsCount ys.1 zs → StepCounts l (changed (λ zs. block_step b xs.0 ys.0 zs) zs)
  on-always ys (Err e) cy cz = λ f n h ss. absurd (cc)
  on-always ys (Ok zs) cy cz = ready-counts l zs.1 (block_step b xs.0 ys.0 zs.0) (λ ss.
      let rest : ℕ → Option ℕ = λ p. behind_steps p ss in
      let third : ℕ → Option ℕ = λ o. then_lines (behind_steps o zs.0) rest in
      let second : ℕ → Option ℕ = λ n. then_lines (behind_steps n ys.0) third in
      let first : ℕ → Option ℕ = λ m. then_lines (behind_steps m xs.0) second in
      ap (λ m. then_lines (counted l m) first) (sym same) ∙ ap (λ a. then_lines a first) (within l (short refl))
      ∙ ap (λ a. then_lines a second) (p xs.0 xs.1 refl) ∙ ap (λ a. then_lines a third) cy ∙ ap (λ a. then_lines a rest) (cz zs.0 zs.1 refl))

  on-rescue : (ys : Reading Steps) → StepsCount xs.1 ys → StepCounts l (and_then ys (λ ys n. changed (λ zs. block_step b xs.0 ys zs) (always n)))
  on-rescue (Err e) cy = λ f n h ss. absurd (cc)
  on-rescue (Ok ys) cy = on-always ys (always ys.1) (cy ys.0 ys.1 refl) (r ys.1)

-- ---- the steps of a list

-- a step in front of others
first-counts : (l : ℕ) (d : Reading Before) (ds : ℕ → Reading Steps) → StepCounts l d → ((m : ℕ) → StepsCount m (ds m)) → StepsCount l (and_then d (λ f m. changed f (ds m)))
first-counts l (Err e) ds p q = λ ss n h. absurd (cc)
first-counts l (Ok g) ds p q = at (ds g.1) (q g.1) where
  at : (r : Reading Steps) → StepsCount g.1 r → StepsCount l (changed g.0 r)
  at (Err e) c = λ ss n h. absurd (cc)
  at (Ok r) c = λ ss n h.
      let both = ok-pair (g.0 r.0) ss r.1 n h in
      ap (λ (x : Steps). behind_steps l x) (sym both.0) ∙ p g.0 g.1 refl r.0 ∙ c r.0 r.1 refl ∙ ap (λ x. Some x) both.1

choice-counts : (l : ℕ) (b : Bool) (x y : Reading Before) → StepCounts l x → StepCounts l y → StepCounts l (cond b x y)
choice-counts l true x y p q = p
choice-counts l false x y p q = q

part-choice : (l : ℕ) (b : Bool) (x y : Reading Steps) → StepsCount l x → StepsCount l y → StepsCount l (cond b x y)
part-choice l true x y p q = p
part-choice l false x y p q = q

mutual
  steps-count : (ms : Registry) (k l : ℕ) (ds : Items) → StepsCount l (steps_in ms k l ds)
  steps-count ms k l no_items = no-steps-count l
  steps-count ms k l (item d ds) = first-counts l (step_in ms k l d) (λ m. steps_in ms k m ds) (step-counts ms k l d) (λ m. steps-count ms k m ds)

  step-counts : (ms : Registry) (k l : ℕ) (d : Data) → StepCounts l (step_in ms k l d)
  step-counts ms k l (rec fs) = choice-counts l (has_key (codes "block") fs) _ (task_in ms k l fs)
      (block-counts l (block_offence k l fs) (block_of l fs) (part_in (codes "block") ms (suc k) (suc l) fs) (λ m. part_in (codes "rescue") ms (suc k) m fs) (λ m. part_in (codes "always") ms (suc k) m fs)
      (block-none k l fs) refl (part-count (codes "block") ms (suc k) (suc l) fs) (λ m. part-count (codes "rescue") ms (suc k) m fs) (λ m. part-count (codes "always") ms (suc k) m fs))
      (task-in-counts ms k l fs)
  step-counts ms k l d = λ f n h ss. absurd (cc)

  part-count : (p : Name) (ms : Registry) (k l : ℕ) (fs : Fields) → StepsCount l (part_in p ms k l fs)
  part-count p ms k l no_fields = no-steps-count l
  part-count p ms k l (field n d fs) = part-choice l (bytes_eq p n) (part_of ms k l d) (part_in p ms k l fs) (part-of-count ms k l d) (part-count p ms k l fs)

  part-of-count : (ms : Registry) (k l : ℕ) (d : Data) → StepsCount l (part_of ms k l d)
  part-of-count ms k l (list ds) = steps-count ms k l ds
  part-of-count ms k l d = no-steps-count l

section-counts : (ms : Registry) (l : ℕ) (o : Option Data) → StepsCount l (section_of ms l o)
section-counts ms l (Some (list ds)) = steps-count ms 0 l ds
section-counts ms l o = no-steps-count l

-- ---- handlers

abbrev HandlersCount : ℕ → Reading (List HandlerData) → Type 0
HandlersCount l r = (hs : List HandlerData) (n : ℕ) → r ≡ Ok (hs, n) → behind_handlers l hs ≡ Some n

ready-handlers : (l n : ℕ) (hs : List HandlerData) → behind_handlers l hs ≡ Some n → HandlersCount l (Ok (hs, n))
ready-handlers l n hs c xs m h =
    let both = ok-pair hs xs n m h in
    ap (λ x. behind_handlers l x) (sym both.0) ∙ c ∙ ap (λ x. Some x) both.1

-- a handler in front of others
handler-counts : (l : ℕ) (o c : Option ℕ) (fs : Fields) (q : Option TaskData) (rest : Reading (List HandlerData)) → (o ≡ None → is_missing q ≡ false) → ((t : TaskData) → q ≡ Some t → l ≡ t.line)
    → HandlersCount (suc l) rest → HandlersCount l (unless l (or_code (line_offence l o) c) (changed (handler_before fs q) rest))
handler-counts l o c fs q rest there same p = at (line_offence l o) c (line-none l o) where
  of : (q : Option TaskData) (rest : Reading (List HandlerData)) → nat_lt most_lines l ≡ false → is_missing q ≡ false → ((t : TaskData) → q ≡ Some t → l ≡ t.line) → HandlersCount (suc l) rest → HandlersCount l (changed (handler_before fs q) rest)
  of q (Err e) short is same p = λ hs n h. absurd (cc)
  of None (Ok r) short is same p = λ hs n h. absurd (cc)
  of (Some t) (Ok r) short is same p = ready-handlers l r.1 (handler_before fs (Some t) r.0)
      (ap (λ m. then_lines (counted l m) (λ m. behind_handlers m r.0)) (sym (same t refl)) ∙ ap (λ a. then_lines a (λ m. behind_handlers m r.0)) (within l short) ∙ p r.0 r.1 refl)

  at : (a c : Option ℕ) → (a ≡ None → (o ≡ None) × (nat_lt most_lines l ≡ false)) → HandlersCount l (unless l (or_code a c) (changed (handler_before fs q) rest))
  at (Some n) c none = λ hs m h. absurd (cc)
  at None (Some n) none = λ hs m h. absurd (cc)
  at None None none = of q rest (none refl).1 (there (none refl).0) same p

handlers-count : (ms : Registry) (l i : ℕ) (ns : List Name) (ds : Items) → HandlersCount l (handlers_in ms l i ns ds)
handlers-count ms l i ns no_items = ready-handlers l l [] refl
handlers-count ms l i ns (item (rec fs) ds) =
    handler-counts l (task_offence ms as_handler fs) (code_where (nat_le most_handlers i) 8 (code_where (is_second ns (text_in (field_value (codes "name") fs))) 9 None)) fs (task_of ms as_handler l fs)
    (handlers_in ms (suc l) (suc i) (named_too ns (text_in (field_value (codes "name") fs))) ds) (task-there ms as_handler l fs) (task-line ms as_handler l fs)
    (handlers-count ms (suc l) (suc i) (named_too ns (text_in (field_value (codes "name") fs))) ds)
handlers-count ms l i ns (item d ds) = λ hs n h. absurd (cc)

handlers-of-count : (ms : Registry) (l : ℕ) (o : Option Data) → HandlersCount l (handlers_of ms l o)
handlers-of-count ms l (Some (list ds)) = handlers-count ms l 0 [] ds
handlers-of-count ms l o = ready-handlers l l [] refl

-- ---- plays

abbrev GatheringCounts : ℕ → Reading (Option ℕ) → Type 0
GatheringCounts l r = (g : Option ℕ) (n : ℕ) → r ≡ Ok (g, n) → behind_gathering l g ≡ Some n

ready-gathering : (l n : ℕ) (g : Option ℕ) → behind_gathering l g ≡ Some n → GatheringCounts l (Ok (g, n))
ready-gathering l n g c x m h =
    let both = ok-pair g x n m h in
    ap (λ y. behind_gathering l y) (sym both.0) ∙ c ∙ ap (λ y. Some y) both.1

gathering-counts : (l : ℕ) (fs : Fields) → GatheringCounts l (gathering_in l fs)
gathering-counts l fs = at (gathers fs) (line_offence l None) (line-none l None) where
  at : (b : Bool) (o : Option ℕ) → (o ≡ None → (◌≡◌ {A = Option ℕ} None None) × (nat_lt most_lines l ≡ false)) → GatheringCounts l (cond b (unless l o (Ok (Some l, suc l))) (Ok (None, l)))
  at true (Some c) none = λ g n h. absurd (cc)
  at true None none = ready-gathering l (suc l) (Some l) (within l (none refl).1)
  at false o none = ready-gathering l l None refl

play-none : (i l : ℕ) (fs : Fields) → play_offence i l fs ≡ None → nat_lt most_lines l ≡ false
play-none i l fs h =
    let z = where-none (not (has_key (codes "hosts") fs)) 2 _ h in
    let a = where-none (has_other_key play_keywords fs) 3 _ z.1 in
    let b = where-none (has_wrong_play_value fs) 4 _ a.1 in
    let c = where-none (is_missing (vars_found (field_value (codes "vars") fs))) 7 _ b.1 in
    let d = where-none (is_large_play i fs || nat_lt most_lines l) 8 None c.1 in
    (or-false (is_large_play i fs) (nat_lt most_lines l) d.0).1

abbrev PlayCounts : ℕ → Reading PlayData → Type 0
PlayCounts l r = (p : PlayData) (n : ℕ) → r ≡ Ok (p, n) → behind_play l p ≡ Some n

ready-play : (l n : ℕ) (p : PlayData) → behind_play l p ≡ Some n → PlayCounts l (Ok (p, n))
ready-play l n p c x m h =
    let both = ok-pair p x n m h in
    ap (λ (y : PlayData). behind_play l y) (sym both.0) ∙ c ∙ ap (λ y. Some y) both.1

-- the lines behind the play's own, with what is read at each
lines-counted : (l a b c d n : ℕ) (fs : Fields) (g : Option ℕ) (xs ys zs : Steps) (hs : List HandlerData) → nat_lt most_lines l ≡ false → behind_gathering (suc l) g ≡ Some a
    → behind_steps a xs ≡ Some b → behind_steps b ys ≡ Some c → behind_steps c zs ≡ Some d → behind_handlers d hs ≡ Some n → behind_play l (play_of l g fs xs ys zs hs) ≡ Some n
lines-counted l a b c d n fs g xs ys zs hs short cg cx cy cz ch =
    let fifth : ℕ → Option ℕ = λ e. behind_handlers e hs in
    let fourth : ℕ → Option ℕ = λ d. then_lines (behind_steps d zs) fifth in
    let third : ℕ → Option ℕ = λ c. then_lines (behind_steps c ys) fourth in
    let second : ℕ → Option ℕ = λ b. then_lines (behind_steps b xs) third in
    let first : ℕ → Option ℕ = λ a. then_lines (behind_gathering a g) second in
    ap (λ o. then_lines o first) (within l short) ∙ ap (λ o. then_lines o second) cg ∙ ap (λ o. then_lines o third) cx ∙ ap (λ o. then_lines o fourth) cy ∙ ap (λ o. then_lines o fifth) cz ∙ ch

-- a play whose parts are read one behind the other
parts-counted : (l : ℕ) (o : Option ℕ) (fs : Fields) (g : Reading (Option ℕ)) (pre tasks post : ℕ → Reading Steps) (last : ℕ → Reading (List HandlerData)) → (o ≡ None → nat_lt most_lines l ≡ false)
    → GatheringCounts (suc l) g → ((m : ℕ) → StepsCount m (pre m)) → ((m : ℕ) → StepsCount m (tasks m)) → ((m : ℕ) → StepsCount m (post m)) → ((m : ℕ) → HandlersCount m (last m))
    → PlayCounts l (unless l o (and_then g (λ gathering a. and_then (pre a) (λ xs b. and_then (tasks b) (λ ys c. and_then (post c) (λ zs d. changed (play_of l gathering fs xs ys zs) (last d)))))))
parts-counted l (Some e) fs g pre tasks post last short cg cx cy cz ch = λ p n h. absurd (cc)
parts-counted l None fs (Err e) pre tasks post last short cg cx cy cz ch = λ p n h. absurd (cc)
parts-counted l None fs (Ok g) pre tasks post last short cg cx cy cz ch = on-pre (pre g.1) (cx g.1) where
  on-last : (xs ys zs : Steps × ℕ) (hs : Reading (List HandlerData)) → behind_steps g.1 xs.0 ≡ Some xs.1 → behind_steps xs.1 ys.0 ≡ Some ys.1 → behind_steps ys.1 zs.0 ≡ Some zs.1 → HandlersCount zs.1 hs
      → PlayCounts l (changed (play_of l g.0 fs xs.0 ys.0 zs.0) hs)
  on-last xs ys zs (Err e) px py pz ph = λ p n h. absurd (cc)
  on-last xs ys zs (Ok hs) px py pz ph = ready-play l hs.1 (play_of l g.0 fs xs.0 ys.0 zs.0 hs.0)
      (lines-counted l g.1 xs.1 ys.1 zs.1 hs.1 fs g.0 xs.0 ys.0 zs.0 hs.0 (short refl) (cg g.0 g.1 refl) px py pz (ph hs.0 hs.1 refl))

  on-post : (xs ys : Steps × ℕ) (r : Reading Steps) → behind_steps g.1 xs.0 ≡ Some xs.1 → behind_steps xs.1 ys.0 ≡ Some ys.1 → StepsCount ys.1 r
      → PlayCounts l (and_then r (λ zs d. changed (play_of l g.0 fs xs.0 ys.0 zs) (last d)))
  on-post xs ys (Err e) px py pz = λ p n h. absurd (cc)
  on-post xs ys (Ok zs) px py pz = on-last xs ys zs (last zs.1) px py (pz zs.0 zs.1 refl) (ch zs.1)

  on-tasks : (xs : Steps × ℕ) (r : Reading Steps) → behind_steps g.1 xs.0 ≡ Some xs.1 → StepsCount xs.1 r
      → PlayCounts l (and_then r (λ ys c. and_then (post c) (λ zs d. changed (play_of l g.0 fs xs.0 ys zs) (last d))))
  on-tasks xs (Err e) px py = λ p n h. absurd (cc)
  on-tasks xs (Ok ys) px py = on-post xs ys (post ys.1) px (py ys.0 ys.1 refl) (cz ys.1)

  on-pre : (r : Reading Steps) → StepsCount g.1 r → PlayCounts l (and_then r (λ xs b. and_then (tasks b) (λ ys c. and_then (post c) (λ zs d. changed (play_of l g.0 fs xs ys zs) (last d)))))
  on-pre (Err e) px = λ p n h. absurd (cc)
  on-pre (Ok xs) px = on-tasks xs (tasks xs.1) (px xs.0 xs.1 refl) (cy xs.1)

play-counts : (ms : Registry) (i l : ℕ) (d : Data) → PlayCounts l (play_in ms i l d)
play-counts ms i l (rec fs) = parts-counted l (play_offence i l fs) fs (gathering_in (suc l) fs) (λ a. section_of ms a (field_value (codes "pre_tasks") fs)) (λ b. section_of ms b (field_value (codes "tasks") fs))
    (λ c. section_of ms c (field_value (codes "post_tasks") fs)) (λ d. handlers_of ms d (field_value (codes "handlers") fs)) (play-none i l fs) (gathering-counts (suc l) fs)
    (λ m. section-counts ms m (field_value (codes "pre_tasks") fs)) (λ m. section-counts ms m (field_value (codes "tasks") fs)) (λ m. section-counts ms m (field_value (codes "post_tasks") fs))
    (λ m. handlers-of-count ms m (field_value (codes "handlers") fs))
play-counts ms i l d = λ p n h. absurd (cc)

abbrev PlaysCount : ℕ → Reading Book → Type 0
PlaysCount l r = (b : Book) (n : ℕ) → r ≡ Ok (b, n) → behind_plays l b ≡ Some n

ready-plays : (l n : ℕ) (b : Book) → behind_plays l b ≡ Some n → PlaysCount l (Ok (b, n))
ready-plays l n b c x m h =
    let both = ok-pair b x n m h in
    ap (λ y. behind_plays l y) (sym both.0) ∙ c ∙ ap (λ y. Some y) both.1

-- a play in front of others
first-play : (l : ℕ) (p : Reading PlayData) (ps : ℕ → Reading Book) → PlayCounts l p → ((m : ℕ) → PlaysCount m (ps m)) → PlaysCount l (and_then p (λ play next. changed (λ plays. play ∷ plays) (ps next)))
first-play l (Err e) ps c q = λ b n h. absurd (cc)
first-play l (Ok p) ps c q = at (ps p.1) (q p.1) where
  at : (r : Reading Book) → PlaysCount p.1 r → PlaysCount l (changed (λ plays. p.0 ∷ plays) r)
  at (Err e) k = λ b n h. absurd (cc)
  at (Ok r) k = ready-plays l r.1 (p.0 ∷ r.0) (ap (λ o. then_lines o (λ m. behind_plays m r.0)) (c p.0 p.1 refl) ∙ k r.0 r.1 refl)

plays-count : (ms : Registry) (i l : ℕ) (ds : Items) → PlaysCount l (plays_in ms i l ds)
plays-count ms i l no_items = ready-plays l l [] refl
plays-count ms i l (item d ds) = first-play l (play_in ms i l d) (λ m. plays_in ms (suc i) m ds) (play-counts ms i l d) (λ m. plays-count ms (suc i) m ds)

-- the lines of a book that was read are counted from 1
pub book-counted : (ms : Registry) (d : Data) (b : Book) → book_from ms d ≡ Ok b → is_counted b ≡ true
book-counted ms (list ds) b h = at (plays_in ms 0 1 ds) (plays-count ms 0 1 ds) h where
  at : (r : Reading Book) → PlaysCount 1 r → book_read r ≡ Ok b → is_counted b ≡ true
  at (Err e) c h = absurd (cc)
  at (Ok r) c h =
      let same : r.0 ≡ b = cc in
      ap (λ x. is_there (behind_plays 1 x)) (sym same) ∙ ap is_there (c r.0 r.1 refl)
book-counted ms d b h = absurd (cc)

-- so are the plays that are read
pub read-counted : (ms : Registry) (d : Data) (r : Result (Vec Play Global) PlayFault) → Gives (λ ps. Ok (map play_view ps.items)) offence_of r (book_from ms d) → IfOk r (λ ps. is_counted (map play_view ps.items) ≡ true)
read-counted ms d (Ok ps) h = book-counted ms d (map play_view ps.items) h
read-counted ms d (Err e) h = tt
