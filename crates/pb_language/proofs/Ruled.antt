-- What the rules that need no flow say of the rows of an accepted book.
use Rattle.std.proofs.Common.{◌≡◌, ◌+◌, ℕ, suc, List, [], ◌∷◌, ◌++◌, Bool, true, false, not, ◌&&◌, ◌||◌, cond, Option, Some, None, length, refl, ap, ◌∙◌, true≢false}
use Rattle.pb_semantics.proofs.Bools.{and-both, neither-left, neither-right, neither-both}
use Rattle.pb_language.specs.Expression.{Name, Expression, Expressions, no_expressions, expression}
use Rattle.pb_language.specs.Expansion.{expanded, all_expanded, trees}
use Rattle.pb_language.specs.Notify.{HandlerNames}
use Rattle.pb_language.specs.Book.{TaskData, Steps, no_steps, task_step, block_step, flush_step, HandlerData, PlayData, Book, Registry}
use Rattle.pb_language.specs.Plays.{append_parts, append_expressions, expanded_list, expanded_attempts, Surroundings, task_at, inside, is_given, places_in, handlers_at, row_of, gathering_task, ended_row, section_row, gathered_row, sections_row, play_surroundings, play_row, names_of_handlers, program_of}
use Rattle.pb_language.specs.Program.{Inventory, Play, Program}
use Rattle.pb_language.specs.Task.{Attempts, Task, Handlers, no_handlers, handler, Row, end, task, flush, section, block}
use Rattle.pb_language.specs.Sites.{a_task, Site, site, sites_in, handler_sites, gathering_sites, play_sites, sites_of}
use Rattle.pb_language.specs.Rules.{any_notifies_up_to, breaks_parameters, breaks_names, vars_names, breaks_chains, breaks_known, breaks_notify, breaks_order, any_reads_others, reads_others, expanded_reads, list_expressions, until_expressions, give_expressions, breaks_give, first_line, too_many_steps, rules_offence}
use Rattle.pb_language.specs.Verdict.{Refusal, Verdict, accepted, earlier, flow_verdict, offence_verdict}
use Rattle.pb_language.specs.Judged.{judged}
use Rattle.pb_language.specs.OwnReads.{keyword_reads_others, until_reads_others}
use Rattle.pb_language.specs.FlushOrder.{are_numbered}
use Rattle.pb_language.proofs.Accepted.{earlier_none}
use Rattle.pb_language.proofs.FlushOrder.{numbered_from}

-- no line breaks a rule
abbrev pub AllSites : (Site → Type 0) → List Site → Type 0
AllSites P [] = Unit {0}
AllSites P (s ∷ ss) = P s × AllSites P ss

sites_apart : (P : Site → Type 0) (xs ys : List Site) → AllSites P (xs ++ ys) → AllSites P xs × AllSites P ys
sites_apart P [] ys a = (tt, a)
sites_apart P (x ∷ xs) ys a = let both = sites_apart P xs ys a.1 in ((a.0, both.0), both.1)

unbroken : (q : Bool) (r : Refusal) → cond q (Some r) None ≡ None → q ≡ false
unbroken true r e = absurd (true≢false (cc))
unbroken false r e = refl

none_broken : (c : ℕ) (f : Site → Bool) (ss : List Site) → first_line c f ss ≡ None → AllSites (λ s. f s ≡ false) ss
none_broken c f [] e = tt
none_broken c f (s ∷ ss) e =
    let here : Refusal = record { code = c; line = s.line; host = None } in
    let none = earlier_none (cond (f s) (Some here) None) (first_line c f ss) e in
    (unbroken (f s) here none.0, none_broken c f ss none.1)

no_offence : (o : Option Refusal) (v : Verdict) (n : ℕ) → offence_verdict o v ≡ accepted n → o ≡ None
no_offence None v n h = refl
no_offence (Some r) v n h = absurd (true≢false (cc))

module _ (ms : Registry) (inventory : Inventory) (b : Book) (n : ℕ) (h : judged ms inventory b ≡ accepted n) where
  abbrev lines : List Site
  lines = sites_of b

  abbrev last_two : Option Refusal
  last_two = earlier (first_line 12 (λ s. breaks_order s s.thing) lines) (first_line 9 breaks_give lines)

  passed : last_two ≡ None
  passed =
      let first = first_line 7 (breaks_parameters ms) lines in
      let second = first_line 8 (breaks_names (vars_names lines)) lines in
      let third = first_line 10 breaks_chains lines in
      let fourth = first_line 6 (λ s. breaks_known inventory s s.thing) lines in
      let fifth = first_line 5 breaks_notify lines in
      let from_fifth = earlier fifth last_two in
      let from_fourth = earlier fourth from_fifth in
      let from_third = earlier third from_fourth in
      let from_second = earlier second from_third in
      let from_first = earlier first from_second in
      let all = no_offence (rules_offence ms inventory b) (flow_verdict (program_of ms inventory b) inventory) n h in
      (earlier_none fifth last_two
      (earlier_none fourth from_fifth
      (earlier_none third from_fourth
      (earlier_none second from_third
      (earlier_none first from_second
      (earlier_none (too_many_steps 0 b) from_first all).1).1).1).1).1).1

  order_kept : AllSites (λ s. breaks_order s s.thing ≡ false) lines
  order_kept = none_broken 12 (λ s. breaks_order s s.thing) lines (earlier_none (first_line 12 (λ s. breaks_order s s.thing) lines) (first_line 9 breaks_give lines) passed).0

  gives_kept : AllSites (λ s. breaks_give s ≡ false) lines
  gives_kept = none_broken 9 breaks_give lines (earlier_none (first_line 12 (λ s. breaks_order s s.thing) lines) (first_line 9 breaks_give lines) passed).1

-- each task of a row, and each flush of it
abbrev pub row_has : (Task → Bool) → (Handlers → Bool) → Row → Bool
row_has f g end = true
row_has f g (task t row) = f t && row_has f g row
row_has f g (flush hs row) = g hs && row_has f g row
row_has f g (section body hs row) = row_has f g body && (g hs && row_has f g row)
row_has f g (block d body saves rescued always row) =
    row_has f g body && (row_has f g rescued && (row_has f g always && row_has f g row))

abbrev pub program_has : (Task → Bool) → (Play → Handlers → Bool) → Program → Bool
program_has f g [] = true
program_has f g (p ∷ ps) = row_has f (g p) p.row && program_has f g ps

-- what is so of each task at its line and of each flush is so of a play's row
module _ (f : Task → Bool) (g : Handlers → Bool) (P : Site → Type 0) (play : PlayData) (hs : ℕ → Handlers) (n : ℕ) (flush_has : (p : ℕ) → g (hs p) ≡ true)
    (task_has : (s : Surroundings) (p : ℕ) (t : TaskData) → P (site play (append_expressions s.conditions t.condition) s.scope t.line (a_task t) t.vars) → f (task_at s p t) ≡ true) where
  steps_have : (s : Surroundings) (p : ℕ) (ss : Steps) (row : Row) → AllSites P (sites_in play s.conditions s.scope ss) → row_has f g row ≡ true → row_has f g (row_of hs n s p ss row) ≡ true
  steps_have s p no_steps row a h = h
  steps_have s p (task_step t ss) row a h =
      and-both (f (task_at s p t)) (row_has f g (row_of hs n s (suc p) ss row)) (task_has s p t a.0) (steps_have s (suc p) ss row a.1 h)
  steps_have s p (flush_step l ss) row a h =
      and-both (g (hs p)) (row_has f g (row_of hs n s (n + p) ss row)) (flush_has p) (steps_have s (n + p) ss row a.1 h)
  steps_have s p (block_step b x y z ss) row a h =
      let ds = append_expressions s.conditions b.condition in
      let scope = append_parts b.vars s.scope in
      let bodies = sites_in play ds scope x in
      let rescues = sites_in play ds scope y in
      let ends = sites_in play ds scope z in
      let others = sites_in play s.conditions s.scope ss in
      let third = sites_apart P (bodies ++ rescues ++ ends) others a.1 in
      let second = sites_apart P (bodies ++ rescues) ends third.0 in
      let first = sites_apart P bodies rescues second.0 in
      let body = row_of hs n (record (inside s b) { rescued = s.rescued || is_given y }) p x end in
      let rescued = row_of hs n (record (inside s b) { depth = suc s.depth }) (places_in n x + p) y end in
      let always = row_of hs n (inside s b) (places_in n y + (places_in n x + p)) z end in
      let rest = row_of hs n s (places_in n z + (places_in n y + (places_in n x + p))) ss row in
      and-both (row_has f g body) (row_has f g rescued && (row_has f g always && row_has f g rest))
      (steps_have (record (inside s b) { rescued = s.rescued || is_given y }) p x end first.0 refl)
      (and-both (row_has f g rescued) (row_has f g always && row_has f g rest)
      (steps_have (record (inside s b) { depth = suc s.depth }) (places_in n x + p) y end first.1 refl)
      (and-both (row_has f g always) (row_has f g rest)
      (steps_have (inside s b) (places_in n y + (places_in n x + p)) z end second.1 refl)
      (steps_have s (places_in n z + (places_in n y + (places_in n x + p))) ss row third.1 h)))

  ended_has : (forces : Bool) (s : Surroundings) (p q : ℕ) (ss : Steps) (row : Row) → AllSites P (sites_in play s.conditions s.scope ss) → row_has f g row ≡ true → row_has f g (ended_row forces (hs q) (row_of hs n s p ss) row) ≡ true
  ended_has true s p q ss row a h =
      and-both (row_has f g (row_of hs n s p ss end)) (g (hs q) && row_has f g row) (steps_have s p ss end a refl) (and-both (g (hs q)) (row_has f g row) (flush_has q) h)
  ended_has false s p q ss row a h = steps_have s p ss (flush (hs q) row) a (and-both (g (hs q)) (row_has f g row) (flush_has q) h)

  section_has : (given : Bool) (s : Surroundings) (p : ℕ) (ss : Steps) (go : ℕ → Row) → AllSites P (sites_in play s.conditions s.scope ss) → ((r : ℕ) → row_has f g (go r) ≡ true)
      → row_has f g (cond given (ended_row play.forces (hs (places_in n ss + p)) (row_of hs n s p ss) (go (n + (places_in n ss + p)))) (go p)) ≡ true
  section_has true s p ss go a h = ended_has play.forces s p (places_in n ss + p) ss (go (n + (places_in n ss + p))) a (h (n + (places_in n ss + p)))
  section_has false s p ss go a h = h p

  module _ (s : Surroundings) (pre : AllSites P (sites_in play s.conditions s.scope play.pre_tasks)) (tasks : AllSites P (sites_in play s.conditions s.scope play.tasks))
      (post : AllSites P (sites_in play s.conditions s.scope play.post_tasks)) (gathers : (l : ℕ) → f (task_at s 0 (gathering_task l)) ≡ true) where
    abbrev last : ℕ → Row
    last r = section_row hs n s play.forces r play.post_tasks (λ q. end)

    sections_have : (p : ℕ) → row_has f g (sections_row hs n s p play) ≡ true
    sections_have p =
        section_has (is_given play.pre_tasks) s p play.pre_tasks (λ q. section_row hs n s play.forces q play.tasks last) pre
        (λ q. section_has (is_given play.tasks) s q play.tasks last tasks (λ r. section_has (is_given play.post_tasks) s r play.post_tasks (λ q. end) post (λ q. refl)))

    gathered_has : (o : Option ℕ) → row_has f g (gathered_row hs n s play o) ≡ true
    gathered_has None = sections_have 0
    gathered_has (Some l) = and-both (f (task_at s 0 (gathering_task l))) (row_has f g (sections_row hs n s 1 play)) (gathers l) (sections_have 1)

-- and of each play
module _ (ms : Registry) (f : Task → Bool) (g : List HandlerNames → Handlers → Bool) (P : Site → Type 0) (gathers : (play : PlayData) (l : ℕ) → f (task_at (play_surroundings ms play) 0 (gathering_task l)) ≡ true)
    (task_has : (play : PlayData) (s : Surroundings) (p : ℕ) (t : TaskData) → P (site play (append_expressions s.conditions t.condition) s.scope t.line (a_task t) t.vars) → f (task_at s p t) ≡ true)
    (flush_has : (play : PlayData) (p : ℕ) → AllSites P (handler_sites play 0 play.handlers) → g (names_of_handlers play.handlers) (handlers_at (play_surroundings ms play) 0 p play.handlers) ≡ true) where
  play_has : (play : PlayData) → AllSites P (play_sites play) → row_has f (g (names_of_handlers play.handlers)) (play_row ms play) ≡ true
  play_has play a =
      let pre = sites_in play no_expressions play.vars play.pre_tasks in
      let tasks = sites_in play no_expressions play.vars play.tasks in
      let post = sites_in play no_expressions play.vars play.post_tasks in
      let handlers = handler_sites play 0 play.handlers in
      let gathering = gathering_sites play play.gathering in
      let fourth = sites_apart P (gathering ++ pre ++ tasks ++ post) handlers a.1 in
      let third = sites_apart P (gathering ++ pre ++ tasks) post fourth.0 in
      let second = sites_apart P (gathering ++ pre) tasks third.0 in
      let first = sites_apart P gathering pre second.0 in
      gathered_has f (g (names_of_handlers play.handlers)) P play (λ p. handlers_at (play_surroundings ms play) 0 p play.handlers) (length play.handlers) (λ p. flush_has play p fourth.1) (task_has play)
      (play_surroundings ms play) first.1 second.1 third.1 (gathers play) play.gathering

  pub plays_have : (inventory : Inventory) (b : Book) → AllSites P (sites_of b) → program_has f (λ p. g p.handlers) (program_of ms inventory b) ≡ true
  plays_have inventory [] a = refl
  plays_have inventory (p ∷ ps) a =
      let both = sites_apart P (play_sites p) (sites_of ps) a in
      and-both (row_has f (g (names_of_handlers p.handlers)) (play_row ms p)) (program_has f (λ q. g q.handlers) (program_of ms inventory ps)) (play_has p both.0) (plays_have inventory ps both.1)

-- `changed_when` and `failed_when` read no others
abbrev pub reads_alone : Task → Bool
reads_alone t = not (keyword_reads_others t.changed_when || (keyword_reads_others t.failed_when || until_reads_others t.attempts))

abbrev pub handlers_have : (Task → Bool) → Handlers → Bool
handlers_have f no_handlers = true
handlers_have f (handler n t hs) = f t && handlers_have f hs

pub own_alone : (f : Name → Option Expression) (es : Expressions) → expanded_reads f es ≡ false → any_reads_others (all_expanded f es) ≡ false
own_alone f no_expressions h = refl
own_alone f (expression e es) h =
    let here = reads_others (expanded f e) in
    let rest = expanded_reads f es in
    neither-both here (any_reads_others (all_expanded f es)) (neither-left here rest h) (own_alone f es (neither-right here rest h))

both_alone : (f : Name → Option Expression) (es gs : Expressions) → expanded_reads f (append_expressions es gs) ≡ false → (any_reads_others (all_expanded f es) ≡ false) × (any_reads_others (all_expanded f gs) ≡ false)
both_alone f no_expressions gs h = (refl, own_alone f gs h)
both_alone f (expression e es) gs h =
    let here = reads_others (expanded f e) in
    let rest = expanded_reads f (append_expressions es gs) in
    let both = both_alone f es gs (neither-right here rest h) in
    (neither-both here (any_reads_others (all_expanded f es)) (neither-left here rest h) both.0, both.1)

pub keyword_alone : (f : Name → Option Expression) (o : Option Expressions) → any_reads_others (all_expanded f (list_expressions o)) ≡ false → keyword_reads_others (expanded_list f o) ≡ false
keyword_alone f None h = refl
keyword_alone f (Some es) h = h

pub until_alone : (f : Name → Option Expression) (o : Option Attempts) → any_reads_others (all_expanded f (until_expressions o)) ≡ false → until_reads_others (expanded_attempts f o) ≡ false
until_alone f None h = refl
until_alone f (Some a) h = h

append_alone : (f : Name → Option Expression) (es gs : Expressions) → any_reads_others (all_expanded f (append_expressions es gs)) ≡ false → (any_reads_others (all_expanded f es) ≡ false) × (any_reads_others (all_expanded f gs) ≡ false)
append_alone f no_expressions gs h = (refl, h)
append_alone f (expression e es) gs h =
    let here = reads_others (expanded f e) in
    let rest = any_reads_others (all_expanded f (append_expressions es gs)) in
    let both = append_alone f es gs (neither-right here rest h) in
    (neither-both here (any_reads_others (all_expanded f es)) (neither-left here rest h) both.0, both.1)

task_alone : (s : Surroundings) (p : ℕ) (t : TaskData) → expanded_reads (trees (append_parts t.vars s.scope)) (give_expressions t) ≡ false → reads_alone (task_at s p t) ≡ true
task_alone s p t h =
    let f = trees (append_parts t.vars s.scope) in
    let later = append_expressions (list_expressions t.failed_when) (until_expressions t.attempts) in
    let first = both_alone f (list_expressions t.changed_when) later h in
    let both = append_alone f (list_expressions t.failed_when) (until_expressions t.attempts) first.1 in
    let failed = keyword_reads_others (expanded_list f t.failed_when) in
    let until = until_reads_others (expanded_attempts f t.attempts) in
    ap not (neither-both (keyword_reads_others (expanded_list f t.changed_when)) (failed || until) (keyword_alone f t.changed_when first.0) (neither-both failed until (keyword_alone f t.failed_when both.0) (until_alone f t.attempts both.1)))

handlers_alone : (play : PlayData) (s : Surroundings) (i p : ℕ) (hs : List HandlerData) → s.scope ≡ play.vars → AllSites (λ x. breaks_give x ≡ false) (handler_sites play i hs) → handlers_have reads_alone (handlers_at s i p hs) ≡ true
handlers_alone play s i p [] e a = refl
handlers_alone play s i p (h ∷ hs) e a =
    and-both (reads_alone (task_at s p h.work)) (handlers_have reads_alone (handlers_at s (suc i) (suc p) hs))
    (task_alone s p h.work (ap (λ scope. expanded_reads (trees (append_parts h.work.vars scope)) (give_expressions h.work)) e ∙ a.0)) (handlers_alone play s (suc i) (suc p) hs e a.1)

pub program_alone : (ms : Registry) (inventory : Inventory) (b : Book) (n : ℕ) → judged ms inventory b ≡ accepted n → program_has reads_alone (λ p. handlers_have reads_alone) (program_of ms inventory b) ≡ true
program_alone ms inventory b n h =
    plays_have ms reads_alone (λ names. handlers_have reads_alone) (λ x. breaks_give x ≡ false) (λ play l. refl) (λ play s p t e. task_alone s p t e) (λ play p a. handlers_alone play (play_surroundings ms play) 0 p play.handlers refl a)
    inventory b (gives_kept ms inventory b n h)

-- handlers notify later ones alone
abbrev pub notify_on : List HandlerNames → Handlers → Bool
notify_on names no_handlers = true
notify_on names (handler n t hs) = not (any_notifies_up_to n names t.notifies) && notify_on names hs

abbrev pub in_order : List HandlerNames → Handlers → Bool
in_order names hs = are_numbered 0 hs && notify_on names hs

handlers_notify_on : (play : PlayData) (s : Surroundings) (i p : ℕ) (hs : List HandlerData) → AllSites (λ x. breaks_order x x.thing ≡ false) (handler_sites play i hs) → notify_on (names_of_handlers play.handlers) (handlers_at s i p hs) ≡ true
handlers_notify_on play s i p [] a = refl
handlers_notify_on play s i p (h ∷ hs) a =
    and-both (not (any_notifies_up_to i (names_of_handlers play.handlers) h.work.notify)) (notify_on (names_of_handlers play.handlers) (handlers_at s (suc i) (suc p) hs)) (ap not a.0) (handlers_notify_on play s (suc i) (suc p) hs a.1)

pub program_in_order : (ms : Registry) (inventory : Inventory) (b : Book) (n : ℕ) → judged ms inventory b ≡ accepted n → program_has (λ t. true) (λ p. in_order p.handlers) (program_of ms inventory b) ≡ true
program_in_order ms inventory b n h =
    plays_have ms (λ t. true) in_order (λ x. breaks_order x x.thing ≡ false) (λ play l. refl) (λ play s p t e. refl)
    (λ play p a. and-both (are_numbered 0 (handlers_at (play_surroundings ms play) 0 p play.handlers)) (notify_on (names_of_handlers play.handlers) (handlers_at (play_surroundings ms play) 0 p play.handlers))
    (numbered_from (play_surroundings ms play) 0 p play.handlers) (handlers_notify_on play (play_surroundings ms play) 0 p play.handlers a))
    inventory b (order_kept ms inventory b n h)
