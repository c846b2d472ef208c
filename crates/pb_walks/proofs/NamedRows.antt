-- Each task of the rows of a book that keeps the rules notifies texts that name handlers.
use Rattle.std.proofs.Common.{◌≡◌, ◌+◌, ℕ, suc, List, [], ◌∷◌, ◌++◌, Bool, true, false, not, ◌||◌, cond, Option, Some, None, length, refl, true≢false}
use Rattle.pb_semantics.proofs.Bools.{untrue}
use Rattle.pb_language.specs.Expression.{Expressions, no_expressions, Parts}
use Rattle.pb_language.specs.Notify.{HandlerNames, all_notified, names_something}
use Rattle.pb_language.specs.Book.{Steps, no_steps, task_step, block_step, flush_step, HandlerData, PlayData, Book, Registry}
use Rattle.pb_language.specs.Plays.{append_parts, append_expressions, Surroundings, inside, is_given, places_in, handlers_at, row_of, ended_row, section_row, gathered_row, sections_row, play_surroundings, play_row, names_of_handlers, program_of}
use Rattle.pb_language.specs.Program.{Inventory, Program}
use Rattle.pb_language.specs.Task.{Task, Handlers, no_handlers, handler, Row, end, task, flush, section, block}
use Rattle.pb_language.specs.Sites.{Site, sites_in, handler_sites, gathering_sites, play_sites, sites_of}
use Rattle.pb_language.specs.Rules.{breaks_parameters, breaks_names, vars_names, breaks_chains, breaks_known, breaks_notify, breaks_order, breaks_give, first_line, too_many_steps, rules_offence}
use Rattle.pb_language.specs.Verdict.{Refusal, earlier}
use Rattle.pb_language.proofs.Accepted.{earlier_none}

-- what a task notifies names handlers, and so it is of each task of a row
abbrev pub Named : List HandlerNames → Task → Type 0
Named names t = names_something (all_notified names t.notifies) ≡ true

abbrev pub HandlersNamed : List HandlerNames → Handlers → Type 0
HandlersNamed names no_handlers = Unit {0}
HandlersNamed names (handler n t hs) = Named names t × HandlersNamed names hs

abbrev pub RowNamed : List HandlerNames → Row → Type 0
RowNamed names end = Unit {0}
RowNamed names (task t row) = Named names t × RowNamed names row
RowNamed names (flush hs row) = HandlersNamed names hs × RowNamed names row
RowNamed names (section body hs row) = RowNamed names body × HandlersNamed names hs × RowNamed names row
RowNamed names (block d body saves rescued always row) = RowNamed names body × RowNamed names rescued × RowNamed names always × RowNamed names row

abbrev pub ProgramNamed : Program → Type 0
ProgramNamed [] = Unit {0}
ProgramNamed (p ∷ ps) = RowNamed p.handlers p.row × ProgramNamed ps

-- no line breaks V05
abbrev Kept : List Site → Type 0
Kept [] = Unit {0}
Kept (s ∷ ss) = (breaks_notify s ≡ false) × Kept ss

kept_apart : (xs ys : List Site) → Kept (xs ++ ys) → Kept xs × Kept ys
kept_apart [] ys a = (tt, a)
kept_apart (x ∷ xs) ys a = let both = kept_apart xs ys a.1 in ((a.0, both.0), both.1)

unbroken : (q : Bool) (r : Refusal) → cond q (Some r) None ≡ None → q ≡ false
unbroken true r e = absurd (true≢false (cc))
unbroken false r e = refl

none_broken : (ss : List Site) → first_line 5 breaks_notify ss ≡ None → Kept ss
none_broken [] e = tt
none_broken (s ∷ ss) e =
    let here : Refusal = record { code = 5; line = s.line; host = None } in
    let none = earlier_none (cond (breaks_notify s) (Some here) None) (first_line 5 breaks_notify ss) e in
    (unbroken (breaks_notify s) here none.0, none_broken ss none.1)

lines_kept : (ms : Registry) (inventory : Inventory) (b : Book) → rules_offence ms inventory b ≡ None → Kept (sites_of b)
lines_kept ms inventory b all =
    let lines = sites_of b in
    let first = first_line 7 (breaks_parameters ms) lines in
    let second = first_line 8 (breaks_names (vars_names lines)) lines in
    let third = first_line 10 breaks_chains lines in
    let fourth = first_line 6 (λ s. breaks_known inventory s s.thing) lines in
    let fifth = first_line 5 breaks_notify lines in
    let last_two = earlier (first_line 12 (λ s. breaks_order s s.thing) lines) (first_line 9 breaks_give lines) in
    let from_fifth = earlier fifth last_two in
    let from_fourth = earlier fourth from_fifth in
    let from_third = earlier third from_fourth in
    let from_second = earlier second from_third in
    let from_first = earlier first from_second in
    none_broken lines
    (earlier_none fifth last_two
    (earlier_none fourth from_fifth
    (earlier_none third from_fourth
    (earlier_none second from_third
    (earlier_none first from_second
    (earlier_none (too_many_steps 0 b) from_first all).1).1).1).1).1).0

unbroken_named : (q : Bool) → not q ≡ false → q ≡ true
unbroken_named true h = refl
unbroken_named false h = untrue (let e : false ≡ true = cc in e)

-- what is so of each line is so of a play's row
module _ (play : PlayData) where
  abbrev names : List HandlerNames
  names = names_of_handlers play.handlers

  handlers_named : (s : Surroundings) (i p : ℕ) (hs : List HandlerData) → Kept (handler_sites play i hs) → HandlersNamed names (handlers_at s i p hs)
  handlers_named s i p [] a = tt
  handlers_named s i p (h ∷ hs) a = (unbroken_named (names_something (all_notified names h.work.notify)) a.0, handlers_named s (suc i) (suc p) hs a.1)

  module _ (hs : ℕ → Handlers) (n : ℕ) (flush_named : (p : ℕ) → HandlersNamed names (hs p)) where
    steps_named : (cs : Expressions) (scope : Parts) (s : Surroundings) (p : ℕ) (ss : Steps) (row : Row) → Kept (sites_in play cs scope ss) → RowNamed names row → RowNamed names (row_of hs n s p ss row)
    steps_named cs scope s p no_steps row a h = h
    steps_named cs scope s p (task_step t ss) row a h = (unbroken_named (names_something (all_notified names t.notify)) a.0, steps_named cs scope s (suc p) ss row a.1 h)
    steps_named cs scope s p (flush_step l ss) row a h = (flush_named p, steps_named cs scope s (n + p) ss row a.1 h)
    steps_named cs scope s p (block_step b x y z ss) row a h =
        let ds = append_expressions cs b.condition in
        let inner = append_parts b.vars scope in
        let bodies = sites_in play ds inner x in
        let rescues = sites_in play ds inner y in
        let ends = sites_in play ds inner z in
        let third = kept_apart (bodies ++ rescues ++ ends) (sites_in play cs scope ss) a.1 in
        let second = kept_apart (bodies ++ rescues) ends third.0 in
        let first = kept_apart bodies rescues second.0 in (
          steps_named ds inner (record (inside s b) { rescued = s.rescued || is_given y }) p x end first.0 tt,
          steps_named ds inner (record (inside s b) { depth = suc s.depth }) (places_in n x + p) y end first.1 tt,
          steps_named ds inner (inside s b) (places_in n y + (places_in n x + p)) z end second.1 tt,
          steps_named cs scope s (places_in n z + (places_in n y + (places_in n x + p))) ss row third.1 h,
        )

    ended_named : (forces : Bool) (scope : Parts) (s : Surroundings) (p q : ℕ) (ss : Steps) (row : Row) → Kept (sites_in play no_expressions scope ss) → RowNamed names row → RowNamed names (ended_row forces (hs q) (row_of hs n s p ss) row)
    ended_named true scope s p q ss row a h = (steps_named no_expressions scope s p ss end a tt, flush_named q, h)
    ended_named false scope s p q ss row a h = steps_named no_expressions scope s p ss (flush (hs q) row) a (flush_named q, h)

    section_named : (given : Bool) (scope : Parts) (s : Surroundings) (p : ℕ) (ss : Steps) (go : ℕ → Row) → Kept (sites_in play no_expressions scope ss) → ((r : ℕ) → RowNamed names (go r))
        → RowNamed names (cond given (ended_row play.forces (hs (places_in n ss + p)) (row_of hs n s p ss) (go (n + (places_in n ss + p)))) (go p))
    section_named true scope s p ss go a h = ended_named play.forces scope s p (places_in n ss + p) ss (go (n + (places_in n ss + p))) a (h (n + (places_in n ss + p)))
    section_named false scope s p ss go a h = h p

    module _ (scope : Parts) (s : Surroundings) (pre : Kept (sites_in play no_expressions scope play.pre_tasks)) (tasks : Kept (sites_in play no_expressions scope play.tasks)) (post : Kept (sites_in play no_expressions scope play.post_tasks)) where
      abbrev last : ℕ → Row
      last r = section_row hs n s play.forces r play.post_tasks (λ q. end)

      sections_named : (p : ℕ) → RowNamed names (sections_row hs n s p play)
      sections_named p =
          section_named (is_given play.pre_tasks) scope s p play.pre_tasks (λ q. section_row hs n s play.forces q play.tasks last) pre
          (λ q. section_named (is_given play.tasks) scope s q play.tasks last tasks (λ r. section_named (is_given play.post_tasks) scope s r play.post_tasks (λ q. end) post (λ q. tt)))

      gathered_named : (o : Option ℕ) → RowNamed names (gathered_row hs n s play o)
      gathered_named None = sections_named 0
      gathered_named (Some l) = (refl, sections_named 1)

play_named : (ms : Registry) (play : PlayData) → Kept (play_sites play) → RowNamed (names_of_handlers play.handlers) (play_row ms play)
play_named ms play a =
    let pre = sites_in play no_expressions play.vars play.pre_tasks in
    let tasks = sites_in play no_expressions play.vars play.tasks in
    let post = sites_in play no_expressions play.vars play.post_tasks in
    let gathering = gathering_sites play play.gathering in
    let around = play_surroundings ms play in
    let fourth = kept_apart (gathering ++ pre ++ tasks ++ post) (handler_sites play 0 play.handlers) a.1 in
    let third = kept_apart (gathering ++ pre ++ tasks) post fourth.0 in
    let second = kept_apart (gathering ++ pre) tasks third.0 in
    let first = kept_apart gathering pre second.0 in
    gathered_named play (λ p. handlers_at around 0 p play.handlers) (length play.handlers) (λ p. handlers_named play around 0 p play.handlers fourth.1)
    play.vars around first.1 second.1 third.1 play.gathering

plays_named : (ms : Registry) (inventory : Inventory) (b : Book) → Kept (sites_of b) → ProgramNamed (program_of ms inventory b)
plays_named ms inventory [] a = tt
plays_named ms inventory (p ∷ ps) a = let both = kept_apart (play_sites p) (sites_of ps) a in (play_named ms p both.0, plays_named ms inventory ps both.1)

pub program_named : (ms : Registry) (inventory : Inventory) (b : Book) → rules_offence ms inventory b ≡ None → ProgramNamed (program_of ms inventory b)
program_named ms inventory b none = plays_named ms inventory b (lines_kept ms inventory b none)
