-- Where no text of a book reads another host, no task of its plays does.
use Rattle.std.proofs.Common.{◌≡◌, ℕ, suc, List, [], ◌∷◌, Bool, true, false, not, ◌&&◌, ◌||◌, cond, bytes_eq, Option, Some, None, codes, refl, ap, ◌∙◌}
use Rattle.pb_semantics.proofs.Bools.{and-left, and-right, and-both, neither-left, neither-right, neither-both, not-true}
use Rattle.pb_language.specs.Expression.{Name, Expression, Expressions, no_expressions, expression, Parts, no_parts, part}
use Rattle.pb_language.specs.Expansion.{expanded, all_expanded, parts_expanded, part_named, trees}
use Rattle.pb_language.specs.Book.{Asserted, not_given, not_well_formed, conditions_are, Work, module_work, debug_work, set_fact_work, assert_work, fail_work, TaskData, HandlerData, PlayData, Registry}
use Rattle.pb_language.specs.Plays.{append_parts, append_expressions, argument_or, conditions_of, expanded_option, action_of, Surroundings, task_at, handlers_at, play_surroundings, program_of}
use Rattle.pb_language.specs.Program.{Program}
use Rattle.pb_language.specs.Task.{Task, Handlers, no_handlers, handler, Row, end, task, flush, section, block}
use Rattle.pb_language.specs.Sites.{Site, handler_sites, sites_of}
use Rattle.pb_language.specs.Rules.{any_reads_others, part_reads_others, reads_others, expanded_reads, option_expressions, list_expressions, part_expressions, asserted_expressions, work_expressions, until_expressions, give_expressions, task_expressions}
use Rattle.pb_language.specs.OwnReads.{keyword_reads_others, until_reads_others}
use Rattle.pb_language.proofs.Ruled.{AllSites, handlers_have, keyword_alone, own_alone, plays_have, program_has, row_has, until_alone}
use Rattle.pb_walks.specs.Alone.{text_reads_others, action_reads_others, task_reads_others, handlers_read_others, row_reads_others, plays_read_others, site_reads_others, any_reads_others_there, BooksReadAlone}

-- ---- what a task's texts read

module _ (f : Name → Option Expression) where
  apart : (es gs : Expressions) → expanded_reads f (append_expressions es gs) ≡ false → (any_reads_others (all_expanded f es) ≡ false) × (expanded_reads f gs ≡ false)
  apart no_expressions gs h = (refl, h)
  apart (expression e es) gs h =
      let here = reads_others (expanded f e) in
      let rest = expanded_reads f (append_expressions es gs) in
      let both = apart es gs (neither-right here rest h) in
      (neither-both here (any_reads_others (all_expanded f es)) (neither-left here rest h) both.0, both.1)

  text_alone : (o : Option Expression) → any_reads_others (all_expanded f (option_expressions o)) ≡ false → text_reads_others (expanded_option f o) ≡ false
  text_alone None h = refl
  text_alone (Some e) h = neither-left (reads_others (expanded f e)) false h

  parts_alone : (ps : Parts) → any_reads_others (all_expanded f (part_expressions ps)) ≡ false → part_reads_others (parts_expanded f ps) ≡ false
  parts_alone no_parts h = refl
  parts_alone (part n e ps) h =
      let here = reads_others (expanded f e) in
      let rest = any_reads_others (all_expanded f (part_expressions ps)) in
      neither-both here (part_reads_others (parts_expanded f ps)) (neither-left here rest h) (parts_alone ps (neither-right here rest h))

  named_alone : (n : Name) (ps : Parts) → any_reads_others (all_expanded f (part_expressions ps)) ≡ false → text_reads_others (expanded_option f (part_named n ps)) ≡ false
  named_alone n no_parts h = refl
  named_alone n (part m e ps) h =
      let here = reads_others (expanded f e) in
      let rest = any_reads_others (all_expanded f (part_expressions ps)) in
      chosen (bytes_eq n m) (neither-left here rest h) (named_alone n ps (neither-right here rest h)) where
        chosen : (q : Bool) → reads_others (expanded f e) ≡ false → text_reads_others (expanded_option f (part_named n ps)) ≡ false → text_reads_others (expanded_option f (cond q (Some e) (part_named n ps))) ≡ false
        chosen true a b = a
        chosen false a b = b

  argument_alone : (o : Option Expression) → text_reads_others (expanded_option f o) ≡ false → reads_others (expanded f (argument_or o)) ≡ false
  argument_alone None h = refl
  argument_alone (Some e) h = h

  asserted_alone : (a : Asserted) → any_reads_others (all_expanded f (asserted_expressions a)) ≡ false → any_reads_others (all_expanded f (conditions_of a)) ≡ false
  asserted_alone not_given h = refl
  asserted_alone not_well_formed h = refl
  asserted_alone (conditions_are es) h = h

  asserts_alone : (a : Asserted) (ps : Parts) → expanded_reads f (append_expressions (part_expressions ps) (asserted_expressions a)) ≡ false
      → any_reads_others (all_expanded f (conditions_of a)) || text_reads_others (expanded_option f (part_named (codes "fail_msg") ps)) ≡ false
  asserts_alone a ps h =
      let both = apart (part_expressions ps) (asserted_expressions a) h in
      neither-both (any_reads_others (all_expanded f (conditions_of a))) (text_reads_others (expanded_option f (part_named (codes "fail_msg") ps)))
      (asserted_alone a (own_alone f (asserted_expressions a) both.1)) (named_alone (codes "fail_msg") ps both.0)

  action_alone : (ms : Registry) (w : Work) → expanded_reads f (work_expressions w) ≡ false → action_reads_others (action_of ms f w) ≡ false
  action_alone ms (module_work n ps) h = parts_alone ps (own_alone f (part_expressions ps) h)
  action_alone ms (debug_work ps) h = argument_alone (part_named (codes "msg") ps) (named_alone (codes "msg") ps (own_alone f (part_expressions ps) h))
  action_alone ms (set_fact_work ps) h = parts_alone ps (own_alone f (part_expressions ps) h)
  action_alone ms (assert_work a ps) h = asserts_alone a ps h
  action_alone ms (fail_work ps) h = named_alone (codes "msg") ps (own_alone f (part_expressions ps) h)

-- both lists, seen apart from their end
before : (f : Name → Option Expression) (es gs : Expressions) → expanded_reads f (append_expressions es gs) ≡ false → expanded_reads f es ≡ false
before f no_expressions gs h = refl
before f (expression e es) gs h =
    let here = reads_others (expanded f e) in
    let rest = expanded_reads f (append_expressions es gs) in
    neither-both here (expanded_reads f es) (neither-left here rest h) (before f es gs (neither-right here rest h))

abbrev is_alone : Task → Bool
is_alone t = not (task_reads_others t)

task_alone : (s : Surroundings) (p : ℕ) (t : TaskData) → expanded_reads (trees (append_parts t.vars s.scope)) (task_expressions (append_expressions s.conditions t.condition) t) ≡ false → is_alone (task_at s p t) ≡ true
task_alone s p t h =
    let f = trees (append_parts t.vars s.scope) in
    let cs = append_expressions s.conditions t.condition in
    let until = until_expressions t.attempts in
    let later = append_expressions (list_expressions t.failed_when) until in
    let given = give_expressions t in
    let first = apart f (option_expressions t.loop) (append_expressions cs (append_expressions (work_expressions t.work) given)) h in
    let second = apart f cs (append_expressions (work_expressions t.work) given) first.1 in
    let third = apart f (work_expressions t.work) given second.1 in
    let fourth = apart f (list_expressions t.changed_when) later third.1 in
    let fifth = apart f (list_expressions t.failed_when) until fourth.1 in
    let u = task_at s p t in
    ap not (neither-both (text_reads_others u.loop) _ (text_alone f t.loop first.0)
    (neither-both (any_reads_others u.conditions) _ second.0
    (neither-both (action_reads_others u.action) _ (action_alone f s.registry t.work (before f (work_expressions t.work) given second.1))
    (neither-both (keyword_reads_others u.changed_when) _ (keyword_alone f t.changed_when fourth.0)
    (neither-both (keyword_reads_others u.failed_when) (until_reads_others u.attempts) (keyword_alone f t.failed_when fifth.0) (until_alone f t.attempts (own_alone f until fifth.1)))))))

-- ---- the tasks of a book's rows

abbrev IsAlone : Site → Type 0
IsAlone x = site_reads_others x ≡ false

none_there : (ss : List Site) → any_reads_others_there ss ≡ false → AllSites IsAlone ss
none_there [] h = tt
none_there (s ∷ ss) h =
    let here = site_reads_others s in
    let rest = any_reads_others_there ss in
    (neither-left here rest h, none_there ss (neither-right here rest h))

handlers_alone : (play : PlayData) (s : Surroundings) (i p : ℕ) (hs : List HandlerData) → s.scope ≡ play.vars → s.conditions ≡ no_expressions → AllSites IsAlone (handler_sites play i hs) → handlers_have is_alone (handlers_at s i p hs) ≡ true
handlers_alone play s i p [] e c a = refl
handlers_alone play s i p (h ∷ hs) e c a =
    and-both (is_alone (task_at s p h.work)) (handlers_have is_alone (handlers_at s (suc i) (suc p) hs))
    (task_alone s p h.work (ap (λ scope. expanded_reads (trees (append_parts h.work.vars scope)) (task_expressions (append_expressions s.conditions h.work.condition) h.work)) e
    ∙ ap (λ cs. expanded_reads (trees (append_parts h.work.vars play.vars)) (task_expressions (append_expressions cs h.work.condition) h.work)) c ∙ a.0))
    (handlers_alone play s (suc i) (suc p) hs e c a.1)

handlers_read : (hs : Handlers) → handlers_have is_alone hs ≡ true → handlers_read_others hs ≡ false
handlers_read no_handlers h = refl
handlers_read (handler n t hs) h =
    neither-both (task_reads_others t) (handlers_read_others hs) (not-true (task_reads_others t) (and-left (is_alone t) (handlers_have is_alone hs) h)) (handlers_read hs (and-right (is_alone t) (handlers_have is_alone hs) h))

row_read : (row : Row) → row_has is_alone (handlers_have is_alone) row ≡ true → row_reads_others row ≡ false
row_read end h = refl
row_read (task t row) h =
    let rest = row_has is_alone (handlers_have is_alone) row in
    neither-both (task_reads_others t) (row_reads_others row) (not-true (task_reads_others t) (and-left (is_alone t) rest h)) (row_read row (and-right (is_alone t) rest h))
row_read (flush hs row) h =
    let rest = row_has is_alone (handlers_have is_alone) row in
    neither-both (handlers_read_others hs) (row_reads_others row) (handlers_read hs (and-left (handlers_have is_alone hs) rest h)) (row_read row (and-right (handlers_have is_alone hs) rest h))
row_read (section body hs row) h =
    let first = row_has is_alone (handlers_have is_alone) body in
    let rest = row_has is_alone (handlers_have is_alone) row in
    let later = and-right first (handlers_have is_alone hs && rest) h in
    neither-both (row_reads_others body) (handlers_read_others hs || row_reads_others row) (row_read body (and-left first (handlers_have is_alone hs && rest) h))
    (neither-both (handlers_read_others hs) (row_reads_others row) (handlers_read hs (and-left (handlers_have is_alone hs) rest later)) (row_read row (and-right (handlers_have is_alone hs) rest later)))
row_read (block d body saves rescued always row) h =
    let first = row_has is_alone (handlers_have is_alone) body in
    let second = row_has is_alone (handlers_have is_alone) rescued in
    let third = row_has is_alone (handlers_have is_alone) always in
    let rest = row_has is_alone (handlers_have is_alone) row in
    let later = and-right first (second && (third && rest)) h in
    let last = and-right second (third && rest) later in
    neither-both (row_reads_others body) (row_reads_others rescued || (row_reads_others always || row_reads_others row)) (row_read body (and-left first (second && (third && rest)) h))
    (neither-both (row_reads_others rescued) (row_reads_others always || row_reads_others row) (row_read rescued (and-left second (third && rest) later))
    (neither-both (row_reads_others always) (row_reads_others row) (row_read always (and-left third rest last)) (row_read row (and-right third rest last))))

plays_read : (ps : Program) → program_has is_alone (λ p. handlers_have is_alone) ps ≡ true → plays_read_others ps ≡ false
plays_read [] h = refl
plays_read (p ∷ ps) h =
    let here = row_has is_alone (handlers_have is_alone) p.row in
    let rest = program_has is_alone (λ q. handlers_have is_alone) ps in
    neither-both (row_reads_others p.row) (plays_read_others ps) (row_read p.row (and-left here rest h)) (plays_read ps (and-right here rest h))

pub books_alone : BooksReadAlone
books_alone ms inventory b h =
    plays_read (program_of ms inventory b)
    (plays_have ms is_alone (λ names. handlers_have is_alone) IsAlone (λ play l. refl) (λ play s p t e. task_alone s p t e)
    (λ play p a. handlers_alone play (play_surroundings ms play) 0 p play.handlers refl refl a) inventory b (none_there (sites_of b) h))
