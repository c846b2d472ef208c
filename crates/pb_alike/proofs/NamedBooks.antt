-- Where no text of a book reads the host's own name, no task of its plays does.
use Rattle.std.proofs.Common.{◌≡◌, ℕ, suc, List, [], ◌∷◌, Bool, true, false, not, ◌&&◌, ◌||◌, cond, bytes_eq, Option, Some, None, codes, refl, ap, ◌∙◌}
use Rattle.pb_semantics.proofs.Bools.{and-left, and-right, and-both, neither-left, neither-right, neither-both, not-true}
use Rattle.pb_language.specs.Expression.{Name, Expression, Expressions, no_expressions, expression, Parts, no_parts, part}
use Rattle.pb_language.specs.Expansion.{expanded, all_expanded, parts_expanded, part_named, trees}
use Rattle.pb_language.specs.Book.{Asserted, not_given, not_well_formed, conditions_are, Work, module_work, debug_work, set_fact_work, assert_work, fail_work, TaskData, HandlerData, PlayData, Registry}
use Rattle.pb_language.specs.Plays.{append_parts, append_expressions, argument_or, conditions_of, expanded_option, expanded_list, expanded_attempts, action_of, Surroundings, task_at, handlers_at, play_surroundings, program_of}
use Rattle.pb_language.specs.Program.{Program}
use Rattle.pb_language.specs.Task.{Attempts, Task, Handlers, no_handlers, handler, Row, end, task, flush, section, block}
use Rattle.pb_language.specs.Sites.{Site, handler_sites, sites_of}
use Rattle.pb_language.specs.Rules.{option_expressions, list_expressions, part_expressions, asserted_expressions, work_expressions, until_expressions, give_expressions, task_expressions}
use Rattle.pb_language.proofs.Ruled.{AllSites, handlers_have, plays_have, program_has, row_has}
use Rattle.pb_alike.specs.Named.{reads_name, any_reads_name, part_reads_name, text_reads_name, keyword_reads_name, until_reads_name, action_reads_name, task_reads_name, handlers_read_name, row_reads_name, plays_read_name, expanded_reads_name, site_reads_name, any_reads_name_there, BooksReadNoName}

-- ---- what a task's texts read

module _ (f : Name → Option Expression) where
  own_nameless : (es : Expressions) → expanded_reads_name f es ≡ false → any_reads_name (all_expanded f es) ≡ false
  own_nameless no_expressions h = refl
  own_nameless (expression e es) h =
      let here = reads_name (expanded f e) in
      let rest = expanded_reads_name f es in
      neither-both here (any_reads_name (all_expanded f es)) (neither-left here rest h) (own_nameless es (neither-right here rest h))

  keyword_nameless : (o : Option Expressions) → any_reads_name (all_expanded f (list_expressions o)) ≡ false → keyword_reads_name (expanded_list f o) ≡ false
  keyword_nameless None h = refl
  keyword_nameless (Some es) h = h

  until_nameless : (o : Option Attempts) → any_reads_name (all_expanded f (until_expressions o)) ≡ false → until_reads_name (expanded_attempts f o) ≡ false
  until_nameless None h = refl
  until_nameless (Some a) h = h

  apart : (es gs : Expressions) → expanded_reads_name f (append_expressions es gs) ≡ false → (any_reads_name (all_expanded f es) ≡ false) × (expanded_reads_name f gs ≡ false)
  apart no_expressions gs h = (refl, h)
  apart (expression e es) gs h =
      let here = reads_name (expanded f e) in
      let rest = expanded_reads_name f (append_expressions es gs) in
      let both = apart es gs (neither-right here rest h) in
      (neither-both here (any_reads_name (all_expanded f es)) (neither-left here rest h) both.0, both.1)

  text_nameless : (o : Option Expression) → any_reads_name (all_expanded f (option_expressions o)) ≡ false → text_reads_name (expanded_option f o) ≡ false
  text_nameless None h = refl
  text_nameless (Some e) h = neither-left (reads_name (expanded f e)) false h

  parts_nameless : (ps : Parts) → any_reads_name (all_expanded f (part_expressions ps)) ≡ false → part_reads_name (parts_expanded f ps) ≡ false
  parts_nameless no_parts h = refl
  parts_nameless (part n e ps) h =
      let here = reads_name (expanded f e) in
      let rest = any_reads_name (all_expanded f (part_expressions ps)) in
      neither-both here (part_reads_name (parts_expanded f ps)) (neither-left here rest h) (parts_nameless ps (neither-right here rest h))

  named_nameless : (n : Name) (ps : Parts) → any_reads_name (all_expanded f (part_expressions ps)) ≡ false → text_reads_name (expanded_option f (part_named n ps)) ≡ false
  named_nameless n no_parts h = refl
  named_nameless n (part m e ps) h =
      let here = reads_name (expanded f e) in
      let rest = any_reads_name (all_expanded f (part_expressions ps)) in
      chosen (bytes_eq n m) (neither-left here rest h) (named_nameless n ps (neither-right here rest h)) where
        chosen : (q : Bool) → reads_name (expanded f e) ≡ false → text_reads_name (expanded_option f (part_named n ps)) ≡ false → text_reads_name (expanded_option f (cond q (Some e) (part_named n ps))) ≡ false
        chosen true a b = a
        chosen false a b = b

  argument_nameless : (o : Option Expression) → text_reads_name (expanded_option f o) ≡ false → reads_name (expanded f (argument_or o)) ≡ false
  argument_nameless None h = refl
  argument_nameless (Some e) h = h

  asserted_nameless : (a : Asserted) → any_reads_name (all_expanded f (asserted_expressions a)) ≡ false → any_reads_name (all_expanded f (conditions_of a)) ≡ false
  asserted_nameless not_given h = refl
  asserted_nameless not_well_formed h = refl
  asserted_nameless (conditions_are es) h = h

  asserts_nameless : (a : Asserted) (ps : Parts) → expanded_reads_name f (append_expressions (part_expressions ps) (asserted_expressions a)) ≡ false
      → any_reads_name (all_expanded f (conditions_of a)) || text_reads_name (expanded_option f (part_named (codes "fail_msg") ps)) ≡ false
  asserts_nameless a ps h =
      let both = apart (part_expressions ps) (asserted_expressions a) h in
      neither-both (any_reads_name (all_expanded f (conditions_of a))) (text_reads_name (expanded_option f (part_named (codes "fail_msg") ps)))
      (asserted_nameless a (own_nameless (asserted_expressions a) both.1)) (named_nameless (codes "fail_msg") ps both.0)

  action_nameless : (ms : Registry) (w : Work) → expanded_reads_name f (work_expressions w) ≡ false → action_reads_name (action_of ms f w) ≡ false
  action_nameless ms (module_work n ps) h = parts_nameless ps (own_nameless (part_expressions ps) h)
  action_nameless ms (debug_work ps) h = argument_nameless (part_named (codes "msg") ps) (named_nameless (codes "msg") ps (own_nameless (part_expressions ps) h))
  action_nameless ms (set_fact_work ps) h = parts_nameless ps (own_nameless (part_expressions ps) h)
  action_nameless ms (assert_work a ps) h = asserts_nameless a ps h
  action_nameless ms (fail_work ps) h = named_nameless (codes "msg") ps (own_nameless (part_expressions ps) h)

-- both lists, seen apart from their end
before : (f : Name → Option Expression) (es gs : Expressions) → expanded_reads_name f (append_expressions es gs) ≡ false → expanded_reads_name f es ≡ false
before f no_expressions gs h = refl
before f (expression e es) gs h =
    let here = reads_name (expanded f e) in
    let rest = expanded_reads_name f (append_expressions es gs) in
    neither-both here (expanded_reads_name f es) (neither-left here rest h) (before f es gs (neither-right here rest h))

abbrev is_nameless : Task → Bool
is_nameless t = not (task_reads_name t)

task_nameless : (s : Surroundings) (p : ℕ) (t : TaskData) → expanded_reads_name (trees (append_parts t.vars s.scope)) (task_expressions (append_expressions s.conditions t.condition) t) ≡ false → is_nameless (task_at s p t) ≡ true
task_nameless s p t h =
    let f = trees (append_parts t.vars s.scope) in
    let cs = append_expressions s.conditions t.condition in
    let until = until_expressions t.attempts in
    let later = append_expressions (list_expressions t.failed_when) until in
    let given = give_expressions t in
    let first = apart f (option_expressions t.loop) (append_expressions cs (append_expressions (work_expressions t.work) given)) h in
    let second = apart f cs (append_expressions (work_expressions t.work) given) first.1 in
    let third = apart f (work_expressions t.work) given second.1 in
    let fourth = apart f (list_expressions t.changed_when) later third.1 in
    let fifth = apart f (list_expressions t.failed_when) until fourth.1 in
    let u = task_at s p t in
    ap not (neither-both (text_reads_name u.loop) _ (text_nameless f t.loop first.0)
    (neither-both (any_reads_name u.conditions) _ second.0
    (neither-both (action_reads_name u.action) _ (action_nameless f s.registry t.work (before f (work_expressions t.work) given second.1))
    (neither-both (keyword_reads_name u.changed_when) _ (keyword_nameless f t.changed_when fourth.0)
    (neither-both (keyword_reads_name u.failed_when) (until_reads_name u.attempts) (keyword_nameless f t.failed_when fifth.0) (until_nameless f t.attempts (own_nameless f until fifth.1)))))))

-- ---- the tasks of a book's rows

abbrev IsNameless : Site → Type 0
IsNameless x = site_reads_name x ≡ false

none_there : (ss : List Site) → any_reads_name_there ss ≡ false → AllSites IsNameless ss
none_there [] h = tt
none_there (s ∷ ss) h =
    let here = site_reads_name s in
    let rest = any_reads_name_there ss in
    (neither-left here rest h, none_there ss (neither-right here rest h))

handlers_nameless : (play : PlayData) (s : Surroundings) (i p : ℕ) (hs : List HandlerData) → s.scope ≡ play.vars → s.conditions ≡ no_expressions → AllSites IsNameless (handler_sites play i hs) → handlers_have is_nameless (handlers_at s i p hs) ≡ true
handlers_nameless play s i p [] e c a = refl
handlers_nameless play s i p (h ∷ hs) e c a =
    and-both (is_nameless (task_at s p h.work)) (handlers_have is_nameless (handlers_at s (suc i) (suc p) hs))
    (task_nameless s p h.work (ap (λ scope. expanded_reads_name (trees (append_parts h.work.vars scope)) (task_expressions (append_expressions s.conditions h.work.condition) h.work)) e
    ∙ ap (λ cs. expanded_reads_name (trees (append_parts h.work.vars play.vars)) (task_expressions (append_expressions cs h.work.condition) h.work)) c ∙ a.0))
    (handlers_nameless play s (suc i) (suc p) hs e c a.1)

handlers_read : (hs : Handlers) → handlers_have is_nameless hs ≡ true → handlers_read_name hs ≡ false
handlers_read no_handlers h = refl
handlers_read (handler n t hs) h =
    neither-both (task_reads_name t) (handlers_read_name hs) (not-true (task_reads_name t) (and-left (is_nameless t) (handlers_have is_nameless hs) h)) (handlers_read hs (and-right (is_nameless t) (handlers_have is_nameless hs) h))

row_read : (row : Row) → row_has is_nameless (handlers_have is_nameless) row ≡ true → row_reads_name row ≡ false
row_read end h = refl
row_read (task t row) h =
    let rest = row_has is_nameless (handlers_have is_nameless) row in
    neither-both (task_reads_name t) (row_reads_name row) (not-true (task_reads_name t) (and-left (is_nameless t) rest h)) (row_read row (and-right (is_nameless t) rest h))
row_read (flush hs row) h =
    let rest = row_has is_nameless (handlers_have is_nameless) row in
    neither-both (handlers_read_name hs) (row_reads_name row) (handlers_read hs (and-left (handlers_have is_nameless hs) rest h)) (row_read row (and-right (handlers_have is_nameless hs) rest h))
row_read (section body hs row) h =
    let first = row_has is_nameless (handlers_have is_nameless) body in
    let rest = row_has is_nameless (handlers_have is_nameless) row in
    let later = and-right first (handlers_have is_nameless hs && rest) h in
    neither-both (row_reads_name body) (handlers_read_name hs || row_reads_name row) (row_read body (and-left first (handlers_have is_nameless hs && rest) h))
    (neither-both (handlers_read_name hs) (row_reads_name row) (handlers_read hs (and-left (handlers_have is_nameless hs) rest later)) (row_read row (and-right (handlers_have is_nameless hs) rest later)))
row_read (block d body saves rescued always row) h =
    let first = row_has is_nameless (handlers_have is_nameless) body in
    let second = row_has is_nameless (handlers_have is_nameless) rescued in
    let third = row_has is_nameless (handlers_have is_nameless) always in
    let rest = row_has is_nameless (handlers_have is_nameless) row in
    let later = and-right first (second && (third && rest)) h in
    let last = and-right second (third && rest) later in
    neither-both (row_reads_name body) (row_reads_name rescued || (row_reads_name always || row_reads_name row)) (row_read body (and-left first (second && (third && rest)) h))
    (neither-both (row_reads_name rescued) (row_reads_name always || row_reads_name row) (row_read rescued (and-left second (third && rest) later))
    (neither-both (row_reads_name always) (row_reads_name row) (row_read always (and-left third rest last)) (row_read row (and-right third rest last))))

plays_read : (ps : Program) → program_has is_nameless (λ p. handlers_have is_nameless) ps ≡ true → plays_read_name ps ≡ false
plays_read [] h = refl
plays_read (p ∷ ps) h =
    let here = row_has is_nameless (handlers_have is_nameless) p.row in
    let rest = program_has is_nameless (λ q. handlers_have is_nameless) ps in
    neither-both (row_reads_name p.row) (plays_read_name ps) (row_read p.row (and-left here rest h)) (plays_read ps (and-right here rest h))

pub books_nameless : BooksReadNoName
books_nameless ms inventory b h =
    plays_read (program_of ms inventory b)
    (plays_have ms is_nameless (λ names. handlers_have is_nameless) IsNameless (λ play l. refl) (λ play s p t e. task_nameless s p t e)
    (λ play p a. handlers_nameless play (play_surroundings ms play) 0 p play.handlers refl refl a) inventory b (none_there (sites_of b) h))
