-- Where no text of a book has a root of which something holds, no task of its plays has one.
use Rattle.std.proofs.Common.{◌≡◌, ℕ, suc, List, [], ◌∷◌, Bool, true, false, not, ◌&&◌, ◌||◌, cond, bytes_eq, Option, Some, None, codes, refl, ap, ◌∙◌}
use Rattle.pb_semantics.proofs.Bools.{and-left, and-right, and-both, neither-left, neither-right, neither-both, not-true}
use Rattle.pb_language.specs.Expression.{Name, Expression, Expressions, no_expressions, expression, Parts, no_parts, part, Root}
use Rattle.pb_language.specs.Expansion.{expanded, all_expanded, parts_expanded, part_named, trees}
use Rattle.pb_language.specs.Book.{Asserted, not_given, not_well_formed, conditions_are, Work, module_work, debug_work, set_fact_work, assert_work, fail_work, TaskData, HandlerData, PlayData, Book, Registry}
use Rattle.pb_language.specs.Plays.{append_parts, append_expressions, argument_or, conditions_of, expanded_option, expanded_list, expanded_attempts, action_of, Surroundings, task_at, handlers_at, play_surroundings, program_of}
use Rattle.pb_language.specs.Program.{Inventory, Program}
use Rattle.pb_language.specs.Task.{Attempts, Task, Handlers, no_handlers, handler, Row, end, task, flush, section, block}
use Rattle.pb_language.specs.Sites.{Site, handler_sites, sites_of}
use Rattle.pb_language.specs.Rules.{option_expressions, list_expressions, part_expressions, asserted_expressions, work_expressions, until_expressions, give_expressions, task_expressions}
use Rattle.pb_language.proofs.Ruled.{AllSites, handlers_have, plays_have, program_has, row_has}
use Rattle.pb_others.specs.Rooted.{has_root, any_has_root, part_has_root, text_has_root, keyword_has_root, until_has_root, action_has_root, task_has_root, handlers_have_root, row_has_root, plays_have_root, expanded_has_root, site_has_root, any_site_has_root, book_has_root}
use Rattle.pb_others.specs.Others.{is_theirs}
use Rattle.pb_others.specs.Laws.{BooksReadTheirs}

module _ (q : Root → Bool) where
  -- ---- a task's texts

  module _ (f : Name → Option Expression) where
    own_rootless : (es : Expressions) → expanded_has_root q f es ≡ false → any_has_root q (all_expanded f es) ≡ false
    own_rootless no_expressions h = refl
    own_rootless (expression e es) h =
        let here = has_root q (expanded f e) in
        let rest = expanded_has_root q f es in
        neither-both here (any_has_root q (all_expanded f es)) (neither-left here rest h) (own_rootless es (neither-right here rest h))

    keyword_rootless : (o : Option Expressions) → any_has_root q (all_expanded f (list_expressions o)) ≡ false → keyword_has_root q (expanded_list f o) ≡ false
    keyword_rootless None h = refl
    keyword_rootless (Some es) h = h

    until_rootless : (o : Option Attempts) → any_has_root q (all_expanded f (until_expressions o)) ≡ false → until_has_root q (expanded_attempts f o) ≡ false
    until_rootless None h = refl
    until_rootless (Some a) h = h

    apart : (es gs : Expressions) → expanded_has_root q f (append_expressions es gs) ≡ false → (any_has_root q (all_expanded f es) ≡ false) × (expanded_has_root q f gs ≡ false)
    apart no_expressions gs h = (refl, h)
    apart (expression e es) gs h =
        let here = has_root q (expanded f e) in
        let rest = expanded_has_root q f (append_expressions es gs) in
        let both = apart es gs (neither-right here rest h) in
        (neither-both here (any_has_root q (all_expanded f es)) (neither-left here rest h) both.0, both.1)

    text_rootless : (o : Option Expression) → any_has_root q (all_expanded f (option_expressions o)) ≡ false → text_has_root q (expanded_option f o) ≡ false
    text_rootless None h = refl
    text_rootless (Some e) h = neither-left (has_root q (expanded f e)) false h

    parts_rootless : (ps : Parts) → any_has_root q (all_expanded f (part_expressions ps)) ≡ false → part_has_root q (parts_expanded f ps) ≡ false
    parts_rootless no_parts h = refl
    parts_rootless (part n e ps) h =
        let here = has_root q (expanded f e) in
        let rest = any_has_root q (all_expanded f (part_expressions ps)) in
        neither-both here (part_has_root q (parts_expanded f ps)) (neither-left here rest h) (parts_rootless ps (neither-right here rest h))

    named_rootless : (n : Name) (ps : Parts) → any_has_root q (all_expanded f (part_expressions ps)) ≡ false → text_has_root q (expanded_option f (part_named n ps)) ≡ false
    named_rootless n no_parts h = refl
    named_rootless n (part m e ps) h =
        let here = has_root q (expanded f e) in
        let rest = any_has_root q (all_expanded f (part_expressions ps)) in
        chosen (bytes_eq n m) (neither-left here rest h) (named_rootless n ps (neither-right here rest h)) where
          chosen : (u : Bool) → has_root q (expanded f e) ≡ false → text_has_root q (expanded_option f (part_named n ps)) ≡ false → text_has_root q (expanded_option f (cond u (Some e) (part_named n ps))) ≡ false
          chosen true a b = a
          chosen false a b = b

    argument_rootless : (o : Option Expression) → text_has_root q (expanded_option f o) ≡ false → has_root q (expanded f (argument_or o)) ≡ false
    argument_rootless None h = refl
    argument_rootless (Some e) h = h

    asserted_rootless : (a : Asserted) → any_has_root q (all_expanded f (asserted_expressions a)) ≡ false → any_has_root q (all_expanded f (conditions_of a)) ≡ false
    asserted_rootless not_given h = refl
    asserted_rootless not_well_formed h = refl
    asserted_rootless (conditions_are es) h = h

    asserts_rootless : (a : Asserted) (ps : Parts) → expanded_has_root q f (append_expressions (part_expressions ps) (asserted_expressions a)) ≡ false
        → any_has_root q (all_expanded f (conditions_of a)) || text_has_root q (expanded_option f (part_named (codes "fail_msg") ps)) ≡ false
    asserts_rootless a ps h =
        let both = apart (part_expressions ps) (asserted_expressions a) h in
        neither-both (any_has_root q (all_expanded f (conditions_of a))) (text_has_root q (expanded_option f (part_named (codes "fail_msg") ps)))
        (asserted_rootless a (own_rootless (asserted_expressions a) both.1)) (named_rootless (codes "fail_msg") ps both.0)

    action_rootless : (ms : Registry) (w : Work) → expanded_has_root q f (work_expressions w) ≡ false → action_has_root q (action_of ms f w) ≡ false
    action_rootless ms (module_work n ps) h = parts_rootless ps (own_rootless (part_expressions ps) h)
    action_rootless ms (debug_work ps) h = argument_rootless (part_named (codes "msg") ps) (named_rootless (codes "msg") ps (own_rootless (part_expressions ps) h))
    action_rootless ms (set_fact_work ps) h = parts_rootless ps (own_rootless (part_expressions ps) h)
    action_rootless ms (assert_work a ps) h = asserts_rootless a ps h
    action_rootless ms (fail_work ps) h = named_rootless (codes "msg") ps (own_rootless (part_expressions ps) h)

  -- both lists, seen apart from their end
  before : (f : Name → Option Expression) (es gs : Expressions) → expanded_has_root q f (append_expressions es gs) ≡ false → expanded_has_root q f es ≡ false
  before f no_expressions gs h = refl
  before f (expression e es) gs h =
      let here = has_root q (expanded f e) in
      let rest = expanded_has_root q f (append_expressions es gs) in
      neither-both here (expanded_has_root q f es) (neither-left here rest h) (before f es gs (neither-right here rest h))

  abbrev is_rootless : Task → Bool
  is_rootless t = not (task_has_root q t)

  task_rootless : (s : Surroundings) (p : ℕ) (t : TaskData) → expanded_has_root q (trees (append_parts t.vars s.scope)) (task_expressions (append_expressions s.conditions t.condition) t) ≡ false → is_rootless (task_at s p t) ≡ true
  task_rootless s p t h =
      let f = trees (append_parts t.vars s.scope) in
      let cs = append_expressions s.conditions t.condition in
      let until = until_expressions t.attempts in
      let later = append_expressions (list_expressions t.failed_when) until in
      let given = give_expressions t in
      let first = apart f (option_expressions t.loop) (append_expressions cs (append_expressions (work_expressions t.work) given)) h in
      let second = apart f cs (append_expressions (work_expressions t.work) given) first.1 in
      let third = apart f (work_expressions t.work) given second.1 in
      let fourth = apart f (list_expressions t.changed_when) later third.1 in
      let fifth = apart f (list_expressions t.failed_when) until fourth.1 in
      let u = task_at s p t in
      ap not (neither-both (text_has_root q u.loop) _ (text_rootless f t.loop first.0)
      (neither-both (any_has_root q u.conditions) _ second.0
      (neither-both (action_has_root q u.action) _ (action_rootless f s.registry t.work (before f (work_expressions t.work) given second.1))
      (neither-both (keyword_has_root q u.changed_when) _ (keyword_rootless f t.changed_when fourth.0)
      (neither-both (keyword_has_root q u.failed_when) (until_has_root q u.attempts) (keyword_rootless f t.failed_when fifth.0) (until_rootless f t.attempts (own_rootless f until fifth.1)))))))

  -- ---- the tasks of a book's rows

  abbrev IsRootless : Site → Type 0
  IsRootless x = site_has_root q x ≡ false

  none_rooted : (ss : List Site) → any_site_has_root q ss ≡ false → AllSites IsRootless ss
  none_rooted [] h = tt
  none_rooted (s ∷ ss) h =
      let here = site_has_root q s in
      let rest = any_site_has_root q ss in
      (neither-left here rest h, none_rooted ss (neither-right here rest h))

  handlers_rootless : (play : PlayData) (s : Surroundings) (i p : ℕ) (hs : List HandlerData) → s.scope ≡ play.vars → s.conditions ≡ no_expressions → AllSites IsRootless (handler_sites play i hs) → handlers_have is_rootless (handlers_at s i p hs) ≡ true
  handlers_rootless play s i p [] e c a = refl
  handlers_rootless play s i p (h ∷ hs) e c a =
      and-both (is_rootless (task_at s p h.work)) (handlers_have is_rootless (handlers_at s (suc i) (suc p) hs))
      (task_rootless s p h.work (ap (λ scope. expanded_has_root q (trees (append_parts h.work.vars scope)) (task_expressions (append_expressions s.conditions h.work.condition) h.work)) e
      ∙ ap (λ cs. expanded_has_root q (trees (append_parts h.work.vars play.vars)) (task_expressions (append_expressions cs h.work.condition) h.work)) c ∙ a.0))
      (handlers_rootless play s (suc i) (suc p) hs e c a.1)

  flush_rootless : (hs : Handlers) → handlers_have is_rootless hs ≡ true → handlers_have_root q hs ≡ false
  flush_rootless no_handlers h = refl
  flush_rootless (handler n t hs) h =
      neither-both (task_has_root q t) (handlers_have_root q hs) (not-true (task_has_root q t) (and-left (is_rootless t) (handlers_have is_rootless hs) h)) (flush_rootless hs (and-right (is_rootless t) (handlers_have is_rootless hs) h))

  row_rootless : (row : Row) → row_has is_rootless (handlers_have is_rootless) row ≡ true → row_has_root q row ≡ false
  row_rootless end h = refl
  row_rootless (task t row) h =
      let rest = row_has is_rootless (handlers_have is_rootless) row in
      neither-both (task_has_root q t) (row_has_root q row) (not-true (task_has_root q t) (and-left (is_rootless t) rest h)) (row_rootless row (and-right (is_rootless t) rest h))
  row_rootless (flush hs row) h =
      let rest = row_has is_rootless (handlers_have is_rootless) row in
      neither-both (handlers_have_root q hs) (row_has_root q row) (flush_rootless hs (and-left (handlers_have is_rootless hs) rest h)) (row_rootless row (and-right (handlers_have is_rootless hs) rest h))
  row_rootless (section body hs row) h =
      let first = row_has is_rootless (handlers_have is_rootless) body in
      let rest = row_has is_rootless (handlers_have is_rootless) row in
      let later = and-right first (handlers_have is_rootless hs && rest) h in
      neither-both (row_has_root q body) (handlers_have_root q hs || row_has_root q row) (row_rootless body (and-left first (handlers_have is_rootless hs && rest) h))
      (neither-both (handlers_have_root q hs) (row_has_root q row) (flush_rootless hs (and-left (handlers_have is_rootless hs) rest later)) (row_rootless row (and-right (handlers_have is_rootless hs) rest later)))
  row_rootless (block d body saves rescued always row) h =
      let first = row_has is_rootless (handlers_have is_rootless) body in
      let second = row_has is_rootless (handlers_have is_rootless) rescued in
      let third = row_has is_rootless (handlers_have is_rootless) always in
      let rest = row_has is_rootless (handlers_have is_rootless) row in
      let later = and-right first (second && (third && rest)) h in
      let last = and-right second (third && rest) later in
      neither-both (row_has_root q body) (row_has_root q rescued || (row_has_root q always || row_has_root q row)) (row_rootless body (and-left first (second && (third && rest)) h))
      (neither-both (row_has_root q rescued) (row_has_root q always || row_has_root q row) (row_rootless rescued (and-left second (third && rest) later))
      (neither-both (row_has_root q always) (row_has_root q row) (row_rootless always (and-left third rest last)) (row_rootless row (and-right third rest last))))

  plays_rootless : (ps : Program) → program_has is_rootless (λ p. handlers_have is_rootless) ps ≡ true → plays_have_root q ps ≡ false
  plays_rootless [] h = refl
  plays_rootless (p ∷ ps) h =
      let here = row_has is_rootless (handlers_have is_rootless) p.row in
      let rest = program_has is_rootless (λ r. handlers_have is_rootless) ps in
      neither-both (row_has_root q p.row) (plays_have_root q ps) (row_rootless p.row (and-left here rest h)) (plays_rootless ps (and-right here rest h))

  pub books_rootless : (ms : Registry) (inventory : Inventory) (b : Book) → book_has_root q b ≡ false → plays_have_root q (program_of ms inventory b) ≡ false
  books_rootless ms inventory b h =
      plays_rootless (program_of ms inventory b)
      (plays_have ms is_rootless (λ names. handlers_have is_rootless) IsRootless (λ play l. refl) (λ play s p t e. task_rootless s p t e)
      (λ play p a. handlers_rootless play (play_surroundings ms play) 0 p play.handlers refl refl a) inventory b (none_rooted (sites_of b) h))

pub books_read_theirs : BooksReadTheirs
books_read_theirs ns ms inventory b h = books_rootless (is_theirs ns) ms inventory b h
