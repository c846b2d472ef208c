-- What a task evaluates, with trees that are the same at its roots.
use Rattle.std.proofs.Common.{◌≡◌, ◌∙◌, Option, Some, None, codes, refl, sym, ap, subst}
use Rattle.std.specs.List.{Contains}
use Rattle.std.proofs.lemmas.List.Elements.{Contains-append_left, Contains-append_right}
use Rattle.pb_language.specs.Book.{Asserted, Registry, TaskData, Work, assert_work, conditions_are, debug_work, fail_work, module_work, not_given, not_well_formed, set_fact_work}
use Rattle.pb_language.specs.Expansion.{all_expanded, expanded, part_named, parts_expanded}
use Rattle.pb_language.specs.Expression.{Expression, Expressions, Parts, no_parts, part}
use Rattle.pb_language.specs.Plays.{action_of, append_expressions, argument_or, conditions_of, expanded_attempts, expanded_list, expanded_option, module_named}
use Rattle.pb_language.specs.Rules.{asserted_expressions, give_expressions, list_expressions, option_expressions, part_expressions, until_expressions}
use Rattle.pb_language.specs.Task.{Attempts, assertion, call_of, debug, failure_of, set_fact}
use Rattle.pb_syntax.specs.Aliases.{Trees}
use Rattle.pb_reads.specs.Done.{done_expressions, evaluated}
use Rattle.pb_reads.specs.Needed.{AreSameAt}
use Rattle.pb_reads.specs.Roots.{all_roots, roots_in}
use Rattle.pb_reads.proofs.Behind.{roots-both}
use Rattle.pb_reads.proofs.Same.{at-first, at-others, same-all, same-expanded}

module _ (f g : Trees) where
  abbrev AreSame : Expressions → Type 0
  AreSame es = AreSameAt (all_roots es) f g

  first : (es fs : Expressions) → AreSame (append_expressions es fs) → AreSame es
  first es fs h r c = h r (subst (λ xs. Contains xs r) (sym (roots-both es fs)) (Contains-append_left (all_roots es) (all_roots fs) r c))

  others : (es fs : Expressions) → AreSame (append_expressions es fs) → AreSame fs
  others es fs h r c = h r (subst (λ xs. Contains xs r) (sym (roots-both es fs)) (Contains-append_right (all_roots es) (all_roots fs) r c))

  perhaps : (o : Option Expression) → AreSame (option_expressions o) → expanded_option f o ≡ expanded_option g o
  perhaps None h = refl
  perhaps (Some e) h = ap Some (same-expanded f g e (at-first f g (roots_in e) _ h))

  shown : (o : Option Expression) → AreSame (option_expressions o) → expanded f (argument_or o) ≡ expanded g (argument_or o)
  shown None h = refl
  shown (Some e) h = same-expanded f g e (at-first f g (roots_in e) _ h)

  lists : (o : Option Expressions) → AreSame (list_expressions o) → expanded_list f o ≡ expanded_list g o
  lists None h = refl
  lists (Some es) h = ap Some (same-all f g es h)

  repeated : (o : Option Attempts) → AreSame (until_expressions o) → expanded_attempts f o ≡ expanded_attempts g o
  repeated None h = refl
  repeated (Some a) h = ap (λ es. Some (record { until = es; retries = a.retries })) (same-all f g a.until h)

  parts : (ps : Parts) → AreSame (part_expressions ps) → parts_expanded f ps ≡ parts_expanded g ps
  parts no_parts h = refl
  parts (part n e ps) h =
      ap (λ x. part n x (parts_expanded f ps)) (same-expanded f g e (at-first f g (roots_in e) (all_roots (part_expressions ps)) h))
      ∙ ap (part n (expanded g e)) (parts ps (at-others f g (roots_in e) (all_roots (part_expressions ps)) h))

  asserted : (a : Asserted) → AreSame (asserted_expressions a) → all_expanded f (conditions_of a) ≡ all_expanded g (conditions_of a)
  asserted not_given h = refl
  asserted not_well_formed h = refl
  asserted (conditions_are es) h = same-all f g es h

  action : (ms : Registry) (w : Work) → AreSame (done_expressions w) → action_of ms f w ≡ action_of ms g w
  action ms (module_work n ps) h = ap (call_of (module_named n ms)) (parts ps h)
  action ms (debug_work ps) h = ap debug (shown (part_named (codes "msg") ps) h)
  action ms (set_fact_work ps) h = ap set_fact (parts ps h)
  action ms (assert_work a ps) h =
      let m = part_named (codes "fail_msg") ps in
      ap (λ es. assertion es (expanded_option f m)) (asserted a (first (asserted_expressions a) (option_expressions m) h))
      ∙ ap (assertion (all_expanded g (conditions_of a))) (perhaps m (others (asserted_expressions a) (option_expressions m) h))
  action ms (fail_work ps) h = ap failure_of (perhaps (part_named (codes "msg") ps) h)

  -- what a task evaluates under these conditions
  module _ (cs : Expressions) (t : TaskData) (same : AreSame (evaluated cs t)) where
    abbrev endings : Expressions
    endings = append_expressions (list_expressions t.failed_when) (until_expressions t.attempts)

    abbrev work : Expressions
    work = append_expressions (done_expressions t.work) (give_expressions t)

    working : AreSame work
    working = others cs work (others (option_expressions t.loop) (append_expressions cs work) same)

    giving : AreSame (give_expressions t)
    giving = others (done_expressions t.work) (give_expressions t) working

    ending : AreSame endings
    ending = others (list_expressions t.changed_when) endings giving

    pub same-loop : expanded_option f t.loop ≡ expanded_option g t.loop
    same-loop = perhaps t.loop (first (option_expressions t.loop) (append_expressions cs work) same)

    pub same-conditions : all_expanded f cs ≡ all_expanded g cs
    same-conditions = same-all f g cs (first cs work (others (option_expressions t.loop) (append_expressions cs work) same))

    pub same-action : (ms : Registry) → action_of ms f t.work ≡ action_of ms g t.work
    same-action ms = action ms t.work (first (done_expressions t.work) (give_expressions t) working)

    pub same-changed : expanded_list f t.changed_when ≡ expanded_list g t.changed_when
    same-changed = lists t.changed_when (first (list_expressions t.changed_when) endings giving)

    pub same-failed : expanded_list f t.failed_when ≡ expanded_list g t.failed_when
    same-failed = lists t.failed_when (first (list_expressions t.failed_when) (until_expressions t.attempts) ending)

    pub same-attempts : expanded_attempts f t.attempts ≡ expanded_attempts g t.attempts
    same-attempts = repeated t.attempts (others (list_expressions t.failed_when) (until_expressions t.attempts) ending)
