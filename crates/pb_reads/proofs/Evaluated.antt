-- What a task evaluates where it stands is what it evaluates in its place, with trees for names.
use Rattle.std.proofs.Common.{◌≡◌, ◌∙◌, ℕ, List, [], ◌∷◌, ◌++◌, Option, Some, None, codes, map, refl, sym, ap}
use Rattle.pb_language.specs.Book.{Asserted, Registry, TaskData, Work, assert_work, conditions_are, debug_work, fail_work, module_work, not_given, not_well_formed, set_fact_work}
use Rattle.pb_language.specs.Expansion.{all_expanded, expanded, expanded_root, part_named, parts_expanded}
use Rattle.pb_language.specs.Expression.{Name, Expression, Expressions, Parts, Root, no_parts, part}
use Rattle.pb_language.specs.Plays.{Surroundings, action_of, append_expressions, argument_or, conditions_of, expanded_attempts, expanded_list, expanded_option, task_with}
use Rattle.pb_language.specs.Rules.{asserted_expressions, give_expressions, list_expressions, option_expressions, part_expressions, until_expressions}
use Rattle.pb_language.specs.Task.{Attempts}
use Rattle.pb_reads.specs.Done.{done_expressions, evaluated}
use Rattle.pb_reads.specs.Roots.{roots_in, all_roots}
use Rattle.pb_reads.specs.Uses.{action_expressions, expressions_of}
use Rattle.pb_reads.proofs.Behind.{roots-both}
use Rattle.pb_reads.proofs.Trees.{all-expanded, roots-expanded, two}

module _ (f : Name → Option Expression) where
  -- these expressions have the trees of the roots of those
  abbrev Expands : Expressions → Expressions → Type 0
  Expands es fs = all_roots es ≡ map (expanded_root f) (all_roots fs)

  both : (es fs xs ys : Expressions) → Expands es xs → Expands fs ys → Expands (append_expressions es fs) (append_expressions xs ys)
  both es fs xs ys p q =
      roots-both es fs ∙ two f (all_roots xs) (all_roots ys) (all_roots es) (all_roots fs) p q ∙ ap (map (expanded_root f)) (sym (roots-both xs ys))

  one : (e : Expression) → Expands (option_expressions (Some (expanded f e))) (option_expressions (Some e))
  one e = two f (roots_in e) [] (roots_in (expanded f e)) [] (roots-expanded f e) refl

  perhaps : (o : Option Expression) → Expands (option_expressions (expanded_option f o)) (option_expressions o)
  perhaps None = refl
  perhaps (Some e) = one e

  shown : (o : Option Expression) → Expands (option_expressions (Some (expanded f (argument_or o)))) (option_expressions o)
  shown None = refl
  shown (Some e) = one e

  parts : (ps : Parts) → Expands (part_expressions (parts_expanded f ps)) (part_expressions ps)
  parts no_parts = refl
  parts (part n e ps) = two f (roots_in e) (all_roots (part_expressions ps)) (roots_in (expanded f e)) (all_roots (part_expressions (parts_expanded f ps))) (roots-expanded f e) (parts ps)

  lists : (o : Option Expressions) → Expands (list_expressions (expanded_list f o)) (list_expressions o)
  lists None = refl
  lists (Some es) = all-expanded f es

  repeated : (o : Option Attempts) → Expands (until_expressions (expanded_attempts f o)) (until_expressions o)
  repeated None = refl
  repeated (Some a) = all-expanded f a.until

  asserted : (a : Asserted) → Expands (all_expanded f (conditions_of a)) (asserted_expressions a)
  asserted not_given = refl
  asserted not_well_formed = refl
  asserted (conditions_are es) = all-expanded f es

  action : (ms : Registry) (w : Work) → Expands (action_expressions (action_of ms f w)) (done_expressions w)
  action ms (module_work n ps) = parts ps
  action ms (debug_work ps) = shown (part_named (codes "msg") ps)
  action ms (set_fact_work ps) = parts ps
  action ms (assert_work a ps) =
      both (all_expanded f (conditions_of a)) (option_expressions (expanded_option f (part_named (codes "fail_msg") ps))) (asserted_expressions a) (option_expressions (part_named (codes "fail_msg") ps)) (asserted a)
      (perhaps (part_named (codes "fail_msg") ps))
  action ms (fail_work ps) = perhaps (part_named (codes "msg") ps)

  pub evaluated-in-place : (s : Surroundings) (p : ℕ) (t : TaskData) → Expands (expressions_of (task_with s p t f)) (evaluated (append_expressions s.conditions t.condition) t)
  evaluated-in-place s p t =
      let cs = append_expressions s.conditions t.condition in
      let endings = both (list_expressions (expanded_list f t.failed_when)) (until_expressions (expanded_attempts f t.attempts)) (list_expressions t.failed_when) (until_expressions t.attempts) (lists t.failed_when) (repeated t.attempts) in
      let given = both (list_expressions (expanded_list f t.changed_when)) _ (list_expressions t.changed_when) _ (lists t.changed_when) endings in
      let done = both (action_expressions (action_of s.registry f t.work)) _ (done_expressions t.work) (give_expressions t) (action s.registry t.work) given in
      both (option_expressions (expanded_option f t.loop)) _ (option_expressions t.loop) _ (perhaps t.loop) (both (all_expanded f cs) _ cs _ (all-expanded f cs) done)
