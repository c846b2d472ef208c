-- What doesn't read the item of a loop is worth the same for each item.
use Rattle.std.proofs.Common.{◌≡◌, Bool, true, false, not, cond, Option, Some, None, codes, bytes_eq, refl, ap, subst, ◌∙◌, List, ◌&&◌}
use Rattle.pb_semantics.specs.Data.{Data, Fields, field_value}
use Rattle.pb_semantics.proofs.Bools.{untrue, and-left, and-right, and-both, not-true}
use Rattle.pb_language.specs.Evaluation.{wrong_sort, then_go, found, readable, read, is_there, or_else, negated, and_then, or_then, compared, found_in, status_of, counted, plain_text, with_text, joined, put_item, put_part, given, eval, look, eval_all, eval_any, eval_text, eval_items, eval_parts, is_active, stuck}
use Rattle.pb_language.specs.Expansion.{expanded, expanded_root, all_expanded, parts_expanded, root_named}
use Rattle.pb_language.specs.Expression.{Name, Expression, literal, path, hostvars_alone, negation, conjunction, disjunction, comparison, membership, in_batch, defined, undefinable, path_status, value_status, path_or, value_or, length_of, joined_by, concatenation, list_of, record_of, Root, variable, alias, other, member, Term, named_host, this_host, item_host, group_member, Expressions, no_expressions, expression, Parts, no_parts, part}
use Rattle.pb_language.specs.Setting.{with_local}
use Rattle.pb_language.specs.Start.{with_local_item}
use Rattle.pb_language.specs.World.{World}
use Rattle.pb_syntax.specs.Aliases.{Trees, no_trees, with_tree, trees_after, trees_in}
use Rattle.pb_eval.specs.Worth.{worth_of}
use Rattle.pb_eval.specs.OwnWorld.{shown}
use Rattle.pb_vars.specs.Reads.{value_at, tested_at, every_read, value_read, root_tested, all_every_read, parts_every_read}
use Rattle.pb_start.specs.Items.{is_other, is_other_host, read_no_item}

-- ---- the value of what doesn't read it

same-named : (n : Name) (o : Option Data) (fs : Fields) → bytes_eq n (codes "item") ≡ false → field_value n (with_local (codes "item") o fs) ≡ field_value n fs
same-named n None fs h = refl
same-named n (Some d) fs h = ap (λ b. cond b (Some d) (field_value n fs)) h

module _ (w : World) (o : Option Data) where
  abbrev v : World
  v = with_local_item w o

  same-variable : (n : Name) → not (bytes_eq n (codes "item")) ≡ true → look v (variable n) ≡ look w (variable n)
  same-variable n h = ap found (same-named n o w.mine (not-true (bytes_eq n (codes "item")) h))

  same-active : (t : Term) → is_other_host t ≡ true → is_active v t ≡ is_active w t
  same-active (named_host n) h = refl
  same-active this_host h = refl
  same-active item_host h = untrue h
  same-active (group_member g n) h = refl

  same-other : (t : Term) (x : Name) → is_other_host t ≡ true → look v (other t x) ≡ look w (other t x)
  same-other (named_host n) x h = refl
  same-other this_host x h = refl
  same-other item_host x h = untrue h
  same-other (group_member g n) x h = refl

  mutual
    pub same-worth : (e : Expression) → every_read is_other e ≡ true → eval v e ≡ eval w e
    same-worth (literal d) h = refl
    same-worth (path r ns) h = ap (read ns) (same-read r ns h)
    same-worth (hostvars_alone t) h = refl
    same-worth (negation e) h = ap (λ q. then_go q negated) (same-worth e h)
    same-worth (conjunction es) h = same-all es h
    same-worth (disjunction es) h = same-any es h
    same-worth (comparison c a b) h =
        ap (λ q. then_go q (λ d. then_go (eval v b) (compared c d))) (same-worth a (and-left (every_read is_other a) (every_read is_other b) h))
        ∙ ap (λ q. then_go (eval w a) (λ d. then_go q (compared c d))) (same-worth b (and-right (every_read is_other a) (every_read is_other b) h))
    same-worth (membership a b) h =
        ap (λ q. then_go q (λ d. then_go (eval v b) (found_in d))) (same-worth a (and-left (every_read is_other a) (every_read is_other b) h))
        ∙ ap (λ q. then_go (eval w a) (λ d. then_go q (found_in d))) (same-worth b (and-right (every_read is_other a) (every_read is_other b) h))
    same-worth (in_batch t) h = same-active t h
    same-worth (defined r ns) h = ap (is_there ns) (same-tested r h)
    same-worth (undefinable e) h = ap (λ q. then_go q (λ d. stuck wrong_sort)) (same-worth e h)
    same-worth (path_status s r ns) h = ap (λ l. then_go (read ns l) (status_of s)) (same-read r ns h)
    same-worth (value_status s e) h = ap (λ q. then_go q (status_of s)) (same-worth e h)
    same-worth (path_or r ns e) h =
        ap (λ l. or_else ns l (then_go (eval v e) given)) (same-tested r (and-left (root_tested is_other r) (every_read is_other e) h))
        ∙ ap (λ q. or_else ns (look w r) (then_go q given)) (same-worth e (and-right (root_tested is_other r) (every_read is_other e) h))
    same-worth (value_or a e) h = same-worth a (and-left (every_read is_other a) (every_read is_other e) h)
    same-worth (length_of e) h = ap (λ q. then_go q counted) (same-worth e h)
    same-worth (joined_by e s) h =
        ap (λ q. then_go q (λ d. then_go (eval v s) (joined d))) (same-worth e (and-left (every_read is_other e) (every_read is_other s) h))
        ∙ ap (λ q. then_go (eval w e) (λ d. then_go q (joined d))) (same-worth s (and-right (every_read is_other e) (every_read is_other s) h))
    same-worth (concatenation es) h = same-text es h
    same-worth (list_of es) h = same-items es h
    same-worth (record_of ps) h = same-parts ps h

    same-read : (r : Root) (ns : List Name) → value_read is_other r ns ≡ true → look v r ≡ look w r
    same-read (variable n) ns h = same-variable n h
    same-read (alias n e) ns h = ap readable (same-worth e h)
    same-read (other t x) ns h = same-other t x h
    same-read (member g n) ns h = refl

    same-tested : (r : Root) → root_tested is_other r ≡ true → look v r ≡ look w r
    same-tested (variable n) h = same-variable n h
    same-tested (alias n e) h = ap readable (same-worth e h)
    same-tested (other t x) h = same-other t x h
    same-tested (member g n) h = refl

    same-all : (es : Expressions) → all_every_read is_other es ≡ true → eval_all v es ≡ eval_all w es
    same-all no_expressions h = refl
    same-all (expression e es) h =
        ap (λ q. then_go q (λ d. and_then d (eval_all v es))) (same-worth e (and-left (every_read is_other e) (all_every_read is_other es) h))
        ∙ ap (λ q. then_go (eval w e) (λ d. and_then d q)) (same-all es (and-right (every_read is_other e) (all_every_read is_other es) h))

    same-any : (es : Expressions) → all_every_read is_other es ≡ true → eval_any v es ≡ eval_any w es
    same-any no_expressions h = refl
    same-any (expression e es) h =
        ap (λ q. then_go q (λ d. or_then d (eval_any v es))) (same-worth e (and-left (every_read is_other e) (all_every_read is_other es) h))
        ∙ ap (λ q. then_go (eval w e) (λ d. or_then d q)) (same-any es (and-right (every_read is_other e) (all_every_read is_other es) h))

    same-text : (es : Expressions) → all_every_read is_other es ≡ true → eval_text v es ≡ eval_text w es
    same-text no_expressions h = refl
    same-text (expression e es) h =
        ap (λ q. then_go q (λ d. plain_text d (λ s. then_go (eval_text v es) (with_text s)))) (same-worth e (and-left (every_read is_other e) (all_every_read is_other es) h))
        ∙ ap (λ q. then_go (eval w e) (λ d. plain_text d (λ s. then_go q (with_text s)))) (same-text es (and-right (every_read is_other e) (all_every_read is_other es) h))

    same-items : (es : Expressions) → all_every_read is_other es ≡ true → eval_items v es ≡ eval_items w es
    same-items no_expressions h = refl
    same-items (expression e es) h =
        ap (λ q. then_go q (λ d. put_item d (eval_items v es))) (same-worth e (and-left (every_read is_other e) (all_every_read is_other es) h))
        ∙ ap (λ q. then_go (eval w e) (λ d. put_item d q)) (same-items es (and-right (every_read is_other e) (all_every_read is_other es) h))

    same-parts : (ps : Parts) → parts_every_read is_other ps ≡ true → eval_parts v ps ≡ eval_parts w ps
    same-parts no_parts h = refl
    same-parts (part n e ps) h =
        ap (λ q. then_go q (λ d. put_part n d (eval_parts v ps))) (same-worth e (and-left (every_read is_other e) (parts_every_read is_other ps) h))
        ∙ ap (λ q. then_go (eval w e) (λ d. put_part n d q)) (same-parts ps (and-right (every_read is_other e) (parts_every_read is_other ps) h))

-- ---- trees that stand for names

both-true : (a b c d : Bool) → (a ≡ true → c ≡ true) → (b ≡ true → d ≡ true) → a && b ≡ true → c && d ≡ true
both-true a b c d f g h = and-both c d (f (and-left a b h)) (g (and-right a b h))

-- each of these trees reads other things alone
abbrev AllOther : Trees → Type 0
AllOther f = (n : Name) (t : Expression) → f n ≡ Some t → every_read is_other t ≡ true

module _ (f : Trees) (all : AllOther f) where
  named-read : (n : Name) (ns : List Name) (o : Option Expression) → f n ≡ o → is_other (value_at (variable n) ns) ≡ true → value_read is_other (root_named n o) ns ≡ true
  named-read n ns None e h = h
  named-read n ns (Some t) e h = all n t e

  named-tested : (n : Name) (o : Option Expression) → f n ≡ o → is_other (tested_at (variable n)) ≡ true → root_tested is_other (root_named n o) ≡ true
  named-tested n None e h = h
  named-tested n (Some t) e h = all n t e

  mutual
    expanded-reads : (e : Expression) → every_read is_other (expanded no_trees e) ≡ true → every_read is_other (expanded f e) ≡ true
    expanded-reads (literal d) h = h
    expanded-reads (path r ns) h = expanded-value r ns h
    expanded-reads (hostvars_alone t) h = h
    expanded-reads (negation e) h = expanded-reads e h
    expanded-reads (conjunction es) h = expanded-all es h
    expanded-reads (disjunction es) h = expanded-all es h
    expanded-reads (comparison c a b) h = both-true (every_read is_other (expanded no_trees a)) (every_read is_other (expanded no_trees b)) (every_read is_other (expanded f a)) (every_read is_other (expanded f b)) (expanded-reads a) (expanded-reads b) h
    expanded-reads (membership a b) h = both-true (every_read is_other (expanded no_trees a)) (every_read is_other (expanded no_trees b)) (every_read is_other (expanded f a)) (every_read is_other (expanded f b)) (expanded-reads a) (expanded-reads b) h
    expanded-reads (in_batch t) h = h
    expanded-reads (defined r ns) h = expanded-tested r h
    expanded-reads (undefinable e) h = expanded-reads e h
    expanded-reads (path_status s r ns) h = expanded-value r ns h
    expanded-reads (value_status s e) h = expanded-reads e h
    expanded-reads (path_or r ns e) h =
        both-true (root_tested is_other (expanded_root no_trees r)) (every_read is_other (expanded no_trees e)) (root_tested is_other (expanded_root f r)) (every_read is_other (expanded f e)) (expanded-tested r) (expanded-reads e) h
    expanded-reads (value_or a b) h = both-true (every_read is_other (expanded no_trees a)) (every_read is_other (expanded no_trees b)) (every_read is_other (expanded f a)) (every_read is_other (expanded f b)) (expanded-reads a) (expanded-reads b) h
    expanded-reads (length_of e) h = expanded-reads e h
    expanded-reads (joined_by a b) h = both-true (every_read is_other (expanded no_trees a)) (every_read is_other (expanded no_trees b)) (every_read is_other (expanded f a)) (every_read is_other (expanded f b)) (expanded-reads a) (expanded-reads b) h
    expanded-reads (concatenation es) h = expanded-all es h
    expanded-reads (list_of es) h = expanded-all es h
    expanded-reads (record_of ps) h = expanded-parts ps h

    expanded-value : (r : Root) (ns : List Name) → value_read is_other (expanded_root no_trees r) ns ≡ true → value_read is_other (expanded_root f r) ns ≡ true
    expanded-value (variable n) ns h = named-read n ns (f n) refl h
    expanded-value (alias n e) ns h = expanded-reads e h
    expanded-value (other t x) ns h = h
    expanded-value (member g n) ns h = h

    expanded-tested : (r : Root) → root_tested is_other (expanded_root no_trees r) ≡ true → root_tested is_other (expanded_root f r) ≡ true
    expanded-tested (variable n) h = named-tested n (f n) refl h
    expanded-tested (alias n e) h = expanded-reads e h
    expanded-tested (other t x) h = h
    expanded-tested (member g n) h = h

    expanded-all : (es : Expressions) → all_every_read is_other (all_expanded no_trees es) ≡ true → all_every_read is_other (all_expanded f es) ≡ true
    expanded-all no_expressions h = h
    expanded-all (expression e es) h =
        both-true (every_read is_other (expanded no_trees e)) (all_every_read is_other (all_expanded no_trees es)) (every_read is_other (expanded f e)) (all_every_read is_other (all_expanded f es)) (expanded-reads e) (expanded-all es) h

    expanded-parts : (ps : Parts) → parts_every_read is_other (parts_expanded no_trees ps) ≡ true → parts_every_read is_other (parts_expanded f ps) ≡ true
    expanded-parts no_parts h = h
    expanded-parts (part n e ps) h =
        both-true (every_read is_other (expanded no_trees e)) (parts_every_read is_other (parts_expanded no_trees ps)) (every_read is_other (expanded f e)) (parts_every_read is_other (parts_expanded f ps)) (expanded-reads e) (expanded-parts ps) h

one-more : (f : Trees) (n : Name) (e : Expression) → AllOther f → every_read is_other (expanded no_trees e) ≡ true → AllOther (with_tree f n (expanded f e))
one-more f n e all h = λ m t is.
    elim (bytes_eq m n) as (λ b. cond b (Some (expanded f e)) (f m) ≡ Some t → every_read is_other t ≡ true) [
      | true ↦ λ here. let same : expanded f e ≡ t = cc in subst (λ q. every_read is_other q ≡ true) same (expanded-reads f all e h)
      | false ↦ λ there. all m t there
    ] is

all-other : (f : Trees) (ps : Parts) → AllOther f → read_no_item ps ≡ true → AllOther (trees_after f ps)
all-other f no_parts all h = all
all-other f (part n e ps) all h =
    all-other (with_tree f n (expanded f e)) ps (one-more f n e all (and-left (every_read is_other (expanded no_trees e)) (read_no_item ps) h)) (and-right (every_read is_other (expanded no_trees e)) (read_no_item ps) h)

-- what the names are worth is the same for each item
abbrev pub KeepWorth : Trees → Type 0
KeepWorth f = (w : World) (o : Option Data) (n : Name) → worth_of (with_local_item w o) (f n) ≡ worth_of w (f n)

pub keep-worth : (ps : Parts) → read_no_item ps ≡ true → KeepWorth (trees_in ps)
keep-worth ps h w o n =
    let all = all-other no_trees ps (λ m t is. absurd (cc)) h in
    elim (trees_in ps n) as (λ (t : Option Expression). trees_in ps n ≡ t → worth_of (with_local_item w o) t ≡ worth_of w t) [
      | None ↦ λ is. refl
      | Some t ↦ λ is. ap (λ q. Some (shown q)) (same-worth w o t (all n t is))
    ] refl
