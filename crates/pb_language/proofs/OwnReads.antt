-- What reads no other host and not who is active comes to the same, whatever others have.
use Rattle.std.proofs.Common.{◌≡◌, ℕ, List, [], ◌∷◌, Bool, true, false, cond, Option, Some, None, codes, bytes_eq, refl, sym, ap, ◌∙◌}
use Rattle.pb_semantics.specs.Kind.{is_skipped}
use Rattle.pb_semantics.specs.Data.{Data, Fields, boolean, rec, field, field_value}
use Rattle.pb_semantics.specs.Keeps.{flag_is}
use Rattle.pb_semantics.proofs.Bools.{untrue, neither-left, neither-right}
use Rattle.pb_language.specs.Expression.{Name, Expression, literal, path, hostvars_alone, negation, conjunction, disjunction, comparison, membership, in_batch, defined, undefinable, path_status, value_status, path_or, value_or, length_of, joined_by, concatenation, list_of, record_of, Root, variable, alias, other, member, Expressions, no_expressions, expression, Parts, no_parts, part}
use Rattle.pb_language.specs.World.{World, member_of}
use Rattle.pb_language.specs.Evaluation.{Outcome, value, stuck, wrong_sort, then_go, found, readable, member_text, read, is_there, or_else, negated, and_then, or_then, compared, found_in, status_of, counted, plain_text, with_text, joined, put_item, put_part, given, eval, look, eval_all, eval_any, eval_text, eval_items, eval_parts}
use Rattle.pb_language.specs.Give.{Own, Results, with_statuses, ended_with, keyword_of, own_world, judged_world, until_of, with_status, with_ended, with_own_field, end_own, end_all}
use Rattle.pb_language.specs.Machine.{Host, State, outermost, innermost, still_active}
use Rattle.pb_language.specs.OwnReads.{SameAlone, SameOutcomes, keyword_reads_others, until_reads_others, SameResults, SameAtGive}
use Rattle.pb_language.specs.Program.{Inventory, Batch, setting_of}
use Rattle.pb_language.specs.Rules.{reads_others, root_reads_others, any_reads_others, part_reads_others}
use Rattle.pb_language.specs.Setting.{named_fields, with_local}
use Rattle.pb_language.specs.Task.{Attempts, Task}

module _ (w v : World) (m : SameAlone w v) where
  mutual
    pub same_outcome : (e : Expression) → reads_others e ≡ false → eval w e ≡ eval v e
    same_outcome (literal d) n = refl
    same_outcome (path r ns) n = ap (read ns) (same_look r n)
    same_outcome (hostvars_alone o) n = refl
    same_outcome (negation e) n = ap (λ o. then_go o negated) (same_outcome e n)
    same_outcome (conjunction es) n = same_all es n
    same_outcome (disjunction es) n = same_any es n
    same_outcome (comparison c a b) n =
        ap (λ o. then_go o (λ d. then_go (eval w b) (compared c d))) (same_outcome a (neither-left (reads_others a) (reads_others b) n))
        ∙ ap (λ o. then_go (eval v a) (λ d. then_go o (compared c d))) (same_outcome b (neither-right (reads_others a) (reads_others b) n))
    same_outcome (membership a b) n =
        ap (λ o. then_go o (λ d. then_go (eval w b) (found_in d))) (same_outcome a (neither-left (reads_others a) (reads_others b) n))
        ∙ ap (λ o. then_go (eval v a) (λ d. then_go o (found_in d))) (same_outcome b (neither-right (reads_others a) (reads_others b) n))
    same_outcome (in_batch t) n = untrue (sym n)
    same_outcome (defined r ns) n = ap (is_there ns) (same_look r n)
    same_outcome (undefinable e) n = ap (λ o. then_go o (λ d. stuck wrong_sort)) (same_outcome e n)
    same_outcome (path_status s r ns) n = ap (λ l. then_go (read ns l) (status_of s)) (same_look r n)
    same_outcome (value_status s e) n = ap (λ o. then_go o (status_of s)) (same_outcome e n)
    same_outcome (path_or r ns e) n =
        ap (λ l. or_else ns l (then_go (eval w e) given)) (same_look r (neither-left (root_reads_others r) (reads_others e) n))
        ∙ ap (λ o. or_else ns (look v r) (then_go o given)) (same_outcome e (neither-right (root_reads_others r) (reads_others e) n))
    same_outcome (value_or a e) n = same_outcome a (neither-left (reads_others a) (reads_others e) n)
    same_outcome (length_of e) n = ap (λ o. then_go o counted) (same_outcome e n)
    same_outcome (joined_by e s) n =
        ap (λ o. then_go o (λ d. then_go (eval w s) (joined d))) (same_outcome e (neither-left (reads_others e) (reads_others s) n))
        ∙ ap (λ o. then_go (eval v e) (λ d. then_go o (joined d))) (same_outcome s (neither-right (reads_others e) (reads_others s) n))
    same_outcome (concatenation es) n = same_text es n
    same_outcome (list_of es) n = same_items es n
    same_outcome (record_of ps) n = same_parts ps n

    same_look : (r : Root) → root_reads_others r ≡ false → look w r ≡ look v r
    same_look (variable x) n = ap found (m.mine x n)
    same_look (alias x e) n = ap readable (same_outcome e n)
    same_look (other t x) n = untrue (sym n)
    same_look (member g p) n = ap (λ gs. found (member_text (member_of g p gs))) m.groups

    pub same_all : (es : Expressions) → any_reads_others es ≡ false → eval_all w es ≡ eval_all v es
    same_all no_expressions n = refl
    same_all (expression e es) n =
        ap (λ o. then_go o (λ d. and_then d (eval_all w es))) (same_outcome e (neither-left (reads_others e) (any_reads_others es) n))
        ∙ ap (λ p. then_go (eval v e) (λ d. and_then d p)) (same_all es (neither-right (reads_others e) (any_reads_others es) n))

    same_any : (es : Expressions) → any_reads_others es ≡ false → eval_any w es ≡ eval_any v es
    same_any no_expressions n = refl
    same_any (expression e es) n =
        ap (λ o. then_go o (λ d. or_then d (eval_any w es))) (same_outcome e (neither-left (reads_others e) (any_reads_others es) n))
        ∙ ap (λ p. then_go (eval v e) (λ d. or_then d p)) (same_any es (neither-right (reads_others e) (any_reads_others es) n))

    same_text : (es : Expressions) → any_reads_others es ≡ false → eval_text w es ≡ eval_text v es
    same_text no_expressions n = refl
    same_text (expression e es) n =
        ap (λ o. then_go o (λ d. plain_text d (λ s. then_go (eval_text w es) (with_text s)))) (same_outcome e (neither-left (reads_others e) (any_reads_others es) n))
        ∙ ap (λ p. then_go (eval v e) (λ d. plain_text d (λ s. then_go p (with_text s)))) (same_text es (neither-right (reads_others e) (any_reads_others es) n))

    same_items : (es : Expressions) → any_reads_others es ≡ false → eval_items w es ≡ eval_items v es
    same_items no_expressions n = refl
    same_items (expression e es) n =
        ap (λ o. then_go o (λ d. put_item d (eval_items w es))) (same_outcome e (neither-left (reads_others e) (any_reads_others es) n))
        ∙ ap (λ p. then_go (eval v e) (λ d. put_item d p)) (same_items es (neither-right (reads_others e) (any_reads_others es) n))

    same_parts : (ps : Parts) → part_reads_others ps ≡ false → eval_parts w ps ≡ eval_parts v ps
    same_parts no_parts n = refl
    same_parts (part x e ps) n =
        ap (λ o. then_go o (λ d. put_part x d (eval_parts w ps))) (same_outcome e (neither-left (reads_others e) (part_reads_others ps) n))
        ∙ ap (λ p. then_go (eval v e) (λ d. put_part x d p)) (same_parts ps (neither-right (reads_others e) (part_reads_others ps) n))

pub same_outcomes : SameOutcomes
same_outcomes w v e m n = same_outcome w v m e n

-- the world in which a result's keywords are evaluated
same_field : (x n : Name) (d : Data) (fs gs : Fields) → field_value n fs ≡ field_value n gs → field_value n (field x d fs) ≡ field_value n (field x d gs)
same_field x n d fs gs h = ap (λ o. cond (bytes_eq n x) (Some d) o) h

same_local : (x n : Name) (o : Option Data) (fs gs : Fields) → field_value n fs ≡ field_value n gs → field_value n (with_local x o fs) ≡ field_value n (with_local x o gs)
same_local x n None fs gs h = h
same_local x n (Some d) fs gs h = same_field x n d fs gs h

same_own : (r : Option Name) (n : Name) (d : Data) (fs gs : Fields) → field_value n fs ≡ field_value n gs → field_value n (with_own_field r d fs) ≡ field_value n (with_own_field r d gs)
same_own None n d fs gs h = h
same_own (Some x) n d fs gs h = same_field x n d fs gs h

own_alone : (w v : World) (t : Task) (o : Own) → SameAlone w v → SameAlone (own_world w t o) (own_world v t o)
own_alone w v t o m = record {
  this = m.this;
  groups = m.groups;
  mine = λ n h. same_own t.register n (rec o.fields) (with_local (codes "item") o.item w.mine) (with_local (codes "item") o.item v.mine) (same_local (codes "item") n o.item w.mine v.mine (m.mine n h));
}

same_keyword : (w v : World) (k : Option Expressions) (b : Bool) → SameAlone w v → keyword_reads_others k ≡ false → keyword_of w k b ≡ keyword_of v k b
same_keyword w v None b m n = refl
same_keyword w v (Some es) b m n = same_all w v m es n

judged_alone : (w v : World) (t : Task) (o : Own) (c f : Bool) → SameAlone w v → SameAlone (judged_world w t o c f) (judged_world v t o c f)
judged_alone w v t o c f m = record {
  this = m.this;
  groups = m.groups;
  mine = λ n h. same_own t.register n (rec (with_statuses c f o.fields)) (with_local (codes "item") o.item w.mine) (with_local (codes "item") o.item v.mine) (same_local (codes "item") n o.item w.mine v.mine (m.mine n h));
}

same_until : (w v : World) (a : Option Attempts) → SameAlone w v → until_reads_others a ≡ false → until_of w a ≡ until_of v a
same_until w v None m n = refl
same_until w v (Some a) m n = same_all w v m a.until n

same_with : (p : Outcome) (f g : Bool → Results) → ((b : Bool) → f b ≡ g b) → with_status p f ≡ with_status p g
same_with (value (boolean b)) f g h = h b
same_with (value d) f g h = refl
same_with (stuck y) f g h = refl

pub same_results : SameResults
same_results w v t [] m c f u = refl
same_results w v t (o ∷ os) m c f u =
    let changed = flag_is true (field_value (codes "changed") o.fields) in
    let failed = flag_is true (field_value (codes "failed") o.fields) in
    let own = own_alone w v t o m in
    ap (end_own w t o) (same_results w v t os m c f u)
    ∙ rw (same_keyword (own_world w t o) (own_world v t o) t.changed_when changed own c, same_keyword (own_world w t o) (own_world v t o) t.failed_when failed own f)
    (ap (λ r. cond (is_skipped o.shape) (with_ended (ended_with o false false true) (end_all v t os)) r)
    (same_with (keyword_of (own_world v t o) t.changed_when changed) _ _ (λ x.
    same_with (keyword_of (own_world v t o) t.failed_when failed) _ _ (λ y.
    ap (λ p. with_status p (λ z. with_ended (ended_with o x y z) (end_all v t os))) (same_until (judged_world w t o x y) (judged_world v t o x y) t.attempts (judged_alone w v t o x y m) u)))))

-- the worlds of the machine
module _ (b : Batch) (t : Task) (n : Name) (i : bytes_eq n (codes "ansible_play_batch") ≡ false) where
  abbrev told : Inventory → Name → List (List ℕ) → Fields → List Name → Option Data
  told inventory name rescues vars active = field_value n (named_fields (setting_of inventory b.play [] [] name) t.depth (innermost (outermost t.depth rescues)) active vars)

  others_untold : (inventory : Inventory) (name : Name) (rescues : List (List ℕ)) (vars : Fields) (xs ys : List Name) → told inventory name rescues vars xs ≡ told inventory name rescues vars ys
  others_untold inventory name rescues vars xs ys = rw i refl

  told_same : (s z : State) (h g : Host) (xs ys : List Name) → s.inventory ≡ z.inventory → h.name ≡ g.name → h.variables ≡ g.variables → h.rescues ≡ g.rescues
      → told s.inventory h.name h.rescues h.variables xs ≡ told z.inventory g.name g.rescues g.variables ys
  told_same s z h g xs ys inventory name vars rescues =
      others_untold s.inventory h.name h.rescues h.variables xs ys
      ∙ ap (λ x. told x h.name h.rescues h.variables ys) inventory
      ∙ ap (λ x. told z.inventory x h.rescues h.variables ys) name
      ∙ ap (λ x. told z.inventory g.name x h.variables ys) rescues
      ∙ ap (λ x. told z.inventory g.name g.rescues x ys) vars

pub same_at_give : SameAtGive
same_at_give s z b h g t inventory name vars rescues = record {
  this = name;
  groups = ap (λ (x : Inventory). x.groups) inventory;
  mine = λ n i. told_same b t n i s z h g (still_active s.hosts b.members) (still_active z.hosts b.members) inventory name vars rescues;
}
