-- Under other tables and laters, what reads no other host has the same fault.
use Rattle.std.proofs.Common.{◌≡◌, List, Bool, true, false, not, ◌&&◌, ◌||◌, Option, Some, refl, sym, ap, ◌∙◌}
use Rattle.pb_semantics.specs.Kind.{KindData}
use Rattle.pb_semantics.proofs.Bools.{untrue, neither-left, neither-right}
use Rattle.pb_language.specs.Expression.{Name, Expression, literal, path, hostvars_alone, negation, conjunction, disjunction, comparison, membership, in_batch, defined, undefinable, path_status, value_status, path_or, value_or, length_of, joined_by, concatenation, list_of, record_of, Root, variable, alias, other, member, Expressions, no_expressions, expression, Parts, no_parts, part}
use Rattle.pb_language.specs.Scope.{Scope, View, Later, is_present, spot_kind}
use Rattle.pb_language.specs.Kinds.{kind_of, root_spot, path_spot}
use Rattle.pb_language.specs.Narrow.{narrow}
use Rattle.pb_language.specs.Fit.{Fault, wrong_kind, first, asks, is_any, is_boolean, is_text, is_plain_kind, is_plain_list, has_length, can_compare, can_find, is_result, steps_fault, path_fault, fault, read_fault, tested_fault, chain_fault, are_booleans, parts_fault, are_plain, items_fault, fields_fault}
use Rattle.pb_language.specs.Rules.{reads_others, root_reads_others, any_reads_others, part_reads_others}
use Rattle.pb_language.proofs.FaultsSame.{firsts}
use Rattle.pb_walks.proofs.AloneKinds.{under, present_alone, kind_alone, root_alone, narrow_alone}

pub three : (a b c d e f : Option Fault) → a ≡ d → b ≡ e → c ≡ f → first a (first b c) ≡ first d (first e f)
three a b c d e f x y z = firsts a d (first b c) (first e f) x (firsts b e c f y z)

pub both : {A B C : Type 0} (f : A → B → C) (a c : A) (b d : B) → a ≡ c → b ≡ d → f a b ≡ f c d
both f a c b d x y = ap (λ z. f z b) x ∙ ap (f c) y

module _ (vs : List View) (ls : List Later) where
  -- what is asked of a kind
  pub asked_alone : (f : Bool → Bool) (q : KindData → Bool) (e : Expression) (c : Scope) → reads_others e ≡ false → asks wrong_kind (f (q (kind_of (under vs ls c) e))) ≡ asks wrong_kind (f (q (kind_of c e)))
  asked_alone f q e c n = ap (λ k. asks wrong_kind (f (q k))) (kind_alone vs ls e c n)

  -- and of two
  asked_both : (q : KindData → KindData → Bool) (a b : Expression) (c : Scope) → reads_others a ≡ false → reads_others b ≡ false
      → asks wrong_kind (q (kind_of (under vs ls c) a) (kind_of (under vs ls c) b)) ≡ asks wrong_kind (q (kind_of c a) (kind_of c b))
  asked_both q a b c n m = ap (λ k. asks wrong_kind (q k (kind_of (under vs ls c) b))) (kind_alone vs ls a c n) ∙ ap (λ k. asks wrong_kind (q (kind_of c a) k)) (kind_alone vs ls b c m)

  path_alone : (r : Root) (ns : List Name) (c : Scope) → root_reads_others r ≡ false → tested_fault (under vs ls c) r ≡ tested_fault c r → read_fault (under vs ls c) r ≡ read_fault c r → fault (under vs ls c) (path r ns) ≡ fault c (path r ns)
  path_alone r ns c n x y =
      ap (λ q. path_fault q (tested_fault (under vs ls c) r) (read_fault (under vs ls c) r) (steps_fault ns (spot_kind (root_spot (under vs ls c) r)))) (present_alone vs ls r ns c n)
      ∙ ap (λ f. path_fault (is_present c r ns) f (read_fault (under vs ls c) r) (steps_fault ns (spot_kind (root_spot (under vs ls c) r)))) x
      ∙ ap (λ f. path_fault (is_present c r ns) (tested_fault c r) f (steps_fault ns (spot_kind (root_spot (under vs ls c) r)))) y
      ∙ ap (λ s. path_fault (is_present c r ns) (tested_fault c r) (read_fault c r) (steps_fault ns (spot_kind s))) (root_alone vs ls r c n)

  mutual
    pub fault_alone : (e : Expression) (c : Scope) → reads_others e ≡ false → fault (under vs ls c) e ≡ fault c e
    fault_alone (literal d) c n = refl
    fault_alone (path r ns) c n = path_alone r ns c n (tested_alone r c n) (read_alone r c n)
    fault_alone (hostvars_alone o) c n = refl
    fault_alone (negation e) c n = both first _ _ _ _ (fault_alone e c n) (asked_alone (λ q. q) is_boolean e c n)
    fault_alone (conjunction es) c n = both first _ _ _ _ (chain_alone es c true n) (ap (asks wrong_kind) (booleans_alone es c true n))
    fault_alone (disjunction es) c n = both first _ _ _ _ (chain_alone es c false n) (ap (asks wrong_kind) (booleans_alone es c false n))
    fault_alone (comparison x a b) c n =
        let l = neither-left (reads_others a) (reads_others b) n in
        let r = neither-right (reads_others a) (reads_others b) n in
        three _ _ _ _ _ _ (fault_alone a c l) (fault_alone b c r) (asked_both (can_compare x) a b c l r)
    fault_alone (membership a b) c n =
        let l = neither-left (reads_others a) (reads_others b) n in
        let r = neither-right (reads_others a) (reads_others b) n in
        three _ _ _ _ _ _ (fault_alone a c l) (fault_alone b c r) (asked_both can_find a b c l r)
    fault_alone (in_batch t) c n = untrue (sym n)
    fault_alone (defined r ns) c n = tested_alone r c n
    fault_alone (undefinable e) c n = ap (λ f. first f (Some wrong_kind)) (fault_alone e c n)
    fault_alone (path_status s r ns) c n =
        both first (fault (under vs ls c) (path r ns)) (fault c (path r ns)) _ _ (path_alone r ns c n (tested_alone r c n) (read_alone r c n))
        (ap (λ z. asks wrong_kind (is_result (spot_kind (path_spot ns z)))) (root_alone vs ls r c n))
    fault_alone (value_status s e) c n = both first _ _ _ _ (fault_alone e c n) (asked_alone (λ q. q) is_result e c n)
    fault_alone (path_or r ns e) c n =
        let l = neither-left (root_reads_others r) (reads_others e) n in
        let m = neither-right (root_reads_others r) (reads_others e) n in
        three _ _ _ _ _ _ (tested_alone r c l) (fault_alone e c m) (asked_alone not is_any e c m)
    fault_alone (value_or a e) c n =
        let l = neither-left (reads_others a) (reads_others e) n in
        let r = neither-right (reads_others a) (reads_others e) n in
        three _ _ _ _ _ _ (fault_alone a c l) (fault_alone e c r) (asked_both (λ k m. not (is_any k || is_any m)) a e c l r)
    fault_alone (length_of e) c n = both first _ _ _ _ (fault_alone e c n) (asked_alone (λ q. q) has_length e c n)
    fault_alone (joined_by e s) c n =
        let l = neither-left (reads_others e) (reads_others s) n in
        let r = neither-right (reads_others e) (reads_others s) n in
        three _ _ _ _ _ _ (fault_alone e c l) (fault_alone s c r) (asked_both (λ k m. is_plain_list k && is_text m) e s c l r)
    fault_alone (concatenation es) c n = both first _ _ _ _ (parts_alone es c n) (ap (asks wrong_kind) (plains_alone es c n))
    fault_alone (list_of es) c n = items_fault_alone es c n
    fault_alone (record_of ps) c n = fields_alone ps c n

    read_alone : (r : Root) (c : Scope) → root_reads_others r ≡ false → read_fault (under vs ls c) r ≡ read_fault c r
    read_alone (variable x) c n = refl
    read_alone (alias x e) c n = both first _ _ _ _ (fault_alone e c n) (asked_alone not is_any e c n)
    read_alone (other t x) c n = untrue (sym n)
    read_alone (member g p) c n = refl

    tested_alone : (r : Root) (c : Scope) → root_reads_others r ≡ false → tested_fault (under vs ls c) r ≡ tested_fault c r
    tested_alone (variable x) c n = refl
    tested_alone (alias x e) c n = both first _ _ _ _ (fault_alone e c n) (asked_alone not is_any e c n)
    tested_alone (other t x) c n = untrue (sym n)
    tested_alone (member g p) c n = refl

    chain_alone : (es : Expressions) (c : Scope) (b : Bool) → any_reads_others es ≡ false → chain_fault (under vs ls c) es b ≡ chain_fault c es b
    chain_alone no_expressions c b n = refl
    chain_alone (expression e es) c b n =
        let l = neither-left (reads_others e) (any_reads_others es) n in
        both first _ _ _ _ (fault_alone e c l) (ap (λ d. chain_fault d es b) (narrow_alone vs ls e c b l) ∙ chain_alone es (narrow c e b) b (neither-right (reads_others e) (any_reads_others es) n))

    booleans_alone : (es : Expressions) (c : Scope) (b : Bool) → any_reads_others es ≡ false → are_booleans (under vs ls c) es b ≡ are_booleans c es b
    booleans_alone no_expressions c b n = refl
    booleans_alone (expression e es) c b n =
        let l = neither-left (reads_others e) (any_reads_others es) n in
        both (λ p q. p && q) _ _ _ _ (ap is_boolean (kind_alone vs ls e c l)) (ap (λ d. are_booleans d es b) (narrow_alone vs ls e c b l) ∙ booleans_alone es (narrow c e b) b (neither-right (reads_others e) (any_reads_others es) n))

    parts_alone : (es : Expressions) (c : Scope) → any_reads_others es ≡ false → parts_fault (under vs ls c) es ≡ parts_fault c es
    parts_alone no_expressions c n = refl
    parts_alone (expression e es) c n = both first _ _ _ _ (fault_alone e c (neither-left (reads_others e) (any_reads_others es) n)) (parts_alone es c (neither-right (reads_others e) (any_reads_others es) n))

    plains_alone : (es : Expressions) (c : Scope) → any_reads_others es ≡ false → are_plain (under vs ls c) es ≡ are_plain c es
    plains_alone no_expressions c n = refl
    plains_alone (expression e es) c n =
        both (λ p q. p && q) _ _ _ _ (ap is_plain_kind (kind_alone vs ls e c (neither-left (reads_others e) (any_reads_others es) n))) (plains_alone es c (neither-right (reads_others e) (any_reads_others es) n))

    items_fault_alone : (es : Expressions) (c : Scope) → any_reads_others es ≡ false → items_fault (under vs ls c) es ≡ items_fault c es
    items_fault_alone no_expressions c n = refl
    items_fault_alone (expression e es) c n =
        let l = neither-left (reads_others e) (any_reads_others es) n in
        both first _ _ _ _ (both first _ _ _ _ (fault_alone e c l) (asked_alone not is_any e c l)) (items_fault_alone es c (neither-right (reads_others e) (any_reads_others es) n))

    pub fields_alone : (ps : Parts) (c : Scope) → part_reads_others ps ≡ false → fields_fault (under vs ls c) ps ≡ fields_fault c ps
    fields_alone no_parts c n = refl
    fields_alone (part x e ps) c n =
        let l = neither-left (reads_others e) (part_reads_others ps) n in
        both first _ _ _ _ (both first _ _ _ _ (fault_alone e c l) (asked_alone not is_any e c l)) (fields_alone ps c (neither-right (reads_others e) (part_reads_others ps) n))
