-- Under a table that says the same of what is read, a text has the same fault.
use Rattle.std.proofs.Common.{◌≡◌, List, Bool, true, false, not, ◌&&◌, ◌||◌, Some, refl, ap, ◌∙◌}
use Rattle.pb_semantics.specs.Kind.{KindData}
use Rattle.pb_semantics.proofs.Bools.{neither-left, neither-right}
use Rattle.pb_language.specs.Expression.{Name, Term, named_host, this_host, item_host, group_member, Expression, literal, path, hostvars_alone, negation, conjunction, disjunction, comparison, membership, in_batch, defined, undefinable, path_status, value_status, path_or, value_or, length_of, joined_by, concatenation, list_of, record_of, Root, variable, alias, other, member, Expressions, no_expressions, expression, Parts, no_parts, part}
use Rattle.pb_language.specs.Scope.{Scope, View, is_present, is_certain, spot_kind, hosts_of}
use Rattle.pb_language.specs.Kinds.{kind_of, root_spot, path_spot}
use Rattle.pb_language.specs.Narrow.{narrow}
use Rattle.pb_language.specs.Fit.{perhaps_undefined_there, wrong_kind, first, asks, is_any, is_boolean, is_text, is_plain_kind, is_plain_list, has_length, can_compare, can_find, is_result, steps_fault, hosts_fault, term_fault, active_fault, path_fault, fault, read_fault, tested_fault, chain_fault, are_booleans, parts_fault, are_plain, items_fault, fields_fault}
use Rattle.pb_walks.proofs.AloneFaults.{both, three}
use Rattle.pb_others.specs.Rooted.{has_root, root_holds, any_has_root, part_has_root}
use Rattle.pb_others.proofs.ThereSpots.{under, SameBut, narrowed}
use Rattle.pb_others.proofs.ThereKinds.{kind_there, root_there, narrow_there}

module _ (q : Root → Bool) (vs : List View) where
  -- what is asked of a kind
  pub asked_there : (f : Bool → Bool) (p : KindData → Bool) (e : Expression) (c : Scope) → has_root q e ≡ false → SameBut q vs c.table → asks wrong_kind (f (p (kind_of (under vs c) e))) ≡ asks wrong_kind (f (p (kind_of c e)))
  asked_there f p e c n s = ap (λ k. asks wrong_kind (f (p k))) (kind_there q vs e c n s)

  -- and of two
  asked_both : (p : KindData → KindData → Bool) (a b : Expression) (c : Scope) → has_root q a ≡ false → has_root q b ≡ false → SameBut q vs c.table
      → asks wrong_kind (p (kind_of (under vs c) a) (kind_of (under vs c) b)) ≡ asks wrong_kind (p (kind_of c a) (kind_of c b))
  asked_both p a b c n m s = both (λ k j. asks wrong_kind (p k j)) _ _ _ _ (kind_there q vs a c n s) (kind_there q vs b c m s)

  path_there : (r : Root) (ns : List Name) (c : Scope) → root_holds q r ≡ false → SameBut q vs c.table → tested_fault (under vs c) r ≡ tested_fault c r → read_fault (under vs c) r ≡ read_fault c r → fault (under vs c) (path r ns) ≡ fault c (path r ns)
  path_there r ns c n s x y =
      both (λ t f. path_fault (is_present c r ns) t f (steps_fault ns (spot_kind (root_spot (under vs c) r)))) _ _ _ _ x y
      ∙ ap (λ z. path_fault (is_present c r ns) (tested_fault c r) (read_fault c r) (steps_fault ns (spot_kind z))) (root_there q vs r c n s)

  -- which hosts a term names is seen without the table
  hosts_there : (c : Scope) (t : Term) → hosts_of (under vs c) t ≡ hosts_of c t
  hosts_there c (named_host g) = refl
  hosts_there c this_host = refl
  hosts_there c item_host = refl
  hosts_there c (group_member g p) = refl

  terms_there : (c : Scope) (t : Term) → term_fault (under vs c) t ≡ term_fault c t
  terms_there c (named_host g) = refl
  terms_there c this_host = refl
  terms_there c item_host = refl
  terms_there c (group_member g p) = refl

  active_there : (c : Scope) (t : Term) → active_fault (under vs c) t ≡ active_fault c t
  active_there c (named_host g) = refl
  active_there c this_host = refl
  active_there c item_host = refl
  active_there c (group_member g p) = refl

  mutual
    pub fault_there : (e : Expression) (c : Scope) → has_root q e ≡ false → SameBut q vs c.table → fault (under vs c) e ≡ fault c e
    fault_there (literal d) c n s = refl
    fault_there (path r ns) c n s = path_there r ns c n s (tested_there r c n s) (read_there r c n s)
    fault_there (hostvars_alone o) c n s = refl
    fault_there (negation e) c n s = both first _ _ _ _ (fault_there e c n s) (asked_there (λ z. z) is_boolean e c n s)
    fault_there (conjunction es) c n s = both first _ _ _ _ (chain_there es c true n s) (ap (asks wrong_kind) (booleans_there es c true n s))
    fault_there (disjunction es) c n s = both first _ _ _ _ (chain_there es c false n s) (ap (asks wrong_kind) (booleans_there es c false n s))
    fault_there (comparison x a b) c n s =
        let l = neither-left (has_root q a) (has_root q b) n in
        let r = neither-right (has_root q a) (has_root q b) n in
        three _ _ _ _ _ _ (fault_there a c l s) (fault_there b c r s) (asked_both (can_compare x) a b c l r s)
    fault_there (membership a b) c n s =
        let l = neither-left (has_root q a) (has_root q b) n in
        let r = neither-right (has_root q a) (has_root q b) n in
        three _ _ _ _ _ _ (fault_there a c l s) (fault_there b c r s) (asked_both can_find a b c l r s)
    fault_there (in_batch t) c n s = both first _ _ _ _ (terms_there c t) (active_there c t)
    fault_there (defined r ns) c n s = tested_there r c n s
    fault_there (undefinable e) c n s = ap (λ f. first f (Some wrong_kind)) (fault_there e c n s)
    fault_there (path_status u r ns) c n s =
        both first (fault (under vs c) (path r ns)) (fault c (path r ns)) _ _ (path_there r ns c n s (tested_there r c n s) (read_there r c n s))
        (ap (λ z. asks wrong_kind (is_result (spot_kind (path_spot ns z)))) (root_there q vs r c n s))
    fault_there (value_status u e) c n s = both first _ _ _ _ (fault_there e c n s) (asked_there (λ z. z) is_result e c n s)
    fault_there (path_or r ns e) c n s =
        let l = neither-left (root_holds q r) (has_root q e) n in
        let m = neither-right (root_holds q r) (has_root q e) n in
        three _ _ _ _ _ _ (tested_there r c l s) (fault_there e c m s) (asked_there not is_any e c m s)
    fault_there (value_or a e) c n s =
        let l = neither-left (has_root q a) (has_root q e) n in
        let r = neither-right (has_root q a) (has_root q e) n in
        three _ _ _ _ _ _ (fault_there a c l s) (fault_there e c r s) (asked_both (λ k m. not (is_any k || is_any m)) a e c l r s)
    fault_there (length_of e) c n s = both first _ _ _ _ (fault_there e c n s) (asked_there (λ z. z) has_length e c n s)
    fault_there (joined_by e g) c n s =
        let l = neither-left (has_root q e) (has_root q g) n in
        let r = neither-right (has_root q e) (has_root q g) n in
        three _ _ _ _ _ _ (fault_there e c l s) (fault_there g c r s) (asked_both (λ k m. is_plain_list k && is_text m) e g c l r s)
    fault_there (concatenation es) c n s = both first _ _ _ _ (parts_there es c n s) (ap (asks wrong_kind) (plains_there es c n s))
    fault_there (list_of es) c n s = items_fault_there es c n s
    fault_there (record_of ps) c n s = fields_there ps c n s

    read_there : (r : Root) (c : Scope) → root_holds q r ≡ false → SameBut q vs c.table → read_fault (under vs c) r ≡ read_fault c r
    read_there (variable x) c n s = refl
    read_there (alias x e) c n s = both first _ _ _ _ (fault_there e c n s) (asked_there not is_any e c n s)
    read_there (other t x) c n s =
        three _ _ _ _ _ _ (terms_there c t) (ap hosts_fault (hosts_there c t)) (ap (λ z. asks perhaps_undefined_there (is_certain z)) (root_there q vs (other t x) c n s))
    read_there (member g p) c n s = refl

    tested_there : (r : Root) (c : Scope) → root_holds q r ≡ false → SameBut q vs c.table → tested_fault (under vs c) r ≡ tested_fault c r
    tested_there (variable x) c n s = refl
    tested_there (alias x e) c n s = both first _ _ _ _ (fault_there e c n s) (asked_there not is_any e c n s)
    tested_there (other t x) c n s = ap hosts_fault (hosts_there c t)
    tested_there (member g p) c n s = refl

    chain_there : (es : Expressions) (c : Scope) (b : Bool) → any_has_root q es ≡ false → SameBut q vs c.table → chain_fault (under vs c) es b ≡ chain_fault c es b
    chain_there no_expressions c b n s = refl
    chain_there (expression e es) c b n s =
        let l = neither-left (has_root q e) (any_has_root q es) n in
        both first _ _ _ _ (fault_there e c l s) (ap (λ d. chain_fault d es b) (narrow_there q vs e c b l s) ∙ chain_there es (narrow c e b) b (neither-right (has_root q e) (any_has_root q es) n) (narrowed q vs e c b s))

    booleans_there : (es : Expressions) (c : Scope) (b : Bool) → any_has_root q es ≡ false → SameBut q vs c.table → are_booleans (under vs c) es b ≡ are_booleans c es b
    booleans_there no_expressions c b n s = refl
    booleans_there (expression e es) c b n s =
        let l = neither-left (has_root q e) (any_has_root q es) n in
        both (λ x y. x && y) _ _ _ _ (ap is_boolean (kind_there q vs e c l s)) (ap (λ d. are_booleans d es b) (narrow_there q vs e c b l s) ∙ booleans_there es (narrow c e b) b (neither-right (has_root q e) (any_has_root q es) n) (narrowed q vs e c b s))

    parts_there : (es : Expressions) (c : Scope) → any_has_root q es ≡ false → SameBut q vs c.table → parts_fault (under vs c) es ≡ parts_fault c es
    parts_there no_expressions c n s = refl
    parts_there (expression e es) c n s = both first _ _ _ _ (fault_there e c (neither-left (has_root q e) (any_has_root q es) n) s) (parts_there es c (neither-right (has_root q e) (any_has_root q es) n) s)

    plains_there : (es : Expressions) (c : Scope) → any_has_root q es ≡ false → SameBut q vs c.table → are_plain (under vs c) es ≡ are_plain c es
    plains_there no_expressions c n s = refl
    plains_there (expression e es) c n s =
        both (λ x y. x && y) _ _ _ _ (ap is_plain_kind (kind_there q vs e c (neither-left (has_root q e) (any_has_root q es) n) s)) (plains_there es c (neither-right (has_root q e) (any_has_root q es) n) s)

    items_fault_there : (es : Expressions) (c : Scope) → any_has_root q es ≡ false → SameBut q vs c.table → items_fault (under vs c) es ≡ items_fault c es
    items_fault_there no_expressions c n s = refl
    items_fault_there (expression e es) c n s =
        let l = neither-left (has_root q e) (any_has_root q es) n in
        both first _ _ _ _ (both first _ _ _ _ (fault_there e c l s) (asked_there not is_any e c l s)) (items_fault_there es c (neither-right (has_root q e) (any_has_root q es) n) s)

    pub fields_there : (ps : Parts) (c : Scope) → part_has_root q ps ≡ false → SameBut q vs c.table → fields_fault (under vs c) ps ≡ fields_fault c ps
    fields_there no_parts c n s = refl
    fields_there (part x e ps) c n s =
        let l = neither-left (has_root q e) (part_has_root q ps) n in
        both first _ _ _ _ (both first _ _ _ _ (fault_there e c l s) (asked_there not is_any e c l s)) (fields_there ps c (neither-right (has_root q e) (part_has_root q ps) n) s)
