-- In scopes that are alike, what reads neither other hosts nor the host's name has the same fault.
use Rattle.std.proofs.Common.{◌≡◌, List, Bool, true, false, not, ◌&&◌, ◌||◌, Some, is_some, refl, ap, ◌∙◌}
use Rattle.pb_semantics.specs.Kind.{KindData}
use Rattle.pb_language.specs.Expression.{Name, Expression, literal, path, hostvars_alone, negation, conjunction, disjunction, comparison, membership, in_batch, defined, undefinable, path_status, value_status, path_or, value_or, length_of, joined_by, concatenation, list_of, record_of, Root, variable, alias, other, member, Expressions, no_expressions, expression, Parts, no_parts, part}
use Rattle.pb_language.specs.World.{member_of}
use Rattle.pb_language.specs.Scope.{Scope, is_present, is_certain, spot_kind}
use Rattle.pb_language.specs.Kinds.{kind_of, root_spot, path_spot}
use Rattle.pb_language.specs.Narrow.{narrow}
use Rattle.pb_language.specs.Fit.{wrong_kind, perhaps_undefined, unknown_name, first, asks, is_any, is_boolean, is_text, is_plain_kind, is_plain_list, has_length, can_compare, can_find, is_result, steps_fault, path_fault, fault, read_fault, tested_fault, chain_fault, are_booleans, parts_fault, are_plain, items_fault, fields_fault}
use Rattle.pb_walks.proofs.AloneFaults.{both, three}
use Rattle.pb_alike.proofs.ReadsNeither.{Neither, RootNeither, EachNeither, PartsNeither}
use Rattle.pb_alike.proofs.AlikeKinds.{ScopesAlike, present_alike, kind_alike, root_alike, narrow_alike}

-- what is asked of a kind, and of two
pub asked_alike : (q : KindData → Bool) (e : Expression) (c d : Scope) → ScopesAlike c d → Neither e → asks wrong_kind (q (kind_of c e)) ≡ asks wrong_kind (q (kind_of d e))
asked_alike q e c d a n = ap (λ k. asks wrong_kind (q k)) (kind_alike e c d a n)

asked_both : (q : KindData → KindData → Bool) (e f : Expression) (c d : Scope) → ScopesAlike c d → Neither e → Neither f → asks wrong_kind (q (kind_of c e) (kind_of c f)) ≡ asks wrong_kind (q (kind_of d e) (kind_of d f))
asked_both q e f c d a n m = both (λ k l. asks wrong_kind (q k l)) _ _ _ _ (kind_alike e c d a n) (kind_alike f c d a m)

path_alike : (r : Root) (ns : List Name) (c d : Scope) → ScopesAlike c d → RootNeither r → tested_fault c r ≡ tested_fault d r → read_fault c r ≡ read_fault d r → fault c (path r ns) ≡ fault d (path r ns)
path_alike r ns c d a n x y =
    both (λ q f. path_fault q f (read_fault c r) (steps_fault ns (spot_kind (root_spot c r)))) _ _ _ _ (present_alike r ns c d a n) x
    ∙ both (λ f s. path_fault (is_present d r ns) (tested_fault d r) f (steps_fault ns (spot_kind s))) _ _ _ _ y (root_alike r c d a n)

value_alike : (e : Expression) (c d : Scope) → ScopesAlike c d → Neither e → fault c e ≡ fault d e → first (fault c e) (asks wrong_kind (not (is_any (kind_of c e)))) ≡ first (fault d e) (asks wrong_kind (not (is_any (kind_of d e))))
value_alike e c d a n h = both first _ _ _ _ h (asked_alike (λ k. not (is_any k)) e c d a n)

mutual
  pub fault_alike : (e : Expression) (c d : Scope) → ScopesAlike c d → Neither e → fault c e ≡ fault d e
  fault_alike (literal x) c d a n = refl
  fault_alike (path r ns) c d a n = path_alike r ns c d a n (tested_alike r c d a n) (read_alike r c d a n)
  fault_alike (hostvars_alone o) c d a n = refl
  fault_alike (negation e) c d a n = both first _ _ _ _ (fault_alike e c d a n) (asked_alike is_boolean e c d a n)
  fault_alike (conjunction es) c d a n = both first _ _ _ _ (chain_alike es c d true a n) (ap (asks wrong_kind) (booleans_alike es c d true a n))
  fault_alike (disjunction es) c d a n = both first _ _ _ _ (chain_alike es c d false a n) (ap (asks wrong_kind) (booleans_alike es c d false a n))
  fault_alike (comparison x e f) c d a n = three _ _ _ _ _ _ (fault_alike e c d a n.0) (fault_alike f c d a n.1) (asked_both (can_compare x) e f c d a n.0 n.1)
  fault_alike (membership e f) c d a n = three _ _ _ _ _ _ (fault_alike e c d a n.0) (fault_alike f c d a n.1) (asked_both can_find e f c d a n.0 n.1)
  fault_alike (in_batch t) c d a n = absurd n
  fault_alike (defined r ns) c d a n = tested_alike r c d a n
  fault_alike (undefinable e) c d a n = ap (λ f. first f (Some wrong_kind)) (fault_alike e c d a n)
  fault_alike (path_status s r ns) c d a n =
      both first (fault c (path r ns)) (fault d (path r ns)) _ _ (path_alike r ns c d a n (tested_alike r c d a n) (read_alike r c d a n))
      (ap (λ z. asks wrong_kind (is_result (spot_kind (path_spot ns z)))) (root_alike r c d a n))
  fault_alike (value_status s e) c d a n = both first _ _ _ _ (fault_alike e c d a n) (asked_alike is_result e c d a n)
  fault_alike (path_or r ns e) c d a n = three _ _ _ _ _ _ (tested_alike r c d a n.0) (fault_alike e c d a n.1) (asked_alike (λ k. not (is_any k)) e c d a n.1)
  fault_alike (value_or e f) c d a n =
      three _ _ _ _ _ _ (fault_alike e c d a n.0) (fault_alike f c d a n.1) (asked_both (λ k m. not (is_any k || is_any m)) e f c d a n.0 n.1)
  fault_alike (length_of e) c d a n = both first _ _ _ _ (fault_alike e c d a n) (asked_alike has_length e c d a n)
  fault_alike (joined_by e s) c d a n =
      three _ _ _ _ _ _ (fault_alike e c d a n.0) (fault_alike s c d a n.1) (asked_both (λ k m. is_plain_list k && is_text m) e s c d a n.0 n.1)
  fault_alike (concatenation es) c d a n = both first _ _ _ _ (parts_alike es c d a n) (ap (asks wrong_kind) (plains_alike es c d a n))
  fault_alike (list_of es) c d a n = items_fault_alike es c d a n
  fault_alike (record_of ps) c d a n = fields_alike ps c d a n

  read_alike : (r : Root) (c d : Scope) → ScopesAlike c d → RootNeither r → read_fault c r ≡ read_fault d r
  read_alike (variable x) c d a n = ap (λ s. asks perhaps_undefined (is_certain s)) (root_alike (variable x) c d a n)
  read_alike (alias x e) c d a n = value_alike e c d a n (fault_alike e c d a n)
  read_alike (other t x) c d a n = absurd n
  read_alike (member g p) c d a n = ap (λ gs. asks unknown_name (is_some (member_of g p gs))) a.groups

  tested_alike : (r : Root) (c d : Scope) → ScopesAlike c d → RootNeither r → tested_fault c r ≡ tested_fault d r
  tested_alike (variable x) c d a n = refl
  tested_alike (alias x e) c d a n = value_alike e c d a n (fault_alike e c d a n)
  tested_alike (other t x) c d a n = absurd n
  tested_alike (member g p) c d a n = refl

  chain_alike : (es : Expressions) (c d : Scope) (b : Bool) → ScopesAlike c d → EachNeither es → chain_fault c es b ≡ chain_fault d es b
  chain_alike no_expressions c d b a n = refl
  chain_alike (expression e es) c d b a n = both first _ _ _ _ (fault_alike e c d a n.0) (chain_alike es (narrow c e b) (narrow d e b) b (narrow_alike e c d b a n.0) n.1)

  booleans_alike : (es : Expressions) (c d : Scope) (b : Bool) → ScopesAlike c d → EachNeither es → are_booleans c es b ≡ are_booleans d es b
  booleans_alike no_expressions c d b a n = refl
  booleans_alike (expression e es) c d b a n =
      both (λ p q. p && q) _ _ _ _ (ap is_boolean (kind_alike e c d a n.0)) (booleans_alike es (narrow c e b) (narrow d e b) b (narrow_alike e c d b a n.0) n.1)

  parts_alike : (es : Expressions) (c d : Scope) → ScopesAlike c d → EachNeither es → parts_fault c es ≡ parts_fault d es
  parts_alike no_expressions c d a n = refl
  parts_alike (expression e es) c d a n = both first _ _ _ _ (fault_alike e c d a n.0) (parts_alike es c d a n.1)

  plains_alike : (es : Expressions) (c d : Scope) → ScopesAlike c d → EachNeither es → are_plain c es ≡ are_plain d es
  plains_alike no_expressions c d a n = refl
  plains_alike (expression e es) c d a n = both (λ p q. p && q) _ _ _ _ (ap is_plain_kind (kind_alike e c d a n.0)) (plains_alike es c d a n.1)

  items_fault_alike : (es : Expressions) (c d : Scope) → ScopesAlike c d → EachNeither es → items_fault c es ≡ items_fault d es
  items_fault_alike no_expressions c d a n = refl
  items_fault_alike (expression e es) c d a n = both first _ _ _ _ (value_alike e c d a n.0 (fault_alike e c d a n.0)) (items_fault_alike es c d a n.1)

  pub fields_alike : (ps : Parts) (c d : Scope) → ScopesAlike c d → PartsNeither ps → fields_fault c ps ≡ fields_fault d ps
  fields_alike no_parts c d a n = refl
  fields_alike (part x e ps) c d a n = both first _ _ _ _ (value_alike e c d a n.0 (fault_alike e c d a n.0)) (fields_alike ps c d a n.1)
