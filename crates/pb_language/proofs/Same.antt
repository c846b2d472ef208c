-- Trees that are found to be the same are equal, and each tree is the same as itself.
use Rattle.std.proofs.Common.{◌≡◌, ℕ, List, [], ◌∷◌, Bool, true, ◌&&◌, bytes_eq, nat_eq, Option, Some, None, refl, ap, arith}
use Rattle.std.proofs.lemmas.Bool.Decides.{nat_tests, Decides-int_eq}
use Rattle.pb_semantics.specs.Data.{Data, Items, Fields, null, boolean, int, text, list, rec, opaque, no_items, item, no_fields, field}
use Rattle.pb_semantics.proofs.Bools.{untrue, and-left, and-right}
use Rattle.pb_semantics.proofs.Names.{same_name, same_flag, own_name, own_flag}
use Rattle.pb_language.specs.Expression.{Name, Comparison, equal, less, at_most, more, at_least, Status, is_failed, is_changed, is_skipped, Term, named_host, this_host, item_host, group_member, Expression, literal, path, hostvars_alone, negation, conjunction, disjunction, comparison, membership, in_batch, defined, undefinable, path_status, value_status, path_or, value_or, length_of, joined_by, concatenation, list_of, record_of, Root, variable, alias, other, member, Expressions, no_expressions, expression, Parts, no_parts, part}
use Rattle.pb_language.specs.Same.{same_data, same_items, same_fields, same_names, same_comparison, same_status, same_term, same_option, same_expression, same_root, same_expressions, same_parts}

pub same_number : (n m : ℕ) → nat_eq n m ≡ true → n ≡ m
same_number n m h = grind (arith, nat_tests)

mutual
  pub equal_data : (d e : Data) → same_data d e ≡ true → d ≡ e
  equal_data opaque opaque h = refl
  equal_data null null h = refl
  equal_data (boolean a) (boolean b) h = ap (λ x. boolean x) (same_flag a b h)
  equal_data (int y) (int z) h = ap (λ x. int x) ((Decides-int_eq y z).0 h)
  equal_data (text s) (text t) h = ap (λ x. text x) (same_name s t h)
  equal_data (list ds) (list es) h = ap (λ x. list x) (equal_items ds es h)
  equal_data (rec fs) (rec gs) h = ap (λ x. rec x) (equal_fields fs gs h)
  equal_data d e h = untrue h

  equal_items : (ds es : Items) → same_items ds es ≡ true → ds ≡ es
  equal_items no_items no_items h = refl
  equal_items (item d ds) (item e es) h =
      let x : d ≡ e = equal_data d e (and-left (same_data d e) (same_items ds es) h) in
      let y : ds ≡ es = equal_items ds es (and-right (same_data d e) (same_items ds es) h) in
      cc
  equal_items ds es h = untrue h

  equal_fields : (fs gs : Fields) → same_fields fs gs ≡ true → fs ≡ gs
  equal_fields no_fields no_fields h = refl
  equal_fields (field n d fs) (field m e gs) h =
      let later = and-right (bytes_eq n m) (same_data d e && same_fields fs gs) h in
      let x : n ≡ m = same_name n m (and-left (bytes_eq n m) (same_data d e && same_fields fs gs) h) in
      let y : d ≡ e = equal_data d e (and-left (same_data d e) (same_fields fs gs) later) in
      let z : fs ≡ gs = equal_fields fs gs (and-right (same_data d e) (same_fields fs gs) later) in
      cc
  equal_fields fs gs h = untrue h

pub equal_names : (ns ms : List Name) → same_names ns ms ≡ true → ns ≡ ms
equal_names [] [] h = refl
equal_names (n ∷ ns) (m ∷ ms) h =
    let x : n ≡ m = same_name n m (and-left (bytes_eq n m) (same_names ns ms) h) in
    let y : ns ≡ ms = equal_names ns ms (and-right (bytes_eq n m) (same_names ns ms) h) in
    cc
equal_names ns ms h = untrue h

equal_comparison : (c d : Comparison) → same_comparison c d ≡ true → c ≡ d
equal_comparison equal equal h = refl
equal_comparison less less h = refl
equal_comparison at_most at_most h = refl
equal_comparison more more h = refl
equal_comparison at_least at_least h = refl
equal_comparison c d h = untrue h

equal_status : (s t : Status) → same_status s t ≡ true → s ≡ t
equal_status is_failed is_failed h = refl
equal_status is_changed is_changed h = refl
equal_status is_skipped is_skipped h = refl
equal_status s t h = untrue h

equal_term : (t u : Term) → same_term t u ≡ true → t ≡ u
equal_term (named_host n) (named_host m) h = ap (λ x. named_host x) (same_name n m h)
equal_term this_host this_host h = refl
equal_term item_host item_host h = refl
equal_term (group_member g n) (group_member k m) h =
    let x : g ≡ k = same_name g k (and-left (bytes_eq g k) (nat_eq n m) h) in
    let y : n ≡ m = same_number n m (and-right (bytes_eq g k) (nat_eq n m) h) in
    cc
equal_term t u h = untrue h

equal_option : (o p : Option Term) → same_option o p ≡ true → o ≡ p
equal_option None None h = refl
equal_option (Some t) (Some u) h = ap (λ x. Some x) (equal_term t u h)
equal_option o p h = untrue h

mutual
  pub equal_expression : (a b : Expression) → same_expression a b ≡ true → a ≡ b
  equal_expression (literal d) (literal e) h = ap (λ x. literal x) (equal_data d e h)
  equal_expression (path r ns) (path q ms) h =
      let x : r ≡ q = equal_root r q (and-left (same_root r q) (same_names ns ms) h) in
      let y : ns ≡ ms = equal_names ns ms (and-right (same_root r q) (same_names ns ms) h) in
      cc
  equal_expression (hostvars_alone o) (hostvars_alone p) h = ap (λ x. hostvars_alone x) (equal_option o p h)
  equal_expression (negation e) (negation f) h = ap (λ x. negation x) (equal_expression e f h)
  equal_expression (conjunction es) (conjunction fs) h = ap (λ x. conjunction x) (equal_expressions es fs h)
  equal_expression (disjunction es) (disjunction fs) h = ap (λ x. disjunction x) (equal_expressions es fs h)
  equal_expression (comparison c a b) (comparison d e f) h =
      let later = and-right (same_comparison c d) (same_expression a e && same_expression b f) h in
      let x : c ≡ d = equal_comparison c d (and-left (same_comparison c d) (same_expression a e && same_expression b f) h) in
      let y : a ≡ e = equal_expression a e (and-left (same_expression a e) (same_expression b f) later) in
      let z : b ≡ f = equal_expression b f (and-right (same_expression a e) (same_expression b f) later) in
      cc
  equal_expression (membership a b) (membership e f) h =
      let y : a ≡ e = equal_expression a e (and-left (same_expression a e) (same_expression b f) h) in
      let z : b ≡ f = equal_expression b f (and-right (same_expression a e) (same_expression b f) h) in
      cc
  equal_expression (in_batch t) (in_batch u) h = ap (λ x. in_batch x) (equal_term t u h)
  equal_expression (defined r ns) (defined q ms) h =
      let x : r ≡ q = equal_root r q (and-left (same_root r q) (same_names ns ms) h) in
      let y : ns ≡ ms = equal_names ns ms (and-right (same_root r q) (same_names ns ms) h) in
      cc
  equal_expression (undefinable e) (undefinable f) h = ap (λ x. undefinable x) (equal_expression e f h)
  equal_expression (path_status s r ns) (path_status t q ms) h =
      let later = and-right (same_status s t) (same_root r q && same_names ns ms) h in
      let x : s ≡ t = equal_status s t (and-left (same_status s t) (same_root r q && same_names ns ms) h) in
      let y : r ≡ q = equal_root r q (and-left (same_root r q) (same_names ns ms) later) in
      let z : ns ≡ ms = equal_names ns ms (and-right (same_root r q) (same_names ns ms) later) in
      cc
  equal_expression (value_status s e) (value_status t f) h =
      let x : s ≡ t = equal_status s t (and-left (same_status s t) (same_expression e f) h) in
      let y : e ≡ f = equal_expression e f (and-right (same_status s t) (same_expression e f) h) in
      cc
  equal_expression (path_or r ns e) (path_or q ms f) h =
      let later = and-right (same_root r q) (same_names ns ms && same_expression e f) h in
      let x : r ≡ q = equal_root r q (and-left (same_root r q) (same_names ns ms && same_expression e f) h) in
      let y : ns ≡ ms = equal_names ns ms (and-left (same_names ns ms) (same_expression e f) later) in
      let z : e ≡ f = equal_expression e f (and-right (same_names ns ms) (same_expression e f) later) in
      cc
  equal_expression (value_or a b) (value_or e f) h =
      let y : a ≡ e = equal_expression a e (and-left (same_expression a e) (same_expression b f) h) in
      let z : b ≡ f = equal_expression b f (and-right (same_expression a e) (same_expression b f) h) in
      cc
  equal_expression (length_of e) (length_of f) h = ap (λ x. length_of x) (equal_expression e f h)
  equal_expression (joined_by a b) (joined_by e f) h =
      let y : a ≡ e = equal_expression a e (and-left (same_expression a e) (same_expression b f) h) in
      let z : b ≡ f = equal_expression b f (and-right (same_expression a e) (same_expression b f) h) in
      cc
  equal_expression (concatenation es) (concatenation fs) h = ap (λ x. concatenation x) (equal_expressions es fs h)
  equal_expression (list_of es) (list_of fs) h = ap (λ x. list_of x) (equal_expressions es fs h)
  equal_expression (record_of ps) (record_of qs) h = ap (λ x. record_of x) (equal_parts ps qs h)
  equal_expression e f h = untrue h

  pub equal_root : (r q : Root) → same_root r q ≡ true → r ≡ q
  equal_root (variable n) (variable m) h = ap (λ x. variable x) (same_name n m h)
  equal_root (alias n e) (alias m f) h =
      let x : n ≡ m = same_name n m (and-left (bytes_eq n m) (same_expression e f) h) in
      let y : e ≡ f = equal_expression e f (and-right (bytes_eq n m) (same_expression e f) h) in
      cc
  equal_root (other t n) (other u m) h =
      let x : t ≡ u = equal_term t u (and-left (same_term t u) (bytes_eq n m) h) in
      let y : n ≡ m = same_name n m (and-right (same_term t u) (bytes_eq n m) h) in
      cc
  equal_root (member g n) (member k m) h =
      let x : g ≡ k = same_name g k (and-left (bytes_eq g k) (nat_eq n m) h) in
      let y : n ≡ m = same_number n m (and-right (bytes_eq g k) (nat_eq n m) h) in
      cc
  equal_root r q h = untrue h

  equal_expressions : (es fs : Expressions) → same_expressions es fs ≡ true → es ≡ fs
  equal_expressions no_expressions no_expressions h = refl
  equal_expressions (expression e es) (expression f fs) h =
      let x : e ≡ f = equal_expression e f (and-left (same_expression e f) (same_expressions es fs) h) in
      let y : es ≡ fs = equal_expressions es fs (and-right (same_expression e f) (same_expressions es fs) h) in
      cc
  equal_expressions es fs h = untrue h

  equal_parts : (ps qs : Parts) → same_parts ps qs ≡ true → ps ≡ qs
  equal_parts no_parts no_parts h = refl
  equal_parts (part n e ps) (part m f qs) h =
      let later = and-right (bytes_eq n m) (same_expression e f && same_parts ps qs) h in
      let x : n ≡ m = same_name n m (and-left (bytes_eq n m) (same_expression e f && same_parts ps qs) h) in
      let y : e ≡ f = equal_expression e f (and-left (same_expression e f) (same_parts ps qs) later) in
      let z : ps ≡ qs = equal_parts ps qs (and-right (same_expression e f) (same_parts ps qs) later) in
      cc
  equal_parts ps qs h = untrue h

-- two tests that both hold
both : (a b : Bool) → a ≡ true → b ≡ true → a && b ≡ true
both a b h i = rw (h) i

own_number : (n : ℕ) → nat_eq n n ≡ true
own_number n = grind (arith, nat_tests)

mutual
  own_data : (d : Data) → same_data d d ≡ true
  own_data null = refl
  own_data (boolean a) = own_flag a
  own_data (int z) = (Decides-int_eq z z).1 refl
  own_data (text s) = own_name s
  own_data (list ds) = own_items ds
  own_data (rec fs) = own_fields fs
  own_data opaque = refl

  own_items : (ds : Items) → same_items ds ds ≡ true
  own_items no_items = refl
  own_items (item d ds) = both (same_data d d) (same_items ds ds) (own_data d) (own_items ds)

  own_fields : (fs : Fields) → same_fields fs fs ≡ true
  own_fields no_fields = refl
  own_fields (field n d fs) =
      both (bytes_eq n n) (same_data d d && same_fields fs fs) (own_name n) (both (same_data d d) (same_fields fs fs) (own_data d) (own_fields fs))

own_names : (ns : List Name) → same_names ns ns ≡ true
own_names [] = refl
own_names (n ∷ ns) = both (bytes_eq n n) (same_names ns ns) (own_name n) (own_names ns)

own_comparison : (c : Comparison) → same_comparison c c ≡ true
own_comparison equal = refl
own_comparison less = refl
own_comparison at_most = refl
own_comparison more = refl
own_comparison at_least = refl

own_status : (s : Status) → same_status s s ≡ true
own_status is_failed = refl
own_status is_changed = refl
own_status is_skipped = refl

own_term : (t : Term) → same_term t t ≡ true
own_term (named_host n) = own_name n
own_term this_host = refl
own_term item_host = refl
own_term (group_member g n) = both (bytes_eq g g) (nat_eq n n) (own_name g) (own_number n)

own_option : (o : Option Term) → same_option o o ≡ true
own_option None = refl
own_option (Some t) = own_term t

mutual
  -- each tree is the same as itself
  pub own_expression : (e : Expression) → same_expression e e ≡ true
  own_expression (literal d) = own_data d
  own_expression (path r ns) = both (same_root r r) (same_names ns ns) (own_root r) (own_names ns)
  own_expression (hostvars_alone o) = own_option o
  own_expression (negation e) = own_expression e
  own_expression (conjunction es) = own_expressions es
  own_expression (disjunction es) = own_expressions es
  own_expression (comparison c a b) =
      both (same_comparison c c) (same_expression a a && same_expression b b) (own_comparison c) (both (same_expression a a) (same_expression b b) (own_expression a) (own_expression b))
  own_expression (membership a b) = both (same_expression a a) (same_expression b b) (own_expression a) (own_expression b)
  own_expression (in_batch t) = own_term t
  own_expression (defined r ns) = both (same_root r r) (same_names ns ns) (own_root r) (own_names ns)
  own_expression (undefinable e) = own_expression e
  own_expression (path_status s r ns) =
      both (same_status s s) (same_root r r && same_names ns ns) (own_status s) (both (same_root r r) (same_names ns ns) (own_root r) (own_names ns))
  own_expression (value_status s e) = both (same_status s s) (same_expression e e) (own_status s) (own_expression e)
  own_expression (path_or r ns e) =
      both (same_root r r) (same_names ns ns && same_expression e e) (own_root r) (both (same_names ns ns) (same_expression e e) (own_names ns) (own_expression e))
  own_expression (value_or a b) = both (same_expression a a) (same_expression b b) (own_expression a) (own_expression b)
  own_expression (length_of e) = own_expression e
  own_expression (joined_by a b) = both (same_expression a a) (same_expression b b) (own_expression a) (own_expression b)
  own_expression (concatenation es) = own_expressions es
  own_expression (list_of es) = own_expressions es
  own_expression (record_of ps) = own_parts ps

  pub own_root : (r : Root) → same_root r r ≡ true
  own_root (variable n) = own_name n
  own_root (alias n e) = both (bytes_eq n n) (same_expression e e) (own_name n) (own_expression e)
  own_root (other t x) = both (same_term t t) (bytes_eq x x) (own_term t) (own_name x)
  own_root (member g n) = both (bytes_eq g g) (nat_eq n n) (own_name g) (own_number n)

  own_expressions : (es : Expressions) → same_expressions es es ≡ true
  own_expressions no_expressions = refl
  own_expressions (expression e es) = both (same_expression e e) (same_expressions es es) (own_expression e) (own_expressions es)

  own_parts : (ps : Parts) → same_parts ps ps ≡ true
  own_parts no_parts = refl
  own_parts (part n e ps) =
      both (bytes_eq n n) (same_expression e e && same_parts ps ps) (own_name n) (both (same_expression e e) (same_parts ps ps) (own_expression e) (own_parts ps))
