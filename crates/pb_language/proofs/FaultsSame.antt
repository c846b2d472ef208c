-- An expression has the same fault in scopes that are below each other.
use Rattle.std.proofs.Common.{◌≡◌, List, Bool, true, false, not, ◌&&◌, ◌||◌, Option, is_some, codes, refl, sym, ap, ◌∙◌}
use Rattle.pb_semantics.specs.Kind.{Spot}
use Rattle.pb_semantics.proofs.Bools.{untrue}
use Rattle.pb_language.specs.Expression.{Name, Expression, literal, path, hostvars_alone, negation, conjunction, disjunction, comparison, membership, in_batch, defined, undefinable, path_status, value_status, path_or, value_or, length_of, joined_by, concatenation, list_of, record_of, Root, variable, alias, other, member, Expressions, no_expressions, expression, Parts, no_parts, part, Term, named_host, this_host, item_host, group_member}
use Rattle.pb_language.specs.World.{member_of}
use Rattle.pb_language.specs.Scope.{Scope, is_present, spot_kind, is_certain, own_spot, hosts_of, other_spot, is_present_path}
use Rattle.pb_language.specs.Kinds.{kind_of, root_spot, path_spot}
use Rattle.pb_language.specs.Narrow.{narrow}
use Rattle.pb_language.specs.Fit.{Fault, perhaps_undefined, perhaps_undefined_there, wrong_kind, unknown_name, first, asks, is_any, is_boolean, is_text, is_plain_kind, is_plain_list, steps_fault, hosts_fault, term_fault, active_fault, path_fault, fault, read_fault, tested_fault, chain_fault, are_booleans, parts_fault, are_plain, items_fault, fields_fault}
use Rattle.pb_language.specs.Knows.{WellScope}
use Rattle.pb_language.specs.Ordered.{PathLe, moved, ScopeLe}
use Rattle.pb_language.specs.SameBelow.{SameKind}
use Rattle.pb_language.proofs.WellKinds.{well_own, well_path, kinds_are_well, well_root}
use Rattle.pb_language.proofs.Known.{well_narrow}
use Rattle.pb_language.proofs.Spots.{path_le, path_up}
use Rattle.pb_language.proofs.KindsUp.{own_up, kinds_up, roots_up, others_up}
use Rattle.pb_language.proofs.NarrowUp.{narrow_up, resolved_same}
use Rattle.pb_language.proofs.TestsSame.{any_same, boolean_same, text_same, plain_same, has_length_same, plain_list_same, holds_same, compare_same, find_first, find_second, result_same, steps_same, hosts_at_same}

flags_same : (a b : Bool) → a || not b ≡ true → b || not a ≡ true → a ≡ b
flags_same true true x y = refl
flags_same true false x y = untrue y
flags_same false true x y = untrue x
flags_same false false x y = refl

certain_same : (s t : Spot) → PathLe s t → PathLe t s → is_certain s ≡ is_certain t
certain_same s t l m = flags_same (is_certain s) (is_certain t) l.1 m.1

-- what two scopes share
own_certain : (c d : Scope) (n : Name) → ScopeLe c d → ScopeLe d c → is_certain (own_spot c n) ≡ is_certain (own_spot d n)
own_certain c d n l m = certain_same (own_spot c n) (own_spot d n) (path_le (own_spot c n) (own_spot d n) (own_up c d n l)) (path_le (own_spot d n) (own_spot c n) (own_up d c n m))

term_moved : (c d : Scope) (t : Term) → ScopeLe c d → ScopeLe d c → term_fault c t ≡ term_fault (moved c d) t
term_moved c d (named_host n) l m = refl
term_moved c d this_host l m = refl
term_moved c d item_host l m = ap (asks perhaps_undefined) (own_certain c d (codes "item") l m)
term_moved c d (group_member g n) l m = refl

term_same : (c d : Scope) (t : Term) → ScopeLe c d → ScopeLe d c → term_fault c t ≡ term_fault d t
term_same c d t l m = term_moved c d t l m ∙ ap (λ z. term_fault z t) (sym l.same)

hosts_moved : (c d : Scope) (t : Term) → ScopeLe c d → ScopeLe d c → hosts_fault (hosts_of c t) ≡ hosts_fault (hosts_of (moved c d) t)
hosts_moved c d (named_host n) l m = refl
hosts_moved c d this_host l m = refl
hosts_moved c d item_host l m = hosts_at_same (own_spot c (codes "item")) (own_spot d (codes "item")) (own_up c d (codes "item") l) (own_up d c (codes "item") m)
hosts_moved c d (group_member g n) l m = refl

hosts_same : (c d : Scope) (t : Term) → ScopeLe c d → ScopeLe d c → hosts_fault (hosts_of c t) ≡ hosts_fault (hosts_of d t)
hosts_same c d t l m = hosts_moved c d t l m ∙ ap (λ z. hosts_fault (hosts_of z t)) (sym l.same)

active_same : (c d : Scope) (t : Term) → WellScope c → WellScope d → ScopeLe c d → ScopeLe d c → active_fault c t ≡ active_fault d t
active_same c d (named_host n) w v l m = refl
active_same c d this_host w v l m = refl
active_same c d item_host w v l m =
    let i = codes "item" in
    let s = own_spot c i in
    let t = own_spot d i in
    ap (λ q. asks wrong_kind (not q)) (holds_same (spot_kind s) (spot_kind t) (well_own c i w) (well_own d i v) ((path_le s t (own_up c d i l)).0, (path_le t s (own_up d c i m)).0))
active_same c d (group_member g n) w v l m = refl

present_same : (c d : Scope) (r : Root) (ns : List Name) → ScopeLe c d → is_present c r ns ≡ is_present d r ns
present_same c d r ns l = ap (λ q. is_present_path q ns c.present) (sym (resolved_same c d r)) ∙ ap (λ z. is_present z r ns) (sym l.same)

pub firsts : (a b c d : Option Fault) → a ≡ b → c ≡ d → first a c ≡ first b d
firsts a b c d x y = ap (λ z. first z c) x ∙ ap (λ z. first b z) y

-- where the flags and the parts of it are the same, so is the fault of a path
paths_same : (q r : Bool) (a b c i j k : Option Fault) → q ≡ r → a ≡ i → b ≡ j → c ≡ k → path_fault q a b c ≡ path_fault r i j k
paths_same q r a b c i j k x y z u = rw (x, y, z, u) refl

pub kinds_same : (e : Expression) (c d : Scope) → WellScope c → WellScope d → ScopeLe c d → ScopeLe d c → SameKind (kind_of c e) (kind_of d e)
kinds_same e c d w v l m = (kinds_up c d e w v l, kinds_up d c e v w m)

root_same : (r : Root) (c d : Scope) → WellScope c → WellScope d → ScopeLe c d → ScopeLe d c → SameKind (spot_kind (root_spot c r)) (spot_kind (root_spot d r))
root_same r c d w v l m = ((roots_up c d r w v l).0, (roots_up d c r v w m).0)

ends_same : (r : Root) (ns : List Name) (c d : Scope) → WellScope c → WellScope d → ScopeLe c d → ScopeLe d c → SameKind (spot_kind (path_spot ns (root_spot c r))) (spot_kind (path_spot ns (root_spot d r)))
ends_same r ns c d w v l m = (
  (path_up ns (root_spot c r) (root_spot d r) (well_root c w r) (well_root d v r) (roots_up c d r w v l)).0,
  (path_up ns (root_spot d r) (root_spot c r) (well_root d v r) (well_root c w r) (roots_up d c r v w m)).0,
)

pub not_any : (e : Expression) (c d : Scope) → WellScope c → WellScope d → ScopeLe c d → ScopeLe d c → asks wrong_kind (not (is_any (kind_of c e))) ≡ asks wrong_kind (not (is_any (kind_of d e)))
not_any e c d w v l m = ap (λ q. asks wrong_kind (not q)) (any_same (kind_of c e) (kind_of d e) (kinds_same e c d w v l m))

path_same : (r : Root) (ns : List Name) (c d : Scope) → WellScope c → WellScope d → ScopeLe c d → ScopeLe d c → tested_fault c r ≡ tested_fault d r → read_fault c r ≡ read_fault d r → fault c (path r ns) ≡ fault d (path r ns)
path_same r ns c d w v l m x y =
    paths_same (is_present c r ns) (is_present d r ns) (tested_fault c r) (read_fault c r) (steps_fault ns (spot_kind (root_spot c r))) (tested_fault d r) (read_fault d r) (steps_fault ns (spot_kind (root_spot d r)))
    (present_same c d r ns l) x y (steps_same ns (spot_kind (root_spot c r)) (spot_kind (root_spot d r)) (well_root c w r) (well_root d v r) (root_same r c d w v l m))

mutual
  pub faults_same : (e : Expression) (c d : Scope) → WellScope c → WellScope d → ScopeLe c d → ScopeLe d c → fault c e ≡ fault d e
  faults_same (literal x) c d w v l m = refl
  faults_same (path r ns) c d w v l m = path_same r ns c d w v l m (tested_same r c d w v l m) (read_same r c d w v l m)
  faults_same (hostvars_alone o) c d w v l m = refl
  faults_same (negation e) c d w v l m = firsts (fault c e) (fault d e) _ _ (faults_same e c d w v l m) (ap (asks wrong_kind) (boolean_same (kind_of c e) (kind_of d e) (kinds_same e c d w v l m)))
  faults_same (conjunction es) c d w v l m = firsts (chain_fault c es true) (chain_fault d es true) _ _ (chain_same es c d true w v l m) (ap (asks wrong_kind) (booleans_same es c d true w v l m))
  faults_same (disjunction es) c d w v l m = firsts (chain_fault c es false) (chain_fault d es false) _ _ (chain_same es c d false w v l m) (ap (asks wrong_kind) (booleans_same es c d false w v l m))
  faults_same (comparison x a b) c d w v l m =
      firsts (fault c a) (fault d a) _ _ (faults_same a c d w v l m) (firsts (fault c b) (fault d b) _ _ (faults_same b c d w v l m)
      (ap (asks wrong_kind) (compare_same x (kind_of c a) (kind_of c b) (kind_of d a) (kind_of d b) (kinds_are_well c a w) (kinds_are_well c b w) (kinds_are_well d a v) (kinds_are_well d b v) (kinds_same a c d w v l m) (kinds_same b c d w v l m))))
  faults_same (membership a b) c d w v l m =
      firsts (fault c a) (fault d a) _ _ (faults_same a c d w v l m) (firsts (fault c b) (fault d b) _ _ (faults_same b c d w v l m)
      (ap (asks wrong_kind) (find_first (kind_of c b) (kind_of c a) (kind_of d a) (kinds_are_well c a w) (kinds_are_well d a v) (kinds_same a c d w v l m)
      ∙ find_second (kind_of d a) (kind_of c b) (kind_of d b) (kinds_are_well c b w) (kinds_are_well d b v) (kinds_same b c d w v l m))))
  faults_same (in_batch t) c d w v l m = firsts (term_fault c t) (term_fault d t) _ _ (term_same c d t l m) (active_same c d t w v l m)
  faults_same (defined r ns) c d w v l m = tested_same r c d w v l m
  faults_same (undefinable e) c d w v l m = firsts (fault c e) (fault d e) _ _ (faults_same e c d w v l m) refl
  faults_same (path_status s r ns) c d w v l m =
      firsts (fault c (path r ns)) (fault d (path r ns)) _ _ (path_same r ns c d w v l m (tested_same r c d w v l m) (read_same r c d w v l m))
      (ap (asks wrong_kind) (result_same (spot_kind (path_spot ns (root_spot c r))) (spot_kind (path_spot ns (root_spot d r))) (well_path ns (root_spot c r) (well_root c w r)) (well_path ns (root_spot d r) (well_root d v r)) (ends_same r ns c d w v l m)))
  faults_same (value_status s e) c d w v l m =
      firsts (fault c e) (fault d e) _ _ (faults_same e c d w v l m) (ap (asks wrong_kind) (result_same (kind_of c e) (kind_of d e) (kinds_are_well c e w) (kinds_are_well d e v) (kinds_same e c d w v l m)))
  faults_same (path_or r ns e) c d w v l m = firsts (tested_fault c r) (tested_fault d r) _ _ (tested_same r c d w v l m) (firsts (fault c e) (fault d e) _ _ (faults_same e c d w v l m) (not_any e c d w v l m))
  faults_same (value_or a e) c d w v l m =
      firsts (fault c a) (fault d a) _ _ (faults_same a c d w v l m) (firsts (fault c e) (fault d e) _ _ (faults_same e c d w v l m)
      (ap (λ q. asks wrong_kind (not (q || is_any (kind_of c e)))) (any_same (kind_of c a) (kind_of d a) (kinds_same a c d w v l m))
      ∙ ap (λ q. asks wrong_kind (not (is_any (kind_of d a) || q))) (any_same (kind_of c e) (kind_of d e) (kinds_same e c d w v l m))))
  faults_same (length_of e) c d w v l m = firsts (fault c e) (fault d e) _ _ (faults_same e c d w v l m) (ap (asks wrong_kind) (has_length_same (kind_of c e) (kind_of d e) (kinds_same e c d w v l m)))
  faults_same (joined_by e s) c d w v l m =
      firsts (fault c e) (fault d e) _ _ (faults_same e c d w v l m) (firsts (fault c s) (fault d s) _ _ (faults_same s c d w v l m)
      (ap (λ q. asks wrong_kind (q && is_text (kind_of c s))) (plain_list_same (kind_of c e) (kind_of d e) (kinds_same e c d w v l m))
      ∙ ap (λ q. asks wrong_kind (is_plain_list (kind_of d e) && q)) (text_same (kind_of c s) (kind_of d s) (kinds_same s c d w v l m))))
  faults_same (concatenation es) c d w v l m = firsts (parts_fault c es) (parts_fault d es) _ _ (parts_same es c d w v l m) (ap (asks wrong_kind) (plains_same es c d w v l m))
  faults_same (list_of es) c d w v l m = items_same es c d w v l m
  faults_same (record_of ps) c d w v l m = fields_same ps c d w v l m

  read_same : (r : Root) (c d : Scope) → WellScope c → WellScope d → ScopeLe c d → ScopeLe d c → read_fault c r ≡ read_fault d r
  read_same (variable n) c d w v l m = ap (asks perhaps_undefined) (own_certain c d n l m)
  read_same (alias n e) c d w v l m = firsts (fault c e) (fault d e) _ _ (faults_same e c d w v l m) (not_any e c d w v l m)
  read_same (other t x) c d w v l m =
      firsts (term_fault c t) (term_fault d t) _ _ (term_same c d t l m) (firsts (hosts_fault (hosts_of c t)) (hosts_fault (hosts_of d t)) _ _ (hosts_same c d t l m)
      (ap (asks perhaps_undefined_there) (certain_same (other_spot c t x) (other_spot d t x) (others_up c d t x w v l) (others_up d c t x v w m))))
  read_same (member g n) c d w v l m = ap (λ z. asks unknown_name (is_some (member_of g n z.groups))) (sym l.same)

  tested_same : (r : Root) (c d : Scope) → WellScope c → WellScope d → ScopeLe c d → ScopeLe d c → tested_fault c r ≡ tested_fault d r
  tested_same (variable n) c d w v l m = refl
  tested_same (alias n e) c d w v l m = firsts (fault c e) (fault d e) _ _ (faults_same e c d w v l m) (not_any e c d w v l m)
  tested_same (other t x) c d w v l m = hosts_same c d t l m
  tested_same (member g n) c d w v l m = refl

  chain_same : (es : Expressions) (c d : Scope) (b : Bool) → WellScope c → WellScope d → ScopeLe c d → ScopeLe d c → chain_fault c es b ≡ chain_fault d es b
  chain_same no_expressions c d b w v l m = refl
  chain_same (expression e es) c d b w v l m =
      firsts (fault c e) (fault d e) _ _ (faults_same e c d w v l m)
      (chain_same es (narrow c e b) (narrow d e b) b (well_narrow e c b w) (well_narrow e d b v) (narrow_up e c d b w v l) (narrow_up e d c b v w m))

  booleans_same : (es : Expressions) (c d : Scope) (b : Bool) → WellScope c → WellScope d → ScopeLe c d → ScopeLe d c → are_booleans c es b ≡ are_booleans d es b
  booleans_same no_expressions c d b w v l m = refl
  booleans_same (expression e es) c d b w v l m =
      ap (λ q. q && are_booleans (narrow c e b) es b) (boolean_same (kind_of c e) (kind_of d e) (kinds_same e c d w v l m))
      ∙ ap (λ q. is_boolean (kind_of d e) && q) (booleans_same es (narrow c e b) (narrow d e b) b (well_narrow e c b w) (well_narrow e d b v) (narrow_up e c d b w v l) (narrow_up e d c b v w m))

  parts_same : (es : Expressions) (c d : Scope) → WellScope c → WellScope d → ScopeLe c d → ScopeLe d c → parts_fault c es ≡ parts_fault d es
  parts_same no_expressions c d w v l m = refl
  parts_same (expression e es) c d w v l m = firsts (fault c e) (fault d e) _ _ (faults_same e c d w v l m) (parts_same es c d w v l m)

  plains_same : (es : Expressions) (c d : Scope) → WellScope c → WellScope d → ScopeLe c d → ScopeLe d c → are_plain c es ≡ are_plain d es
  plains_same no_expressions c d w v l m = refl
  plains_same (expression e es) c d w v l m =
      ap (λ q. q && are_plain c es) (plain_same (kind_of c e) (kind_of d e) (kinds_same e c d w v l m)) ∙ ap (λ q. is_plain_kind (kind_of d e) && q) (plains_same es c d w v l m)

  items_same : (es : Expressions) (c d : Scope) → WellScope c → WellScope d → ScopeLe c d → ScopeLe d c → items_fault c es ≡ items_fault d es
  items_same no_expressions c d w v l m = refl
  items_same (expression e es) c d w v l m =
      firsts (first (fault c e) _) (first (fault d e) _) _ _ (firsts (fault c e) (fault d e) _ _ (faults_same e c d w v l m) (not_any e c d w v l m)) (items_same es c d w v l m)

  pub fields_same : (ps : Parts) (c d : Scope) → WellScope c → WellScope d → ScopeLe c d → ScopeLe d c → fields_fault c ps ≡ fields_fault d ps
  fields_same no_parts c d w v l m = refl
  fields_same (part n e ps) c d w v l m =
      firsts (first (fault c e) _) (first (fault d e) _) _ _ (firsts (fault c e) (fault d e) _ _ (faults_same e c d w v l m) (not_any e c d w v l m)) (fields_same ps c d w v l m)
