-- Which expressions have a value in every world that the scope describes (this project's own).
use Rattle.std.specs.Prelude.{List, [], ◌∷◌, Bool, true, false, not, ◌&&◌, ◌||◌, Option, Some, None}
use Rattle.std.specs.Prelude.{is_some, codes}
use Rattle.pb_semantics.specs.Kind.{KindData, Spot, never, booleans, ints, texts, hosts, lists}
use Rattle.pb_semantics.specs.Kind.{recs, results, nowhere, spot, slot_at}
use Rattle.pb_semantics.specs.Fit.{holds_any}
pub use Rattle.pb_semantics.specs.Fit.{is_any, is_boolean}
use Rattle.pb_language.specs.Expression.{Name, Comparison, equal, less, at_most, more, at_least}
use Rattle.pb_language.specs.Expression.{Term, named_host, this_host, item_host, group_member}
use Rattle.pb_language.specs.Expression.{Expression, literal, path, hostvars_alone, negation}
use Rattle.pb_language.specs.Expression.{conjunction, disjunction, comparison, membership, in_batch}
use Rattle.pb_language.specs.Expression.{defined, undefinable, path_status, value_status, path_or}
use Rattle.pb_language.specs.Expression.{value_or, length_of, joined_by, concatenation, list_of}
use Rattle.pb_language.specs.Expression.{record_of, Root, variable, alias, other, member}
use Rattle.pb_language.specs.Expression.{Expressions, no_expressions, expression, Parts, no_parts}
use Rattle.pb_language.specs.Expression.{part}
use Rattle.pb_language.specs.World.{member_of}
use Rattle.pb_language.specs.Scope.{Scope, Hosts, these, any_host, no_hosts, nobody, is_present}
use Rattle.pb_language.specs.Scope.{spot_kind, is_certain, own_spot, hosts_of, other_spot}
use Rattle.pb_language.specs.Kinds.{kind_of, root_spot, path_spot}
use Rattle.pb_language.specs.Narrow.{narrow}

-- why an expression may have no value
pub data Fault : Type 0 where
  perhaps_undefined : Fault
  perhaps_undefined_there : Fault
  perhaps_missing : Fault
  wrong_kind : Fault
  unknown_name : Fault
  unknown_handler : Fault
  malformed : Fault

-- the first of two faults
abbrev pub first : Option Fault → Option Fault → Option Fault
first None g = g
first (Some f) g = Some f

abbrev pub asks : Fault → Bool → Option Fault
asks f true = None
asks f false = Some f

abbrev pub is_int : KindData → Bool
is_int never = true
is_int ints = true
is_int k = false

abbrev pub is_text : KindData → Bool
is_text never = true
is_text texts = true
is_text (hosts ns) = true
is_text k = false

-- a text, a whole number or a truth value
abbrev pub is_plain_kind : KindData → Bool
is_plain_kind booleans = true
is_plain_kind ints = true
is_plain_kind k = is_text k

abbrev pub has_length : KindData → Bool
has_length (lists k n) = true
has_length (recs ss) = true
has_length (results cs r) = true
has_length k = is_text k

abbrev pub is_plain_list : KindData → Bool
is_plain_list never = true
is_plain_list (lists k n) = is_plain_kind k
is_plain_list k = false

abbrev pub is_list : KindData → Bool
is_list never = true
is_list (lists k n) = true
is_list k = false

abbrev pub can_compare : Comparison → KindData → KindData → Bool
can_compare equal k m = not (holds_any k || holds_any m)
can_compare less k m = is_int k && is_int m
can_compare at_most k m = is_int k && is_int m
can_compare more k m = is_int k && is_int m
can_compare at_least k m = is_int k && is_int m

-- the kind that is looked for, and the one it is looked for in
abbrev pub can_find : KindData → KindData → Bool
can_find k never = not (is_any k)
can_find k (lists j n) = not (holds_any k || holds_any j)
can_find k texts = is_text k
can_find k (hosts ns) = is_text k
can_find k (recs ss) = is_text k
can_find k (results cs r) = is_text k
can_find k m = false

abbrev pub is_flag : Spot → Bool
is_flag (spot true k) = is_boolean k
is_flag s = false

abbrev pub may_be_flag : Spot → Bool
may_be_flag nowhere = true
may_be_flag (spot a k) = is_boolean k

abbrev pub is_status_record : KindData → Bool
is_status_record never = true
is_status_record (recs ss) = is_flag (slot_at (codes "changed") ss)
    && (is_flag (slot_at (codes "failed") ss) && may_be_flag (slot_at (codes "skipped") ss))
is_status_record k = false

-- a result, or a record that can be asked like one
abbrev pub is_result : KindData → Bool
is_result (results cs r) = is_status_record r
is_result k = is_status_record k

-- a field that is certainly there
abbrev pub field_fault : Spot → (KindData → Option Fault) → Option Fault
field_fault nowhere go = Some perhaps_missing
field_fault (spot true k) go = go k
field_fault (spot false k) go = Some perhaps_missing

abbrev pub steps_fault : List Name → KindData → Option Fault
steps_fault [] k = None
steps_fault (n ∷ ns) never = None
steps_fault (n ∷ ns) (recs ss) = field_fault (slot_at n ss) (steps_fault ns)
steps_fault (n ∷ ns) (results cs never) = None
steps_fault (n ∷ ns) (results cs (recs ss)) = field_fault (slot_at n ss) (steps_fault ns)
steps_fault (n ∷ ns) k = Some wrong_kind

-- what a term has to name: some host, where the item is one
abbrev pub hosts_fault : Hosts → Option Fault
hosts_fault (these gs) = None
hosts_fault any_host = Some wrong_kind
hosts_fault no_hosts = Some wrong_kind
hosts_fault nobody = None

abbrev pub term_fault : Scope → Term → Option Fault
term_fault c (named_host n) = None
term_fault c this_host = None
term_fault c item_host = asks perhaps_undefined (is_certain (own_spot c (codes "item")))
term_fault c (group_member g n) = asks unknown_name (is_some (member_of g n c.groups))

-- an item that is asked for may not be opaque
abbrev pub active_fault : Scope → Term → Option Fault
active_fault c (named_host n) = None
active_fault c this_host = None
active_fault c item_host =
    asks wrong_kind (not (holds_any (spot_kind (own_spot c (codes "item")))))
active_fault c (group_member g n) = None

-- nothing is asked of what a test showed to be there, but what is asked under the test
abbrev pub path_fault : Bool → Option Fault → Option Fault → Option Fault → Option Fault
path_fault true tested root steps = tested
path_fault false tested root steps = first root steps

abbrev mutual
  pub fault : Scope → Expression → Option Fault
  fault c (literal d) = None
  fault c (path r ns) = path_fault (is_present c r ns) (tested_fault c r) (read_fault c r)
      (steps_fault ns (spot_kind (root_spot c r)))
  fault c (hostvars_alone o) = Some wrong_kind
  fault c (negation e) = first (fault c e) (asks wrong_kind (is_boolean (kind_of c e)))
  fault c (conjunction es) =
      first (chain_fault c es true) (asks wrong_kind (are_booleans c es true))
  fault c (disjunction es) =
      first (chain_fault c es false) (asks wrong_kind (are_booleans c es false))
  fault c (comparison x a b) = first (fault c a)
      (first (fault c b) (asks wrong_kind (can_compare x (kind_of c a) (kind_of c b))))
  fault c (membership a b) =
      first (fault c a) (first (fault c b) (asks wrong_kind (can_find (kind_of c a) (kind_of c b))))
  fault c (in_batch t) = first (term_fault c t) (active_fault c t)
  fault c (defined r ns) = tested_fault c r
  fault c (undefinable e) = first (fault c e) (Some wrong_kind)
  fault c (path_status s r ns) = first
      (path_fault (is_present c r ns) (tested_fault c r) (read_fault c r)
      (steps_fault ns (spot_kind (root_spot c r))))
      (asks wrong_kind (is_result (spot_kind (path_spot ns (root_spot c r)))))
  fault c (value_status s e) = first (fault c e) (asks wrong_kind (is_result (kind_of c e)))
  fault c (path_or r ns e) =
      first (tested_fault c r) (first (fault c e) (asks wrong_kind (not (is_any (kind_of c e)))))
  fault c (value_or a e) = first (fault c a)
      (first (fault c e) (asks wrong_kind (not (is_any (kind_of c a) || is_any (kind_of c e)))))
  fault c (length_of e) = first (fault c e) (asks wrong_kind (has_length (kind_of c e)))
  fault c (joined_by e s) = first (fault c e)
      (first (fault c s) (asks wrong_kind (is_plain_list (kind_of c e) && is_text (kind_of c s))))
  fault c (concatenation es) = first (parts_fault c es) (asks wrong_kind (are_plain c es))
  fault c (list_of es) = items_fault c es
  fault c (record_of ps) = fields_fault c ps

  -- a value that is read
  pub read_fault : Scope → Root → Option Fault
  read_fault c (variable n) = asks perhaps_undefined (is_certain (own_spot c n))
  read_fault c (alias n e) = first (fault c e) (asks wrong_kind (not (is_any (kind_of c e))))
  read_fault c (other t x) = first (term_fault c t)
      (first (hosts_fault (hosts_of c t))
      (asks perhaps_undefined_there (is_certain (other_spot c t x))))
  read_fault c (member g n) = asks unknown_name (is_some (member_of g n c.groups))

  -- a value that is tested: a value of `vars` is asked for all the same
  pub tested_fault : Scope → Root → Option Fault
  tested_fault c (variable n) = None
  tested_fault c (alias n e) = first (fault c e) (asks wrong_kind (not (is_any (kind_of c e))))
  tested_fault c (other t x) = hosts_fault (hosts_of c t)
  tested_fault c (member g n) = None

  -- each operand where those before it had that answer
  pub chain_fault : Scope → Expressions → Bool → Option Fault
  chain_fault c no_expressions b = None
  chain_fault c (expression e es) b = first (fault c e) (chain_fault (narrow c e b) es b)

  pub are_booleans : Scope → Expressions → Bool → Bool
  are_booleans c no_expressions b = true
  are_booleans c (expression e es) b = is_boolean (kind_of c e) && are_booleans (narrow c e b) es b

  pub parts_fault : Scope → Expressions → Option Fault
  parts_fault c no_expressions = None
  parts_fault c (expression e es) = first (fault c e) (parts_fault c es)

  pub are_plain : Scope → Expressions → Bool
  are_plain c no_expressions = true
  are_plain c (expression e es) = is_plain_kind (kind_of c e) && are_plain c es

  pub items_fault : Scope → Expressions → Option Fault
  items_fault c no_expressions = None
  items_fault c (expression e es) =
      first (first (fault c e) (asks wrong_kind (not (is_any (kind_of c e))))) (items_fault c es)

  pub fields_fault : Scope → Parts → Option Fault
  fields_fault c no_parts = None
  fields_fault c (part n e ps) =
      first (first (fault c e) (asks wrong_kind (not (is_any (kind_of c e))))) (fields_fault c ps)
