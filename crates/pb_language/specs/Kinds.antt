-- The kind of an expression in a scope, fit or not (this project's own).
use Rattle.std.specs.Prelude.{ℕ, suc, List, [], ◌∷◌, Bool, true, false, Option, Some, None}
use Rattle.std.specs.Prelude.{unwrap_or}
use Rattle.pb_semantics.specs.Data.{Data, Items, Fields, null, boolean, int, text, list, rec}
use Rattle.pb_semantics.specs.Data.{opaque, no_items, item, no_fields, field, count_of}
use Rattle.pb_semantics.specs.Kind.{KindData, Slots, Spot, never, nulls, booleans, ints, texts}
use Rattle.pb_semantics.specs.Kind.{hosts, lists, recs, results, anything, no_slots, nowhere, spot}
use Rattle.pb_semantics.specs.Kind.{slot_at}
use Rattle.pb_semantics.specs.Join.{join}
use Rattle.pb_language.specs.Expression.{Name, Expression, literal, path, hostvars_alone, negation}
use Rattle.pb_language.specs.Expression.{conjunction, disjunction, comparison, membership, in_batch}
use Rattle.pb_language.specs.Expression.{defined, undefinable, path_status, value_status, path_or}
use Rattle.pb_language.specs.Expression.{value_or, length_of, joined_by, concatenation, list_of}
use Rattle.pb_language.specs.Expression.{record_of, Root, variable, alias, other, member}
use Rattle.pb_language.specs.Expression.{Expressions, no_expressions, expression, Parts, no_parts}
use Rattle.pb_language.specs.Expression.{part}
use Rattle.pb_language.specs.World.{member_of}
use Rattle.pb_language.specs.Scope.{Scope, learned_kind, is_present, spot_kind, sure, with_slot}
use Rattle.pb_language.specs.Scope.{below_spot, own_spot, other_spot}

-- the kind of a value that is known
abbrev mutual
  pub known_kind : Data → KindData
  known_kind null = nulls
  known_kind (boolean b) = booleans
  known_kind (int z) = ints
  known_kind (text s) = texts
  known_kind (list ds) = lists (known_items ds) (count_of ds)
  known_kind (rec fs) = recs (known_slots fs)
  known_kind opaque = anything

  pub known_items : Items → KindData
  known_items no_items = never
  known_items (item d ds) = join (known_kind d) (known_items ds)

  pub known_slots : Fields → Slots
  known_slots no_fields = no_slots
  known_slots (field n d fs) = with_slot n true (known_kind d) (known_slots fs)

-- what is known of a field of a record, or of what is known of all cases of a result
abbrev pub step_spot : Name → KindData → Spot
step_spot n never = spot true never
step_spot n (recs ss) = slot_at n ss
step_spot n (results cs never) = spot true never
step_spot n (results cs (recs ss)) = slot_at n ss
step_spot n anything = spot false anything
step_spot n k = nowhere

-- what is known of the value at the end of a path
abbrev pub path_spot : List Name → Spot → Spot
path_spot [] s = s
path_spot (n ∷ ns) nowhere = nowhere
path_spot (n ∷ ns) (spot a k) = path_spot ns (below_spot a (step_spot n k))

abbrev pub member_spot : Option Name → Spot
member_spot None = nowhere
member_spot (Some h) = spot true (hosts (h ∷ []))

-- what a test showed to be there is there
abbrev pub shown_spot : Bool → Spot → Spot
shown_spot true s = sure s
shown_spot false s = s

-- the kind of a value where it is certainly there, of its default where it never is, else of either
abbrev pub default_kind : Spot → KindData → KindData
default_kind nowhere m = m
default_kind (spot true k) m = k
default_kind (spot false k) m = join k m

abbrev pub count : Expressions → ℕ
count no_expressions = 0
count (expression e es) = suc (count es)

abbrev mutual
  pub kind_of : Scope → Expression → KindData
  kind_of c (literal d) = known_kind d
  kind_of c (path r ns) = spot_kind (path_spot ns (root_spot c r))
  kind_of c (hostvars_alone o) = never
  kind_of c (negation e) = booleans
  kind_of c (conjunction es) = booleans
  kind_of c (disjunction es) = booleans
  kind_of c (comparison x a b) = booleans
  kind_of c (membership a b) = booleans
  kind_of c (in_batch t) = booleans
  kind_of c (defined r ns) = booleans
  kind_of c (undefinable e) = booleans
  kind_of c (path_status s r ns) = booleans
  kind_of c (value_status s e) = booleans
  kind_of c (path_or r ns e) =
      default_kind (shown_spot (is_present c r ns) (path_spot ns (root_spot c r))) (kind_of c e)
  kind_of c (value_or a e) = kind_of c a
  kind_of c (length_of e) = ints
  kind_of c (joined_by e s) = texts
  kind_of c (concatenation es) = texts
  kind_of c (list_of es) = lists (items_kind c es) (count es)
  kind_of c (record_of ps) = recs (parts_slots c ps)

  -- what is known of the value at a root; one of `vars` is always there
  pub root_spot : Scope → Root → Spot
  root_spot c (variable n) = own_spot c n
  root_spot c (alias n e) = spot true (unwrap_or (learned_kind n e c.learned) (kind_of c e))
  root_spot c (other t x) = other_spot c t x
  root_spot c (member g n) = member_spot (member_of g n c.groups)

  pub items_kind : Scope → Expressions → KindData
  items_kind c no_expressions = never
  items_kind c (expression e es) = join (kind_of c e) (items_kind c es)

  pub parts_slots : Scope → Parts → Slots
  parts_slots c no_parts = no_slots
  parts_slots c (part n e ps) = with_slot n true (kind_of c e) (parts_slots c ps)
