-- Whether two trees are the same.
use Rattle.std.specs.Prelude.{List, [], ◌∷◌, Bool, true, false, ◌&&◌, nat_eq, Option, Some, None}
use Rattle.std.specs.Str.{bytes_eq}
use Rattle.pb_semantics.specs.Data.{Data, Items, Fields, list, rec, opaque, no_items, item}
use Rattle.pb_semantics.specs.Data.{no_fields, field}
use Rattle.pb_semantics.specs.Equal.{data_eq}
use Rattle.pb_language.specs.Expression.{Name, Comparison, equal, less, at_most, more, at_least}
use Rattle.pb_language.specs.Expression.{Status, is_failed, is_changed, is_skipped, Term}
use Rattle.pb_language.specs.Expression.{named_host, this_host, item_host, group_member, Expression}
use Rattle.pb_language.specs.Expression.{literal, path, hostvars_alone, negation, conjunction}
use Rattle.pb_language.specs.Expression.{disjunction, comparison, membership, in_batch, defined}
use Rattle.pb_language.specs.Expression.{undefinable, path_status, value_status, path_or, value_or}
use Rattle.pb_language.specs.Expression.{length_of, joined_by, concatenation, list_of, record_of}
use Rattle.pb_language.specs.Expression.{Root, variable, alias, other, member, Expressions}
use Rattle.pb_language.specs.Expression.{no_expressions, expression, Parts, no_parts, part}

-- what may not be read stands for itself
abbrev mutual
  pub same_data : Data → Data → Bool
  same_data opaque opaque = true
  same_data (list ds) (list es) = same_items ds es
  same_data (rec fs) (rec gs) = same_fields fs gs
  same_data d e = data_eq d e

  pub same_items : Items → Items → Bool
  same_items no_items no_items = true
  same_items (item d ds) (item e es) = same_data d e && same_items ds es
  same_items ds es = false

  pub same_fields : Fields → Fields → Bool
  same_fields no_fields no_fields = true
  same_fields (field n d fs) (field m e gs) = bytes_eq n m && (same_data d e && same_fields fs gs)
  same_fields fs gs = false

abbrev pub same_names : List Name → List Name → Bool
same_names [] [] = true
same_names (n ∷ ns) (m ∷ ms) = bytes_eq n m && same_names ns ms
same_names ns ms = false

abbrev pub same_comparison : Comparison → Comparison → Bool
same_comparison equal equal = true
same_comparison less less = true
same_comparison at_most at_most = true
same_comparison more more = true
same_comparison at_least at_least = true
same_comparison c d = false

abbrev pub same_status : Status → Status → Bool
same_status is_failed is_failed = true
same_status is_changed is_changed = true
same_status is_skipped is_skipped = true
same_status s t = false

abbrev pub same_term : Term → Term → Bool
same_term (named_host n) (named_host m) = bytes_eq n m
same_term this_host this_host = true
same_term item_host item_host = true
same_term (group_member g n) (group_member h m) = bytes_eq g h && nat_eq n m
same_term t u = false

abbrev pub same_option : Option Term → Option Term → Bool
same_option None None = true
same_option (Some t) (Some u) = same_term t u
same_option o p = false

abbrev mutual
  pub same_expression : Expression → Expression → Bool
  same_expression (literal d) (literal e) = same_data d e
  same_expression (path r ns) (path q ms) = same_root r q && same_names ns ms
  same_expression (hostvars_alone o) (hostvars_alone p) = same_option o p
  same_expression (negation e) (negation f) = same_expression e f
  same_expression (conjunction es) (conjunction fs) = same_expressions es fs
  same_expression (disjunction es) (disjunction fs) = same_expressions es fs
  same_expression (comparison c a b) (comparison d e f) =
      same_comparison c d && (same_expression a e && same_expression b f)
  same_expression (membership a b) (membership e f) = same_expression a e && same_expression b f
  same_expression (in_batch t) (in_batch u) = same_term t u
  same_expression (defined r ns) (defined q ms) = same_root r q && same_names ns ms
  same_expression (undefinable e) (undefinable f) = same_expression e f
  same_expression (path_status s r ns) (path_status t q ms) =
      same_status s t && (same_root r q && same_names ns ms)
  same_expression (value_status s e) (value_status t f) = same_status s t && same_expression e f
  same_expression (path_or r ns e) (path_or q ms f) =
      same_root r q && (same_names ns ms && same_expression e f)
  same_expression (value_or a b) (value_or e f) = same_expression a e && same_expression b f
  same_expression (length_of e) (length_of f) = same_expression e f
  same_expression (joined_by a b) (joined_by e f) = same_expression a e && same_expression b f
  same_expression (concatenation es) (concatenation fs) = same_expressions es fs
  same_expression (list_of es) (list_of fs) = same_expressions es fs
  same_expression (record_of ps) (record_of qs) = same_parts ps qs
  same_expression e f = false

  pub same_root : Root → Root → Bool
  same_root (variable n) (variable m) = bytes_eq n m
  same_root (alias n e) (alias m f) = bytes_eq n m && same_expression e f
  same_root (other t x) (other u y) = same_term t u && bytes_eq x y
  same_root (member g n) (member h m) = bytes_eq g h && nat_eq n m
  same_root r q = false

  pub same_expressions : Expressions → Expressions → Bool
  same_expressions no_expressions no_expressions = true
  same_expressions (expression e es) (expression f fs) =
      same_expression e f && same_expressions es fs
  same_expressions es fs = false

  pub same_parts : Parts → Parts → Bool
  same_parts no_parts no_parts = true
  same_parts (part n e ps) (part m f qs) = bytes_eq n m && (same_expression e f && same_parts ps qs)
  same_parts ps qs = false
