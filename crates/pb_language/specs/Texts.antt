-- What the values in a book are: texts with templates, conditions, and values that hold texts
-- (Ansible's pages on templating and on conditionals; the limits are this project's own).
use Rattle.std.specs.Prelude.{ℕ, zero, suc, List, ◌∷◌, length, Bool, true, false, ◌&&◌, nat_lt}
use Rattle.std.specs.Prelude.{◌==◌, nat_le, cond, Option, Some, None, option_map}
use Rattle.pb_semantics.specs.Data.{Data, Items, Fields, boolean, text, list, rec, opaque}
use Rattle.pb_semantics.specs.Data.{no_items, item, no_fields, field}
use Rattle.pb_semantics.specs.Limits.{most_expression_bytes, most_levels, most_text_bytes}
use Rattle.pb_language.specs.Expression.{Name, Expression, literal, list_of, record_of}
use Rattle.pb_language.specs.Expression.{Expressions, no_expressions, expression, Parts, no_parts}
use Rattle.pb_language.specs.Expression.{part}
use Rattle.pb_language.specs.Grammar.{Cut, cut, ending_in, expression_of, opening_in, template_of}
use Rattle.pb_language.specs.Inventories.{has_opening}
use Rattle.pb_language.specs.Nesting.{are_fields_within, are_items_within, some_field_holds}
use Rattle.pb_language.specs.Nesting.{some_item_holds}

-- a number that is no whole number of 64 bits
abbrev pub is_opaque : Data → Bool
is_opaque opaque = true
is_opaque d = false

-- a text that may have a template
abbrev pub opens : Data → Bool
opens (text bs) = has_opening bs
opens d = false

abbrev pub with_item : Option Expression → Option Expressions → Option Expressions
with_item (Some e) (Some es) = Some (expression e es)
with_item e es = None

abbrev pub with_part : Name → Option Expression → Option Parts → Option Parts
with_part n (Some e) (Some ps) = Some (part n e ps)
with_part n e ps = None

abbrev mutual
  -- the expression that a value is: itself, where no text in it may have a template
  pub value_of : Data → Option Expression
  value_of (text bs) = template_of bs
  value_of (list ds) =
      cond (some_item_holds opens ds) (option_map list_of (values_of ds)) (Some (literal (list ds)))
  value_of (rec fs) =
      cond (some_field_holds opens fs) (option_map record_of (parts_of fs))
      (Some (literal (rec fs)))
  value_of d = Some (literal d)

  pub values_of : Items → Option Expressions
  values_of no_items = Some no_expressions
  values_of (item d ds) = with_item (value_of d) (values_of ds)

  pub parts_of : Fields → Option Parts
  parts_of no_fields = Some no_parts
  parts_of (field n d fs) = with_part n (value_of d) (parts_of fs)

-- a condition := truth value | text without braces that is an expression
abbrev pub condition_in : Data → Option Expression
condition_in (boolean b) = Some (literal (boolean b))
condition_in (text bs) = expression_of bs
condition_in d = None

abbrev pub each_condition : Items → Option Expressions
each_condition no_items = Some no_expressions
each_condition (item d ds) = with_item (condition_in d) (each_condition ds)

-- conditions := condition | [condition, ..]
abbrev pub conditions_in : Data → Option Expressions
conditions_in (list ds) = each_condition ds
conditions_in d = with_item (condition_in d) (Some no_expressions)

-- of the shape of a condition, whatever its text says
abbrev pub is_condition : Data → Bool
is_condition (boolean b) = true
is_condition (text bs) = true
is_condition d = false

abbrev pub are_conditions : Items → Bool
are_conditions no_items = true
are_conditions (item d ds) = is_condition d && are_conditions ds

abbrev pub has_conditions : Data → Bool
has_conditions (list ds) = are_conditions ds
has_conditions d = is_condition d

-- an expression that is one text isn't too long
abbrev pub is_short_condition : Data → Bool
is_short_condition (text bs) = nat_le (length bs) most_expression_bytes
is_short_condition d = true

abbrev pub are_short_conditions : Items → Bool
are_short_conditions no_items = true
are_short_conditions (item d ds) = is_short_condition d && are_short_conditions ds

abbrev pub has_short_conditions : Data → Bool
has_short_conditions (list ds) = are_short_conditions ds
has_short_conditions d = is_short_condition d

-- the expressions between the braces of a text aren't too long, for so many of them
abbrev pub short_braces : (List ℕ → Bool) → Option Cut → Bool
short_braces rest None = true
short_braces rest (Some (cut bs left)) = nat_le (length bs) most_expression_bytes && rest left

abbrev pub short_behind : (List ℕ → Bool) → Cut → Bool
short_behind rest (cut bs (b ∷ c ∷ left)) =
    cond (c == 123) (short_braces rest (ending_in None left)) true
short_behind rest (cut bs left) = true

abbrev pub has_short_templates : ℕ → List ℕ → Bool
has_short_templates zero bs = true
has_short_templates (suc n) bs = short_behind (has_short_templates n) (opening_in bs)

abbrev pub is_long_text : Data → Bool
is_long_text (text bs) = nat_lt most_text_bytes (length bs)
is_long_text d = false

-- no expression in a text is too long
abbrev pub is_text_within : List ℕ → Bool
is_text_within bs = has_short_templates (suc (length bs)) bs

abbrev pub has_short_braces : Data → Bool
has_short_braces (text bs) = is_text_within bs
has_short_braces d = true

-- each value by itself, as of arguments and of `vars`
abbrev pub are_values_within : Fields → Bool
are_values_within fs = are_fields_within has_short_braces most_levels fs

abbrev pub are_list_within : Items → Bool
are_list_within ds = are_items_within has_short_braces most_levels ds
