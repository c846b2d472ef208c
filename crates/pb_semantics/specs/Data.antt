-- The values of variables.
use Rattle.std.specs.Prelude.{ℕ, ℤ, suc, List, Bool, true, false, cond, Option, Some, None}
use Rattle.std.specs.Str.{bytes_eq}
use Rattle.std.specs.Ordering.{nat_cmp, match_ordering}
use Rattle.std.specs.Cmp.Lexicographic.{slice_cmp}

mutual
  pub data Data : Type 0 where
    null : Data
    boolean : Bool → Data
    int : ℤ → Data
    text : List ℕ → Data
    list : Items → Data
    rec : Fields → Data
    -- what may stand and may not be read
    opaque : Data

  pub data Items : Type 0 where
    no_items : Items
    item : Data → Items → Items

  -- the fields of a record, or the variables of a host, each with its name
  pub data Fields : Type 0 where
    no_fields : Fields
    field : List ℕ → Data → Fields → Fields

-- the value of a field, or of a variable
abbrev pub field_value : List ℕ → Fields → Option Data
field_value n no_fields = None
field_value n (field m d fs) = cond (bytes_eq n m) (Some d) (field_value n fs)

-- the record with that field, at its place in the order of the names' bytes
abbrev pub put_field : List ℕ → Data → Fields → Fields
put_field n d no_fields = field n d no_fields
put_field n d (field m e fs) = match_ordering (slice_cmp nat_cmp n m) (field n d (field m e fs))
    (field m d fs) (field m e (put_field n d fs))

-- the fields are put one after the other
abbrev pub put_all : Fields → Fields → Fields
put_all no_fields vars = vars
put_all (field n d fs) vars = put_all fs (put_field n d vars)

abbrev pub count_of : Items → ℕ
count_of no_items = 0
count_of (item d ds) = suc (count_of ds)

abbrev pub bool_eq : Bool → Bool → Bool
bool_eq true b = b
bool_eq false true = false
bool_eq false false = true
