-- The trees of expressions and templates (Ansible's pages on templating, tests and filters).
use Rattle.std.specs.Prelude.{ℕ, List, Option}
use Rattle.pb_semantics.specs.Data.{Data}

abbrev pub Name : Type 0
Name = List ℕ

-- how two values are compared
pub data Comparison : Type 0 where
  equal : Comparison
  less : Comparison
  at_most : Comparison
  more : Comparison
  at_least : Comparison

-- what a test asks of a result
pub data Status : Type 0 where
  is_failed : Status
  is_changed : Status
  is_skipped : Status

-- what names a host: its name, the host itself, the item of a loop, a place of a group
pub data Term : Type 0 where
  named_host : Name → Term
  this_host : Term
  item_host : Term
  group_member : Name → ℕ → Term

mutual
  pub data Expression : Type 0 where
    literal : Data → Expression
    -- where a value stands, and the fields that are read below it
    path : Root → List Name → Expression
    -- `hostvars` without a variable, which is no value; with the host that it names
    hostvars_alone : Option Term → Expression
    negation : Expression → Expression
    conjunction : Expressions → Expression
    disjunction : Expressions → Expression
    comparison : Comparison → Expression → Expression → Expression
    membership : Expression → Expression → Expression
    -- the host is active in the batch
    in_batch : Term → Expression
    -- `is defined`, of a path and of what is no path
    defined : Root → List Name → Expression
    undefinable : Expression → Expression
    -- `is failed` and the like, of a path and of what is no path
    path_status : Status → Root → List Name → Expression
    value_status : Status → Expression → Expression
    -- `default`, of a path and of what is no path
    path_or : Root → List Name → Expression → Expression
    value_or : Expression → Expression → Expression
    length_of : Expression → Expression
    joined_by : Expression → Expression → Expression
    concatenation : Expressions → Expression
    list_of : Expressions → Expression
    record_of : Parts → Expression

  -- a variable of the host, a value of `vars` with its tree, a variable of another host, the name
  -- of a host of a group
  pub data Root : Type 0 where
    variable : Name → Root
    alias : Name → Expression → Root
    other : Term → Name → Root
    member : Name → ℕ → Root

  pub data Expressions : Type 0 where
    no_expressions : Expressions
    expression : Expression → Expressions → Expressions

  pub data Parts : Type 0 where
    no_parts : Parts
    part : Name → Expression → Parts → Parts
