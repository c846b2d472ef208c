-- What an expression is evaluated in (Ansible's pages on special variables and on facts and magic
-- variables).
use Rattle.std.specs.Prelude.{ℕ, zero, suc, List, [], ◌∷◌, cond, Option, Some, None}
use Rattle.std.specs.Str.{bytes_eq}
use Rattle.pb_semantics.specs.Data.{Fields, no_fields}
use Rattle.pb_language.specs.Expression.{Name}

pub record Group : Type 0 where
  pub name : Name
  pub hosts : List Name

-- a host's variables as `hostvars` shows them: the inventory's, and what was registered, set or
-- gathered
pub record HostVariables : Type 0 where
  pub name : Name
  pub variables : Fields

pub record World : Type 0 where
  -- the host's own names, those of the loop and of the failure among them
  pub mine : Fields
  pub this : Name
  pub hosts : List HostVariables
  -- the active hosts of the batch
  pub batch : List Name
  pub groups : List Group

abbrev pub variables_of : Name → List HostVariables → Fields
variables_of g [] = no_fields
variables_of g (x ∷ hosts) = cond (bytes_eq g x.name) x.variables (variables_of g hosts)

abbrev pub name_at : ℕ → List Name → Option Name
name_at n [] = None
name_at zero (h ∷ hs) = Some h
name_at (suc n) (h ∷ hs) = name_at n hs

-- the host at that place of the group of that name
abbrev pub member_of : Name → ℕ → List Group → Option Name
member_of g n [] = None
member_of g n (x ∷ groups) = cond (bytes_eq g x.name) (name_at n x.hosts) (member_of g n groups)
