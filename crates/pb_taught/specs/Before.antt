-- What is known before any test.
use Rattle.pb_language.specs.Scope.{Scope}
use Rattle.pb_syntax.specs.Aliases.{Trees}

-- what is known of variables, of which no test has taught anything, and the whole tree of each name
-- of `vars`
pub record Before : Type 0 where
  pub scope : Scope
  pub trees : Trees
