-- What environments share: the names, and the nodes of their trees.
use Rattle.std.specs.Prelude.{List}
use Rattle.pb_language.specs.Expression.{Name}
use Rattle.pb_lattice.specs.declared.tree.Node.{Node}

pub record Shared : Type 0 where
  pub names : List Name
  pub nodes : List Node
