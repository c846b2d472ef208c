-- What is known in a table, with the table's names.
use Rattle.std.specs.Prelude.{List}
use Rattle.pb_language.specs.Expression.{Name}
use Rattle.pb_language.specs.Judgement.{Exit}
use Rattle.pb_lattice.specs.Environments.{exit_of}
use Rattle.pb_lattice.specs.Shared.{Shared}
use Rattle.pb_lattice.specs.declared.environment.Environment.{Environment}

pub record Known : Type 0 where
  pub exit : Exit
  pub names : List Name

abbrev pub known_in : Shared → Environment → Known
known_in s e = record { exit = exit_of s e; names = s.names }
