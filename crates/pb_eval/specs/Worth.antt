-- What the names of `vars` are worth in a world.
use Rattle.std.specs.Prelude.{◌≡◌, Option, option_map}
use Rattle.pb_semantics.specs.Data.{Data, Fields, field_value}
use Rattle.pb_language.specs.Expression.{Name, Expression}
use Rattle.pb_language.specs.World.{World}
use Rattle.pb_language.specs.Evaluation.{eval}
use Rattle.pb_syntax.specs.Aliases.{Trees}
use Rattle.pb_eval.specs.OwnWorld.{shown}

-- what the tree of a name of `vars` is worth, where there is one
abbrev pub worth_of : World → Option Expression → Option Data
worth_of w t = option_map (λ e. shown (eval w e)) t

-- under each name stands what its tree is worth
abbrev pub AreWorth : World → Trees → Fields → Type 0
AreWorth w f fs = (n : Name) → field_value n fs ≡ worth_of w (f n)
