-- What the evaluation of conditions says.
use Rattle.std.specs.Prelude.{Bool, false, Option, Some, None}
use Rattle.pb_language.specs.Evaluation.{Outcome}
use Rattle.pb_value.specs.View.{truth}
use Rattle.pb_eval.specs.OwnWorld.{shown}

-- the truth value, where there is one
abbrev pub truth_of : Outcome → Option Bool
truth_of o = truth (shown o)

abbrev pub is_so : Option Bool → Bool
is_so None = false
is_so (Some b) = b
