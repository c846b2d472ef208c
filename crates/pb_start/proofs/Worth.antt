-- What the arguments of a call are worth.
use Rattle.std.proofs.Common.{◌≡◌, List, Bool, true, false, refl}
use Rattle.pb_semantics.specs.Data.{Data, opaque}
use Rattle.pb_semantics.specs.Keeps.{keeps}
use Rattle.pb_semantics.specs.Signature.{ParameterData}
use Rattle.pb_language.specs.Expression.{Name, Parts, no_parts, part}
use Rattle.pb_language.specs.World.{World}
use Rattle.pb_language.specs.Evaluation.{Outcome, value, stuck, then_go, put_part, eval, eval_parts}
use Rattle.pb_language.specs.Judgement.{parameter_kind}
use Rattle.pb_language.specs.Start.{kept_argument, eval_arguments}

put_worth : (n : Name) (x : Data) (o u : Outcome) (d : Data) → ((r : Data) → o ≡ value r → u ≡ value r) → put_part n x o ≡ value d → put_part n x u ≡ value d
put_worth n x (value r) u d f h = rw (f r refl) h
put_worth n opaque (stuck s) u d f h = cc
put_worth n x (stuck s) u d f h = cc

argument_worth : (o : Outcome) (q : Data → Bool) (n : Name) (a u : Outcome) (d : Data) → ((r : Data) → a ≡ value r → u ≡ value r) → then_go o (λ x. kept_argument (q x) n x a) ≡ value d → then_go o (λ x. put_part n x u) ≡ value d
argument_worth (stuck s) q n a u d f h = h
argument_worth (value x) q n a u d f h = kept (q x) h where
  kept : (b : Bool) → kept_argument b n x a ≡ value d → put_part n x u ≡ value d
  kept true h = put_worth n x a u d f h
  kept false h = cc

-- arguments that are of their parameters' kinds are what their expressions are worth
pub arguments_worth : (w : World) (qs : List ParameterData) (ps : Parts) (d : Data) → eval_arguments w qs ps ≡ value d → eval_parts w ps ≡ value d
arguments_worth w qs no_parts d h = h
arguments_worth w qs (part n e ps) d h = argument_worth (eval w e) (λ x. keeps x (parameter_kind n qs)) n (eval_arguments w qs ps) (eval_parts w ps) d (arguments_worth w qs ps) h
