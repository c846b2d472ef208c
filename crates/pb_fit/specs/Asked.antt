-- What an expression is asked for by its place in a task.
use Rattle.std.specs.Prelude.{List, not, ◌&&◌, Option}
use Rattle.pb_semantics.specs.Below.{below}
use Rattle.pb_semantics.specs.Signature.{ParameterData}
use Rattle.pb_language.specs.Expression.{Name, Expression}
use Rattle.pb_language.specs.Fit.{Fault, asks, fault, first, is_any, is_boolean, wrong_kind}
use Rattle.pb_language.specs.Judgement.{parameter_kind}
use Rattle.pb_language.specs.Kinds.{kind_of}
use Rattle.pb_language.specs.Scope.{Scope}

-- a condition is a truth value
abbrev pub condition_fault : Scope → Expression → Option Fault
condition_fault c e = first (fault c e) (asks wrong_kind (is_boolean (kind_of c e)))

-- a value that is shown or set isn't of every kind
abbrev pub value_fault : Scope → Expression → Option Fault
value_fault c e = first (fault c e) (asks wrong_kind (not (is_any (kind_of c e))))

-- the argument of that name keeps its parameter's kind
abbrev pub argument_fault : Scope → List ParameterData → Name → Expression → Option Fault
argument_fault c ps n e = first (fault c e)
    (asks wrong_kind (not (is_any (kind_of c e)) && below (kind_of c e) (parameter_kind n ps)))
