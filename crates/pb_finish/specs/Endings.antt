-- What a task comes to, beside the definitions' functions of its answers.
use Rattle.std.specs.Prelude.{◌≡◌, ℕ, List, map, Bool, true, false, not, ◌&&◌, cond, Option}
use Rattle.std.specs.Prelude.{Some, None, option_map, string_bytes}
use Rattle.pb_semantics.specs.Data.{Data, Fields, boolean, put_all, text, rec}
use Rattle.pb_language.specs.Evaluation.{Outcome as Evaluated, value}
use Rattle.pb_language.specs.Expression.{Name, Expression}
use Rattle.pb_language.specs.Give as language
use Rattle.pb_language.specs.Give.{admitted, breached, unreached, Results, results_are, end_all}
use Rattle.pb_language.specs.Give.{with_ended, any_changed, any_failed, all_skipped, asks_again}
use Rattle.pb_language.specs.Give.{last_attempts, message_of, register_field, registered_fields}
use Rattle.pb_language.specs.Give.{with_all_sets, written_variables}
use Rattle.pb_language.specs.Start as started
use Rattle.pb_language.specs.Task.{Action, Task}
use Rattle.pb_language.specs.World.{World}
use Rattle.pb_kind.specs.KindView.{shape_view}
use Rattle.pb_value.specs.View.{fields_view}
use Rattle.pb_start.specs.Blocks.{block_fields}
use Rattle.pb_finish.specs.Breaches.{IsFirstBreach}
use Rattle.pb_finish.specs.Results.{assignments_view}
use Rattle.pb_finish.specs.declared.answer.Answer.{Answer}
use Rattle.pb_finish.specs.declared.ending.Ending.{Ending}
use Rattle.pb_finish.specs.declared.ending.Ending.TheVariants as endings
use Rattle.pb_finish.specs.declared.outcome.Outcome.{Outcome}
use Rattle.pb_finish.specs.declared.statuses.FinalResult.{FinalResult}

abbrev pub final_view : FinalResult → language.Ended
final_view r = record {
  shape = shape_view r.shape;
  fields = block_fields r.fields;
  sets = assignments_view r.assigns;
  changed = r.changed;
  failed = r.failed;
  holds = r.holds;
}

-- where the outcome is a truth value, it is this
abbrev pub IsFlag : Bool → Evaluated → Type 0
IsFlag b o = (x : Bool) → o ≡ value (boolean x) → b ≡ x

-- where there are results, this one stands before the others
abbrev pub IsEnded : FinalResult → (Results → Results) → Type 0
IsEnded r f = (rs : Results) (xs : List language.Ended) → f rs ≡ results_are xs
    → with_ended (final_view r) rs ≡ results_are xs

-- where there are results, they are these
abbrev pub AreEnded : List FinalResult → Results → Type 0
AreEnded rs r = (xs : List language.Ended) → r ≡ results_are xs → map final_view rs ≡ xs

abbrev pub fails : Task → List language.Ended → Bool
fails t es = any_failed es && not t.ignores

abbrev pub failure_in : Task → List language.Ended → Option (List ℕ)
failure_in t es = cond (fails t es) (Some (message_of t.loop es)) None

-- the text, where it is one
abbrev pub text_in : Option Data → Option (List ℕ)
text_in (Some (text s)) = Some s
text_in o = None

-- what is written of these results where the task fails, and where it doesn't
abbrev pub written : Option Name → Option Expression → Bool → List language.Ended → Fields → Fields
written r l b es vars = cond b (register_field r (rec (registered_fields l es)) vars)
    (with_all_sets es (register_field r (rec (registered_fields l es)) vars))

-- the task ended with these results
pub record IsOutcome (o : Outcome) (t : Task) (es : List language.Ended) : Type 0 where
  pub changed : o.changed ≡ any_changed es
  pub failed : o.failed ≡ any_failed es
  pub skipped : o.skipped ≡ all_skipped es
  pub writes : (vars : Fields)
      → put_all (fields_view o.writes.items) vars ≡ written_variables t es vars
  pub failure : option_map (λ s. string_bytes s.value) o.failure ≡ failure_in t es

abbrev pub HasEnded : Ending → Task → List language.Ended → Type 0
HasEnded (endings.Ended o) t es = IsOutcome o t es
HasEnded e t es = ⊥

-- the same calls are made again, or the task ended
abbrev pub CameTo : Bool → Ending → Task → List language.Ended → Type 0
CameTo true e t es = e ≡ endings.Again
CameTo false e t es = HasEnded e t es

-- what these results come to after so many attempts
abbrev pub ComesTo : Ending → Task → ℕ → List language.Ended → Type 0
ComesTo e t n es = CameTo (asks_again t n es) e t (last_attempts es)

abbrev pub IsBreach : Ending → Type 0
IsBreach (endings.Breached b) = Unit {0}
IsBreach e = ⊥

-- what is admitted comes to this, where there are results
abbrev pub EndsAs : Ending → World → Task → ℕ → language.Admitted → Type 0
EndsAs e w t n (admitted os) =
    (es : List language.Ended) → end_all w t os ≡ results_are es → ComesTo e t n es
EndsAs e w t n breached = IsBreach e
EndsAs e w t n unreached = e ≡ endings.Unreached

-- a breach is the first
abbrev pub TellsBreach : Ending → Action → List started.Pass → List Answer → Type 0
TellsBreach (endings.Breached b) a ps xs = IsFirstBreach a ps xs b
TellsBreach e a ps xs = Unit {0}
