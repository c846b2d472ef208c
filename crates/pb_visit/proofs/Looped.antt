-- What is found of a loop on the ground of a task.
use Rattle.std.proofs.Common.{Bor, ◌≡◌, ◌∙◌, Option, Some, None, option_map, is_some, refl, sym, ap}
use Rattle.pb_semantics.specs.Kind.{KindData}
use Rattle.pb_language.specs.Expansion.{expanded, trees}
use Rattle.pb_language.specs.Expression.{Expression}
use Rattle.pb_language.specs.Fit.{Fault}
use Rattle.pb_language.specs.Judgement.{loop_fault}
use Rattle.pb_language.specs.Kinds.{kind_of}
use Rattle.pb_language.specs.Plays.{expanded_option}
use Rattle.pb_language.specs.Scope.{Scope}
use Rattle.pb_language.specs.Setting.{Setting, loop_kind, start_scope}
use Rattle.pb_kind.specs.KindView.{kind_view}
use Rattle.pb_kind.specs.declared.kind.Kind.{Kind}
use Rattle.pb_syntax.specs.ExprView.{expr_view}
use Rattle.pb_syntax.specs.declared.expr.Expr.{Expr}
use Rattle.pb_vars.specs.InScope.{in_scope}
use Rattle.pb_visit.specs.Footing.{Footing, loop_on, visit_footing}
use Rattle.pb_visit.specs.Visits.{env_of, task_there}
use Rattle.pb_visit.specs.declared.visit.Visit.{Visit}

-- asked in the one scope or in the other
pub kind_there : (c d : Scope) (e : Expression) (k : KindData) → c ≡ d → k ≡ kind_of c e → k ≡ kind_of d e
kind_there c d e k h i = i ∙ ap (λ s. kind_of s e) h

pub fault_there : (c d : Scope) (e : Expression) (u : Option Fault) → c ≡ d → u ≡ loop_fault c (Some e) → u ≡ loop_fault d (Some e)
fault_there c d e u h i = i ∙ ap (λ s. loop_fault s (Some e)) h

module _ (st : Setting) (v : Visit) (f : Footing) (e : Expr) (same : f ≡ visit_footing st v) (is : v.station.now.task.now.loop_over ≡ Some e) where
  pub looped_kind : (k : KindData) → k ≡ kind_of (loop_on f) (expanded (trees f.vars) (expr_view e)) → Some k ≡ loop_kind (start_scope st (task_there v) (env_of v)) (task_there v).loop
  looped_kind k h =
      ap Some (h ∙ ap (λ x. kind_of (loop_on x) (expanded (trees x.vars) (expr_view e))) same)
      ∙ sym (ap (λ o. loop_kind (start_scope st (task_there v) (env_of v)) (expanded_option (trees (in_scope v.station.now.vars)) (option_map expr_view o))) is)

  pub looped_fault : (u : Option Fault) → u ≡ loop_fault (loop_on f) (Some (expanded (trees f.vars) (expr_view e))) → u ≡ loop_fault (start_scope st (task_there v) (env_of v)) (task_there v).loop
  looped_fault u h =
      h ∙ ap (λ x. loop_fault (loop_on x) (Some (expanded (trees x.vars) (expr_view e)))) same
      ∙ sym (ap (λ o. loop_fault (start_scope st (task_there v) (env_of v)) (expanded_option (trees (in_scope v.station.now.vars)) (option_map expr_view o))) is)

-- there is a kind where there is a loop
loop_kind-there : (c : Scope) (o : Option Expression) → is_some (loop_kind c o) ≡ is_some o
loop_kind-there c None = refl
loop_kind-there c (Some e) = refl

there_as : {A B : Type 0} (f : A → B) (o : Option A) → is_some o ≡ is_some (option_map f o)
there_as f None = refl
there_as f (Some x) = refl

pub over_there : (over : Option (Bor Kind)) (c : Scope) (o : Option Expression) → option_map (λ k. kind_view k.now) over ≡ loop_kind c o → is_some over ≡ is_some o
over_there over c o h = there_as (λ k. kind_view k.now) over ∙ ap is_some h ∙ loop_kind-there c o
