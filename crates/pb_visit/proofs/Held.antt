-- Conditions of the blocks round a task, block after block.
use denote.Ref.{Bor}
use Rattle.std.proofs.Common.{◌≡◌, ◌∙◌, ℕ, ◌+◌, ◌<◌, List, [], ◌∷◌, ◌++◌, Option, option_map, true, get_or, length, map, take, sym, ap, ap₂, add-one}
use Rattle.std.proofs.Math.Seq.{take-suc}
use Rattle.std.proofs.lemmas.List.{map-append}
use Rattle.pb_language.specs.Expansion.{all_expanded}
use Rattle.pb_language.specs.Expression.{Expressions, no_expressions}
use Rattle.pb_language.specs.Fit.{Fault, first}
use Rattle.pb_language.specs.Judgement.{conditions_fault}
use Rattle.pb_language.specs.Narrow.{narrow_each}
use Rattle.pb_language.specs.Plays.{append_expressions}
use Rattle.pb_language.specs.Scope.{Scope}
use Rattle.pb_syntax.specs.ExprView.{exprs_view}
use Rattle.pb_taught.specs.Before.{Before}
use Rattle.pb_forms.specs.FitView.{fault_view}
use Rattle.pb_taught.specs.TaughtView.{scope_view, untaught}
use Rattle.pb_fit.specs.declared.held.Held.{Held}
use Rattle.pb_fit.proofs.InTurn.{conditions-append, expanded-append, narrow_each-append}
use Rattle.pb_flow.specs.Nodes.{conditions_after}
use Rattle.pb_flow.proofs.Arounds.{conditions-push}
use Rattle.pb_play.specs.declared.play.BlockHead.{BlockHead}

-- what is found of those conditions
pub record IsHeld (b : Before) (es : Expressions) (h : Held) : Type 0 where
  pub fault : option_map fault_view h.unfit ≡ conditions_fault (untaught b.scope) (all_expanded b.trees es)
  pub taught : scope_view b h.taught ≡ narrow_each (untaught b.scope) (all_expanded b.trees es) true

-- and of more behind them
module _ (b : Before) (es fs gs : Expressions) (h : Held) (i : IsHeld b es h) (same : gs ≡ fs) where
  pub fault_more : (u : Option Fault) → u ≡ first (option_map fault_view h.unfit) (conditions_fault (scope_view b h.taught) (all_expanded b.trees gs))
      → u ≡ conditions_fault (untaught b.scope) (all_expanded b.trees (append_expressions es fs))
  fault_more u e =
      let c = untaught b.scope in
      let xs = all_expanded b.trees es in
      let ys = all_expanded b.trees fs in
      e ∙ ap (λ zs. first (option_map fault_view h.unfit) (conditions_fault (scope_view b h.taught) (all_expanded b.trees zs))) same
      ∙ ap₂ first i.fault (ap (λ s. conditions_fault s ys) i.taught) ∙ sym (conditions-append c xs ys) ∙ ap (conditions_fault c) (sym (expanded-append b.trees es fs))

  pub taught_more : (t : Scope) → t ≡ narrow_each (scope_view b h.taught) (all_expanded b.trees gs) true
      → t ≡ narrow_each (untaught b.scope) (all_expanded b.trees (append_expressions es fs)) true
  taught_more t e =
      let c = untaught b.scope in
      let xs = all_expanded b.trees es in
      let ys = all_expanded b.trees fs in
      e ∙ ap (λ zs. narrow_each (scope_view b h.taught) (all_expanded b.trees zs) true) same
      ∙ ap (λ s. narrow_each s ys true) i.taught ∙ sym (narrow_each-append c xs ys true) ∙ ap (λ zs. narrow_each c zs true) (sym (expanded-append b.trees es fs))

abbrev pub conditions_round : List (Bor BlockHead) → Expressions
conditions_round bs = conditions_after no_expressions (map (λ b. b.now) bs)

pub round_next : (bs : List (Bor BlockHead)) (i : ℕ) (b : Bor BlockHead) → i < length bs → b ≡ get_or bs i b
    → conditions_round (take (i + 1) bs) ≡ append_expressions (conditions_round (take i bs)) (exprs_view b.now.when.items)
round_next bs i b lt is =
    let more : take (i + 1) bs ≡ take i bs ++ b ∷ [] = rw add-one (take-suc bs i b lt ∙ ap (λ x. take i bs ++ x ∷ []) (sym is)) in
    ap conditions_round more ∙ ap (conditions_after no_expressions) (map-append (λ (x : Bor BlockHead). x.now) (take i bs) (b ∷ []))
    ∙ conditions-push no_expressions (map (λ x. x.now) (take i bs)) b.now
