-- What is so of each place that several expressions read.
use denote.Ref.{Bor}
use Rattle.std.proofs.Common.{◌≡◌, ◌∙◌, ℕ, ◌+◌, ◌<◌, List, [], ◌∷◌, Bool, true, false, ◌&&◌, Option, drop, get_or, length, map, refl, sym, ap, arith}
use Rattle.pb_language.specs.Expansion.{expanded}
use Rattle.pb_language.specs.Expression.{Name, Expression, Expressions, no_expressions, expression}
use Rattle.pb_language.specs.Plays.{append_expressions}
use Rattle.pb_play.specs.declared.play.BlockHead.{BlockHead}
use Rattle.pb_flow.specs.Nodes.{conditions_after}
use Rattle.pb_syntax.specs.ExprView.{exprs_view}
use Rattle.pb_syntax.specs.declared.expr.Expr.{Expr}
use Rattle.pb_syntax.proofs.Left.{drop-at}
use Rattle.pb_vars.specs.Reads.{Read, every_read, expanded_every_read}

and-assoc : (a b c : Bool) → (a && (b && c)) ≡ ((a && b) && c)
and-assoc a b c = grind arith

and-true : (a : Bool) → a ≡ (a && true)
and-true a = grind arith

module _ (t : Name → Option Expression) (f : Read → Bool) where
  abbrev every : Expressions → Bool
  every es = expanded_every_read t f es

  -- of expressions that stand behind others
  pub every-both : (es fs : Expressions) → every (append_expressions es fs) ≡ (every es && every fs)
  every-both no_expressions fs = refl
  every-both (expression e es) fs = ap (λ b. every_read f (expanded t e) && b) (every-both es fs) ∙ and-assoc (every_read f (expanded t e)) (every es) (every fs)

  abbrev rounds : List BlockHead → Bool
  rounds bs = every (conditions_after no_expressions bs)

  conditions-left : (es : Expressions) (bs : List BlockHead) → every (conditions_after es bs) ≡ (every es && rounds bs)
  conditions-left es [] = and-true (every es)
  conditions-left es (b ∷ bs) =
      let ws = exprs_view b.when.items in
      conditions-left (append_expressions es ws) bs ∙ ap (λ x. x && rounds bs) (every-both es ws) ∙ sym (and-assoc (every es) (every ws) (rounds bs))
      ∙ ap (λ x. every es && x) (sym (conditions-left ws bs))

  -- of the conditions of a block, and of those of the blocks in it
  pub conditions-next : (b : BlockHead) (bs : List BlockHead) → rounds (b ∷ bs) ≡ (every (exprs_view b.when.items) && rounds bs)
  conditions-next b bs = conditions-left (exprs_view b.when.items) bs

  -- where the first hold, all do where the others do
  pub both-first : (es fs : Expressions) (q : Bool) → true ≡ every es → q ≡ every fs → q ≡ every (append_expressions es fs)
  both-first es fs q h g = g ∙ ap (λ b. b && every fs) h ∙ sym (every-both es fs)

  -- where the first don't hold, not all do
  pub both-not : (es fs : Expressions) → false ≡ every es → false ≡ every (append_expressions es fs)
  both-not es fs h = ap (λ b. b && every fs) h ∙ sym (every-both es fs)

  -- up to that block they hold, or not
  pub round-next : (bs hs : List (Bor BlockHead)) (i : ℕ) (b : Bor BlockHead) (ws : List Expr) (all : Bool) → hs ≡ bs → i < length hs → b ≡ get_or hs i b → ws ≡ b.now.when.items
      → rounds (map (λ x. x.now) (drop i bs)) ≡ all → (every (exprs_view ws) && rounds (map (λ x. x.now) (drop (i + 1) bs))) ≡ all
  round-next bs hs i b ws all same lt e w h =
      let rest = map (λ (x : Bor BlockHead). x.now) (drop (i + 1) bs) in
      let at : drop i bs ≡ b ∷ drop (i + 1) bs = ap (drop i) (sym same) ∙ drop-at hs i b lt e ∙ ap (λ xs. b ∷ drop (i + 1) xs) same in
      ap (λ xs. every (exprs_view xs) && rounds rest) w ∙ sym (conditions-next b.now rest) ∙ ap (λ xs. rounds (map (λ x. x.now) xs)) (sym at) ∙ h
