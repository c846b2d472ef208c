-- The roots of expressions that stand behind others.
use denote.Ref.{Bor}
use Rattle.std.proofs.Common.{◌≡◌, ◌∙◌, ℕ, ◌+◌, ◌<◌, List, [], ◌∷◌, ◌++◌, drop, get_or, length, map, refl, sym, ap, append-nil, append_assoc}
use Rattle.pb_language.specs.Expression.{Root, Expressions, no_expressions, expression}
use Rattle.pb_language.specs.Plays.{append_expressions}
use Rattle.pb_play.specs.declared.play.BlockHead.{BlockHead}
use Rattle.pb_flow.specs.Nodes.{conditions_after}
use Rattle.pb_syntax.specs.ExprView.{exprs_view}
use Rattle.pb_syntax.specs.declared.expr.Expr.{Expr}
use Rattle.pb_syntax.proofs.Left.{drop-at}
use Rattle.pb_reads.specs.Roots.{roots_in, all_roots}

pub roots-both : (es fs : Expressions) → all_roots (append_expressions es fs) ≡ all_roots es ++ all_roots fs
roots-both no_expressions fs = refl
roots-both (expression e es) fs = ap (λ rs. roots_in e ++ rs) (roots-both es fs) ∙ sym (append_assoc (roots_in e) (all_roots es) (all_roots fs))

-- those of both were put, one behind the other
pub put-both : (old mid new : List Root) (es fs : Expressions) → mid ≡ old ++ all_roots es → new ≡ mid ++ all_roots fs → new ≡ old ++ all_roots (append_expressions es fs)
put-both old mid new es fs p q = q ∙ ap (λ rs. rs ++ all_roots fs) p ∙ append_assoc old (all_roots es) (all_roots fs) ∙ ap (λ rs. old ++ rs) (sym (roots-both es fs))

abbrev rounds : List BlockHead → List Root
rounds bs = all_roots (conditions_after no_expressions bs)

conditions-left : (es : Expressions) (bs : List BlockHead) → all_roots (conditions_after es bs) ≡ all_roots es ++ rounds bs
conditions-left es [] = sym (append-nil (all_roots es))
conditions-left es (b ∷ bs) =
    let ws = exprs_view b.when.items in
    conditions-left (append_expressions es ws) bs ∙ ap (λ x. x ++ rounds bs) (roots-both es ws) ∙ append_assoc (all_roots es) (all_roots ws) (rounds bs)
    ∙ ap (λ x. all_roots es ++ x) (sym (conditions-left ws bs))

-- the conditions of a block, and those of the blocks in it
pub round-next : (bs hs : List (Bor BlockHead)) (i : ℕ) (b : Bor BlockHead) (ws : List Expr) (all old new : List Root) → hs ≡ bs → i < length hs → b ≡ get_or hs i b → ws ≡ b.now.when.items
    → new ≡ old ++ all_roots (exprs_view ws) → all ≡ old ++ rounds (map (λ x. x.now) (drop i bs)) → all ≡ new ++ rounds (map (λ x. x.now) (drop (i + 1) bs))
round-next bs hs i b ws all old new same lt e w put inv =
    let rest = map (λ (x : Bor BlockHead). x.now) (drop (i + 1) bs) in
    let at : drop i bs ≡ b ∷ drop (i + 1) bs = ap (drop i) (sym same) ∙ drop-at hs i b lt e ∙ ap (λ xs. b ∷ drop (i + 1) xs) same in
    inv ∙ ap (λ xs. old ++ rounds (map (λ x. x.now) xs)) at ∙ ap (λ rs. old ++ rs) (conditions-left (exprs_view b.now.when.items) rest) ∙ sym (append_assoc old (all_roots (exprs_view b.now.when.items)) (rounds rest))
    ∙ ap (λ xs. (old ++ all_roots (exprs_view xs)) ++ rounds rest) (sym w) ∙ ap (λ rs. rs ++ rounds rest) (sym put)
