-- The conditions and the values of `vars` round a task, block after block.
use denote.Ref.{Bor}
use Rattle.std.proofs.Common.{◌≡◌, ◌∙◌, ℕ, nat_eq, not, ◌+◌, ◌<◌, List, [], ◌∷◌, ◌++◌, Bool, true, false, bytes_eq, cond, Some, get_or, length, map, take, refl, sym, ap, add-one, arith}
use Rattle.std.proofs.Math.Seq.{take-suc}
use Rattle.std.proofs.lemmas.Bool.Decides.{nat_tests}
use Rattle.std.proofs.lemmas.List.{map-append}
use Rattle.pb_language.specs.Cases.{is_conditional}
use Rattle.pb_language.specs.Expansion.{part_named}
use Rattle.pb_language.specs.Expression.{Expressions, no_expressions, expression, Parts, no_parts, part, Name}
use Rattle.pb_language.specs.Plays.{append_expressions, append_parts}
use Rattle.pb_play.specs.declared.play.BlockHead.{BlockHead}
use Rattle.pb_syntax.specs.ExprView.{exprs_view}
use Rattle.pb_syntax.specs.declared.expr.Expr.{Expr}
use Rattle.pb_template.specs.Entries.{entries_view}
use Rattle.pb_flow.specs.Nodes.{conditions_after, scope_after}
use Rattle.pb_flow.proofs.Arounds.{scope-push}
use Rattle.pb_vars.specs.Same.{HaveSame}
use Rattle.pb_vars.proofs.Merged.{append-nothing}

-- a condition stays
append_conditional : (es fs : Expressions) → is_conditional es ≡ true → is_conditional (append_expressions es fs) ≡ true
append_conditional no_expressions fs h = absurd (cc)
append_conditional (expression e es) fs h = refl

after_conditional : (es : Expressions) (bs : List BlockHead) → is_conditional es ≡ true → is_conditional (conditions_after es bs) ≡ true
after_conditional es [] h = h
after_conditional es (b ∷ bs) h = after_conditional (append_expressions es (exprs_view b.when.items)) bs (append_conditional es (exprs_view b.when.items) h)

abbrev pub is_conditional_round : List (Bor BlockHead) → Bool
is_conditional_round bs = is_conditional (conditions_after no_expressions (map (λ b. b.now) bs))

pub conditional_here : (b : Bor BlockHead) (bs : List (Bor BlockHead)) → is_conditional (exprs_view b.now.when.items) ≡ true → is_conditional_round (b ∷ bs) ≡ true
conditional_here b bs h = after_conditional (exprs_view b.now.when.items) (map (λ x. x.now) bs) h

unconditional : (es : Expressions) → is_conditional es ≡ false → es ≡ no_expressions
unconditional no_expressions h = refl
unconditional (expression e es) h = absurd (cc)

pub conditional_later : (b : Bor BlockHead) (bs : List (Bor BlockHead)) → is_conditional (exprs_view b.now.when.items) ≡ false → is_conditional_round (b ∷ bs) ≡ is_conditional_round bs
conditional_later b bs h = ap (λ es. is_conditional (conditions_after es (map (λ x. x.now) bs))) (unconditional (exprs_view b.now.when.items) h)

-- values over others that come to the same
same-behind : (ps qs rs : Parts) (n : Name) → part_named n qs ≡ part_named n rs → part_named n (append_parts ps qs) ≡ part_named n (append_parts ps rs)
same-behind no_parts qs rs n h = h
same-behind (part m e ps) qs rs n h = ap (cond (bytes_eq n m) (Some e)) (same-behind ps qs rs n h)

pub same-over : (now ps qs rs : Parts) → HaveSame now (append_parts ps qs) → HaveSame qs rs → HaveSame now (append_parts ps rs)
same-over now ps qs rs h g = record { at = λ n. h.at n ∙ same-behind ps qs rs n (g.at n) }

-- values over none
pub over-none : (now ps qs : Parts) → qs ≡ no_parts → HaveSame now (append_parts ps qs) → HaveSame now ps
over-none now ps qs e h = record { at = λ n. h.at n ∙ ap (λ rs. part_named n (append_parts ps rs)) e ∙ ap (part_named n) (append-nothing ps) }

heads-next : (bs : List (Bor BlockHead)) (i : ℕ) (b : Bor BlockHead) → i < length bs → b ≡ get_or bs i b → map (λ x. x.now) (take (i + 1) bs) ≡ map (λ x. x.now) (take i bs) ++ b.now ∷ []
heads-next bs i b lt e =
    let more : take (i + 1) bs ≡ take i bs ++ b ∷ [] = rw add-one (take-suc bs i b lt ∙ ap (λ y. take i bs ++ y ∷ []) (sym e)) in
    ap (map (λ x. x.now)) more ∙ map-append (λ (x : Bor BlockHead). x.now) (take i bs) (b ∷ [])

-- the values of the next block over those of the blocks round it
pub scope-next : (vars now next : Parts) (bs : List (Bor BlockHead)) (i : ℕ) (b : Bor BlockHead) → i < length bs → b ≡ get_or bs i b → HaveSame now (scope_after vars (map (λ x. x.now) (take i bs)))
    → HaveSame next (append_parts (entries_view b.now.vars.items) now) → HaveSame next (scope_after vars (map (λ x. x.now) (take (i + 1) bs)))
scope-next vars now next bs i b lt e h g =
    let all = ap (scope_after vars) (heads-next bs i b lt e) ∙ scope-push vars (map (λ x. x.now) (take i bs)) b.now in
    let so = same-over next (entries_view b.now.vars.items) now (scope_after vars (map (λ x. x.now) (take i bs))) g h in
    record { at = λ n. so.at n ∙ ap (part_named n) (sym all) }

positive : (n : ℕ) → 0 < n → not (nat_eq n 0) ≡ true
positive n h = grind (arith, nat_tests)

pub given_conditional : (es : List Expr) (n : ℕ) → n ≡ length es → not (nat_eq n 0) ≡ is_conditional (exprs_view es)
given_conditional [] n h = ap (λ k. not (nat_eq k 0)) h
given_conditional (e ∷ es) n h = positive n (omega (arith, h))
