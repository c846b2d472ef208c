-- The parts of a template, one after another.
use Rattle.std.proofs.Common.{◌≡◌, ℕ, zero, suc, ◌+◌, ◌-◌, ◌<◌, ◌≤◌, List, [], ◌∷◌, ◌++◌, length, get_or, take, drop, slice_range, ◌==◌, cond, Option, Some, None, refl, sym, ap, ◌∙◌, subst, arith, length-drop}
use Rattle.std.proofs.lemmas.Bool.{eq-eqb, ne_eqb}
use Rattle.std.proofs.lemmas.List.{drop-take, length-take-le}
use Rattle.std.proofs.lemmas.List.Edits.{between_none}
use Rattle.std.proofs.lemmas.Str.{IsCharBoundary-after_ascii}
use Rattle.std.specs.Str.{IsCharBoundary, IsUtf8}
use Rattle.std.specs.Option.{option_map}
use Rattle.pb_semantics.specs.Gives.{FaultGives}
use Rattle.pb_semantics.specs.Data.{text}
use Rattle.pb_language.specs.Expression.{Expression, Expressions, concatenation, literal, no_expressions, expression}
use Rattle.pb_language.specs.Grammar.{Cut, cut, braced_parts, cut_parts, ending_in, expression_of, marked_parts, opening_in, parts_of, template_of, template_tree, with_part, with_text}
use Rattle.pb_syntax.specs.ExprView.{expr_view, exprs_view}
use Rattle.pb_syntax.specs.Forms.{parts_before}
use Rattle.pb_syntax.specs.Trees.{no_tree}
use Rattle.pb_syntax.specs.declared.expr.Expr.{Expr}
use Rattle.pb_syntax.specs.declared.fault.ExprFault.{ExprFault}
use Rattle.pb_syntax.proofs.Braces.{byte-at, two-at}
use Rattle.pb_syntax.proofs.Refusals.{refuses-more}

-- what stands in braces
pub marked-last : (parts : List ℕ → Option Expressions) (bs : List ℕ) (at : ℕ) → at < length bs → length bs ≤ at + 1 → marked_parts parts (drop at bs) ≡ None
marked-last parts bs at lt few =
    let n = length-drop (at + 1) bs in
    ap (marked_parts parts) (byte-at bs at lt) ∙ alone (get_or bs at 0) (drop (at + 1) bs) (omega (arith, n, few))
  where
    alone : (b : ℕ) (cs : List ℕ) → length cs ≡ 0 → marked_parts parts (b ∷ cs) ≡ None
    alone b [] h = refl
    alone b (c ∷ cs) h = absurd (omega (arith, h))

marked-at : (parts : List ℕ → Option Expressions) (bs : List ℕ) (at : ℕ) → at + 1 < length bs
    → marked_parts parts (drop at bs) ≡ cond (get_or bs (at + 1) 0 == 123) (braced_parts parts (ending_in None (drop (at + 2) bs))) None
marked-at parts bs at lt = ap (marked_parts parts) (two-at bs at lt)

pub marked-other : (parts : List ℕ → Option Expressions) (bs : List ℕ) (at : ℕ) → at + 1 < length bs → (get_or bs (at + 1) 0 ≡ 123 → ⊥) → marked_parts parts (drop at bs) ≡ None
marked-other parts bs at lt other =
    marked-at parts bs at lt ∙ ap (λ t. cond t (braced_parts parts (ending_in None (drop (at + 2) bs))) None) (ne_eqb (get_or bs (at + 1) 0) 123 other)

marked-braces : (parts : List ℕ → Option Expressions) (bs : List ℕ) (at : ℕ) (c : Option Cut) → at + 1 < length bs → get_or bs (at + 1) 0 ≡ 123 → ending_in None (drop (at + 2) bs) ≡ c → marked_parts parts (drop at bs) ≡ braced_parts parts c
marked-braces parts bs at c lt is h =
    marked-at parts bs at lt ∙ ap (λ t. cond t (braced_parts parts (ending_in None (drop (at + 2) bs))) None) (eq-eqb (get_or bs (at + 1) 0) 123 is)
    ∙ ap (braced_parts parts) h

pub marked-unclosed : (parts : List ℕ → Option Expressions) (bs : List ℕ) (at : ℕ) → at + 1 < length bs → get_or bs (at + 1) 0 ≡ 123 → ending_in None (drop (at + 2) bs) ≡ None → marked_parts parts (drop at bs) ≡ None
marked-unclosed parts bs at lt is h = marked-braces parts bs at None lt is h

inner : (bs : List ℕ) (from to : ℕ) → from ≤ to → slice_range bs from to ≡ drop from (take to bs)
inner bs from to h =
    let e : from + (to - from) ≡ to = omega (arith, h) in
    sym (ap (λ n. drop from (take n bs)) (sym e) ∙ drop-take from (to - from) bs)

pub marked-closed : (parts : List ℕ → Option Expressions) (bs : List ℕ) (at to : ℕ) → at + 1 < length bs → get_or bs (at + 1) 0 ≡ 123 → at + 2 ≤ to
    → ending_in None (drop (at + 2) bs) ≡ Some (cut (slice_range bs (at + 2) to) (drop (to + 2) bs))
    → marked_parts parts (drop at bs) ≡ with_part (expression_of (drop (at + 2) (take to bs))) (parts (drop (to + 2) bs))
marked-closed parts bs at to lt is le h =
    marked-braces parts bs at (Some (cut (slice_range bs (at + 2) to) (drop (to + 2) bs))) lt is h
    ∙ ap (λ cs. with_part (expression_of cs) (parts (drop (to + 2) bs))) (inner bs (at + 2) to le)

pub part_none : (o : Option Expression) (p : Option Expressions) → o ≡ None → with_part o p ≡ None
part_none o None h = ap (λ o. with_part o None) h
part_none o (Some es) h = ap (λ o. with_part o (Some es)) h

-- the parts that are read, and where the next opening stands
pub record Parted (bs : List ℕ) (es : Expressions) (at : ℕ) : Type 0 where
  pub steps : ℕ
  pub enough : length bs - at ≤ steps
  pub left : parts_of (suc (length bs)) bs ≡ parts_before es (marked_parts (parts_of steps) (drop at bs))

-- that text behind the parts makes them these ones
abbrev pub WithText : List Expr → List ℕ → List Expr → Type 0
WithText ys w zs = (r : Option Expressions) → parts_before (exprs_view zs) r ≡ parts_before (exprs_view ys) (option_map (with_text w) r)

pub parted-begins : (bs : List ℕ) (at : ℕ) (ys zs : List Expr) → ys ≡ [] → opening_in (drop 0 bs) ≡ cut (slice_range bs 0 at) (drop at bs) → WithText ys (slice_range bs 0 at) zs → Parted bs (exprs_view zs) at
parted-begins bs at ys zs none found h =
    let r = marked_parts (parts_of (length bs)) (drop at bs) in
    record {
      steps = length bs;
      enough = omega arith;
      left =
          ap (cut_parts (parts_of (length bs))) found ∙ ap (λ (ys : List Expr). parts_before (exprs_view ys) (option_map (with_text (slice_range bs 0 at)) r)) (sym none)
          ∙ sym (h r);
    }

parts_before-last : (ys : List Expr) (e : Expr) (r : Option Expressions) → parts_before (exprs_view (ys ++ e ∷ [])) r ≡ parts_before (exprs_view ys) (option_map (λ es. expression (expr_view e) es) r)
parts_before-last [] e r = refl
parts_before-last (y ∷ ys) e r = ap (option_map (λ es. expression (expr_view y) es)) (parts_before-last ys e r)

-- a text, and none
filled : (w : List ℕ) (es : Expressions) → (length w ≡ 0 → ⊥) → with_text w es ≡ expression (literal (text w)) es
filled [] es h = absurd (h refl)
filled (b ∷ bs) es h = refl

put : (e : Expression) (w : List ℕ) (r : Option Expressions) → e ≡ literal (text w) → (length w ≡ 0 → ⊥) → option_map (λ es. expression e es) r ≡ option_map (with_text w) r
put e w None is some = refl
put e w (Some es) is some = ap Some (ap (λ x. expression x es) is ∙ sym (filled w es some))

pub text-put : (ys xs : List Expr) (e : Expr) (w : List ℕ) → xs ≡ ys ++ e ∷ [] → expr_view e ≡ literal (text w) → (length w ≡ 0 → ⊥) → WithText ys w xs
text-put ys xs e w pushed is some r =
    ap (λ (zs : List Expr). parts_before (exprs_view zs) r) pushed ∙ parts_before-last ys e r ∙ ap (parts_before (exprs_view ys)) (put (expr_view e) w r is some)

unchanged : (r : Option Expressions) → r ≡ option_map (with_text []) r
unchanged None = refl
unchanged (Some es) = refl

pub text-none : (ys : List Expr) (bs : List ℕ) (from to : ℕ) → from ≡ to → WithText ys (slice_range bs from to) ys
text-none ys bs from to e r =
    let empty = ap (λ n. slice_range bs from n) (sym e) ∙ between_none bs from in
    ap (parts_before (exprs_view ys)) (unchanged r ∙ ap (λ w. option_map (with_text w) r) (sym empty))

pub slice-filled : (bs : List ℕ) (from to : ℕ) → from ≤ to → (from ≡ to → ⊥) → to ≤ length bs → length (slice_range bs from to) ≡ 0 → ⊥
slice-filled bs from to le some within h =
    let n = length-drop from bs in
    let l : length (slice_range bs from to) ≡ to - from = length-take-le (to - from) (drop from bs) (omega (arith, n, le, within)) in
    some (omega (arith, h, l, le))

-- more parts than one
pub tree-many : (es : List Expr) → (length es ≡ 0 → ⊥) → (length es ≡ 1 → ⊥) → template_tree (exprs_view es) ≡ concatenation (exprs_view es)
tree-many [] h g = absurd (h refl)
tree-many (e ∷ []) h g = absurd (g refl)
tree-many (e ∷ x ∷ es) h g = refl

with_part-some : (e : Expression) (p : Option Expressions) → with_part (Some e) p ≡ option_map (λ es. expression e es) p
with_part-some e None = refl
with_part-some e (Some es) = refl

before_of : (k n : ℕ) → n < k → (m : ℕ) × (k ≡ suc m) × (n ≤ m)
before_of zero n h = absurd (omega (arith, h))
before_of (suc k) n h = (k, refl, omega (arith, h))

pub parted-goes : (bs : List ℕ) (at behind to : ℕ) (ys xs zs : List Expr) (e : Expr) → Parted bs (exprs_view ys) at → at < length bs → at < behind → behind ≤ to
    → ((parts : List ℕ → Option Expressions) → marked_parts parts (drop at bs) ≡ with_part (Some (expr_view e)) (parts (drop behind bs))) → xs ≡ ys ++ e ∷ []
    → opening_in (drop behind bs) ≡ cut (slice_range bs behind to) (drop to bs) → WithText xs (slice_range bs behind to) zs → Parted bs (exprs_view zs) to
parted-goes bs at behind to ys xs zs e p lt past le read pushed found h =
    let m = before_of p.steps (length bs - to) (omega (arith, p.enough, lt, past, le)) in
    let r = marked_parts (parts_of m.0) (drop to bs) in
    let w = slice_range bs behind to in
    record {
      steps = m.0;
      enough = m.2;
      left =
          p.left ∙ ap (parts_before (exprs_view ys)) (read (parts_of p.steps) ∙ with_part-some (expr_view e) (parts_of p.steps (drop behind bs)))
          ∙ ap (λ k. parts_before (exprs_view ys) (option_map (λ es. expression (expr_view e) es) (parts_of k (drop behind bs)))) m.1
          ∙ ap (λ c. parts_before (exprs_view ys) (option_map (λ es. expression (expr_view e) es) (cut_parts (parts_of m.0) c))) found
          ∙ sym (parts_before-last ys e (option_map (with_text w) r)) ∙ ap (λ (vs : List Expr). parts_before (exprs_view vs) (option_map (with_text w) r)) (sym pushed) ∙ sym (h r);
    }

parts_before-none : (es : Expressions) → parts_before es None ≡ None
parts_before-none no_expressions = refl
parts_before-none (expression e es) = ap (option_map (λ es. expression e es)) (parts_before-none es)

parts_before-end : (es : Expressions) → parts_before es (Some no_expressions) ≡ Some es
parts_before-end no_expressions = refl
parts_before-end (expression e es) = ap (option_map (λ es. expression e es)) (parts_before-end es)

pub parted-stuck : (f : ExprFault) (bs : List ℕ) (es : Expressions) (at : ℕ) → Parted bs es at → ((parts : List ℕ → Option Expressions) → FaultGives (no_tree f) (marked_parts parts (drop at bs))) → FaultGives (no_tree f) (template_of bs)
parted-stuck f bs es at p h =
    refuses-more f (marked_parts (parts_of p.steps) (drop at bs)) (template_of bs) (h (parts_of p.steps))
    (λ none. ap (option_map template_tree) (p.left ∙ ap (parts_before es) none ∙ parts_before-none es))

ended : (parts : List ℕ → Option Expressions) (bs : List ℕ) → length bs ≡ 0 → marked_parts parts bs ≡ Some no_expressions
ended parts [] h = refl
ended parts (b ∷ bs) h = absurd (omega (arith, h))

pub parted-ends : (bs : List ℕ) (es : Expressions) (at : ℕ) → Parted bs es at → length bs ≤ at → template_of bs ≡ Some (template_tree es)
parted-ends bs es at p le =
    let n = length-drop at bs in
    ap (option_map template_tree) (p.left ∙ ap (parts_before es) (ended (parts_of p.steps) (drop at bs) (omega (arith, n, le))) ∙ parts_before-end es)

-- where a template may be cut: before an opening or at its end, and behind braces
pub before-opening : (bs : List ℕ) (i : ℕ) → i ≤ length bs → (i < length bs → get_or bs i 0 ≡ 123) → IsCharBoundary bs i
before-opening bs i le h = (le, λ lt big. let b = h lt in absurd (omega (arith, b, big)))

pub behind-braces : (bs : List ℕ) (i : ℕ) → IsUtf8 bs → 0 < i → i ≤ length bs → get_or bs (i - 1) 0 ≡ 125 → IsCharBoundary bs i
behind-braces bs i utf8 some le h =
    let e : (i - 1) + 1 ≡ i = omega (arith, some) in
    subst (IsCharBoundary bs) e (IsCharBoundary-after_ascii bs (i - 1) utf8 (omega (arith, some, le)) (omega (arith, h)))
