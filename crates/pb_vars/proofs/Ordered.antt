-- Names in the order of their bytes: each is found where it stands.
use denote.Ref.{Bor}
use Rattle.std.proofs.Common.{◌≡◌, ℕ, zero, suc, ◌<◌, ◌≤◌, string_bytes, List, [], ◌∷◌, length, get_or, slice_get, Bool, true, false, cond, bytes_eq, Option, Some, None, nat_cmp, refl, sym, ap, ◌∙◌, arith}
use Rattle.std.specs.Cmp.Lexicographic.{slice_cmp}
use Rattle.std.specs.Ordering.{is_eq, is_lt, ordering_reverse}
use Rattle.std.specs.declared.cmp.Ordering.{Ordering}
use Rattle.std.specs.declared.cmp.Ordering.TheVariants.{Less, Equal, Greater}
use Rattle.std.proofs.lemmas.Cmp.{nat_list_cmp_total}
use Rattle.std.proofs.lemmas.Map.Text.{is_eq-slice_cmp}
use Rattle.pb_semantics.proofs.Ascending.{below-first, below-rest, is-less}
use Rattle.pb_semantics.proofs.Bools.{untrue, and-left, and-right, and-both}
use Rattle.pb_semantics.proofs.Names.{own_name}
use Rattle.pb_language.specs.Expression.{Name, Expression, Parts, no_parts, part}
use Rattle.pb_language.specs.Expansion.{part_named}
use Rattle.pb_language.specs.Rules.{part_names}
use Rattle.pb_syntax.specs.ExprView.{expr_view}
use Rattle.pb_syntax.specs.declared.expr.Expr.{size-Expr}
use Rattle.pb_template.specs.Entries.{are_ascending, entries_view, entry_names, is_below}
use Rattle.pb_template.specs.declared.entry.Entry.{Entry}
use Rattle.pb_vars.specs.Borrowed.{borrowed_view, entry_name, greatest_of}
use Rattle.pb_vars.specs.Merging.{IsOrdered}
use Rattle.pb_vars.specs.Rounds.{answer_named}
use Rattle.pb_vars.proofs.Chains.{AreFound}

pub less-differs : (n m : Name) → slice_cmp nat_cmp n m ≡ Less → bytes_eq n m ≡ false
less-differs n m h = sym (is_eq-slice_cmp n m) ∙ ap is_eq h

pub less-turned : (n m : Name) → slice_cmp nat_cmp n m ≡ Less → bytes_eq m n ≡ false
less-turned n m h = sym (is_eq-slice_cmp m n) ∙ ap is_eq (nat_list_cmp_total.antisymm m n ∙ ap ordering_reverse h)

pub first-below : (n : Name) (e : Expression) (ps : Parts) → IsOrdered (part n e ps) → is_below n (part_names ps) ≡ true
first-below n e ps h = and-left (is_below n (part_names ps)) (are_ascending (part_names ps)) h

pub rest-ordered : (n : Name) (e : Expression) (ps : Parts) → IsOrdered (part n e ps) → IsOrdered ps
rest-ordered n e ps h = and-right (is_below n (part_names ps)) (are_ascending (part_names ps)) h

passed-over : (q : Bool) (e : Expression) (t : Option Expression) → q ≡ false → cond q (Some e) t ≡ t
passed-over true e t h = untrue (sym h)
passed-over false e t h = refl

-- a name below all of them isn't among them
pub unfound : (n : Name) (ps : Parts) → is_below n (part_names ps) ≡ true → part_named n ps ≡ None
unfound n no_parts h = refl
unfound n (part m e ps) h =
    passed-over (bytes_eq n m) e (part_named n ps) (less-differs n m (below-first n m (part_names ps) h)) ∙ unfound n ps (below-rest n m (part_names ps) h)

-- each is found as it stands there
found-behind : (m : Name) (e : Expression) (scope ps : Parts) → is_below m (part_names ps) ≡ true → AreFound scope ps → AreFound (part m e scope) ps
found-behind m e scope no_parts b h = tt
found-behind m e scope (part n x ps) b h = (
  passed-over (bytes_eq n m) e (part_named n scope) (less-turned m n (below-first m n (part_names ps) b)) ∙ h.0,
  found-behind m e scope ps (below-rest m n (part_names ps) b) h.1,
)

found-first : (n : Name) (e : Expression) (t : Option Expression) → cond (bytes_eq n n) (Some e) t ≡ Some e
found-first n e t = ap (λ q. cond q (Some e) t) (own_name n)

pub are-found : (ps : Parts) → IsOrdered ps → AreFound ps ps
are-found no_parts h = tt
are-found (part n e ps) h = (found-first n e (part_named n ps), found-behind n e ps ps (first-below n e ps h) (are-found ps (rest-ordered n e ps h)))

value-in : (scope : Parts) (es : List (Bor Entry)) (i : ℕ) (d : Bor Entry) → AreFound scope (borrowed_view es) → i < length es
    → part_named (entry_name (get_or es i d)) scope ≡ Some (expr_view (get_or es i d).now.value)
value-in scope [] i d h l = absurd (omega (arith, l))
value-in scope (e ∷ es) zero d h l = h.0
value-in scope (e ∷ es) (suc i) d h l = value-in scope es i d h.1 (omega (arith, l))

pub value-at : (es : List (Bor Entry)) (i : ℕ) (d : Bor Entry) → IsOrdered (borrowed_view es) → i < length es
    → part_named (entry_name (get_or es i d)) (borrowed_view es) ≡ Some (expr_view (get_or es i d).now.value)
value-at es i d h l = value-in (borrowed_view es) es i d (are-found (borrowed_view es) h) l

pub size-at : (es : List (Bor Entry)) (i : ℕ) (d : Bor Entry) → i < length es → size-Expr (get_or es i d).now.value ≤ greatest_of es
size-at [] i d l = absurd (omega (arith, l))
size-at (e ∷ es) zero d l = omega arith
size-at (e ∷ es) (suc i) d l = let h : size-Expr (get_or es i d).now.value ≤ greatest_of es = size-at es i d (omega (arith, l)) in omega (arith, h)

-- a name behind another is above it
pub below-at : (n : Name) (es : List (Bor Entry)) (i : ℕ) (d : Bor Entry) → is_below n (part_names (borrowed_view es)) ≡ true → i < length es → slice_cmp nat_cmp n (entry_name (get_or es i d)) ≡ Less
below-at n [] i d h l = absurd (omega (arith, l))
below-at n (e ∷ es) zero d h l = below-first n (entry_name e) (part_names (borrowed_view es)) h
below-at n (e ∷ es) (suc i) d h l = below-at n es i d (below-rest n (entry_name e) (part_names (borrowed_view es)) h) (omega (arith, l))

pub rising : (es : List (Bor Entry)) (i j : ℕ) (d : Bor Entry) → IsOrdered (borrowed_view es) → i < j → j < length es
    → slice_cmp nat_cmp (entry_name (get_or es i d)) (entry_name (get_or es j d)) ≡ Less
rising [] i j d h l m = absurd (omega (arith, m))
rising (e ∷ es) i zero d h l m = absurd (omega (arith, l))
rising (e ∷ es) zero (suc j) d h l m = below-at (entry_name e) es j d (first-below (entry_name e) (expr_view e.now.value) (borrowed_view es) h) (omega (arith, m))
rising (e ∷ es) (suc i) (suc j) d h l m = rising es i j d (rest-ordered (entry_name e) (expr_view e.now.value) (borrowed_view es) h) (omega (arith, l)) (omega (arith, m))

-- the answer beside a name is the one at its place
answer-passed : (q b : Bool) (t : Option Bool) → q ≡ false → cond q (Some b) t ≡ t
answer-passed true b t h = untrue (sym h)
answer-passed false b t h = refl

pub answer-at : (es : List (Bor Entry)) (bs : List Bool) (i : ℕ) (d : Bor Entry) → IsOrdered (borrowed_view es) → i < length es
    → answer_named (entry_name (get_or es i d)) (borrowed_view es) bs ≡ slice_get bs i
answer-at [] bs i d h l = absurd (omega (arith, l))
answer-at (e ∷ es) [] i d h l = refl
answer-at (e ∷ es) (b ∷ bs) zero d h l = ap (λ q. cond q (Some b) (answer_named (entry_name e) (borrowed_view es) bs)) (own_name (entry_name e))
answer-at (e ∷ es) (b ∷ bs) (suc i) d h l =
    answer-passed (bytes_eq (entry_name (get_or es i d)) (entry_name e)) b (answer_named (entry_name (get_or es i d)) (borrowed_view es) bs)
    (less-turned (entry_name e) (entry_name (get_or es i d)) (below-at (entry_name e) es i d (first-below (entry_name e) (expr_view e.now.value) (borrowed_view es) h) (omega (arith, l))))
    ∙ answer-at es bs i d (rest-ordered (entry_name e) (expr_view e.now.value) (borrowed_view es) h) (omega (arith, l))

-- what isn't in scope has no answer
some-none : {A : Type 0} (e : Expression) → Some e ≡ None → A
some-none e h = cc

no-answer-here : (q b : Bool) (e : Expression) (t : Option Expression) (a : Option Bool) → cond q (Some e) t ≡ None → (t ≡ None → a ≡ None) → cond q (Some b) a ≡ None
no-answer-here true b e t a h later = some-none e h
no-answer-here false b e t a h later = later h

pub no-answer : (n : Name) (ps : Parts) (bs : List Bool) → part_named n ps ≡ None → answer_named n ps bs ≡ None
no-answer n no_parts bs h = refl
no-answer n (part m e ps) [] h = refl
no-answer n (part m e ps) (b ∷ bs) h = no-answer-here (bytes_eq n m) b e (part_named n ps) (answer_named n ps bs) h (no-answer n ps bs)

-- a name that none of them has
pub not-there : (n : Name) (es : List (Bor Entry)) (d : Bor Entry) → ((i : ℕ) → i < length es → bytes_eq n (entry_name (get_or es i d)) ≡ false) → part_named n (borrowed_view es) ≡ None
not-there n [] d h = refl
not-there n (e ∷ es) d h = passed-over (bytes_eq n (entry_name e)) (expr_view e.now.value) (part_named n (borrowed_view es)) (h 0 (omega arith)) ∙ not-there n es d (λ i l. h (suc i) (omega (arith, l)))

pub answer-there : (es : List (Bor Entry)) (bs : List Bool) (i : ℕ) (n : Name) → IsOrdered (borrowed_view es) → i < length es → ((d : Bor Entry) → entry_name (get_or es i d) ≡ n)
    → answer_named n (borrowed_view es) bs ≡ slice_get bs i
answer-there [] bs i n h l k = absurd (omega (arith, l))
answer-there (e ∷ es) bs i n h l k = ap (λ m. answer_named m (borrowed_view (e ∷ es)) bs) (sym (k e)) ∙ answer-at (e ∷ es) bs i e h l

pub names-of : (es : List Entry) → part_names (entries_view es) ≡ entry_names es
names-of [] = refl
names-of (e ∷ es) = ap (λ ns. string_bytes e.name.value ∷ ns) (names-of es)
