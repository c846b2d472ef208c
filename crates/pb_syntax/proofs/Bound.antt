-- Copies of records whose expressions are bound.
use Rattle.std.proofs.Common.{◌≡◌, ℕ, List, [], ◌∷◌, ◌++◌, map, flat_map, String, Global, BTreeMap, Less, Greater, string_bytes, string_cmp, nat_cmp, refl, sym, ap, ◌∙◌, rules}
use Rattle.std.proofs.lemmas.Cmp.{nat_list_cmp_total}
use Rattle.std.proofs.lemmas.List.{map-append}
use Rattle.std.specs.BTreeMap.{insert_entry}
use Rattle.std.specs.Cmp.Lexicographic.{slice_cmp}
use Rattle.std.specs.List.Sorted.{IsStrictlySortedBy}
use Rattle.std.specs.Ordering.{ordering_reverse}
use Rattle.pb_syntax.proofs.Ascending.{Ascending, above-middle, ascending-rest}
use Rattle.pb_language.specs.Expression.{no_parts, part}
use Rattle.pb_language.specs.Plays.{append_parts}
use Rattle.pb_syntax.specs.ExprView.{expr_view, parts_view}
use Rattle.pb_syntax.specs.Slots.{over_paths}
use Rattle.pb_syntax.specs.declared.expr.Path.{Path}
use Rattle.pb_syntax.specs.declared.expr.Expr.{Expr, the_lemmas}
use Rattle.pb_syntax.specs.declared.expr.Expr as Expr-of

abbrev pub names_in : {V : Type 0} → List (String Global × V) → List (List ℕ)
names_in es = map (λ e. string_bytes e.0) es

before : {W : Type 0} (d : String Global × W) (done : List (String Global × W)) (e : String Global × W) (more : List (String Global × W)) → Ascending (d ∷ done ++ e ∷ more) → string_cmp d.0 e.0 ≡ Less
unfolding IsStrictlySortedBy
before d done e more h = above-middle d done e more h.0

-- a name that stands behind those of a map goes last among their copies
pub inserted-last : {V W : Type 0} (built : List (String Global × V)) (done : List (String Global × W)) (k : String Global) (v : V) (e : String Global × W) (more : List (String Global × W))
    → names_in built ≡ names_in done → string_bytes k ≡ string_bytes e.0 → Ascending (done ++ e ∷ more) → insert_entry string_cmp built k v ≡ built ++ (k, v) ∷ []
inserted-last [] done k v e more same is h = refl
inserted-last (b ∷ built) [] k v e more same is h = absurd (cc)
inserted-last (b ∷ built) (d ∷ done) k v e more same is h =
    let first : string_bytes b.0 ≡ string_bytes d.0 = cc in
    let rest : names_in built ≡ names_in done = cc in
    let above : slice_cmp nat_cmp (string_bytes k) (string_bytes b.0) ≡ Greater =
    ap (λ n. slice_cmp nat_cmp n (string_bytes b.0)) is ∙ ap (slice_cmp nat_cmp (string_bytes e.0)) first ∙ nat_list_cmp_total.antisymm (string_bytes e.0) (string_bytes d.0) ∙ ap ordering_reverse (before d done e more h) in
    rw above (ap (λ es. b ∷ es) (inserted-last built done k v e more rest is (ascending-rest d (done ++ e ∷ more) h)))

-- one more behind both
pub map-pushed : {X Y A : Type 0} → (f : X → A) (g : Y → A) (xs : List X) (ys : List Y) (x : X) (y : Y) → map f xs ≡ map g ys → f x ≡ g y → map f (xs ++ x ∷ []) ≡ map g (ys ++ y ∷ [])
map-pushed f g xs ys x y h e = map-append f xs (x ∷ []) ∙ rw (h, e) (sym (map-append g ys (y ∷ [])))

parts-last : (es : List (String Global × Expr)) (e : String Global × Expr) → parts_view (es ++ e ∷ []) ≡ append_parts (parts_view es) (part (string_bytes e.0) (expr_view e.1) no_parts)
parts-last [] e = refl
parts-last (x ∷ es) e = ap (part (string_bytes x.0) (expr_view x.1)) (parts-last es e)

pub parts-pushed : (xs ys : List (String Global × Expr)) (x y : String Global × Expr) → parts_view xs ≡ parts_view ys → string_bytes x.0 ≡ string_bytes y.0 → expr_view x.1 ≡ expr_view y.1
    → parts_view (xs ++ x ∷ []) ≡ parts_view (ys ++ y ∷ [])
parts-pushed xs ys x y h n e = parts-last xs x ∙ rw (h, n, e) (sym (parts-last ys y))

-- the lists of a record's fields, one after another
fields-joined : {D : Type 0} → (f : Expr → List D) (es : List (String Global × Expr)) → flat_map (λ (e : String Global × List D). e.1) (map (λ m. (m.0, f m.1)) es) ≡ flat_map (λ xs. xs) (map (λ m. f m.1) es)
fields-joined f [] = refl
fields-joined f (e ∷ es) = ap (λ xs. f e.1 ++ xs) (fields-joined f es)

paths-Record : {D : Type 0} → (f : Path → D) (m : BTreeMap (String Global) Expr) → over_paths f (Expr-of.Record m) ≡ flat_map (λ (e : String Global × List D). e.1) (map (λ e. (e.0, over_paths f e.1)) m.entries)
paths-Record f m = search (rules, the_lemmas)

pub records-bound : {D : Type 0} (f g : Path → D) (m n : BTreeMap (String Global) Expr) → map (λ e. over_paths f e.1) m.entries ≡ map (λ e. over_paths g e.1) n.entries → over_paths f (Expr-of.Record m) ≡ over_paths g (Expr-of.Record n)
records-bound f g m n h =
    paths-Record f m ∙ fields-joined (over_paths f) m.entries ∙ ap (λ xss. flat_map (λ xs. xs) xss) h ∙ sym (fields-joined (over_paths g) n.entries) ∙ sym (paths-Record g n)
