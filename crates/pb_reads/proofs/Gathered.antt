-- Roots that are put behind others, and the names among them.
use denote.Ref.{Bor}
use Rattle.std.proofs.Common.{◌≡◌, ◌∙◌, ℕ, ◌+◌, ◌<◌, List, [], ◌∷◌, ◌++◌, Bool, true, false, ◌||◌, cond, drop, get_or, length, map, string_bytes, refl, sym, ap, arith, append_assoc}
use Rattle.std.proofs.lemmas.List.{map-append}
use Rattle.pb_semantics.specs.Keeps.{is_among}
use Rattle.pb_language.specs.Expansion.{part_named}
use Rattle.pb_language.specs.Expression.{Name, Root, Parts}
use Rattle.pb_syntax.specs.ExprView.{root_view}
use Rattle.pb_syntax.specs.declared.expr.Root.{Root as WrittenRoot}
use Rattle.pb_syntax.proofs.Left.{drop-at}
use Rattle.pb_template.specs.declared.entry.Entry.{Entry}
use Rattle.pb_vars.specs.Borrowed.{borrowed_view, entry_name}
use Rattle.pb_reads.specs.Reached.{own_name, own_names, value_roots, with_value, reached, told_name, told_names}
use Rattle.pb_reads.specs.RootsView.{roots_view}
use Rattle.pb_reads.proofs.Reached.{among-both, own-both}

swapped : (x y z : Bool) → (x || (y || z)) ≡ ((y || x) || z)
swapped x y z = grind arith

pub moved : (n : Name) (a rest old new : List Name) → is_among n new ≡ is_among n (a ++ old) → is_among n (rest ++ new) ≡ is_among n ((a ++ rest) ++ old)
moved n a rest old new h =
    among-both n rest new ∙ ap (λ b. is_among n rest || b) (h ∙ among-both n a old) ∙ swapped (is_among n rest) (is_among n a) (is_among n old)
    ∙ ap (λ b. b || is_among n old) (sym (among-both n a rest)) ∙ sym (among-both n (a ++ rest) old)

pub behind-next : (rs : List (Bor WrittenRoot)) (i : ℕ) (r : Bor WrittenRoot) (all : List Root) (old new : List (Bor WrittenRoot)) → i < length rs → r ≡ get_or rs i r → new ≡ old ++ r ∷ []
    → all ≡ roots_view old ++ roots_view (drop i rs) → all ≡ roots_view new ++ roots_view (drop (i + 1) rs)
behind-next rs i r all old new lt e put inv =
    let rest = roots_view (drop (i + 1) rs) in
    inv ∙ ap (λ xs. roots_view old ++ roots_view xs) (drop-at rs i r lt e) ∙ sym (append_assoc (roots_view old) (root_view r.now ∷ []) rest)
    ∙ ap (λ xs. xs ++ rest) (sym (map-append (λ (x : Bor WrittenRoot). root_view x.now) old (r ∷ []))) ∙ ap (λ xs. roots_view xs ++ rest) (sym put)

pub own-next : (n : Name) (rs : List (Bor WrittenRoot)) (i : ℕ) (r : Bor WrittenRoot) (old new : List Name) (q : Bool) → i < length rs → r ≡ get_or rs i r → is_among n new ≡ is_among n (own_name (root_view r.now) ++ old)
    → is_among n (own_names (roots_view (drop i rs)) ++ old) ≡ q → is_among n (own_names (roots_view (drop (i + 1) rs)) ++ new) ≡ q
own-next n rs i r old new q lt e h inv =
    moved n (own_name (root_view r.now)) (own_names (roots_view (drop (i + 1) rs))) old new h ∙ ap (λ xs. is_among n (own_names (roots_view xs) ++ old)) (sym (drop-at rs i r lt e)) ∙ inv

pub told-next : (scope : Parts) (n : Name) (rs : List (Bor WrittenRoot)) (i : ℕ) (r : Bor WrittenRoot) (old new : List Name) (q : Bool) → i < length rs → r ≡ get_or rs i r
    → is_among n new ≡ is_among n (told_name scope (root_view r.now) ++ old)
    → is_among n (told_names scope (roots_view (drop i rs)) ++ old) ≡ q → is_among n (told_names scope (roots_view (drop (i + 1) rs)) ++ new) ≡ q
told-next scope n rs i r old new q lt e h inv =
    moved n (told_name scope (root_view r.now)) (told_names scope (roots_view (drop (i + 1) rs))) old new h ∙ ap (λ xs. is_among n (told_names scope (roots_view xs) ++ old)) (sym (drop-at rs i r lt e)) ∙ inv

-- a name of vars that is read, and one that isn't
pub value-put : (scope : Parts) (k : Name) (rs found new : List Root) → is_among k (own_names rs) ≡ true → new ≡ rs ++ found → found ≡ value_roots (part_named k scope) → new ≡ with_value scope k rs
value-put scope k rs found new own put is = put ∙ ap (λ xs. rs ++ xs) is ∙ ap (λ b. cond b (rs ++ value_roots (part_named k scope)) rs) (sym own)

pub value-left : (scope : Parts) (k : Name) (rs : List Root) → is_among k (own_names rs) ≡ false → rs ≡ with_value scope k rs
value-left scope k rs own = ap (λ b. cond b (rs ++ value_roots (part_named k scope)) rs) (sym own)

or-turned : (x y z : Bool) → x ≡ y → (z || x) ≡ (y || z)
or-turned x y z h = ap (λ b. z || b) h ∙ turned z y where
  turned : (a b : Bool) → (a || b) ≡ (b || a)
  turned a b = grind arith

-- the set still has the own names
pub names-put : (n : Name) (old new : List Name) (rs found all : List Root) → is_among n new ≡ is_among n (own_names found ++ old) → is_among n old ≡ is_among n (own_names rs) → all ≡ rs ++ found
    → is_among n new ≡ is_among n (own_names all)
names-put n old new rs found all h same put =
    h ∙ among-both n (own_names found) old ∙ or-turned (is_among n old) (is_among n (own_names rs)) (is_among n (own_names found)) same ∙ sym (own-both n rs found) ∙ ap (λ xs. is_among n (own_names xs)) (sym put)

pub reached-next : (scope : Parts) (es : List (Bor Entry)) (i : ℕ) (e : Bor Entry) (k : Name) (rs all new : List Root) → i < length es → e ≡ get_or es i e → k ≡ entry_name e → new ≡ with_value scope k all
    → all ≡ reached scope (borrowed_view (drop (i + 1) es)) rs → new ≡ reached scope (borrowed_view (drop i es)) rs
reached-next scope es i e k rs all new lt at name put inv =
    put ∙ ap (λ m. with_value scope m all) name ∙ ap (with_value scope (entry_name e)) inv ∙ ap (λ xs. reached scope (borrowed_view xs) rs) (sym (drop-at es i e lt at))
