-- The groups of an inventory as the fields of a record.
use Rattle.std.proofs.Common.{◌≡◌, ◌∙◌, ℕ, zero, suc, ◌+◌, ◌<◌, List, [], ◌∷◌, map, drop, true, Some, option_map, slice_get, Vec, String, Global, string_bytes, add-one, refl, sym, ap, subst}
use Rattle.std.specs.Prelude.{nat_lt}
use Rattle.std.specs.Cmp.Lexicographic.{slice_cmp}
use Rattle.std.specs.List.{All, list_all}
use Rattle.std.specs.Ordering.{nat_cmp}
use Rattle.std.specs.declared.cmp.Ordering.TheVariants.{Less}
use Rattle.std.proofs.lemmas.Option.{slice_get-map}
use Rattle.pb_semantics.specs.Data.{Data, Fields, field, list, put_field}
use Rattle.pb_semantics.proofs.Ascending.{below-first}
use Rattle.pb_semantics.proofs.Bools.{and-left, and-right}
use Rattle.pb_language.specs.Expression.{Name}
use Rattle.pb_language.specs.Setting.{group_fields, names_list}
use Rattle.pb_language.specs.World.{Group}
use Rattle.pb_inventory.specs.Numbered.{named}
use Rattle.pb_inventory.specs.Views.{are_placed, group_view}
use Rattle.pb_template.specs.Entries.{are_ascending, is_below}
use Rattle.pb_world.proofs.Shown.{below-all}

abbrev names_of_groups : List Group → List Name
names_of_groups gs = map (λ g. g.name) gs

abbrev put_group : Group → Fields → Fields
put_group g fs = put_field g.name (list (names_list g.hosts)) fs

-- a group whose name is below those of the others is put in front of them
in-front : (n : Name) (d : Data) (gs : List Group) → is_below n (names_of_groups gs) ≡ true → put_field n d (group_fields gs) ≡ field n d (group_fields gs)
in-front n d [] h = refl
in-front n d (g ∷ gs) h = let less : slice_cmp nat_cmp n g.name ≡ Less = below-first n g.name (names_of_groups gs) h in rw less refl

put-step : (gs : List Group) (i : ℕ) (fs us : Fields) → are_ascending (names_of_groups gs) ≡ true → fs ≡ group_fields (drop (suc i) gs)
    → option_map (λ g. put_group g fs) (slice_get gs i) ≡ Some us → us ≡ group_fields (drop i gs)
put-step [] i fs us o e h = absurd (cc)
put-step (g ∷ gs) zero fs us o e h =
    let put : put_group g fs ≡ us = cc in
    sym put ∙ ap (put_group g) e ∙ in-front g.name (list (names_list g.hosts)) gs (and-left (is_below g.name (names_of_groups gs)) (are_ascending (names_of_groups gs)) o)
put-step (g ∷ gs) (suc i) fs us o e h = put-step gs i fs us (and-right (is_below g.name (names_of_groups gs)) (are_ascending (names_of_groups gs)) o) e h

-- one group more, in front of those behind it
pub group-next : (gs : List Group) (i : ℕ) (fs us : Fields) → are_ascending (names_of_groups gs) ≡ true → fs ≡ group_fields (drop (i + 1) gs)
    → option_map (λ g. put_group g fs) (slice_get gs i) ≡ Some us → us ≡ group_fields (drop i gs)
group-next gs i fs us o e h = put-step gs i fs us o (e ∙ ap (λ j. group_fields (drop j gs)) (add-one i)) h

-- the group at a place
pub group-put : (hs : List Name) (es : List (String Global × Vec ℕ Global)) (gs : List Group) (i : ℕ) (e : String Global × Vec ℕ Global) (fs us : Fields) → map (group_view hs) es ≡ gs
    → Some e ≡ slice_get es i → us ≡ put_field (string_bytes e.0) (list (names_list (named hs e.1.items))) fs
    → option_map (λ g. put_group g fs) (slice_get gs i) ≡ Some us
group-put hs es gs i e fs us views at put =
    let f = λ (g : Group). put_group g fs in
    ap (λ xs. option_map f (slice_get xs i)) (sym views) ∙ ap (option_map f) (slice_get-map (group_view hs) es i ∙ ap (option_map (group_view hs)) (sym at)) ∙ ap Some (sym put)

-- its members are hosts
pub placed-at : (count : ℕ) (es : List (String Global × Vec ℕ Global)) (i : ℕ) (e : String Global × Vec ℕ Global) → are_placed count es ≡ true → Some e ≡ slice_get es i → All (λ p. p < count) e.1.items
placed-at count [] i e placed at = absurd (cc)
placed-at count (x ∷ es) zero e placed at =
    let same : x ≡ e = cc in
    subst (λ (y : String Global × Vec ℕ Global). All (λ p. p < count) y.1.items) same (below-all count x.1.items (and-left (list_all (λ i. nat_lt i count) x.1.items) (are_placed count es) placed))
placed-at count (x ∷ es) (suc i) e placed at = placed-at count es i e (and-right (list_all (λ i. nat_lt i count) x.1.items) (are_placed count es) placed) at
