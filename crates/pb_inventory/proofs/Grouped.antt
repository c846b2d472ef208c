-- The groups among the entries of an inventory, one after the other.
use Rattle.std.proofs.Common.{◌≡◌, List, [], ◌∷◌, ◌++◌, append_assoc, map, true, false, cond, codes, Option, Some, None, String, Global, Less, string_bytes, string_cmp, refl, sym, ap, ◌∙◌}
use Rattle.std.specs.Prelude.{◌||◌}
use Rattle.std.specs.List.{AllByRecursion}
use Rattle.std.specs.List.Sorted.{IsStrictlySortedBy}
use Rattle.std.specs.Map.{keys_of}
use Rattle.std.specs.Ordering.{is_eq}
use Rattle.std.proofs.lemmas.Bool.{or_parts}
use Rattle.std.proofs.lemmas.List.{append-nil, map-append}
use Rattle.std.proofs.lemmas.Map.Text.{is_eq-slice_cmp}
use Rattle.pb_semantics.specs.Keeps.{is_among}
use Rattle.pb_language.specs.Expression.{Name}
use Rattle.pb_inventory.specs.Numbered.{are_apart, written_names}
use Rattle.pb_inventory.proofs.Apart.{apart_first, apart_more, apart_rest}
use Rattle.std.specs.Str.{bytes_eq}
use Rattle.pb_language.specs.Written.{Written, group_before, groups_in, named_group}
use Rattle.pb_value.specs.View.{view, fields_view}
use Rattle.pb_value.proofs.Fields.{Entry}
use Rattle.pb_inventory.proofs.Formed.{and_first}

group_before-first : (w : Option Written) (ws : Option (List Written)) → group_before w ws ≡ and_first w ws
group_before-first None None = refl
group_before-first None (Some ws) = refl
group_before-first (Some w) None = refl
group_before-first (Some w) (Some ws) = refl

pub groups_in-meta : (e : Entry) (rest : List Entry) → bytes_eq (string_bytes e.0) (codes "_meta") ≡ true → groups_in (fields_view (e ∷ rest)) ≡ groups_in (fields_view rest)
groups_in-meta e rest h = ap (λ b. cond b (groups_in (fields_view rest)) (group_before (named_group (string_bytes e.0) (view e.1)) (groups_in (fields_view rest)))) h

pub groups_in-group : (e : Entry) (rest : List Entry) → bytes_eq (string_bytes e.0) (codes "_meta") ≡ false → groups_in (fields_view (e ∷ rest)) ≡ and_first (named_group (string_bytes e.0) (view e.1)) (groups_in (fields_view rest))
groups_in-group e rest h =
    ap (λ b. cond b (groups_in (fields_view rest)) (group_before (named_group (string_bytes e.0) (view e.1)) (groups_in (fields_view rest)))) h ∙ group_before-first (named_group (string_bytes e.0) (view e.1)) (groups_in (fields_view rest))

-- ---- their names

abbrev pub entry_names : List Entry → List Name
entry_names es = map (λ e. string_bytes e.0) es

unlike : (k x : String Global) → string_cmp k x ≡ Less → bytes_eq (string_bytes k) (string_bytes x) ≡ false
unlike k x h = sym (is_eq-slice_cmp (string_bytes k) (string_bytes x)) ∙ ap is_eq h

above-new : (k : String Global) (es : List Entry) → AllByRecursion (λ y. string_cmp k y ≡ Less) (keys_of es) → is_among (string_bytes k) (entry_names es) ≡ false
above-new k [] h = refl
above-new k (e ∷ es) h = ap (λ b. b || is_among (string_bytes k) (entry_names es)) (unlike k e.0 h.0) ∙ above-new k es h.1

-- entries in the order of their keys have each name once
pub apart-sorted : (es : List Entry) → IsStrictlySortedBy string_cmp (keys_of es) → are_apart (entry_names es) ≡ true
unfolding IsStrictlySortedBy
apart-sorted [] h = refl
apart-sorted (e ∷ es) h = apart_more (string_bytes e.0) (entry_names es) (above-new e.0 es h.0) (apart-sorted es h.1)

among-without : (x n : Name) (ns ms : List Name) → is_among x (ns ++ n ∷ ms) ≡ false → is_among x (ns ++ ms) ≡ false
among-without x n [] ms h = (or_parts (bytes_eq x n) (is_among x ms) h).1
among-without x n (m ∷ ns) ms h =
    let parts = or_parts (bytes_eq x m) (is_among x (ns ++ n ∷ ms)) h in
    ap (λ b. b || is_among x (ns ++ ms)) parts.0 ∙ among-without x n ns ms parts.1

-- one that is passed over changes nothing
pub apart-without : (ns : List Name) (n : Name) (ms : List Name) → are_apart (ns ++ n ∷ ms) ≡ true → are_apart (ns ++ ms) ≡ true
apart-without [] n ms h = apart_rest n ms h
apart-without (m ∷ ns) n ms h = apart_more m (ns ++ ms) (among-without m n ns ms (apart_first m (ns ++ n ∷ ms) h)) (apart-without ns n ms (apart_rest m (ns ++ n ∷ ms) h))

-- one that becomes a group keeps its name
pub apart-pushed : (ws : List Written) (w : Written) (n : Name) (ms : List Name) → w.name ≡ n → are_apart (written_names ws ++ n ∷ ms) ≡ true → are_apart (written_names (ws ++ w ∷ []) ++ ms) ≡ true
apart-pushed ws w n ms e h =
    ap (λ ns. are_apart (ns ++ ms)) (map-append (λ (x : Written). x.name) ws (w ∷ [])) ∙ ap are_apart (append_assoc (written_names ws) (w.name ∷ []) ms) ∙ ap (λ m. are_apart (written_names ws ++ m ∷ ms)) e ∙ h

pub apart-ended : (ns : List Name) → are_apart (ns ++ []) ≡ true → are_apart ns ≡ true
apart-ended ns h = ap are_apart (sym (append-nil ns)) ∙ h
