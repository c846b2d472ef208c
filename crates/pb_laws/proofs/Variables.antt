-- Variables in the order of their names, with no template among them, are read as they are.
use Rattle.std.proofs.Common.{◌≡◌, List, [], ◌∷◌, ◌++◌, Bool, true, false, cond, refl, sym, ap, ◌∙◌, subst}
use Rattle.std.specs.List.{list_all, list_any}
use Rattle.std.specs.Ordering.{match_ordering, nat_cmp}
use Rattle.std.specs.declared.cmp.Ordering.{Ordering}
use Rattle.std.specs.declared.cmp.Ordering.TheVariants.{Greater}
use Rattle.std.specs.Cmp.Lexicographic.{slice_cmp}
use Rattle.pb_semantics.specs.Data.{Data, Items, Fields, null, boolean, int, text, list, rec, opaque, no_items, item, no_fields, field, put_field}
use Rattle.pb_semantics.specs.Keeps.{is_among}
use Rattle.pb_semantics.proofs.Bools.{and-left, and-right, and-both, neither-left, neither-right}
use Rattle.pb_language.specs.Expression.{Name}
use Rattle.pb_language.specs.Inventories.{fields_of, items_of, overlaid, variable_of}
use Rattle.pb_language.specs.Nesting.{holds, some_field_holds, some_item_holds}
use Rattle.pb_language.specs.Rules.{reserved_names}
use Rattle.pb_language.specs.TaskForm.{keys_of}
use Rattle.pb_laws.specs.PrintableInventory.{are_ordered, is_before, is_template}
use Rattle.pb_laws.proofs.OrderedNames.{back, less}

mutual
  variable_kept : (d : Data) → holds is_template d ≡ false → variable_of d ≡ d
  variable_kept null h = refl
  variable_kept (boolean b) h = refl
  variable_kept (int n) h = refl
  variable_kept (text s) h = ap (λ q. cond q opaque (text s)) h
  variable_kept (list ds) h = ap list (items_kept ds h)
  variable_kept (rec fs) h = ap rec (fields_kept fs h)
  variable_kept opaque h = refl

  items_kept : (ds : Items) → some_item_holds is_template ds ≡ false → items_of ds ≡ ds
  items_kept no_items h = refl
  items_kept (item d ds) h =
      let first = variable_kept d (neither-left (holds is_template d) (some_item_holds is_template ds) h) in
      let rest = items_kept ds (neither-right (holds is_template d) (some_item_holds is_template ds) h) in
      λ i. item (first i) (rest i)

  fields_kept : (fs : Fields) → some_field_holds is_template fs ≡ false → fields_of fs ≡ fs
  fields_kept no_fields h = refl
  fields_kept (field n d fs) h =
      let first = variable_kept d (neither-left (holds is_template d) (some_field_holds is_template fs) h) in
      let rest = fields_kept fs (neither-right (holds is_template d) (some_field_holds is_template fs) h) in
      λ i. field n (first i) (rest i)

abbrev joined : Fields → Fields → Fields
joined no_fields gs = gs
joined (field n d fs) gs = field n d (joined fs gs)

joined_last : (vs : Fields) (n : Name) (d : Data) (fs : Fields) → joined (joined vs (field n d no_fields)) fs ≡ joined vs (field n d fs)
joined_last no_fields n d fs = refl
joined_last (field m e vs) n d fs = ap (field m e) (joined_last vs n d fs)

names_joined : (vs : Fields) (n : Name) (d : Data) (ns : List Name) → keys_of (joined vs (field n d no_fields)) ++ ns ≡ keys_of vs ++ n ∷ ns
names_joined no_fields n d ns = refl
names_joined (field m e vs) n d ns = ap (◌∷◌ m) (names_joined vs n d ns)

joined_none : (vs : Fields) → joined vs no_fields ≡ vs
joined_none no_fields = refl
joined_none (field m e vs) = ap (field m e) (joined_none vs)

-- a variable behind all others goes to the end

put_step : (o : Ordering) (n m : Name) (d e : Data) (us vs : Fields) → slice_cmp nat_cmp n m ≡ Greater → slice_cmp nat_cmp n m ≡ o
    → match_ordering o (field n d (field m e us)) (field m d us) (field m e vs) ≡ field m e vs
put_step o n m d e us vs h k = ap (λ r. match_ordering r (field n d (field m e us)) (field m d us) (field m e vs)) (sym k ∙ h)

put_last : (n : Name) (d : Data) (vs : Fields) → list_all (λ k. is_before k n) (keys_of vs) ≡ true → put_field n d vs ≡ joined vs (field n d no_fields)
put_last n d no_fields h = refl
put_last n d (field m e vs) h =
    let rest = list_all (λ k. is_before k n) (keys_of vs) in
    put_step (slice_cmp nat_cmp n m) n m d e vs (put_field n d vs) (back m n (less m n (and-left (is_before m n) rest h))) refl
    ∙ ap (field m e) (put_last n d vs (and-right (is_before m n) rest h))

in_middle : (f : Name → Bool) (ks : List Name) (n : Name) (ns : List Name) → list_all f (ks ++ n ∷ ns) ≡ true → f n ≡ true
in_middle f [] n ns h = and-left (f n) (list_all f ns) h
in_middle f (k ∷ ks) n ns h = in_middle f ks n ns (and-right (f k) (list_all f (ks ++ n ∷ ns)) h)

all_before : (ks : List Name) (n : Name) (ns : List Name) → are_ordered (ks ++ n ∷ ns) ≡ true → list_all (λ k. is_before k n) ks ≡ true
all_before [] n ns h = refl
all_before (k ∷ ks) n ns h =
    let all = ks ++ n ∷ ns in
    and-both (is_before k n) (list_all (λ k. is_before k n) ks) (in_middle (is_before k) ks n ns (and-left (list_all (is_before k) all) (are_ordered all) h))
    (all_before ks n ns (and-right (list_all (is_before k) all) (are_ordered all) h))

behind_others : (vs fs : Fields) → are_ordered (keys_of vs ++ keys_of fs) ≡ true → list_any (λ n. is_among n reserved_names) (keys_of fs) ≡ false
    → some_field_holds is_template fs ≡ false → overlaid vs fs ≡ joined vs fs
behind_others vs no_fields o r t = sym (joined_none vs)
behind_others vs (field n d fs) o r t =
    let own = neither-left (is_among n reserved_names) (list_any (λ n. is_among n reserved_names) (keys_of fs)) r in
    let kept = variable_kept d (neither-left (holds is_template d) (some_field_holds is_template fs) t) in
    let next = joined vs (field n d no_fields) in
    (λ i. overlaid (cond (own i) vs (put_field n (kept i) vs)) fs)
    ∙ ap (λ us. overlaid us fs) (put_last n d vs (all_before (keys_of vs) n (keys_of fs) o))
    ∙ behind_others next fs (subst (λ ns. are_ordered ns ≡ true) (sym (names_joined vs n d (keys_of fs))) o) (neither-right (is_among n reserved_names) (list_any (λ n. is_among n reserved_names) (keys_of fs)) r)
    (neither-right (holds is_template d) (some_field_holds is_template fs) t)
    ∙ joined_last vs n d fs

pub variables_kept : (fs : Fields) → are_ordered (keys_of fs) ≡ true → list_any (λ n. is_among n reserved_names) (keys_of fs) ≡ false
    → some_field_holds is_template fs ≡ false → overlaid no_fields fs ≡ fs
variables_kept fs o r t = behind_others no_fields fs o r t
