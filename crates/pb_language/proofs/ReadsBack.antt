-- A document of an inventory, printed, is read back as that document.
use Rattle.std.proofs.Common.{◌≡◌, List, [], ◌∷◌, true, false, not, ◌&&◌, cond, Some, None, bytes_eq, refl, sym, ap, ◌∙◌, subst}
use Rattle.std.specs.Ordering.{nat_cmp, match_ordering}
use Rattle.std.specs.declared.cmp.Ordering.{Ordering}
use Rattle.std.specs.declared.cmp.Ordering.TheVariants.{Less, Equal, Greater}
use Rattle.std.specs.Cmp.Lexicographic.{slice_cmp}
use Rattle.std.proofs.lemmas.Map.Text.{is_eq-slice_cmp}
use Rattle.pb_semantics.specs.Data.{Data, Fields, text, no_fields, field, field_value, put_field}
use Rattle.pb_semantics.proofs.Bools.{and-left, and-right, not-true}
use Rattle.pb_semantics.proofs.PutSlots.{equal_name}
use Rattle.pb_language.specs.Expression.{Name}
use Rattle.pb_language.specs.Written.{Written, document, group_before, group_in, groups_in, hostvars_in, is_group_name, name_before, named_group, names_in, written}
use Rattle.pb_language.specs.Printed.{DocumentsAreReadBack, are_printable, meta_key, printed_group, printed_groups, printed_meta, printed_names}

names_in-printed : (ns : List Name) → names_in (printed_names ns) ≡ Some ns
names_in-printed [] = refl
names_in-printed (n ∷ ns) = ap (name_before (text n)) (names_in-printed ns)

group_in-printed : (w : Written) → group_in w.name (printed_group w) ≡ Some w
group_in-printed w =
    ap (λ hs. written w.name hs (Some w.variables) (names_in (printed_names w.children))) (names_in-printed w.hosts)
    ∙ ap (λ cs. written w.name (Some w.hosts) (Some w.variables) cs) (names_in-printed w.children)

named_group-printed : (w : Written) → is_group_name w.name ≡ true → named_group w.name (printed_group w) ≡ Some w
named_group-printed w h = ap (λ q. cond q (group_in w.name (printed_group w)) None) h ∙ group_in-printed w

groups_in-printed : (ws : List Written) → are_printable ws ≡ true → groups_in (printed_groups ws) ≡ Some ws
groups_in-printed [] h = refl
groups_in-printed (w ∷ ws) h =
    let rest = groups_in (printed_groups ws) in
    let others = not (bytes_eq w.name meta_key) && are_printable ws in
    let more : others ≡ true = and-right (is_group_name w.name) others h in
    let other : bytes_eq w.name meta_key ≡ false = not-true (bytes_eq w.name meta_key) (and-left (not (bytes_eq w.name meta_key)) (are_printable ws) more) in
    ap (λ q. cond q rest (group_before (named_group w.name (printed_group w)) rest)) other
    ∙ ap (λ g. group_before g rest) (named_group-printed w (and-left (is_group_name w.name) others h))
    ∙ ap (group_before (Some w)) (groups_in-printed ws (and-right (not (bytes_eq w.name meta_key)) (are_printable ws) more))

groups_in-put_step : (o : Ordering) (n : Name) (d x : Data) (fs vs : Fields) → slice_cmp nat_cmp meta_key n ≡ o → groups_in vs ≡ groups_in fs
    → groups_in (match_ordering o (field meta_key x (field n d fs)) (field n x fs) (field n d vs)) ≡ groups_in (field n d fs)
groups_in-put_step Less n d x fs vs e h = refl
groups_in-put_step Equal n d x fs vs e h =
    let P : Name → Type 0 = λ k. bytes_eq k meta_key ≡ true in
    let t : bytes_eq n meta_key ≡ true = subst P (equal_name meta_key n e) refl in
    ap (λ q. cond q (groups_in fs) (group_before (named_group n x) (groups_in fs))) t
    ∙ sym (ap (λ q. cond q (groups_in fs) (group_before (named_group n d) (groups_in fs))) t)
groups_in-put_step Greater n d x fs vs e h = ap (λ r. cond (bytes_eq n meta_key) r (group_before (named_group n d) r)) h

groups_in-put : (x : Data) (fs : Fields) → groups_in (put_field meta_key x fs) ≡ groups_in fs
groups_in-put x no_fields = refl
groups_in-put x (field n d fs) = groups_in-put_step (slice_cmp nat_cmp meta_key n) n d x fs (put_field meta_key x fs) refl (groups_in-put x fs)

field_value-put_step : (o : Ordering) (n : Name) (d x : Data) (fs vs : Fields) → slice_cmp nat_cmp meta_key n ≡ o → field_value meta_key vs ≡ Some x
    → field_value meta_key (match_ordering o (field meta_key x (field n d fs)) (field n x fs) (field n d vs)) ≡ Some x
field_value-put_step Less n d x fs vs e h = refl
field_value-put_step Equal n d x fs vs e h =
    let P : Name → Type 0 = λ k. bytes_eq meta_key k ≡ true in
    ap (λ q. cond q (Some x) (field_value meta_key fs)) (subst P (equal_name meta_key n e) refl)
field_value-put_step Greater n d x fs vs e h =
    let other : bytes_eq meta_key n ≡ false = sym (is_eq-slice_cmp meta_key n) ∙ rw e refl in
    ap (λ q. cond q (Some d) (field_value meta_key vs)) other ∙ h

field_value-put : (x : Data) (fs : Fields) → field_value meta_key (put_field meta_key x fs) ≡ Some x
field_value-put x no_fields = refl
field_value-put x (field n d fs) = field_value-put_step (slice_cmp nat_cmp meta_key n) n d x fs (put_field meta_key x fs) refl (field_value-put x fs)

pub documents_are_read_back : DocumentsAreReadBack
documents_are_read_back d h =
    let x = printed_meta d.hostvars in
    let fs = printed_groups d.groups in
    let read = hostvars_in (field_value meta_key (put_field meta_key x fs)) in
    ap (λ g. document g read) (groups_in-put x fs ∙ groups_in-printed d.groups h)
    ∙ ap (λ v. document (Some d.groups) (hostvars_in v)) (field_value-put x fs)
