-- Fields that are put one after the other.
use Rattle.std.proofs.Common.{◌≡◌, false, bytes_eq, nat_cmp, refl, sym, ap, ◌∙◌}
use Rattle.std.specs.Ordering.{ordering_reverse}
use Rattle.std.specs.declared.cmp.Ordering.{Ordering}
use Rattle.std.specs.declared.cmp.Ordering.TheVariants.{Less, Equal, Greater}
use Rattle.std.specs.Cmp.{Equal-is}
use Rattle.std.specs.Cmp.Lexicographic.{slice_cmp}
use Rattle.std.proofs.lemmas.Cmp.{nat_list_cmp_total}
use Rattle.std.proofs.lemmas.Map.Text.{is_eq-slice_cmp}
use Rattle.pb_semantics.specs.Data.{Data, Fields, no_fields, field, put_field}
use Rattle.pb_semantics.proofs.Bools.{true-false}
use Rattle.pb_semantics.proofs.Names.{own_name}
use Rattle.pb_semantics.proofs.PutSlots.{equal_name}
use Rattle.pb_language.specs.Expression.{Name}

turned : (n m : Name) → slice_cmp nat_cmp n m ≡ Less → slice_cmp nat_cmp m n ≡ Greater
turned n m h = nat_list_cmp_total.antisymm m n ∙ ap ordering_reverse h

turned_back : (n m : Name) → slice_cmp nat_cmp n m ≡ Greater → slice_cmp nat_cmp m n ≡ Less
turned_back n m h = nat_list_cmp_total.antisymm m n ∙ ap ordering_reverse h

own_order : (n : Name) → slice_cmp nat_cmp n n ≡ Equal
own_order n = (Equal-is (slice_cmp nat_cmp n n)).0 (is_eq-slice_cmp n n ∙ own_name n)

-- a field that is put before another, in its place, and behind it
put_before : (n m : Name) (d x : Data) (fs : Fields) → slice_cmp nat_cmp n m ≡ Less
    → put_field n d (field m x fs) ≡ field n d (field m x fs)
put_before n m d x fs h = rw h refl

put_there : (n m : Name) (d x : Data) (fs : Fields) → slice_cmp nat_cmp n m ≡ Equal
    → put_field n d (field m x fs) ≡ field m d fs
put_there n m d x fs h = rw h refl

put_behind : (n m : Name) (d x : Data) (fs : Fields) → slice_cmp nat_cmp n m ≡ Greater
    → put_field n d (field m x fs) ≡ field m x (put_field n d fs)
put_behind n m d x fs h = rw h refl

-- what is put last stands
again_step : (o : Ordering) (n m : Name) (d e x : Data) (fs : Fields) → slice_cmp nat_cmp n m ≡ o
    → put_field n d (put_field n e fs) ≡ put_field n d fs
    → put_field n d (put_field n e (field m x fs)) ≡ put_field n d (field m x fs)
again_step Less n m d e x fs h same =
    ap (put_field n d) (put_before n m e x fs h) ∙ put_there n n d e (field m x fs) (own_order n)
    ∙ sym (put_before n m d x fs h)
again_step Equal n m d e x fs h same =
    ap (put_field n d) (put_there n m e x fs h) ∙ put_there n m d e fs h ∙ sym (put_there n m d x fs h)
again_step Greater n m d e x fs h same =
    ap (put_field n d) (put_behind n m e x fs h) ∙ put_behind n m d x (put_field n e fs) h
    ∙ ap (field m x) same ∙ sym (put_behind n m d x fs h)

pub put_again : (n : Name) (d e : Data) (fs : Fields)
    → put_field n d (put_field n e fs) ≡ put_field n d fs
put_again n d e no_fields = put_there n n d e no_fields (own_order n)
put_again n d e (field m x fs) =
    again_step (slice_cmp nat_cmp n m) n m d e x fs refl (put_again n d e fs)

-- of two names n is the lower one, and a field of x stands first
module _ (n m x : Name) (d e y : Data) (fs : Fields) (lower : slice_cmp nat_cmp n m ≡ Less)
    (same : put_field n d (put_field m e fs) ≡ put_field m e (put_field n d fs)) where
  higher : slice_cmp nat_cmp m n ≡ Greater
  higher = turned n m lower

  -- m's comes behind the first one, and n's where its order says
  n_second : (o : Ordering) → slice_cmp nat_cmp n x ≡ o → slice_cmp nat_cmp m x ≡ Greater
      → put_field n d (put_field m e (field x y fs)) ≡ put_field m e (put_field n d (field x y fs))
  n_second Less h g =
      ap (put_field n d) (put_behind m x e y fs g) ∙ put_before n x d y (put_field m e fs) h
      ∙ sym (ap (put_field m e) (put_before n x d y fs h) ∙ put_behind m n e d (field x y fs) higher
      ∙ ap (field n d) (put_behind m x e y fs g))
  n_second Equal h g =
      ap (put_field n d) (put_behind m x e y fs g) ∙ put_there n x d y (put_field m e fs) h
      ∙ sym (ap (put_field m e) (put_there n x d y fs h) ∙ put_behind m x e d fs g)
  n_second Greater h g =
      ap (put_field n d) (put_behind m x e y fs g) ∙ put_behind n x d y (put_field m e fs) h
      ∙ ap (field x y) same
      ∙ sym (ap (put_field m e) (put_behind n x d y fs h) ∙ put_behind m x e y (put_field n d fs) g)

  -- both come before the first one, or m's in its place
  n_first : (fields : Fields) → put_field m e (field x y fs) ≡ field m e fields
      → slice_cmp nat_cmp n x ≡ Less
      → put_field n d (put_field m e (field x y fs)) ≡ put_field m e (put_field n d (field x y fs))
  n_first fields h i =
      ap (put_field n d) h ∙ put_before n m d e fields lower
      ∙ sym (ap (put_field m e) (put_before n x d y fs i) ∙ put_behind m n e d (field x y fs) higher
      ∙ ap (field n d) h)

  swapped : (o : Ordering) → slice_cmp nat_cmp m x ≡ o
      → put_field n d (put_field m e (field x y fs)) ≡ put_field m e (put_field n d (field x y fs))
  swapped Less h =
      n_first (field x y fs) (put_before m x e y fs h) (nat_list_cmp_total.trans n m x lower h)
  swapped Equal h =
      let name = equal_name m x h in
      n_first fs (put_there m x e y fs h ∙ ap (λ k. field k e fs) (sym name))
      (ap (slice_cmp nat_cmp n) (sym name) ∙ lower)
  swapped Greater h = n_second (slice_cmp nat_cmp n x) refl h

lower_first : (n m : Name) (d e : Data) (fs : Fields) → slice_cmp nat_cmp n m ≡ Less
    → put_field n d (put_field m e fs) ≡ put_field m e (put_field n d fs)
lower_first n m d e no_fields h =
    put_before n m d e no_fields h ∙ sym (put_behind m n e d no_fields (turned n m h))
lower_first n m d e (field x y fs) h =
    swapped n m x d e y fs h (lower_first n m d e fs h) (slice_cmp nat_cmp m x) refl

by_order : (o : Ordering) (n m : Name) (d e : Data) (fs : Fields) → slice_cmp nat_cmp n m ≡ o
    → bytes_eq n m ≡ false → put_field n d (put_field m e fs) ≡ put_field m e (put_field n d fs)
by_order Less n m d e fs h apart = lower_first n m d e fs h
by_order Equal n m d e fs h apart =
    true-false (bytes_eq n m) (ap (bytes_eq n) (sym (equal_name n m h)) ∙ own_name n) apart
by_order Greater n m d e fs h apart = sym (lower_first m n e d fs (turned_back n m h))

-- it makes no difference in which order two fields are put
pub put_both : (n m : Name) (d e : Data) (fs : Fields) → bytes_eq n m ≡ false
    → put_field n d (put_field m e fs) ≡ put_field m e (put_field n d fs)
put_both n m d e fs apart = by_order (slice_cmp nat_cmp n m) n m d e fs refl apart
