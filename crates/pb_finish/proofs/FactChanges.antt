-- What the facts of an answer set, with their prefix and without it.
use denote.Ref.{Bor}
use Rattle.std.proofs.Common.{◌≡◌, ◌==◌, ℕ, List, [], ◌∷◌, ◌++◌, Bool, true, false, ◌&&◌, cond, nat_eq, bytes_eq, Option, Some, None, option_map, length, take, drop, String, Global, string_bytes, string_cmp, nat_cmp, Less, Equal, Greater, refl, sym, ap, ◌∙◌, subst}
use Rattle.std.proofs.lemmas.Cmp.{nat_list_cmp_total}
use Rattle.std.specs.Cmp.{nat_cmp_is}
use Rattle.std.specs.Cmp.Lexicographic.{pointwise, slice_cmp}
use Rattle.std.specs.List.{starts_with, AllByRecursion}
use Rattle.std.specs.Map.{keys_of}
use Rattle.std.specs.List.Sorted.{IsStrictlySortedBy}
use Rattle.std.specs.Option.{MatchOption}
use Rattle.std.specs.Ordering.{ordering_reverse}
use Rattle.std.specs.Str.{IsCharBoundary}
use Rattle.std.specs.Str.Pattern.{FindsTextPrefix, StripsPrefix}
use Rattle.std.proofs.lemmas.Bool.{eqb-true}
use Rattle.std.proofs.lemmas.Str.Pattern.{starts_text}
use Rattle.pb_semantics.specs.Data.{Data, Fields, rec, no_fields, field_value}
use Rattle.pb_semantics.specs.Kind.{Spot, recs, spot}
use Rattle.pb_language.specs.Cases.{after_prefix, fact_prefix}
use Rattle.pb_language.specs.Expression.{Name}
use Rattle.pb_language.specs.Give.{stripped, stripped_with, facts_of}
use Rattle.pb_language.specs.Start.{Changes, no_changes, change}
use Rattle.pb_value.specs.View.{view}
use Rattle.pb_finish.specs.declared.assignments.Assignment.{Assignment}
use Rattle.pb_finish.specs.Results.{changes_view}
use Rattle.pb_kind.specs.KindView.{slots_view}
use Rattle.pb_kind.specs.declared.kind.Kind.{Kind}
use Rattle.pb_kind.specs.declared.kind.Slot.{Slot}
use Rattle.pb_finish.specs.Facts.{named_in, fields_in, facts_when, put_fact}

pub facts-when : (s : Spot) (o : Option Data) → facts_of s o ≡ facts_when (named_in s) (fields_in o)
facts-when (spot a (recs ss)) (Some (rec fs)) = refl
facts-when s o = refl

-- what follows a prefix is there where the name begins with it
short_step : (q r : Bool) (x : Option Name) → cond (q && true) (cond r x None) None ≡ cond (q && r) x None
short_step true r x = refl
short_step false r x = refl

after_prefix-starts : (p n : Name) → after_prefix p n ≡ cond (starts_with (λ a b. a == b) n p) (Some (drop (length p) n)) None
after_prefix-starts [] n = refl
after_prefix-starts (a ∷ p) [] = refl
after_prefix-starts (a ∷ p) (b ∷ n) =
    ap (λ x. cond (nat_eq a b && true) x None) (after_prefix-starts p n)
    ∙ short_step (nat_eq a b) (pointwise (λ a b. a == b) p (take (length p) n)) (Some (drop (length p) n))

abbrev pub IsStripped : Name → Option (Bor (List ℕ)) → Type 0
IsStripped n r = MatchOption r (FindsTextPrefix fact_prefix n None) (λ x. StripsPrefix (FindsTextPrefix fact_prefix) n x.now)

pub after_prefix-stripped : (n : Name) (r : Option (Bor (List ℕ))) → IsStripped n r → option_map (λ x. x.now) r ≡ after_prefix fact_prefix n
after_prefix-stripped n None h =
    let other : false ≡ starts_with (λ a b. a == b) n fact_prefix = starts_text false fact_prefix n h in
    ap (λ q. cond q (Some (drop (length fact_prefix) n)) None) other ∙ sym (after_prefix-starts fact_prefix n)
after_prefix-stripped n (Some x) h =
    let starts : true ≡ starts_with (λ a b. a == b) n fact_prefix = starts_text true fact_prefix n (h.0, h.1, subst (IsCharBoundary n) (sym h.1.0) h.1.2) in
    ap Some (h.2 ∙ ap (λ k. drop k n) h.1.0) ∙ ap (λ q. cond q (Some (drop (length fact_prefix) n)) None) starts ∙ sym (after_prefix-starts fact_prefix n)

-- names with one prefix keep their order
same_byte : (c : ℕ) (a b : Name) → slice_cmp nat_cmp (c ∷ a) (c ∷ b) ≡ slice_cmp nat_cmp a b
same_byte c a b = rw (← nat_cmp_is c c Equal refl) refl

begun : (k c : ℕ) (o : Option Name) (x : Name) → cond (bytes_eq (k ∷ []) (c ∷ [])) o None ≡ Some x → (k ≡ c) × (o ≡ Some x)
begun k c o x h = begun_at (nat_eq k c) refl h where
  begun_at : (q : Bool) → nat_eq k c ≡ q → cond (q && true) o None ≡ Some x → (k ≡ c) × (o ≡ Some x)
  begun_at true e h = (eqb-true k c e, h)
  begun_at false e h = absurd (cc)

pub prefix-keeps : (p a b x y : Name) → after_prefix p a ≡ Some x → after_prefix p b ≡ Some y → slice_cmp nat_cmp a b ≡ slice_cmp nat_cmp x y
prefix-keeps [] a b x y h i = let e : a ≡ x = cc in let f : b ≡ y = cc in rw (e, f) refl
prefix-keeps (k ∷ p) [] b x y h i = absurd (cc)
prefix-keeps (k ∷ p) (c ∷ a) [] x y h i = absurd (cc)
prefix-keeps (k ∷ p) (c ∷ a) (d ∷ b) x y h i =
    let one = begun k c (after_prefix p a) x h in
    let two = begun k d (after_prefix p b) y i in
    rw (← one.0, ← two.0) (same_byte k a b ∙ prefix-keeps p a b x y one.1 two.1)

-- a fact of a name above those before it goes last
put_above : (n m : Name) (b x : Option Name) (v y : Option Data) (fs : Fields) → slice_cmp nat_cmp n m ≡ Greater → b ≡ after_prefix fact_prefix n → x ≡ after_prefix fact_prefix m
    → stripped_with x y (put_fact b v fs) ≡ put_fact b v (stripped_with x y fs)
put_above n m None x v y fs above is told = refl
put_above n m (Some b) None v y fs above is told = refl
put_above n m (Some b) (Some x) None y fs above is told = refl
put_above n m (Some b) (Some x) (Some v) None fs above is told = refl
put_above n m (Some b) (Some x) (Some v) (Some y) fs above is told =
    let over : slice_cmp nat_cmp b x ≡ Greater = sym (prefix-keeps fact_prefix n m b x (sym is) (sym told)) ∙ above in
    rw over refl

put_alone : (b : Option Name) (v : Option Data) → stripped_with b v no_fields ≡ put_fact b v no_fields
put_alone None v = refl
put_alone (Some b) None = refl
put_alone (Some b) (Some v) = refl

abbrev pub Named : Type 0
Named = String Global × Slot Kind

below_middle : (first : Named) (es : List Named) (e : Named) (more : List Named) → AllByRecursion (λ y. string_cmp first.0 y ≡ Less) (keys_of (es ++ e ∷ more)) → string_cmp first.0 e.0 ≡ Less
below_middle first [] e more h = h.0
below_middle first (x ∷ es) e more h = below_middle first es e more h.1

pub stripped-last : (done : List Named) (e : Named) (more : List Named) (fs : Fields) → IsStrictlySortedBy string_cmp (keys_of (done ++ e ∷ more))
    → stripped (slots_view (done ++ e ∷ [])) fs ≡ put_fact (after_prefix fact_prefix (string_bytes e.0)) (field_value (string_bytes e.0) fs) (stripped (slots_view done) fs)
unfolding IsStrictlySortedBy
stripped-last [] e more fs h = put_alone (after_prefix fact_prefix (string_bytes e.0)) (field_value (string_bytes e.0) fs)
stripped-last (d ∷ done) e more fs h =
    let b = after_prefix fact_prefix (string_bytes e.0) in
    let x = after_prefix fact_prefix (string_bytes d.0) in
    let above : slice_cmp nat_cmp (string_bytes e.0) (string_bytes d.0) ≡ Greater =
    nat_list_cmp_total.antisymm (string_bytes e.0) (string_bytes d.0) ∙ ap ordering_reverse (below_middle d done e more h.0) in
    ap (stripped_with x (field_value (string_bytes d.0) fs)) (stripped-last done e more fs h.1)
    ∙ put_above (string_bytes e.0) (string_bytes d.0) b x (field_value (string_bytes e.0) fs) (field_value (string_bytes d.0) fs) (stripped (slots_view done) fs) above refl refl

-- changes one after the other
abbrev pub append_changes : Changes → Changes → Changes
append_changes no_changes r = r
append_changes (change n o q) r = change n o (append_changes q r)

pub append_changes-none : (q : Changes) → append_changes q no_changes ≡ q
append_changes-none no_changes = refl
append_changes-none (change n o q) = ap (change n o) (append_changes-none q)

pub append_changes-push : (cs : List Assignment) (c : Assignment) (r : Changes)
    → append_changes (changes_view (cs ++ c ∷ [])) r ≡ append_changes (changes_view cs) (change (string_bytes c.name) (option_map view c.value) r)
append_changes-push [] c r = refl
append_changes-push (d ∷ cs) c r = ap (change (string_bytes d.name) (option_map view d.value)) (append_changes-push cs c r)
