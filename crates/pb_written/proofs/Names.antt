-- Names that are all among others: those of fields, and of what is set.
use Rattle.std.proofs.Common.{◌≡◌, List, [], ◌∷◌, ◌++◌, Bool, true, false, ◌||◌, bytes_eq, refl, sym, ap, subst, ◌∙◌}
use Rattle.std.specs.Ordering.{nat_cmp, match_ordering, is_eq}
use Rattle.std.specs.Cmp.Lexicographic.{slice_cmp}
use Rattle.std.specs.declared.cmp.Ordering.{Ordering}
use Rattle.std.specs.declared.cmp.Ordering.TheVariants.{Less, Equal, Greater}
use Rattle.std.proofs.lemmas.Map.Text.{is_eq-slice_cmp}
use Rattle.pb_semantics.specs.Data.{Data, Fields, no_fields, field, put_field, put_all}
use Rattle.pb_semantics.specs.Keeps.{is_among}
use Rattle.pb_semantics.proofs.Bools.{untrue, or-left, or-right}
use Rattle.pb_semantics.proofs.Names.{same_name, own_name}
use Rattle.pb_language.specs.Expression.{Name}
use Rattle.pb_language.specs.TaskForm.{keys_of}
use Rattle.pb_reads.proofs.Reached.{among-first, among-second}

-- each of the second names is among the first
abbrev pub AllAmong : List Name → List Name → Type 0
AllAmong ns [] = Unit {0}
AllAmong ns (m ∷ ms) = (is_among m ns ≡ true) × AllAmong ns ms

pub through : (n : Name) (ns ms : List Name) → AllAmong ns ms → is_among n ms ≡ true → is_among n ns ≡ true
through n ns [] all h = untrue h
through n ns (m ∷ ms) all h = by (bytes_eq n m) refl (through n ns ms all.1) h where
  by : (q : Bool) → bytes_eq n m ≡ q → (is_among n ms ≡ true → is_among n ns ≡ true) → q || is_among n ms ≡ true → is_among n ns ≡ true
  by true same rest i = rw (same_name n m same) all.0
  by false same rest i = rest i

all_of : (ns ms : List Name) → ((n : Name) → is_among n ms ≡ true → is_among n ns ≡ true) → AllAmong ns ms
all_of ns [] f = tt
all_of ns (m ∷ ms) f = (f m (or-left (bytes_eq m m) (is_among m ms) (own_name m)), all_of ns ms (λ n h. f n (or-right (bytes_eq n m) (is_among n ms) h)))

pub all_first : (ns ms : List Name) → AllAmong (ns ++ ms) ns
all_first ns ms = all_of (ns ++ ms) ns (λ n h. among-first n ns ms h)

pub all_second : (ns ms : List Name) → AllAmong (ns ++ ms) ms
all_second ns ms = all_of (ns ++ ms) ms (λ n h. among-second n ns ms h)

pub put_among : (ns : List Name) (n : Name) (d : Data) (fs : Fields) → is_among n ns ≡ true → AllAmong ns (keys_of fs) → AllAmong ns (keys_of (put_field n d fs))
put_among ns n d no_fields h all = (h, tt)
put_among ns n d (field m e fs) h all = by (slice_cmp nat_cmp n m) (put_among ns n d fs h all.1) where
  by : (o : Ordering) → AllAmong ns (keys_of (put_field n d fs)) → AllAmong ns (keys_of (match_ordering o (field n d (field m e fs)) (field m d fs) (field m e (put_field n d fs))))
  by Less rest = (h, all)
  by Equal rest = all
  by Greater rest = (all.0, rest)

-- a field that was put is there, and so are those that were there
put_there : (n : Name) (d : Data) (fs : Fields) → is_among n (keys_of (put_field n d fs)) ≡ true
put_there n d no_fields = or-left (bytes_eq n n) false (own_name n)
put_there n d (field m e fs) = by (slice_cmp nat_cmp n m) refl (put_there n d fs) where
  by : (o : Ordering) → slice_cmp nat_cmp n m ≡ o → is_among n (keys_of (put_field n d fs)) ≡ true → is_among n (keys_of (match_ordering o (field n d (field m e fs)) (field m d fs) (field m e (put_field n d fs)))) ≡ true
  by Less is rest = or-left (bytes_eq n n) (is_among n (m ∷ keys_of fs)) (own_name n)
  by Equal is rest = or-left (bytes_eq n m) (is_among n (keys_of fs)) (sym (is_eq-slice_cmp n m) ∙ ap is_eq is)
  by Greater is rest = or-right (bytes_eq n m) (is_among n (keys_of (put_field n d fs))) rest

put_still : (n m : Name) (d : Data) (fs : Fields) → is_among n (keys_of fs) ≡ true → is_among n (keys_of (put_field m d fs)) ≡ true
put_still n m d no_fields h = untrue h
put_still n m d (field k e fs) h = by (slice_cmp nat_cmp m k) (put_still n m d fs) where
  later : (q : Bool) → (is_among n (keys_of fs) ≡ true → is_among n (keys_of (put_field m d fs)) ≡ true) → q || is_among n (keys_of fs) ≡ true → q || is_among n (keys_of (put_field m d fs)) ≡ true
  later true rest i = refl
  later false rest i = rest i

  by : (o : Ordering) → (is_among n (keys_of fs) ≡ true → is_among n (keys_of (put_field m d fs)) ≡ true) → is_among n (keys_of (match_ordering o (field m d (field k e fs)) (field k d fs) (field k e (put_field m d fs)))) ≡ true
  by Less rest = or-right (bytes_eq n m) (is_among n (k ∷ keys_of fs)) h
  by Equal rest = h
  by Greater rest = later (bytes_eq n k) rest h

all_still : (n : Name) (fs vars : Fields) → is_among n (keys_of vars) ≡ true → is_among n (keys_of (put_all fs vars)) ≡ true
all_still n no_fields vars h = h
all_still n (field m d fs) vars h = all_still n fs (put_field m d vars) (put_still n m d vars h)

pub all_there : (n : Name) (fs vars : Fields) → is_among n (keys_of fs) ≡ true → is_among n (keys_of (put_all fs vars)) ≡ true
all_there n no_fields vars h = untrue h
all_there n (field m d fs) vars h = by (bytes_eq n m) refl (all_there n fs (put_field m d vars)) h where
  by : (q : Bool) → bytes_eq n m ≡ q → (is_among n (keys_of fs) ≡ true → is_among n (keys_of (put_all fs (put_field m d vars))) ≡ true) → q || is_among n (keys_of fs) ≡ true → is_among n (keys_of (put_all fs (put_field m d vars))) ≡ true
  by true same rest i = all_still n fs (put_field m d vars) (subst (λ k. is_among k (keys_of (put_field m d vars)) ≡ true) (sym (same_name n m same)) (put_there m d vars))
  by false same rest i = rest i
