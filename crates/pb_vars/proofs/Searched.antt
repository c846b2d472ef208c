-- What a binary search among names in their order says.
use denote.Ref.{Bor}
use Rattle.std.proofs.Common.{◌≡◌, inl, inr, ℕ, ◌≤◌, List, [], ◌∷◌, length, get_or, slice_get, Bool, false, bytes_eq, Option, Some, None, Result, Ok, Err, IfSome, nat_cmp, refl, sym, ap, ◌∙◌, arith}
use Rattle.std.specs.Cmp.Lexicographic.{slice_cmp}
use Rattle.std.specs.List.Sorted.{IsBinarySearchResult, IsNonDecreasingBy}
use Rattle.std.specs.Ordering.{is_eq, ordering_index, ordering_reverse}
use Rattle.std.specs.Result.{result_ok}
use Rattle.std.specs.declared.cmp.Ordering.{Ordering}
use Rattle.std.specs.declared.cmp.Ordering.TheVariants.{Less, Equal, Greater}
use Rattle.std.specs.Option.{option_copied}
use Rattle.std.specs.Slice.{IsItemAt}
use Rattle.std.proofs.lemmas.Option.{slice_get_past, slice_get_read}
use Rattle.std.proofs.lemmas.Bool.{cases_lt, ltb-false, ltb-true}
use Rattle.std.proofs.lemmas.Cmp.{nat_list_cmp_total}
use Rattle.std.proofs.lemmas.Map.Text.{is_eq-slice_cmp}
use Rattle.pb_semantics.proofs.Names.{same_name}
use Rattle.pb_language.specs.Expression.{Name}
use Rattle.pb_language.specs.Expansion.{part_named}
use Rattle.pb_template.specs.declared.entry.Entry.{Entry}
use Rattle.pb_vars.specs.Borrowed.{borrowed_view, entry_name}
use Rattle.pb_vars.specs.Merging.{IsOrdered}
use Rattle.pb_vars.proofs.Ordered.{less-turned, rising, not-there}

pub equal-names : (n m : Name) → slice_cmp nat_cmp n m ≡ Equal → n ≡ m
equal-names n m h = same_name n m (sym (is_eq-slice_cmp n m) ∙ ap is_eq h)

pub greater-differs : (n m : Name) → slice_cmp nat_cmp n m ≡ Greater → bytes_eq m n ≡ false
greater-differs n m h = sym (is_eq-slice_cmp m n) ∙ ap is_eq (nat_list_cmp_total.antisymm m n ∙ ap ordering_reverse h)

-- two names in their order, compared with a third
in-step : (o : Ordering) (n m k : Name) → slice_cmp nat_cmp n k ≡ o → slice_cmp nat_cmp n m ≡ Less → ordering_index o ≤ ordering_index (slice_cmp nat_cmp m k)
in-step Less n m k e l = omega arith
in-step Equal n m k e l =
    let turned : slice_cmp nat_cmp m k ≡ Greater = ap (slice_cmp nat_cmp m) (sym (equal-names n k e)) ∙ nat_list_cmp_total.antisymm m n ∙ ap ordering_reverse l in
    rw turned (omega arith)
in-step Greater n m k e l =
    let below : slice_cmp nat_cmp k n ≡ Less = nat_list_cmp_total.antisymm k n ∙ ap ordering_reverse e in
    let turned : slice_cmp nat_cmp m k ≡ Greater = nat_list_cmp_total.antisymm m k ∙ ap ordering_reverse (nat_list_cmp_total.trans k n m below l) in
    rw turned (omega arith)

same-place : (f : ℕ → ℕ) (i j : ℕ) → i ≤ j → j ≤ i → f i ≤ f j
same-place f i j l m = let e : i ≡ j = omega (arith, l, m) in rw e (omega arith)

rises : (es : List (Bor Entry)) (n : Name) → IsOrdered (borrowed_view es) → IsNonDecreasingBy (λ e. ordering_index (slice_cmp nat_cmp (entry_name e) n)) es
rises es n h i j d l m = elim (cases_lt i j) [
  | inl less ↦ in-step (slice_cmp nat_cmp (entry_name (get_or es i d)) n) (entry_name (get_or es i d)) (entry_name (get_or es j d)) n refl (rising es i j d h less m)
  | inr least ↦ same-place (λ k. ordering_index (slice_cmp nat_cmp (entry_name (get_or es k d)) n)) i j l least
]

-- it is at the place that is found, or nowhere
pub place-found : (es : List (Bor Entry)) (n : Name) (r : Result ℕ ℕ) → IsBinarySearchResult (λ e. slice_cmp nat_cmp (entry_name e) n) es r
    → IfSome (result_ok r) (λ i. (d : Bor Entry) → entry_name (get_or es i d) ≡ n)
place-found es n (Ok i) h = λ d. equal-names (entry_name (get_or es i d)) n (h d)
place-found es n (Err i) h = tt

pub place-missing : (es : List (Bor Entry)) (n : Name) (r : Result ℕ ℕ) → IsOrdered (borrowed_view es) → IsBinarySearchResult (λ e. slice_cmp nat_cmp (entry_name e) n) es r
    → result_ok r ≡ None → part_named n (borrowed_view es) ≡ None
place-missing es n (Ok i) o h e = absurd cc
place-missing [] n (Err i) o h e = refl
place-missing (x ∷ es) n (Err i) o h e =
    not-there n (x ∷ es) x (λ k l. elim (cases_lt k i) [
      | inl less ↦ less-turned (entry_name (get_or (x ∷ es) k x)) n ((h (rises (x ∷ es) n o)).0 k x (omega arith) less)
      | inr least ↦ greater-differs (entry_name (get_or (x ∷ es) k x)) n ((h (rises (x ∷ es) n o)).1 k x least l)
    ])

-- the element at a place, or none behind the end
pub copied-there : (bs : List Bool) (i : ℕ) (r : Option (Bor Bool)) → IsItemAt bs i r → option_copied r ≡ slice_get bs i
copied-there bs i None h = sym (slice_get_past bs i (ltb-false i (length bs) (sym h.0)))
copied-there bs i (Some t) h = sym (slice_get_read bs (length bs) i t.now refl (ltb-true i (length bs) (sym h.0)) h.1)
