-- The entries of a list.
use Rattle.std.proofs.Common.{◌≡◌, ℕ, zero, suc, List, [], ◌∷◌, length, nat_lt, Option, Some, None, IfSome, is_some, option_map, get_or, slice_get, refl, sym, ap, ◌∙◌}
use Rattle.std.proofs.lemmas.Bool.{ltb-true, ltb-false}
use Rattle.std.proofs.lemmas.Option.{slice_get_past, slice_get_read}
use denote.Ref.{Bor}
use Rattle.pb_value.specs.View.{view, items_view}
use Rattle.pb_value.specs.declared.value.Value.{Value}
use Rattle.pb_runner.specs.Scripts.{item_at}

item_at-view : (vs : List Value) (n : ℕ) → item_at n (items_view vs) ≡ option_map view (slice_get vs n)
item_at-view [] n = refl
item_at-view (v ∷ vs) zero = refl
item_at-view (v ∷ vs) (suc n) = item_at-view vs n

-- what a list's look-up finds
pub item_at-found : (r : Option (Bor Value)) (vs : List Value) (n : ℕ) → is_some r ≡ nat_lt n (length vs) → IfSome r (λ x. x.now ≡ get_or vs n x.now) → option_map (λ x. view x.now) r ≡ item_at n (items_view vs)
item_at-found None vs n e h = sym (item_at-view vs n ∙ ap (option_map view) (slice_get_past vs n (ltb-false n (length vs) (sym e))))
item_at-found (Some x) vs n e h = sym (item_at-view vs n ∙ ap (option_map view) (slice_get_read vs (length vs) n x.now refl (ltb-true n (length vs) (sym e)) h))
