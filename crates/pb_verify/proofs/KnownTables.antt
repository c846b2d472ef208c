-- What is kept of hosts' variables is what the verdict's table says of them.
use Rattle.std.proofs.Common.{◌≡◌, ◌<◌, ℕ, List, Result, Ok, Err, IfOk, Some, BTreeMap, String, Global, length, get_or, refl, sym, ap, subst, ◌∙◌, arith, true≢false}
use Rattle.std.proofs.lemmas.List.{length-map}
use Rattle.std.specs.declared.sync.Arc.{Arc}
use Rattle.pb_semantics.specs.Kind.{Spot, nowhere, spot, slot_at}
use Rattle.pb_language.specs.Expression.{Name}
use Rattle.pb_language.specs.Ordered.{SpotLe}
use Rattle.pb_language.specs.Book.{Book, Registry}
use Rattle.pb_language.specs.Scope.{View, view_of}
use Rattle.pb_kind.specs.KindView.{is_always, kind_view, slots_view}
use Rattle.pb_kind.specs.declared.kind.Kind.{Kind}
use Rattle.pb_kind.specs.declared.kind.Slot.{Slot}
use Rattle.pb_inventory.specs.Inventory.{inventory_view}
use Rattle.pb_inventory.specs.Numbered.{name_of}
use Rattle.pb_inventory.specs.declared.inventory.Inventory as inventory
use Rattle.pb_walks.specs.Agree.{ViewsAgree}
use Rattle.pb_hosts.specs.Tables.{host_names, views_with}
use Rattle.pb_hosts.proofs.Places.{apart_hosts, host_there, view_read}
use Rattle.pb_verify.specs.Known.{HasTable, IsKnownAs, IsTable, known_spot, table_for, table_of, view_at}
use Rattle.pb_verify.specs.declared.checked.Accepted.{Accepted}
use Rattle.pb_verify.specs.declared.verify.Findings.{Findings}

-- a slot that was found, beside what is below it and above it
found_there : (k : Slot Kind) (t : Spot) → SpotLe (spot (is_always k.presence) (kind_view k.kind)) t → SpotLe t (spot (is_always k.presence) (kind_view k.kind)) → IsKnownAs (Some k.kind) t
found_there k nowhere low high = absurd (true≢false (sym low))
found_there k (spot b m) low high = (tt, low.1, high.1)

none_there : (t : Spot) → SpotLe nowhere t → SpotLe t nowhere → t ≡ nowhere
none_there nowhere low high = refl
none_there (spot b m) low high = absurd (true≢false (sym high))

module _ (a : Accepted) (table : HasTable a) (p : ℕ) (n : Name) (m : Arc (BTreeMap (String Global) (Slot Kind)) Global) (lt : p < length (inventory_view a.inventory).hosts) (at : m ≡ get_or a.views.items p m) where
  abbrev name_at : Name
  name_at = name_of (host_names (inventory_view a.inventory)) p

  -- what the table says there, by the name of the host
  known_by_name : known_spot a p n ≡ slot_at n (view_of name_at (table_of a))
  known_by_name = ap (λ o. slot_at n (view_at o (table_of a))) (host_there (λ h. h) (inventory_view a.inventory).hosts p lt)

  kept_by_name : slots_view m.value.entries ≡ view_of name_at (views_with a.inventory a.views.items)
  kept_by_name =
      let size = length-map (inventory_view a.inventory).hosts (λ h. h.name) in
      view_read (host_names (inventory_view a.inventory)) a.views.items p name_at m (apart_hosts a.inventory) (table.each ∙ sym size) (omega (arith, size, lt)) refl at

  pub known_below : SpotLe (slot_at n (slots_view m.value.entries)) (known_spot a p n)
  known_below = rw (kept_by_name, known_by_name) ((table.views.slots name_at).0.at n)

  pub known_above : SpotLe (known_spot a p n) (slot_at n (slots_view m.value.entries))
  known_above = rw (kept_by_name, known_by_name) ((table.views.slots name_at).1.at n)

pub known_found : (k : Slot Kind) (s t : Spot) → spot (is_always k.presence) (kind_view k.kind) ≡ s → SpotLe s t → SpotLe t s → IsKnownAs (Some k.kind) t
known_found k s t f low high = found_there k t (subst (λ x. SpotLe x t) (sym f) low) (subst (λ x. SpotLe t x) (sym f) high)

pub known_nowhere : (s t : Spot) → nowhere ≡ s → SpotLe s t → SpotLe t s → t ≡ nowhere
known_nowhere s t f low high = none_there t (subst (λ x. SpotLe x t) (sym f) low) (subst (λ x. SpotLe t x) (sym f) high)

-- what is told with what was found is a table
pub are_told : {E : Type 0} (ms : Registry) (i j : inventory.Inventory) (b : Book) (vs : List View) (r : Result Findings E) → j ≡ i → ViewsAgree vs (table_for ms (inventory_view i) b)
    → IfOk r (λ f. length f.views.items ≡ length (inventory_view j).hosts) → IfOk r (λ f. views_with j f.views.items ≡ vs) → IfOk r (λ f. IsTable ms i b f.views.items)
are_told ms i j b vs (Ok f) same agree each views = record {
  each = each ∙ ap (λ k. length (inventory_view k).hosts) same;
  views = subst (λ us. ViewsAgree us (table_for ms (inventory_view i) b)) (sym (ap (λ k. views_with k f.views.items) (sym same) ∙ views)) agree;
}
are_told ms i j b vs (Err e) same agree each views = tt
