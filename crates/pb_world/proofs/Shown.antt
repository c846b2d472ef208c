-- What a host sees of other hosts, by their names in an inventory.
use Rattle.std.proofs.Common.{◌≡◌, ◌∙◌, ℕ, ◌+◌, ◌<◌, List, length, true, false, sym, ap, subst, arith}
use Rattle.std.specs.Prelude.{nat_lt}
use Rattle.std.proofs.lemmas.Bool.Decides.{nat_tests}
use Rattle.std.specs.List.{All, list_all}
use Rattle.std.proofs.lemmas.List.{length-map}
use Rattle.std.proofs.lemmas.List.Elements.{All-weaker}
use Rattle.std.proofs.lemmas.List.Sums.{AllPass-from_list_all}
use Rattle.pb_semantics.specs.Data.{no_fields}
use Rattle.pb_semantics.specs.Keeps.{is_among}
use Rattle.pb_language.specs.Expression.{Name}
use Rattle.pb_language.specs.Plays.{is_host}
use Rattle.pb_language.specs.World.{variables_of}
use Rattle.pb_inventory.specs.Graph.{is_in}
use Rattle.pb_inventory.specs.Inventory.{inventory_view}
use Rattle.pb_inventory.specs.Numbered.{are_apart, name_of, named}
use Rattle.pb_inventory.specs.declared.inventory.Inventory.{Inventory}
use Rattle.pb_inventory.proofs.HostAt.{names-of_views}
use Rattle.pb_world.specs.Hosts.{names_of_hosts}
use Rattle.pb_world.specs.Variables.{variables_at}
use Rattle.pb_world.specs.World.{hosts_shown}
use Rattle.pb_world.specs.declared.variables.Variables.{Variables}
use Rattle.pb_world.proofs.HostNames.{among-named, unknown-named, variables-at, variables-unknown}

pub below-all : (count : ℕ) (ps : List ℕ) → list_all (λ i. nat_lt i count) ps ≡ true → All (λ p. p < count) ps
below-all count ps h = All-weaker (λ p. nat_lt p count ≡ true) (λ p. p < count) (λ p e. grind (arith, nat_tests, e)) ps (AllPass-from_list_all (λ i. nat_lt i count) ps h)

module _ (i : Inventory) where
  names-apart : are_apart (names_of_hosts (inventory_view i).hosts) ≡ true
  names-apart = ap are_apart (names-of_views i.hosts.entries) ∙ i.apart

  few : (p : ℕ) → p < length (inventory_view i).hosts → p < length (names_of_hosts (inventory_view i).hosts)
  few p l = subst (λ n. p < n) (sym (length-map (inventory_view i).hosts (λ h. h.name))) l

  all-few : (ms : List ℕ) → list_all (λ k. nat_lt k (length (inventory_view i).hosts)) ms ≡ true → All (λ m. m < length (names_of_hosts (inventory_view i).hosts)) ms
  all-few ms h = subst (λ n. All (λ m. m < n) ms) (sym (length-map (inventory_view i).hosts (λ h. h.name))) (below-all (length (inventory_view i).hosts) ms h)

  -- a host of that name, and none
  pub active-known : (n : Name) (p : ℕ) (ms : List ℕ) → name_of (names_of_hosts (inventory_view i).hosts) p ≡ n → p < length (inventory_view i).hosts → list_all (λ k. nat_lt k (length (inventory_view i).hosts)) ms ≡ true
      → is_in p ms ≡ is_among n (named (names_of_hosts (inventory_view i).hosts) ms)
  active-known n p ms name l known =
      let ns = names_of_hosts (inventory_view i).hosts in sym (among-named ns p ms names-apart (few p l) (all-few ms known)) ∙ ap (λ m. is_among m (named ns ms)) name

  pub active-unknown : (n : Name) (ms : List ℕ) → is_host n (inventory_view i).hosts ≡ false → list_all (λ k. nat_lt k (length (inventory_view i).hosts)) ms ≡ true
      → false ≡ is_among n (named (names_of_hosts (inventory_view i).hosts) ms)
  active-unknown n ms none known = sym (unknown-named (inventory_view i).hosts n ms none (all-few ms known))

module _ (v : Variables) where
  pub other-known : (n : Name) (p : ℕ) → name_of (names_of_hosts (inventory_view v.inventory.now).hosts) p ≡ n → p < length (inventory_view v.inventory.now).hosts → variables_at v p ≡ variables_of n (hosts_shown v)
  other-known n p name l =
      let hs = (inventory_view v.inventory.now).hosts in
      let e : 0 + p ≡ p = omega arith in
      ap (variables_at v) (sym e) ∙ sym (variables-at (variables_at v) 0 hs p (names-apart v.inventory.now) (few v.inventory.now p l)) ∙ ap (λ m. variables_of m (hosts_shown v)) name

  pub other-unknown : (n : Name) → is_host n (inventory_view v.inventory.now).hosts ≡ false → no_fields ≡ variables_of n (hosts_shown v)
  other-unknown n none = sym (variables-unknown (variables_at v) 0 (inventory_view v.inventory.now).hosts n none)
