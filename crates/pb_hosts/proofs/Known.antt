-- The inventory's table, made of what is known of each host.
use Rattle.std.proofs.Common.{◌≡◌, List, length, map, String, Global, BTreeMap, sym, ap, subst, ◌∙◌}
use Rattle.std.specs.declared.sync.Arc.{Arc}
use Rattle.std.proofs.lemmas.List.{length-map}
use Rattle.pb_language.specs.Kinds.{known_slots}
use Rattle.pb_language.specs.Program.{Inventory}
use Rattle.pb_language.specs.Scope.{View}
use Rattle.pb_language.specs.Tables.{known_views}
use Rattle.pb_language.specs.Wells.{WellViews}
use Rattle.pb_kind.specs.KindView.{slots_view}
use Rattle.pb_kind.specs.declared.kind.Kind.{Kind}
use Rattle.pb_kind.specs.declared.kind.Slot.{Slot}
use Rattle.pb_walks.proofs.SameWalks.{known_views_agree}
use Rattle.pb_hosts.specs.Tables.{host_names, slots_in, slots_of_each, views_from}
use Rattle.pb_hosts.proofs.Places.{known_views_from, slots_of_views}

abbrev Known : Type 0
Known = Arc (BTreeMap (String Global) (Slot Kind)) Global

module _ (inventory : Inventory) (ms : List Known) (all : slots_of_each ms ≡ map (λ h. known_slots h.variables) inventory.hosts) where
  pub each_known : length ms ≡ length inventory.hosts
  each_known = sym (length-map ms (λ (m : Known). slots_view m.value.entries)) ∙ ap length all ∙ length-map inventory.hosts (λ h. known_slots h.variables)

  pub views_known : views_from (host_names inventory) (slots_of_each ms) ≡ known_views inventory.hosts
  views_known = sym (known_views_from inventory.hosts ∙ ap (views_from (host_names inventory)) (sym all))

  pub known_well : WellViews (views_from (host_names inventory) (slots_of_each ms))
  known_well = subst (λ (vs : List View). WellViews vs) (sym views_known) (known_views_agree inventory).well

  pub slots_known : slots_in (views_from (host_names inventory) (slots_of_each ms)) ≡ slots_of_each ms
  slots_known =
      slots_of_views (host_names inventory) (slots_of_each ms) (length-map ms (λ (m : Known). slots_view m.value.entries) ∙ each_known ∙ sym (length-map inventory.hosts (λ h. h.name)))
