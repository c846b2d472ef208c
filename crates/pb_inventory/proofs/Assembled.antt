-- What a table of groups says of each host.
use Rattle.std.proofs.Common.{◌≡◌, ◌∙◌, ℕ, suc, ◌<◌, List, length, Bool, true, Vec, Global, BTreeMap, String, sym, ap, subst, arith}
use Rattle.std.specs.List.{All}
use Rattle.std.specs.declared.sync.Arc.{Arc}
use Rattle.std.proofs.lemmas.List.{length-map}
use Rattle.pb_language.specs.Expression.{Name}
use Rattle.pb_language.specs.Families.{group_names, groups_of}
use Rattle.pb_language.specs.Inventories.{group_variables}
use Rattle.pb_language.specs.Program.{memberships_of}
use Rattle.pb_language.specs.Written.{Document}
use Rattle.pb_value.specs.View.{fields_view}
use Rattle.pb_value.specs.declared.value.Value.{Value}
use Rattle.pb_inventory.specs.Documents.{names_view}
use Rattle.pb_inventory.specs.HostGroups.{by_depth, flag_at, has_host, layer_views, layers_where, names_where}
use Rattle.pb_inventory.specs.Numbered.{are_apart, name_of}
use Rattle.pb_inventory.specs.Tables.{IsTableOf}
use Rattle.pb_inventory.specs.Views.{layered}
use Rattle.pb_inventory.specs.declared.assembly.Table.{Table}
use Rattle.pb_inventory.proofs.Apart.{host_order-apart}
use Rattle.pb_inventory.proofs.HostGroups.{layers-named, memberships-named}
use Rattle.pb_inventory.proofs.HostRows.{flag-is, layers-same, names-same, order-below, rows-wide}

module _ (t : Table) (d : Document) (hs : List Name) (q : IsTableOf t d hs) where
  pub hosts_apart : are_apart hs ≡ true
  hosts_apart = ap are_apart q.families.hosts ∙ host_order-apart d.groups

  counted_layers : length q.ds ≡ length t.layers.items
  counted_layers = q.families.counted.1 ∙ sym q.families.counted.2 ∙ ap length (sym q.table.layers) ∙ length-map t.layers.items (λ (x : Arc (BTreeMap (String Global) Value) Global). fields_view x.value.entries)

  pub order_placed : All (λ i. i < length t.layers.items) t.order.items
  order_placed = subst (λ is. All (λ i. i < length t.layers.items) is) (sym q.table.order) (subst (λ n. All (λ i. i < n) (by_depth q.ds)) counted_layers (order-below q.ds))

  pub rows_placed : (h : ℕ) → h < length hs → All (λ (row : Vec Bool Global). h < length row.items) t.rows.items
  rows_placed h lt = rows-wide (length hs) q.ms t.rows.items q.table.rows h lt

  -- the host's groups
  pub names_there : (h : ℕ) → h < length hs → names_where (flag_at t.rows.items h) (names_view t.names.items) ≡ memberships_of (name_of hs h) (groups_of d.groups)
  names_there h lt =
      ap (names_where (flag_at t.rows.items h)) q.table.names
      ∙ names-same (flag_at t.rows.items h) (has_host q.ms h) q.ns (λ i few. flag-is (length hs) q.ms t.rows.items q.table.rows h i lt (omega (arith, few, q.families.counted.0)))
      ∙ memberships-named d hs q.ns q.ms q.ds q.ls q.families hosts_apart h lt

  -- the variables that they give
  pub layers_there : (h : ℕ) → h < length hs → layered (layers_where (flag_at t.rows.items h) t.order.items (layer_views t.layers.items)) ≡ group_variables d.groups (name_of hs h) (suc (length (group_names d.groups)))
  layers_there h lt =
      ap (λ is. layered (layers_where (flag_at t.rows.items h) is (layer_views t.layers.items))) q.table.order ∙ ap (λ ls. layered (layers_where (flag_at t.rows.items h) (by_depth q.ds) ls)) q.table.layers
      ∙ ap layered (layers-same (flag_at t.rows.items h) (has_host q.ms h) q.ds q.ls (λ i few. flag-is (length hs) q.ms t.rows.items q.table.rows h i lt (omega (arith, few, q.families.counted.0, q.families.counted.1))))
      ∙ layers-named d hs q.ns q.ms q.ds q.ls q.families hosts_apart h lt
