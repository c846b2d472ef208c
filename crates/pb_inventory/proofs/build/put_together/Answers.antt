use Rattle.std.proofs.Common.{◌≡◌, ◌∙◌, ◌<◌, BTreeMap, Global, List, String, length, map, sym, ap, subst, string_bytes, arith}
use Rattle.std.specs.declared.sync.Arc.{Arc}
use Rattle.std.proofs.lemmas.List.{length-map}
use Rattle.pb_semantics.specs.Ascending.{are_ascending}
use Rattle.pb_semantics.specs.Keeps.{is_among}
use Rattle.pb_language.specs.Expression.{Name}
use Rattle.pb_language.specs.Families.{groups_of, members, own_variables}
use Rattle.pb_language.specs.Inventories.{host_variables, overlaid}
use Rattle.pb_language.specs.Program.{memberships_of}
use Rattle.pb_language.specs.World.{HostVariables}
use Rattle.pb_language.specs.Written.{all_group}
use Rattle.pb_value.specs.View.{fields_view}
use Rattle.pb_value.specs.declared.value.Value.{Value}
use Rattle.pb_inventory.specs.Documents.{document_view, key_names, written_view}
use Rattle.pb_inventory.specs.Families.{AreDepths, lists_of}
use Rattle.pb_inventory.specs.Graph.{children_at, is_in}
use Rattle.pb_inventory.specs.HostGroups.{by_depth, layer_views, row_of}
use Rattle.pb_inventory.specs.Numbered.{are_apart, name_of}
use Rattle.pb_inventory.specs.Views.{are_placed, group_view, host_names, host_view}
use Rattle.pb_inventory.proofs.Apart.{group_names-all, group_names-apart, host_order-apart}
use Rattle.pb_inventory.proofs.Built.{groups-placed, inventory-is, root-free, some-written}
use Rattle.pb_inventory.proofs.HostAt.{names-of_variables, names-of_views}
use Rattle.pb_inventory.proofs.NameOrder.{names-ascend}
use Rattle.pb_inventory.proofs.NamedDepths.{depth-numbered}
use Rattle.pb_inventory.proofs.Rows.{in_row-below}
use Rattle.pb_inventory.proofs.build.put_together.Goals as goal

pub place_of-root-requires : goal.place_of-root-requires
place_of-root-requires c = record { known = ap (is_among all_group) c.requires.numbered.names ∙ group_names-all (document_view c.args.document.now).groups }

pub depths_of-requires-clause-root : goal.depths_of-requires-clause-root
depths_of-requires-clause-root c =
    let free = root-free c.requires.numbered c.place_of-root.result c.place_of-root.ensures.named c.requires.root in
    λ i. ap (λ vs. is_in c.place_of-root.result (children_at (lists_of vs) i)) c.as_slice.ensures.value ∙ free i

pub known_hosts-requires : goal.known_hosts-requires
known_hosts-requires c =
    let d = document_view c.args.document.now in
    let n = c.requires.numbered in
    let hks = c.args.hosts.now.keys in
    let nks = c.args.names.now.keys in
    let hs = key_names hks in
    let ns = key_names nks in
    let ms = c.in_ok-members.members.items in
    let ds = c.in_ok-depths.depths.items in
    let layers = c.in_ok-layers.layers.items in
    let root = c.place_of-root.result in
    let hosts : length hs ≡ length hks = length-map hks (λ k. string_bytes k) in
    let names : length ns ≡ length nks = length-map nks (λ k. string_bytes k) in
    let deep : AreDepths root (lists_of c.args.families.now.children.items) ds = subst (λ vs. AreDepths root (lists_of vs) ds) c.as_slice.ensures.value c.in_ok-depths.ensures in
    let t = c.in_ok-table.ensures in
    let root_there : root < length ns = omega (arith, c.place_of-root.ensures.within, names) in
    record {
      ns = ns;
      ms = lists_of ms;
      ds = ds;
      ls = layer_views layers;
      families = record {
        hosts = n.hosts;
        names = n.names;
        counted = (
          length-map ms (λ v. v.items) ∙ c.in_ok-members.ensures.count ∙ sym names,
          deep.count ∙ n.counted,
          length-map layers (λ (x : Arc (BTreeMap (String Global) Value) Global). fields_view x.value.entries) ∙ c.in_ok-layers.ensures.count ∙ sym names,
        );
        placed = λ i h there. omega (arith, in_row-below ms (length hks) i h c.in_ok-members.ensures.placed there, hosts);
        members = λ i lt. c.in_ok-members.ensures.members i (omega (arith, lt, names)) ∙ ap (λ gs. members (map written_view gs) (name_of ns i)) c.as_slice-groups.ensures.value;
        depths = λ some i lt. sym (depth-numbered n c.args.order.now c.requires.order root root_there c.place_of-root.ensures.named ds deep (some-written d.groups hs n.hosts some) i lt);
        layers = λ i lt vs. c.in_ok-layers.ensures.layers i (omega (arith, lt, names)) vs ∙ ap (λ gs. overlaid vs (own_variables (name_of ns i) (map written_view gs))) c.as_slice-groups.ensures.value;
      };
      table = record {
        names = t.names;
        layers = t.layers;
        rows = t.rows ∙ ap (λ k. map (row_of k) (lists_of c.as_slice-given.result.now)) (c.len.ensures.len ∙ sym hosts) ∙ ap (λ vs. map (row_of (length hs)) (lists_of vs)) c.as_slice-given.ensures.value;
        order = t.order ∙ ap by_depth c.as_slice-2.ensures.value;
      };
    }

pub placed_groups-requires-clause-apart : goal.placed_groups-requires-clause-apart
placed_groups-requires-clause-apart c = ap are_apart c.requires.numbered.names ∙ group_names-apart (document_view c.args.document.now).groups

pub of_parts-requires-clause-apart : goal.of_parts-requires-clause-apart
of_parts-requires-clause-apart c =
    let es = c.in_ok-known.known.entries in
    let hs = key_names c.args.hosts.now.keys in
    let d = document_view c.args.document.now in
    let names : host_names es ≡ hs = sym (names-of_views es) ∙ ap (map (λ (h : HostVariables). h.name)) c.in_ok-known.ensures.hosts ∙ names-of_variables d hs in
    ap are_apart (names ∙ c.requires.numbered.hosts) ∙ host_order-apart d.groups

pub of_parts-requires-clause-placed : goal.of_parts-requires-clause-placed
of_parts-requires-clause-placed c =
    let es = c.in_ok-known.known.entries in
    let hks = c.args.hosts.now.keys in
    let hs = key_names hks in
    let d = document_view c.args.document.now in
    let count : length es ≡ length hks = sym (length-map es host_view) ∙ ap length c.in_ok-known.ensures.hosts ∙ length-map hs (host_variables d) ∙ length-map hks (λ k. string_bytes k) in
    ap (λ n. are_placed n c.in_ok-placed.placed.entries) count ∙ c.in_ok-placed.ensures.placed

pub of_parts-requires-clause-ascending : goal.of_parts-requires-clause-ascending
of_parts-requires-clause-ascending c =
    ap are_ascending (c.in_ok-placed.ensures.groups.names ∙ c.requires.numbered.names) ∙ names-ascend (document_view c.args.document.now).groups

pub of_parts-requires-clause-grouped : goal.of_parts-requires-clause-grouped
of_parts-requires-clause-grouped c =
    let es = c.in_ok-known.known.entries in
    let hs = key_names c.args.hosts.now.keys in
    let d = document_view c.args.document.now in
    let names : host_names es ≡ hs = sym (names-of_views es) ∙ ap (map (λ (h : HostVariables). h.name)) c.in_ok-known.ensures.hosts ∙ names-of_variables d hs in
    let ns = key_names c.args.names.now.keys in
    let n = c.requires.numbered in
    let size : length ns ≡ length c.args.names.now.keys = length-map c.args.names.now.keys (λ k. string_bytes k) in
    let groups : map (group_view hs) c.in_ok-placed.placed.entries ≡ groups_of d.groups =
    groups-placed d.groups hs ns (lists_of c.in_ok-members.members.items) c.in_ok-placed.placed.entries c.in_ok-placed.ensures.groups n.names
    (λ i lt. c.in_ok-members.ensures.members i (omega (arith, lt, size)) ∙ ap (λ gs. members (map written_view gs) (name_of ns i)) c.as_slice-groups.ensures.value) in
    c.in_ok-known.ensures.groups ∙ ap (λ gs. map (λ (n : Name). memberships_of n gs) hs) (sym groups) ∙ ap (λ (xs : List Name). map (λ (n : Name). memberships_of n (map (group_view xs) c.in_ok-placed.placed.entries)) xs) (sym names)

pub returns : goal.returns
returns c =
    let es = c.in_ok-known.known.entries in
    let hs = key_names c.args.hosts.now.keys in
    let d = document_view c.args.document.now in
    let names : host_names es ≡ hs = sym (names-of_views es) ∙ ap (map (λ (h : HostVariables). h.name)) c.in_ok-known.ensures.hosts ∙ names-of_variables d hs in
    let ns = key_names c.args.names.now.keys in
    let n = c.requires.numbered in
    let size : length ns ≡ length c.args.names.now.keys = length-map c.args.names.now.keys (λ k. string_bytes k) in
    let groups : map (group_view hs) c.in_ok-placed.placed.entries ≡ groups_of d.groups =
    groups-placed d.groups hs ns (lists_of c.in_ok-members.members.items) c.in_ok-placed.placed.entries c.in_ok-placed.ensures.groups n.names
    (λ i lt. c.in_ok-members.ensures.members i (omega (arith, lt, size)) ∙ ap (λ gs. members (map written_view gs) (name_of ns i)) c.as_slice-groups.ensures.value) in
    let is_hosts = c.of_parts.ensures.hosts ∙ c.in_ok-known.ensures.hosts ∙ ap (map (host_variables d)) c.requires.numbered.hosts in
    let is_groups = c.of_parts.ensures.groups ∙ ap (λ xs. map (group_view xs) c.in_ok-placed.placed.entries) names ∙ groups in
    inventory-is _ _ _ is_hosts is_groups
