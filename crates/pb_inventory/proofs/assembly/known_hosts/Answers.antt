use Rattle.std.proofs.Common.{◌≡◌, ◌∙◌, ◌++◌, ◌∷◌, ◌<◌, [], Global, String, length, map, sym, ap, ap₂, subst, string_bytes, get_or, take, arith}
use Rattle.std.proofs.lemmas.List.{get_or-map, length-map, map-append}
use Rattle.pb_semantics.specs.Data.{field_value}
use Rattle.pb_value.specs.View.{fields_view}
use Rattle.pb_language.specs.Expression.{Name}
use Rattle.pb_language.specs.Families.{groups_of}
use Rattle.pb_language.specs.Inventories.{host_variables, hostvars_of, overlaid, record_fields}
use Rattle.pb_language.specs.Program.{memberships_of}
use Rattle.pb_inventory.specs.Documents.{document_view, key_names, variables_view}
use Rattle.pb_inventory.specs.HostGroups.{flag_at, layer_views, layers_where}
use Rattle.pb_inventory.specs.Numbered.{name_of}
use Rattle.pb_inventory.specs.Views.{AreBased, base_at, base_lists, host_view, kept_groups, laid, layered}
use Rattle.pb_inventory.specs.declared.bases.Base.{Base}
use Rattle.pb_inventory.specs.declared.inventory.Host.{Host}
use Rattle.pb_inventory.proofs.Assembled.{hosts_apart, layers_there, names_there, order_placed, rows_placed}
use Rattle.pb_inventory.proofs.Based.{based-next}
use Rattle.pb_inventory.proofs.HostAt.{host_is, hosts-more}
use Rattle.pb_inventory.proofs.Marked.{taken-next}
use Rattle.pb_inventory.proofs.assembly.known_hosts.Goals as goal

pub base_of-requires-clause-order : goal.base_of-requires-clause-order
base_of-requires-clause-order c = order_placed c.args.table.now (document_view c.args.document.now) (key_names c.args.hosts.now.keys) c.requires

pub base_of-requires-clause-wide : goal.base_of-requires-clause-wide
base_of-requires-clause-wide c =
    let hs = key_names c.args.hosts.now.keys in
    let size : length hs ≡ length c.args.hosts.now.keys = length-map c.args.hosts.now.keys (λ k. string_bytes k) in
    rows_placed c.args.table.now (document_view c.args.document.now) hs c.requires c.loop-place.place (omega (arith, c.loop-place-test.true, size, ap length c.as_slice-names.ensures.keys))

pub known_host-requires-clause-wide : goal.known_host-requires-clause-wide
known_host-requires-clause-wide c =
    let hs = key_names c.args.hosts.now.keys in
    let size : length hs ≡ length c.args.hosts.now.keys = length-map c.args.hosts.now.keys (λ k. string_bytes k) in
    rows_placed c.args.table.now (document_view c.args.document.now) hs c.requires c.loop-place.place (omega (arith, c.loop-place-test.true, size, ap length c.as_slice-names.ensures.keys))

pub loop-place-preserved : goal.loop-place-preserved
loop-place-preserved c =
    let l = c.loop-place in
    let i = l.place in
    let d = document_view c.args.document.now in
    let t = c.args.table.now in
    let ks = c.args.hosts.now.keys in
    let hs = key_names ks in
    let es = l.known.entries in
    let key = c.in_ok-from_str.field-0 in
    let host = c.in_ok-host.host in
    let entry : String Global × Host = (key, host) in
    let size : length hs ≡ length ks = length-map ks (λ k. string_bytes k) in
    let few : i < length ks = omega (arith, c.loop-place-test.true, ap length c.as_slice-names.ensures.keys) in
    let lt : i < length hs = omega (arith, few, size) in
    let named : c.as_str-name.result.now ≡ name_of hs i =
    c.as_str-name.ensures.value ∙ sym (get_or-map (λ (k : String Global). string_bytes k) ks i c.index-names-place.result [] few ∙ ap (λ k. string_bytes k) (sym (c.index-names-place.is ∙ ap (λ xs. get_or xs i c.index-names-place.result) c.as_slice-names.ensures.keys))) in
    let key_named : string_bytes key ≡ name_of hs i = c.in_ok-from_str.ensures.ok ∙ named in
    let own : record_fields (field_value c.as_str-name.result.now (variables_view c.args.document.now.hostvars)) ≡ hostvars_of d (name_of hs i) = ap (λ n. record_fields (field_value n (variables_view c.args.document.now.hostvars))) named in
    let bs = c.base_of.new.bases.items in
    let b : Base = c.index.result.now in
    let number = c.in_ok-base.base in
    let at : base_at (base_lists bs) number ≡ layer_views b.layers.items = get_or-map (λ (x : Base). layer_views x.layers.items) bs number b [] c.in_ok-base.ensures.placed ∙ ap (λ (x : Base). layer_views x.layers.items) (sym c.index.ensures) in
    let given : layered (layer_views c.as_slice.result.now) ≡ layered (base_at (base_lists bs) number) = ap (λ ls. layered (layer_views ls)) c.as_slice.ensures.value ∙ ap layered (sym at) in
    let variables = c.in_ok-host.ensures.layers ∙ c.in_ok-own.ensures _ ∙ ap (overlaid _) (c.hostvars_of.ensures ∙ own) ∙ ap (λ vs. overlaid vs (hostvars_of d (name_of hs i))) (given ∙ c.in_ok-base.ensures.layers ∙ layers_there t d hs c.requires i lt) in
    let groups = c.in_ok-host.ensures.groups ∙ names_there t d hs c.requires i lt in
    let all = c.in_ok-insert.ensures.entries ∙ hosts-more d hs es i key host (hosts_apart t d hs c.requires) lt key_named l.invariant.hosts in
    let meant = λ (n : Name). memberships_of n (groups_of d.groups) in
    let next = taken-next hs i lt in
    record {
      hosts = ap (map host_view) all ∙ map-append host_view es (entry ∷ [])
          ∙ ap (λ xs. xs ++ host_view entry ∷ []) l.invariant.hosts ∙ ap (λ x. map (host_variables d) (take i hs) ++ x ∷ []) (host_is key_named variables)
          ∙ sym (ap (map (host_variables d)) next ∙ map-append (host_variables d) (take i hs) (name_of hs i ∷ []));
      groups = ap kept_groups all ∙ map-append (λ (h : String Global × Host). map (λ g. string_bytes g.value) h.1.groups.items) es (entry ∷ [])
          ∙ ap (λ xs. xs ++ map (λ g. string_bytes g.value) host.groups.items ∷ []) l.invariant.groups ∙ ap (λ x. map meant (take i hs) ++ x ∷ []) groups
          ∙ sym (ap (map meant) next ∙ map-append meant (take i hs) (name_of hs i ∷ []));
      bases = c.in_ok-base.ensures.bases;
      based = subst (AreBased (base_lists bs)) (sym all)
          (based-next l.bases.items c.in_ok-base.ensures.more.0 bs es entry l.invariant.based c.in_ok-base.ensures.more.1 (subst (λ n. n < length bs) (sym c.in_ok-host.ensures.base) c.in_ok-base.ensures.placed)
          (ap₂ (λ n o. laid (layered (base_at (base_lists bs) n)) (fields_view o.entries)) c.in_ok-host.ensures.base c.in_ok-host.ensures.own ∙ ap (λ vs. laid vs (fields_view c.in_ok-own.own.entries)) (sym given) ∙ sym c.in_ok-host.ensures.layers));
    }
