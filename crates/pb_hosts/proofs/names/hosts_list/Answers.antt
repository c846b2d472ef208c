use Rattle.std.proofs.Common.{rules, ◌≡◌, ◌∙◌, [], ap, length, map, String, Global, string_bytes, sym}
use Rattle.std.proofs.lemmas.List.{length-map}
use Rattle.std.proofs.lemmas.Result.{IfOk-weaker}
use Rattle.pb_semantics.specs.Join.{add_names, put_name}
use Rattle.pb_semantics.specs.Kind.{hosts, lists}
use Rattle.std.specs.BTreeSet.{BTreeSet}
use Rattle.pb_kind.specs.KindView.{kind_view}
use Rattle.pb_kind.specs.declared.kind.Kind as Kind-of
use Rattle.pb_kind.specs.declared.kind.Kind.{the_lemmas as kind_lemmas}
use Rattle.pb_kind.proofs.JoinLemmas.{names-insert_key}
use Rattle.pb_inventory.specs.Inventory.{inventory_view}
use Rattle.pb_inventory.specs.Numbered.{name_of, named}
use Rattle.pb_hosts.specs.Tables.{host_names}
use Rattle.pb_hosts.proofs.Named.{all_added, name_added}
use Rattle.pb_hosts.proofs.names.hosts_list.Goals as goal

pub loop-place-preserved : goal.loop-place-preserved
loop-place-preserved c =
    let l = c.loop-place in
    let old = map (λ (n : String Global). string_bytes n) l.names.keys in
    name_added (inventory_view c.args.inventory.now).hosts c.args.places.now l.place-index c.host_name.result.now old _ _ c.loop-place-test.true c.host_name.ensures l.invariant
    (ap (map (λ (n : String Global). string_bytes n)) c.in_ok-insert.ensures.keys ∙ names-insert_key l.names.keys c.in_ok-from_str.field-0 ∙ ap (λ n. put_name n old) c.in_ok-from_str.ensures.ok)

pub returns : goal.returns
returns c =
    let l = c.loop-place in
    let ps = c.args.places.now in
    let ns = named (host_names (inventory_view c.args.inventory.now)) ps in
    let names = λ (s : BTreeSet (String Global)). map (λ n. string_bytes n) s.keys in
    let all : names l.names ≡ add_names ns [] = all_added (host_names (inventory_view c.args.inventory.now)) ps l.place-index (names l.names) (add_names ns []) c.loop-place-test.false l.invariant in
    let seen : kind_view (Kind-of.Host c.in_ok-new.field-0) ≡ hosts (names c.in_ok-new.field-0.value) = search (rules, kind_lemmas) in
    let size : length ns ≡ length ps = length-map ps (name_of (host_names (inventory_view c.args.inventory.now))) in
    IfOk-weaker c.of_item.result _ _ (λ k h. h ∙ ap (λ m. lists m (length ps)) (seen ∙ ap (λ s. hosts (names s)) c.in_ok-new.ensures.ok ∙ ap hosts all) ∙ ap (lists (hosts (add_names ns []))) (sym size)) c.of_item.ensures
