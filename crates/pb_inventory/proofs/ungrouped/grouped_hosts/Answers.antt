use Rattle.std.proofs.Common.{◌∙◌, ap, map}
use Rattle.std.specs.List.{list_all}
use Rattle.pb_semantics.specs.Keeps.{is_among}
use Rattle.pb_inventory.specs.Documents.{key_names, names_view, written_view}
use Rattle.pb_inventory.specs.Numbered.{are_apart}
use Rattle.pb_inventory.proofs.Apart.{host_order-apart}
use Rattle.pb_inventory.proofs.Groups.{hosts-at}
use Rattle.pb_inventory.proofs.ungrouped.grouped_hosts.Goals as goal

pub mark-requires-clause-apart : goal.mark-requires-clause-apart
mark-requires-clause-apart c = ap are_apart c.requires.hosts ∙ host_order-apart (map written_view c.args.groups.now)

pub mark-requires-clause-known : goal.mark-requires-clause-known
mark-requires-clause-known c =
    let g = c.group-item.result in
    let hs = key_names c.args.hosts.now.keys in
    ap (λ ns. list_all (λ n. is_among n hs) (names_view ns)) c.as_slice.ensures.value ∙ ap (λ ks. list_all (λ n. is_among n ks) (names_view g.hosts.items)) c.requires.hosts
    ∙ hosts-at c.args.groups.now c.loop-group.group-index g c.loop-group-test.true c.group-item.is
