use Rattle.std.proofs.Common.{◌∙◌, ◌+◌, drop, map, sym, ap}
use Rattle.pb_language.specs.Plays.{add_hosts}
use Rattle.pb_language.specs.Written.{listed_hosts}
use Rattle.pb_inventory.specs.Documents.{key_names, names_view, written_view}
use Rattle.pb_inventory.proofs.Keys.{add_hosts-append, listed_hosts-next}
use Rattle.pb_inventory.proofs.hosts.host_order.Goals as goal

pub loop-group-preserved : goal.loop-group-preserved
loop-group-preserved c =
    let l = c.loop-group in
    let gs = c.args.groups.now in
    let g = c.group-item.result in
    let rest = listed_hosts (map written_view (drop (l.group-index + 1) gs)) in
    let k = key_names l.hosts.keys in
    ap (λ ns. add_hosts ns rest) (c.in_ok-add_hosts.ensures ∙ ap (λ hs. add_hosts k (names_view hs)) c.as_slice.ensures.value)
    ∙ sym (add_hosts-append k (names_view g.hosts.items) rest) ∙ ap (add_hosts k) (sym (listed_hosts-next gs l.group-index g c.loop-group-test.true c.group-item.is)) ∙ l.invariant
