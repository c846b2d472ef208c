use Rattle.std.proofs.Common.{◌∙◌, ◌+◌, ◌||◌, bytes_eq, drop, ap, sym, arith}
use Rattle.std.proofs.Math.Bool.{or_assoc}
use Rattle.pb_semantics.specs.Keeps.{is_among}
use Rattle.pb_language.specs.Plays.{is_host}
use Rattle.pb_inventory.specs.Inventory.{inventory_view}
use Rattle.pb_rules.specs.Names.{names_in}
use Rattle.pb_rules.proofs.InventoryNames.{host-left, hosts-all}
use Rattle.pb_rules.proofs.known.IsKnown.of.Goals as goal

pub loop-host-preserved : goal.loop-host-preserved
loop-host-preserved c n =
    let l = c.loop-host in
    let hs = (inventory_view c.args.inventory.now).hosts in
    let name = c.host_name.result.now in
    let had = is_among n (names_in l.hosts) in
    let rest = is_host n (drop (l.host + 1) hs) in
    ap (λ b. b || rest) (c.in_ok-add_name.ensures n) ∙ or_assoc had (bytes_eq n name) rest ∙ ap (λ b. had || b) (sym (host-left hs l.host name n c.host_name.ensures)) ∙ l.invariant n

pub invariant_of-result : goal.invariant_of-result
invariant_of-result c =
    let l = c.loop-host in
    let hs = (inventory_view c.args.inventory.now).hosts in
    record { all = λ n. hosts-all hs l.host n (is_among n (names_in l.hosts)) (omega arith) (l.invariant n) }
