use Rattle.std.proofs.Common.{◌≡◌, ◌∙◌, map, sym, ap, true}
use Rattle.std.specs.Prelude.{◌&&◌}
use Rattle.std.specs.List.{list_all}
use Rattle.pb_language.specs.Families.{host_order}
use Rattle.pb_language.specs.Written.{are_hostvars, is_well_named, listed_hosts}
use Rattle.pb_inventory.specs.Documents.{variables_view, written_view}
use Rattle.pb_inventory.proofs.Listed.{are_hostvars-same, host_order-among}
use Rattle.pb_inventory.proofs.build.is_well_formed.Goals as goal

pub returns-then-are_well_named : goal.returns-then-are_well_named
returns-then-are_well_named c =
    let ws = map written_view c.args.document.now.groups.items in
    let vs = variables_view c.args.document.now.hostvars in
    let well : list_all is_well_named ws ≡ true = ap (λ gs. list_all is_well_named (map written_view gs)) (sym c.as_slice.ensures.value) ∙ sym c.are_well_named.ensures ∙ c.if-are_well_named.true in
    c.are_hostvars.ensures ∙ ap (λ hs. are_hostvars hs vs) c.requires ∙ are_hostvars-same (host_order ws) (listed_hosts ws) (λ n. host_order-among n ws) vs ∙ ap (λ b. b && are_hostvars (listed_hosts ws) vs) (sym well)
