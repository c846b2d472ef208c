use Rattle.std.proofs.Common.{◌≡◌, ◌∙◌, ◌<◌, length, map, sym, ap, string_bytes, arith, false, get_or}
use Rattle.std.specs.Prelude.{not}
use Rattle.std.proofs.lemmas.List.{get_or_default, length-map}
use Rattle.pb_language.specs.Families.{is_grouped}
use Rattle.pb_inventory.specs.Documents.{key_names, written_view}
use Rattle.pb_inventory.proofs.Marked.{filter-skip}
use Rattle.pb_inventory.proofs.ungrouped.ungrouped_hosts.Goals as goal

pub loop-place-preserved-then-index : goal.loop-place-preserved-then-index
loop-place-preserved-then-index c =
    let l = c.loop-place in
    let hs = key_names c.args.hosts.now.keys in
    let fs = c.in_ok-grouped.grouped.items in
    let size : length hs ≡ length c.args.hosts.now.keys = length-map c.args.hosts.now.keys (λ k. string_bytes k) in
    let lt : l.place < length c.args.hosts.now.keys = omega (arith, c.loop-place-test.true, c.len-place-end.ensures, c.in_ok-grouped.ensures.count) in
    let flag : get_or fs l.place false ≡ c.index.result.now = get_or_default fs l.place false c.index.result.now (omega (arith, lt, c.in_ok-grouped.ensures.count)) ∙ sym c.index.ensures in
    let grouped = sym (c.in_ok-grouped.ensures.grouped l.place lt) ∙ flag ∙ c.if-index.true in
    record {
      within = l.invariant.within;
      named = l.invariant.named ∙ sym (filter-skip (λ h. not (is_grouped (map written_view c.args.groups.now) h)) hs l.place (omega (arith, lt, size)) (ap not grouped));
    }
