use Rattle.std.proofs.Common.{[], length, ◌<◌, ◌∙◌, arith}
use Rattle.pb_language.specs.Kinds.{known_slots}
use Rattle.pb_inventory.specs.Inventory.{bases_view}
use Rattle.pb_inventory.specs.Views.{base_at, layered}
use Rattle.pb_kind.specs.KindView.{slots_view}
use Rattle.pb_hosts.proofs.Sharing.{one_more}
use Rattle.pb_hosts.proofs.given.known_bases.Goals as goal

pub loop-base-preserved : goal.loop-base-preserved
loop-base-preserved c =
    let l = c.loop-base in
    let bs = bases_view c.args.inventory.now in
    let within : l.base < length bs = omega (arith, c.bases-base-end.ensures, c.loop-base-test.true) in
    one_more (λ b. slots_view b.value.entries) (λ ls. known_slots (layered ls)) l.bases.items c.push.new.self.items c.in_ok-known-2.known bs l.base [] within l.invariant (c.in_ok-known-2.ensures ∙ c.in_ok-known.ensures) c.in_ok-push.ensures.items
