use Rattle.std.proofs.Common.{codes}
use Rattle.pb_semantics.specs.Kind.{no_slots, slot_at}
use Rattle.pb_language.specs.Setting.{named_slots}
use Rattle.pb_kind.specs.KindView.{is_always, kind_view}
use Rattle.pb_kind.specs.Words.{spot_view}
use Rattle.pb_lattice.specs.Environments.{exit_of}
use Rattle.pb_outlook.specs.Standing.{known_of, with_known}
use Rattle.pb_outlook.proofs.Named.{known_over, over_none, over_some}
use Rattle.pb_outlook.proofs.standing.Standing.own_but_result.Goals as goal

pub returns-in-Some : goal.returns-in-Some
returns-in-Some g c =
    let n = c.args.name.now in
    let s = c.args.self.now in
    let h = s.ground.now in
    let rest = named_slots (g.O.Outlook.setting h.outlook.now) h.depth (known_of (exit_of h.space.now h.at)) in
    let k = c.in-Some.item.now in
    over_some (slot_at n (with_known (codes "item") s.item no_slots)) (slot_at n (with_known (codes "item") s.item rest)) (slot_at n rest) (is_always k.presence) (kind_view k.kind) c.in-Some.ensures (known_over n (codes "item") s.item rest)

pub returns-in-None : goal.returns-in-None
returns-in-None g c =
    let n = c.args.name.now in
    let s = c.args.self.now in
    let h = s.ground.now in
    let rest = named_slots (g.O.Outlook.setting h.outlook.now) h.depth (known_of (exit_of h.space.now h.at)) in
    over_none (slot_at n (with_known (codes "item") s.item no_slots)) (slot_at n (with_known (codes "item") s.item rest)) (slot_at n rest) (spot_view c.name.result) c.in-None.ensures c.name.ensures (known_over n (codes "item") s.item rest)
