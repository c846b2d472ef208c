use Rattle.pb_semantics.specs.Kind.{no_slots, slot_at}
use Rattle.pb_language.specs.Setting.{named_slots, with_failure_slot}
use Rattle.pb_kind.specs.KindView.{is_always, kind_view}
use Rattle.pb_kind.specs.Words.{spot_view}
use Rattle.pb_lattice.specs.Environments.{exit_of}
use Rattle.pb_outlook.specs.Standing.{known_of}
use Rattle.pb_outlook.proofs.Named.{named_over, over_none, over_some}
use Rattle.pb_outlook.proofs.standing.Ground.name.Goals as goal

pub returns-in-Some : goal.returns-in-Some
returns-in-Some g c =
    let s = c.args.self.now in
    let n = c.args.name.now in
    let st = g.O.Outlook.setting s.outlook.now in
    let env = known_of (exit_of s.space.now s.at) in
    let k = c.in-Some.always.now in
    over_some (slot_at n (named_slots st 0 no_slots)) (slot_at n (named_slots st s.depth env)) (slot_at n (with_failure_slot s.depth env)) (is_always k.presence) (kind_view k.kind) c.in-Some.ensures (named_over n st s.depth env)

pub returns-in-None : goal.returns-in-None
returns-in-None g c =
    let s = c.args.self.now in
    let n = c.args.name.now in
    let st = g.O.Outlook.setting s.outlook.now in
    let env = known_of (exit_of s.space.now s.at) in
    over_none (slot_at n (named_slots st 0 no_slots)) (slot_at n (named_slots st s.depth env)) (slot_at n (with_failure_slot s.depth env)) (spot_view c.variable.result) c.in-None.ensures c.variable.ensures (named_over n st s.depth env)
