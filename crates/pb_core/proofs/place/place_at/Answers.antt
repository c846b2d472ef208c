use Rattle.pb_core.proofs.Places.{place_of_node, place_past, no_place}
use Rattle.std.proofs.Common.{◌≡◌, ◌-◌, Some, ap, sym, ◌∙◌, arith}
use Rattle.pb_machine.specs.Hosts.{stands}
use Rattle.pb_steps.specs.declared.step.Step.{Step}
use Rattle.pb_position.specs.Positions.{location_view}
use Rattle.pb_core.proofs.place.place_at.Goals as goal

pub returns-in_default : goal.returns-in_default
returns-in_default c ss kept h is = no_place ss c.location.result h.stage c.in_default.not-Node (c.location.ensures h is)

pub returns-then-index-steps : goal.returns-then-index-steps
returns-then-index-steps c ss kept h is =
    let before : c.saturating_sub-index.result ≡ c.in-Node.node - 1 = omega arith in
    place_past ss c.args.steps.now c.in-Node.node c.saturating_sub-index.result h.stage kept before c.if-index-steps.true
    (c.location.ensures h is ∙ ap (λ l. stands (location_view l)) c.in-Node.is)

pub returns : goal.returns
returns c ss kept h is =
    let before : c.saturating_sub-index.result ≡ c.in-Node.node - 1 = omega arith in
    ap (λ (x : Step). Some x.place) (sym c.index-steps-index.is)
    ∙ place_of_node ss c.args.steps.now c.in-Node.node c.saturating_sub-index.result c.index-steps-index.result h.stage kept before c.if-index-steps.false c.index-steps-index.is
    (c.location.ensures h is ∙ ap (λ l. stands (location_view l)) c.in-Node.is)
