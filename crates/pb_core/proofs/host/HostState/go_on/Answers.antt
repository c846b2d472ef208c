use Rattle.std.proofs.Common.{◌≡◌, ◌<◌, ◌-◌, ◌∙◌, List, length, ap, sym, subst, arith}
use Rattle.pb_semantics.proofs.Bools.{untrue}
use Rattle.pb_steps.specs.declared.step.Step.{Step}
use Rattle.pb_core.specs.Hosts.{are_below, IsPlaceAt, standing_at}
use Rattle.pb_core.proofs.Places.{at_no_node, same_node, below_all, below_same, all_leads, steps_lead, goes_to}
use Rattle.pb_core.proofs.host.HostState.go_on.Goals as goal

pub returns-in_default : goal.returns-in_default
returns-in_default g c = record {
  goes = tt;
  handlers = tt;
  there = λ e h n is low high few. at_no_node c.location.result n (c.location.ensures (standing_at n h) is) c.in_default.not-Node;
  full = λ e. cc;
}

pub returns-then-index-len-clause-there : goal.returns-then-index-len-clause-there
returns-then-index-len-clause-there g c = λ e h n is low high few.
    let same : n ≡ c.in-Node.node = same_node c.location.result n c.in-Node.node (c.location.ensures (standing_at n h) is) c.in-Node.is in
    let before : c.saturating_sub-index.result ≡ c.in-Node.node - 1 = omega arith in
    absurd (omega (arith, same, before, low, high, c.if-index-len.true, c.args.play.now.plan.steps.ok))

pub returns-then-not-are_below-clause-there : goal.returns-then-not-are_below-clause-there
returns-then-not-are_below-clause-there g c = λ e h n is low high few.
    untrue (sym c.if-not-are_below.true ∙ c.are_below.ensures ∙ ap (are_below c.args.self.now.handlers) c.deref.ensures.value ∙ few)

pub go_on-requires-clause-step : goal.go_on-requires-clause-step
go_on-requires-clause-step g c =
    let few : c.saturating_sub-index.result < length c.args.play.now.plan.steps.items = omega (arith, c.if-index-len.false, c.args.play.now.plan.steps.ok) in
    steps_lead c.args.play.now.plan.begin c.args.play.now.plan.steps.items c.deref-2.result.now c.saturating_sub-index.result c.index.result.now c.args.play.now.plan.leads c.deref-2.ensures.value c.index.ensures few

pub go_on-requires-clause-marks : goal.go_on-requires-clause-marks
go_on-requires-clause-marks g c =
    below_same c.args.end.notified.items _ _ (sym c.args.self.now.room)
    (below_all c.args.end.notified.items c.args.self.now.handlers (sym (c.are_below.ensures ∙ ap (are_below c.args.self.now.handlers) c.deref.ensures.value) ∙ c.if-not-are_below.false))

pub returns-clause-goes : goal.returns-clause-goes
returns-clause-goes g c =
    let steps = c.args.play.now.plan.steps.items in
    let few : c.saturating_sub-index.result < length c.args.play.now.plan.steps.items = omega (arith, c.if-index-len.false, c.args.play.now.plan.steps.ok) in
    let before : c.saturating_sub-index.result ≡ c.in-Node.node - 1 = omega arith in record {
      host = goes_to steps c.deref-2.result.now c.index.result.now c.args.end c.args.self.now.position c.in_ok-position.position c.in-Node.node c.saturating_sub-index.result c.location.result
          c.deref-2.ensures.value c.index.ensures before few c.in-Node.is c.location.ensures c.in_ok-position.ensures.host;
      place = subst (λ (xs : List Step). IsPlaceAt xs c.in_ok-position.position c.place_at-to.result) c.deref-3.ensures.value c.place_at-to.ensures;
    }

pub go_on-requires-clause-leads : goal.go_on-requires-clause-leads
go_on-requires-clause-leads g c = all_leads c.args.play.now.plan.begin c.args.play.now.plan.steps.items c.deref-2.result.now c.args.play.now.plan.leads c.deref-2.ensures.value
