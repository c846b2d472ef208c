use Rattle.std.proofs.Common.{◌∙◌, sym, ap, subst}
use Rattle.pb_reads.specs.Reached.{names_in}
use Rattle.pb_reads.specs.Uses.{Reads}
use Rattle.pb_route.specs.Station.{station_task}
use Rattle.pb_rules.specs.Handlers.{handlers_names}
use Rattle.pb_slots.specs.Words.{names_of_slots}
use Rattle.pb_task.specs.Tasks.{names_view}
use Rattle.pb_steps.specs.Numbers.{handlers_named}
use Rattle.pb_steps.specs.Uses.{AreSlotsOf, Writes}
use Rattle.pb_steps.proofs.Used.{all-named, slots-of}
use Rattle.pb_steps.proofs.step.Scene.step.Goals as goal

pub returns-clause-uses : goal.returns-clause-uses
returns-clause-uses c =
    let t = station_task c.args.station.now in
    let names = names_of_slots c.args.self.now.slots.now in
    let hs = handlers_names c.args.self.now.handlers.now in record {
      reads = subst (AreSlotsOf names (Reads t)) (sym c.in_ok-reads.ensures) (slots-of (Reads t) names (names_in c.in_ok-read.read) c.in_ok-read.ensures.sound c.in_ok-read.ensures.whole);
      writes = subst (AreSlotsOf names (Writes t)) (sym c.in_ok-writes.ensures)
          (slots-of (Writes t) names (names_in c.in_ok-written.written) (λ n h. sym (c.in_ok-written.ensures n) ∙ h) (λ n h. c.in_ok-written.ensures n ∙ h));
      notifies = λ is e. c.in_ok-notifies.ensures ∙ ap (λ xs. handlers_named hs (names_view xs)) c.deref.ensures.value ∙ all-named hs t.notifies is e;
    }
