use Rattle.std.proofs.Common.{◌≡◌, ◌∙◌, ◌+◌, ◌<◌, ◌≤◌, List, Some, length, get_or, take, slice_get, refl, sym, ap, subst, arith}
use Rattle.std.proofs.lemmas.List.{take_all, take_more}
use Rattle.std.specs.List.{All}
use Rattle.std.proofs.lemmas.List.Elements.{All-nil}
use Rattle.std.proofs.lemmas.Option.{slice_get-get_or, slice_get_read}
use Rattle.pb_semantics.specs.Kind.{recs}
use Rattle.pb_semantics.specs.Well.{Well}
use Rattle.pb_language.specs.World.{HostVariables}
use Rattle.pb_kind.specs.KindView.{slots_view}
use Rattle.pb_inventory.specs.Inventory.{inventory_view}
use Rattle.pb_tables.specs.Rounds.{AreFound}
use Rattle.pb_tables.proofs.Rounded.{Table, nobody, none_found}
use Rattle.pb_tables.proofs.round.all_taken.Goals as goal

pub loop-host-init : goal.loop-host-init
loop-host-init c = record {
  number = ap length c.new.ensures.items;
  well = subst (All (λ (m : Table). Well (recs (slots_view m.value.entries)))) (sym c.new.ensures.items) (All-nil _);
  all = λ ps vs ls ends. none_found (inventory_view c.args.inventory.now) ps vs ls _ refl refl refl c.new.ensures.items;
}

pub with_host-requires-clause-well : goal.with_host-requires-clause-well
with_host-requires-clause-well c = c.loop-host.invariant.well

pub loop-host-preserved : goal.loop-host-preserved
loop-host-preserved c =
    let l = c.loop-host in
    let i = inventory_view c.args.inventory.now in
    let within : l.host < length i.hosts = omega (arith, c.hosts-host-end.ensures, c.loop-host-test.true) in
    let there : slice_get c.args.ends.now l.host ≡ Some c.index-ends-host.result = slice_get_read c.args.ends.now (length c.args.ends.now) l.host c.index-ends-host.result refl (omega (arith, c.requires, within)) c.index-ends-host.is in
    record {
      number = c.in_ok-found.ensures.number ∙ ap (λ n. n + 1) l.invariant.number;
      well = c.in_ok-found.ensures.well;
      all = λ ps vs ls ends. subst (λ (xs : List HostVariables). AreFound i ps vs ls xs c.in_ok-found.found) (sym (take_more i.hosts l.host nobody within))
          (c.in_ok-found.ensures.found ps vs ls (take l.host i.hosts) (get_or i.hosts l.host nobody) (slice_get-get_or i.hosts l.host nobody within)
          (ends l.host (get_or i.hosts l.host nobody) c.index-ends-host.result there (slice_get-get_or i.hosts l.host nobody within)) (l.invariant.all ps vs ls ends));
    }

pub returns-clause-each : goal.returns-clause-each
returns-clause-each c =
    let l = c.loop-host in
    let past : length (inventory_view c.args.inventory.now).hosts ≤ l.host = omega (arith, c.hosts-host-end.ensures, c.loop-host-test.false) in
    omega (arith, l.invariant.number, past, l.auto.host-end, c.hosts-host-end.ensures)

pub returns-clause-well : goal.returns-clause-well
returns-clause-well c = c.loop-host.invariant.well

pub returns-clause-found : goal.returns-clause-found
returns-clause-found c = λ ps vs ls ends.
    let l = c.loop-host in
    let i = inventory_view c.args.inventory.now in
    let past : length i.hosts ≤ l.host = omega (arith, c.hosts-host-end.ensures, c.loop-host-test.false) in
    subst (λ (xs : List HostVariables). AreFound i ps vs ls xs l.found) (take_all l.host i.hosts past) (l.invariant.all ps vs ls ends)
