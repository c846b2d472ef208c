use Rattle.std.proofs.Common.{◌≡◌, ◌+◌, ◌<◌, ◌≤◌, Some, ap, length, slice_get, subst, suc, sym, ◌∙◌, arith}
use Rattle.pb_semantics.specs.Kind.{Slots, recs}
use Rattle.pb_semantics.specs.Well.{Well}
use Rattle.pb_language.specs.Judgement.{live}
use Rattle.pb_language.specs.Kinds.{known_slots}
use Rattle.pb_language.specs.Scope.{view_of}
use Rattle.pb_language.specs.World.{HostVariables}
use Rattle.pb_lattice.specs.Environments.{exit_of}
use Rattle.pb_lattice.proofs.Exits.{stands_well}
use Rattle.pb_inventory.specs.Inventory.{inventory_view}
use Rattle.pb_inventory.specs.declared.inventory.Inventory as read
use Rattle.pb_kind.specs.KindView.{slots_view}
use Rattle.pb_walks.specs.Agree.{ExitsAgree}
use Rattle.pb_hosts.specs.Shown.{views_view}
use Rattle.pb_tables.specs.Tabled.{laters_in}
use Rattle.pb_tables.proofs.HostFinds.{Left, all_done, found_all, next_left}
use Rattle.pb_tables.proofs.HostSeen.{one_of}
use Rattle.pb_tables.proofs.host.host_found.Goals as goal

pub loop-play-init : goal.loop-play-init
loop-play-init c =
    let stage = c.args.stage.now in
    let i = inventory_view stage.inventory.now in
    let tables = c.args.tables.now in
    let views = views_view tables.views in
    let known = slots_view c.known_at.result.now.entries in
    let from = exit_of c.entry_of.new.space c.in_ok-at.at in
    let view = slots_view c.slots.result.now.entries in
    let found = c.in_ok-found.found in
    record {
      names = c.entry_of.ensures.kept.names;
      stands = c.in_ok-at.ensures.stands;
      next = subst (λ (ss : Slots). Well (recs ss)) (sym c.in_ok-found.ensures.next) c.slots.ensures.well;
      left = λ ps x a hx.
          let begins : known_slots x.variables ≡ known = one_of (λ (h : HostVariables). known_slots h.variables) (slice_get i.hosts c.args.host) x known c.known_at.ensures.known hx in
          let its : view_of x.name views ≡ view =
          one_of (λ (h : HostVariables). view_of h.name views) (slice_get (inventory_view tables.views.inventory.now).hosts c.args.host) x view c.slots.ensures.named
          (ap (λ (j : read.Inventory). slice_get (inventory_view j).hosts c.args.host) c.requires.tables.inventory ∙ hx) in (
            ps,
            a,
            λ new y. found_all i views x ps (laters_in stage tables.laters.items) from found new (subst (λ (ss : Slots). ExitsAgree from (live ss)) (sym begins) c.in_ok-at.ensures.same)
                c.in_ok-found.ensures.fault (c.in_ok-found.ensures.next ∙ sym its) c.in_ok-found.ensures.settled c.in_ok-found.ensures.calls y,
          );
    }

pub loop-play-preserved : goal.loop-play-preserved
loop-play-preserved c =
    let l = c.loop-play in
    let stage = c.args.stage.now in
    let tables = c.args.tables.now in
    let views = views_view tables.views in
    let ls = laters_in stage tables.laters.items in
    let now = c.in_ok-way.way in
    let from = exit_of l.space l.way.at in
    let to = exit_of c.found_in.new.space now.at in
    let next : suc l.play ≡ l.play + 1 = omega arith in
    let within : l.play < length stage.scenes.now = omega arith in
    record {
      names = c.found_in.ensures.kept.names ∙ l.invariant.names;
      stands = c.in_ok-way.ensures.stands;
      next = c.in_ok-way.ensures.next;
      left = λ ps x a hx.
          let at : slice_get (inventory_view stage.inventory.now).hosts c.in_ok-constants.constants.host ≡ Some x = ap (slice_get (inventory_view stage.inventory.now).hosts) c.in_ok-constants.ensures.host ∙ hx in
          subst (λ n. Left stage.inventory.now views ls stage.scenes.now x ps n to now.found) next
          (next_left stage.inventory.now views ls stage.scenes.now x tables.views.well ps l.play from to l.way.found now.found within (stands_well l.space l.way.at l.invariant.stands) l.invariant.next
          (record { named = λ s p is b n. c.in_ok-way.ensures.named s p x is b at n; others = λ s p is b n. c.in_ok-way.ensures.others s p x is b at n }) (l.invariant.left ps x a hx));
    }

pub returns-clause-found : goal.returns-clause-found
returns-clause-found c = λ ps x a hx.
    let l = c.loop-play in
    let stage = c.args.stage.now in
    let tables = c.args.tables.now in
    let past : length stage.scenes.now ≤ l.play = omega arith in
    all_done stage.inventory.now (views_view tables.views) (laters_in stage tables.laters.items) stage.scenes.now x tables.views.well ps l.play (exit_of l.space l.way.at) l.way.found past l.invariant.next (l.invariant.left ps x a hx)
