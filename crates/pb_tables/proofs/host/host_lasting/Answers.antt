use Rattle.std.proofs.Common.{◌≡◌, ◌+◌, ◌++◌, ◌∷◌, ◌<◌, ◌≤◌, List, [], Some, ap, length, slice_get, subst, suc, sym, ◌∙◌, arith}
use Rattle.std.proofs.lemmas.List.{length_push}
use Rattle.std.proofs.lemmas.List.Elements.{All-nil, All-push}
use Rattle.std.specs.List.{All}
use Rattle.pb_semantics.specs.Kind.{Slots}
use Rattle.pb_language.specs.Judgement.{live}
use Rattle.pb_language.specs.Kinds.{known_slots}
use Rattle.pb_language.specs.World.{HostVariables}
use Rattle.pb_lattice.specs.Arena.{names_of}
use Rattle.pb_lattice.specs.Environments.{exit_of}
use Rattle.pb_lattice.proofs.Exits.{stands_well}
use Rattle.pb_inventory.specs.Inventory.{inventory_view}
use Rattle.pb_kind.specs.KindView.{slots_view}
use Rattle.pb_walks.specs.Agree.{ExitsAgree}
use Rattle.pb_hosts.specs.Shown.{views_view}
use Rattle.pb_hosts.specs.declared.lasting.Lasting.{Lasting}
use Rattle.pb_tables.proofs.HostLasts.{LeftLasting, all_lasting, lasting_start, next_lasting}
use Rattle.pb_tables.proofs.HostSeen.{one_of}
use Rattle.pb_tables.proofs.host.host_lasting.Goals as goal

pub loop-play-init : goal.loop-play-init
loop-play-init c =
    let stage = c.args.stage.now in
    let i = inventory_view stage.inventory.now in
    let views = views_view c.args.stage.now.known.now in
    let ns = names_of stage.names.now in
    let known = slots_view c.known_at.result.now.entries in
    let from = exit_of c.entry_of.new.space c.in_ok-at.at in
    let nothing : c.in_ok-lastings.lastings.items ≡ [] = c.in_ok-lastings.ensures.items in
    record {
      names = c.entry_of.ensures.kept.names;
      stands = c.in_ok-at.ensures.stands;
      number = ap length nothing;
      beside = subst (λ (ls : List Lasting). All (λ x. length x.from.items ≡ length stage.names.now) ls) (sym nothing) (All-nil (λ (x : Lasting). length x.from.items ≡ length stage.names.now));
      left = λ ps x a hx.
          let begins : known_slots x.variables ≡ known = one_of (λ (h : HostVariables). known_slots h.variables) (slice_get i.hosts c.args.host) x known c.known_at.ensures.known hx in
          subst (λ (ls : List Lasting). LeftLasting ns stage.inventory.now views stage.scenes.now x ps 0 from ls) (sym nothing)
          (lasting_start ns stage.inventory.now views stage.scenes.now x ps from stage.said (subst (λ (ss : Slots). ExitsAgree from (live ss)) (sym begins) c.in_ok-at.ensures.same) a);
    }

pub loop-play-preserved : goal.loop-play-preserved
loop-play-preserved c =
    let l = c.loop-play in
    let stage = c.args.stage.now in
    let views = views_view c.args.stage.now.known.now in
    let ns = names_of stage.names.now in
    let done = l.lastings.items in
    let lasting = c.in_ok-lasting.lasting in
    let from = exit_of l.space l.at in
    let to = exit_of c.lasting_at.new.space c.in_ok-lasting.end in
    let next : suc l.play ≡ l.play + 1 = omega arith in
    let within : l.play < length stage.scenes.now = omega arith in
    let more : c.push.new.self.items ≡ done ++ lasting ∷ [] = c.in_ok-push.ensures.items in
    record {
      names = c.lasting_at.ensures.kept.names ∙ l.invariant.names;
      stands = c.in_ok-lasting.ensures.stands;
      number = ap length more ∙ length_push done lasting ∙ ap (λ n. n + 1) l.invariant.number;
      beside = subst (λ (ls : List Lasting). All (λ x. length x.from.items ≡ length stage.names.now) ls) (sym more)
          (All-push (λ (x : Lasting). length x.from.items ≡ length stage.names.now) done lasting l.invariant.beside c.in_ok-lasting.ensures.beside);
      left = λ ps x a hx.
          let at : slice_get (inventory_view stage.inventory.now).hosts c.in_ok-constants.constants.host ≡ Some x = ap (slice_get (inventory_view stage.inventory.now).hosts) c.in_ok-constants.ensures.host ∙ hx in
          subst (λ (ls : List Lasting). LeftLasting ns stage.inventory.now views stage.scenes.now x ps (l.play + 1) to ls) (sym more)
          (subst (λ n. LeftLasting ns stage.inventory.now views stage.scenes.now x ps n to (done ++ lasting ∷ [])) next
          (next_lasting ns stage.inventory.now views stage.scenes.now x c.args.stage.now.known.now.well ps l.play from to done lasting within (stands_well l.space l.at l.invariant.stands)
          (record { named = λ s p is b n. c.in_ok-lasting.ensures.named s p x is b at n; others = λ s p is b n. c.in_ok-lasting.ensures.others s p x is b at n }) (l.invariant.left ps x a hx)));
    }

pub returns-clause-lasts : goal.returns-clause-lasts
returns-clause-lasts c = λ ps x a hx.
    let l = c.loop-play in
    let stage = c.args.stage.now in
    let past : length stage.scenes.now ≤ l.play = omega arith in
    all_lasting (names_of stage.names.now) stage.inventory.now (views_view c.args.stage.now.known.now) stage.scenes.now x c.args.stage.now.known.now.well ps l.play (exit_of l.space l.at) l.lastings.items past (l.invariant.left ps x a hx)
