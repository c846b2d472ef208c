use Rattle.std.proofs.Common.{◌≡◌, ◌+◌, ◌<◌, List, [], ap, get_or, length, refl, slice_get, subst, sym, ◌∙◌, arith}
use Rattle.std.proofs.lemmas.List.{get_or_read}
use Rattle.pb_semantics.specs.Keeps.{is_among}
use Rattle.pb_semantics.proofs.Bools.{untrue}
use Rattle.pb_language.specs.Judgement.{Exit}
use Rattle.pb_language.specs.Program.{setting_of}
use Rattle.pb_language.specs.World.{HostVariables}
use Rattle.pb_lattice.specs.Arena.{names_of}
use Rattle.pb_lattice.specs.Environments.{Stands, exit_of}
use Rattle.pb_lattice.specs.declared.environment.Environment.{Environment}
use Rattle.pb_inventory.specs.Inventory.{inventory_view}
use Rattle.pb_route.specs.declared.station.Station.{Station}
use Rattle.pb_find.specs.Ways.{nothing_known, value_at, way_visits}
use Rattle.pb_find.proofs.Entering.{kept_through}
use Rattle.pb_hosts.specs.Shown.{views_view}
use Rattle.pb_hosts.specs.Sights.{seen_setting}
use Rattle.pb_lasting.specs.Lasts.{Lasts}
use Rattle.pb_tables.specs.Played.{IsWay, laters_here}
use Rattle.pb_tables.specs.Scenes.{IsScene}
use Rattle.pb_tables.proofs.HostSeen.{lasts_as, laters_lent, named_in, one_of, one_there, seen_there}
use Rattle.pb_tables.proofs.HostWays.{way_there}
use Rattle.pb_tables.proofs.host.lasting_at.Goals as goal

pub returns-in_err-lasting-clause-kept : goal.returns-in_err-lasting-clause-kept
returns-in_err-lasting-clause-kept c = kept_through c.args.space.now c.walk.new.space c.lasting_in.new.space c.walk.ensures.kept c.lasting_in.ensures.kept

pub returns-clause-kept : goal.returns-clause-kept
returns-clause-kept c = kept_through c.args.space.now c.walk.new.space c.lasting_in.new.space c.walk.ensures.kept c.lasting_in.ensures.kept

pub returns-clause-stands : goal.returns-clause-stands
returns-clause-stands c =
    let es = c.in_ok-values.values.items in
    let n = length c.stations-stations.result.now + 1 in
    let end = c.index.result.now in
    let within : n < length es = omega (arith, c.in_ok-values.ensures.number, c.in_ok-values.values.ok.0, ap length c.stations-stations.ensures.stations) in
    (c.lasting_in.ensures.kept.stays end (subst (Stands c.walk.new.space) (sym c.index.ensures) (c.in_ok-values.ensures.stands n end within))).0

pub returns-clause-named : goal.returns-clause-named
returns-clause-named c = λ s p x is a hx named.
    let stage = c.args.stage.now in
    let inv = stage.inventory.now in
    let i = inventory_view inv in
    let views = views_view c.args.views.now in
    let scene = get_or stage.scenes.now c.args.play c.index-stage-play.result in
    let seen = c.of-seen.result in
    let st = seen_setting seen in
    let same : scene ≡ s = one_there stage.scenes.now c.args.play c.index-stage-play.result s c.requires.play is in
    let this : IsScene inv p scene = subst (IsScene inv p) (sym same) a in
    let name : x.name ≡ c.args.constants.now.name.now = one_of (λ (h : HostVariables). h.name) (slice_get i.hosts c.args.constants.now.host) x c.args.constants.now.name.now c.requires.constants.named hx in
    let setting : st ≡ setting_of i p views [] x.name = seen_there seen scene _ _ _ _ inv p x.name [] c.of-seen.ensures.cast c.of-seen.ensures.constants c.of-seen.ensures.views c.of-seen.ensures.laters (sym name) refl this
    (laters_lent i c.as_ref.result ∙ ap (λ o. laters_here i o) c.as_ref.ensures.value) in
    let r = scene.route in
    let space = c.walk.new.space in
    let from = exit_of c.args.space.now c.args.at in
    let es = c.in_ok-values.values.items in
    let ss = c.stations-stations.result.now in
    let end = c.index.result.now in
    let to = exit_of c.lasting_in.new.space end in
    let vs = way_visits st r.stations space es in
    let stations : ss ≡ r.stations = c.stations-stations.ensures.stations in
    let long : length es ≡ length r.stations + 2 = omega (arith, c.in_ok-values.ensures.number, c.in_ok-values.values.ok.0) in
    let within : length ss + 1 < length es = omega (arith, long, ap length stations) in
    let stays : to ≡ exit_of space end = (c.lasting_in.ensures.kept.stays end (subst (Stands space) (sym c.index.ensures) (c.in_ok-values.ensures.stands (length ss + 1) end within))).1 in
    let last : to ≡ value_at space es (length r.stations + 1) =
    stays ∙ ap (exit_of space) (get_or_read es (length ss + 1) end within c.index.ensures nothing_known) ∙ ap (λ (xs : List Station). value_at space es (length xs + 1)) stations in
    let way : IsWay st p.row from (value_at space es (length r.stations + 1)) vs = way_there st p.row r space es c.args.at from this.paths long (c.in_ok-values.ensures.walks p.row this.paths) in
    let lasting = c.in_ok-lasting.lasting in
    let lasts : Lasts space.names lasting (way_visits st ss space es) (value_at space es (length ss + 1)) =
    subst (λ (ys : List Environment). Lasts space.names lasting (way_visits st ss space ys) (value_at space ys (length ss + 1))) c.deref.ensures.value (c.in_ok-lasting.ensures.lasts st) in
    let found : Lasts space.names lasting vs (value_at space es (length r.stations + 1)) = subst (λ (xs : List Station). Lasts space.names lasting (way_visits st xs space es) (value_at space es (length xs + 1))) stations lasts in
    lasts_as space.names (names_of stage.names.now) st (setting_of i p views [] x.name) p.row from to lasting (c.walk.ensures.kept.names ∙ c.requires.names) setting (record {
      visits = vs;
      way = subst (λ (e : Exit). IsWay st p.row from e vs) (sym last) way;
      lasts = subst (λ (e : Exit). Lasts space.names lasting vs e) (sym last) found;
    })

pub returns-clause-others : goal.returns-clause-others
returns-clause-others c = λ s p x is a hx others.
    let stage = c.args.stage.now in
    let inv = stage.inventory.now in
    let scene = get_or stage.scenes.now c.args.play c.index-stage-play.result in
    let same : scene ≡ s = one_there stage.scenes.now c.args.play c.index-stage-play.result s c.requires.play is in
    let this : IsScene inv p scene = subst (IsScene inv p) (sym same) a in
    let named : is_among x.name p.hosts ≡ c.has.result = named_in inv p scene c.args.constants.now.host x c.has.result this c.has.ensures hx in
    untrue (sym others ∙ named ∙ c.if-not-has.false)
