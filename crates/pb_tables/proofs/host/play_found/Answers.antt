use Rattle.std.proofs.Common.{◌≡◌, ◌+◌, ◌<◌, List, [], ap, length, map, subst, sym, ◌∙◌, arith}
use Rattle.std.proofs.lemmas.List.{get_or_read}
use Rattle.pb_language.specs.Judgement.{Exit}
use Rattle.pb_language.specs.Plays.{play_row}
use Rattle.pb_language.specs.Tables.{row_calls}
use Rattle.pb_lattice.specs.Environments.{exit_of}
use Rattle.pb_lattice.specs.declared.environment.Environment.{Environment}
use Rattle.pb_kind.specs.KindView.{slots_view}
use Rattle.pb_route.specs.Station.{station_task}
use Rattle.pb_route.specs.declared.station.Station.{Station}
use Rattle.pb_route.specs.Places.{places_calls}
use Rattle.pb_find.specs.Finds.{Finds}
use Rattle.pb_find.specs.Ways.{nothing_known, value_at, way_visits}
use Rattle.pb_tables.specs.Played.{IsWay}
use Rattle.pb_tables.proofs.HostWays.{calls_there, way_there}
use Rattle.pb_tables.proofs.host.play_found.Goals as goal

pub returns-clause-next : goal.returns-clause-next
returns-clause-next g c = (c.in_ok-find.ensures []).well

pub returns-clause-found : goal.returns-clause-found
returns-clause-found g c = λ h ms d of.
    let st = g.O.Outlook.setting c.args.outlook.now in
    let r = c.args.route.now in
    let row = play_row ms d in
    let s = c.walk.new.space in
    let es = c.in_ok-values.values.items in
    let ss = c.stations-stations.result.now in
    let view = slots_view c.args.view.now.entries in
    let before = c.args.before in
    let find = c.in_ok-find.find in
    let end = c.index.result.now in
    let vs = way_visits st r.stations s es in
    let stations : ss ≡ r.stations = c.stations-stations.ensures.stations in
    let long : length es ≡ length r.stations + 2 = omega (arith, c.in_ok-values.ensures.number, c.in_ok-values.values.ok.0) in
    let within : length ss + 1 < length es = omega (arith, long, ap length stations) in
    let last : exit_of s end ≡ value_at s es (length r.stations + 1) =
    ap (exit_of s) (get_or_read es (length ss + 1) end within c.index.ensures nothing_known) ∙ ap (λ (xs : List Station). value_at s es (length xs + 1)) stations in
    let way : IsWay st row (exit_of c.args.space.now before.at) (value_at s es (length r.stations + 1)) vs = way_there st row r s es before.at (exit_of c.args.space.now before.at) of long (c.in_ok-values.ensures.walks row of) in
    let found : Finds h view (way_visits st ss s es) before.found.find find = subst (λ (ys : List Environment). Finds h view (way_visits st ss s ys) before.found.find find) c.deref.ensures.value (c.in_ok-find.ensures h) in
    let more : c.in_ok-more.more ≡ row_calls vs row =
    c.in_ok-more.ensures ∙ ap (λ (ys : List Environment). places_calls (way_visits st ss s ys) 0 (map station_task ss)) c.deref-2.ensures.value
    ∙ ap (λ (xs : List Station). places_calls (way_visits st xs s es) 0 (map station_task xs)) stations ∙ sym (calls_there st ms d r s es of c.places_are_counted.ensures) in
    record {
      visits = vs;
      way = subst (λ (x : Exit). IsWay st row (exit_of c.args.space.now before.at) x vs) (sym last) way;
      finds = subst (λ (xs : List Station). Finds h view (way_visits st xs s es) before.found.find find) stations found;
      calls = c.in_ok-sum.ensures ∙ ap (λ n. before.found.calls + n) more;
    }
