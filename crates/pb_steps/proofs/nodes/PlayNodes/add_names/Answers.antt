use Rattle.std.proofs.Common.{◌≡◌, ◌<◌, ◌≤◌, ◌+◌, [], ◌∷◌, ◌++◌, ◌∙◌, get_or, length, map, take, sym, ap, subst}
use Rattle.std.proofs.lemmas.List.{map_more, take_all}
use Rattle.pb_reads.specs.Reached.{names_in}
use Rattle.pb_route.specs.Station.{IsStation, station_task}
use Rattle.pb_steps.specs.Uses.{Adds, SomeUses}
use Rattle.pb_steps.proofs.Used.{adds-more, adds-none}
use Rattle.pb_steps.proofs.nodes.PlayNodes.add_names.Goals as goal

pub loop-station-init : goal.loop-station-init
loop-station-init c = adds-none (names_in c.args.names.now) (SomeUses []) (λ n h. h)

pub add_used-requires : goal.add_used-requires
add_used-requires c =
    let i = c.loop-station.station-index in
    let s = c.station-item.result in
    let all = c.deref-station-items.ensures.value in record {
      station = subst IsStation (sym (c.station-item.is ∙ ap (λ xs. get_or xs i s) all)) (c.requires.nodes.stations i s (subst (λ xs. i < length xs) all c.loop-station-test.true));
    }

pub loop-station-preserved : goal.loop-station-preserved
loop-station-preserved c =
    let i = c.loop-station.station-index in
    let s = c.station-item.result in
    let ss = c.args.self.now.stations.items in
    let all = c.deref-station-items.ensures.value in
    let at : s ≡ get_or ss i s = c.station-item.is ∙ ap (λ xs. get_or xs i s) all in
    let more : map station_task (take (i + 1) ss) ≡ map station_task (take i ss) ++ station_task s ∷ [] =
    map_more station_task ss i s (subst (λ xs. i < length xs) all c.loop-station-test.true) ∙ ap (λ x. map station_task (take i ss) ++ station_task x ∷ []) (sym at) in
    adds-more (map station_task (take i ss)) (map station_task (take (i + 1) ss)) (station_task s) (names_in c.args.names.now) (names_in c.loop-station.names) (names_in c.add_used.new.names) more c.loop-station.invariant c.in_ok-add_used.ensures

pub returns : goal.returns
returns c =
    let ss = c.args.self.now.stations.items in
    subst (λ xs. Adds (SomeUses (map station_task xs)) (names_in c.args.names.now) (names_in c.loop-station.names)) (take_all c.loop-station.station-index ss (subst (λ xs. length xs ≤ c.loop-station.station-index) c.deref-station-items.ensures.value c.loop-station-test.false)) c.loop-station.invariant
