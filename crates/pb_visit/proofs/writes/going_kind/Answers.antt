use Rattle.std.proofs.Common.{Option, ◌∙◌, ap, is_some, option_map, sym, Bor}
use Rattle.std.proofs.lemmas.Result.{IfOk-weaker}
use Rattle.pb_kind.specs.KindView.{kind_view}
use Rattle.pb_kind.specs.declared.kind.Kind.{Kind}
use Rattle.pb_route.specs.Station.{station_task}
use Rattle.pb_visit.specs.Visits.{going_kind}
use Rattle.pb_visit.proofs.Ends.{goes_alone}
use Rattle.pb_visit.proofs.writes.going_kind.Goals as goal

pub returns-in-None : goal.returns-in-None
returns-in-None c =
    let s = c.args.station.now in
    let t = station_task s in
    IfOk-weaker c.copy_of.result _ _
    (λ o is. goes_alone t (option_map kind_view o) (sym (ap (λ (x : Option (Bor Kind)). is_some x) c.in-None.is) ∙ c.requires.over) (is ∙ c.requires.station.going)
    ∙ sym (ap (λ (x : Option (Bor Kind)). going_kind t (option_map (λ k. kind_view k.now) x)) c.in-None.is)) c.copy_of.ensures
