use Rattle.std.proofs.Common.{Option, ◌∙◌, ap, option_map, sym, Bor}
use Rattle.std.proofs.lemmas.Result.{IfOk-weaker}
use Rattle.pb_kind.specs.KindView.{kind_view}
use Rattle.pb_kind.specs.declared.kind.Kind.{Kind}
use Rattle.pb_route.specs.Station.{station_task}
use Rattle.pb_visit.specs.Visits.{failing_kind}
use Rattle.pb_visit.proofs.Ends.{fails_alone, fails_looped, fails_never}
use Rattle.pb_visit.proofs.writes.failing_kind.Goals as goal

pub returns-in_default : goal.returns-in_default
returns-in_default c =
    let s = c.args.station.now in
    let t = station_task s in
    IfOk-weaker c.copy_of.result _ _
    (λ o is. fails_alone t (option_map kind_view o) (is ∙ c.requires.station.failing)
    ∙ sym (ap (λ (x : Option (Bor Kind)). failing_kind t (option_map (λ k. kind_view k.now) x)) c.in_default.is)) c.copy_of.ensures

pub returns-in_ok-looped-in-Some-failing : goal.returns-in_ok-looped-in-Some-failing
returns-in_ok-looped-in-Some-failing c =
    let s = c.args.station.now in
    let t = station_task s in
    fails_looped t (kind_view c.in-Some-failing.field-0) (kind_view c.in-Some.list.now) (kind_view s.ends.all) (kind_view c.in_ok-looped-in-Some-failing.field-0)
    (sym (ap (option_map kind_view) c.in-Some-failing.is) ∙ c.requires.station.failing) c.requires.station.all c.in_ok-looped-in-Some-failing.ensures
    ∙ sym (ap (λ (x : Option (Bor Kind)). failing_kind t (option_map (λ k. kind_view k.now) x)) c.in-Some.is)

pub returns-in-None : goal.returns-in-None
returns-in-None c =
    let s = c.args.station.now in
    let t = station_task s in
    fails_never t (kind_view c.in-Some.list.now) (sym (ap (option_map kind_view) c.in-None.is) ∙ c.requires.station.failing)
    ∙ sym (ap (λ (x : Option (Bor Kind)). failing_kind t (option_map (λ k. kind_view k.now) x)) c.in-Some.is)
