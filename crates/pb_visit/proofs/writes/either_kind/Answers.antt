use Rattle.std.proofs.Common.{◌≡◌, ◌∙◌, Option, None, Some, ap, option_map, sym, Bor}
use Rattle.pb_semantics.specs.Kind.{KindData}
use Rattle.pb_kind.specs.KindView.{kind_view}
use Rattle.pb_kind.specs.declared.kind.Kind.{Kind}
use Rattle.pb_route.specs.Station.{station_task}
use Rattle.pb_visit.specs.Visits.{failing_kind, going_kind}
use Rattle.pb_visit.proofs.Either.{either_alone, either_looped}
use Rattle.pb_visit.proofs.writes.either_kind.Goals as goal

abbrev known : Option (Bor Kind) → Option KindData
known o = option_map (λ k. kind_view k.now) o

pub returns-in_ok-clone-in-None : goal.returns-in_ok-clone-in-None
returns-in_ok-clone-in-None c =
    let t = station_task c.args.station.now in
    let j = kind_view c.in-Some-Some.kind in
    let k = kind_view c.in-Some-Some.field-0-1 in
    let goes : Some j ≡ going_kind t None = sym (ap (option_map kind_view) c.in-Some-Some.is-0) ∙ c.requires.going ∙ ap (λ o. going_kind t (known o)) c.in-None.is in
    let fails : Some k ≡ failing_kind t None = sym (ap (option_map kind_view) c.in-Some-Some.is-1) ∙ c.requires.failing ∙ ap (λ o. failing_kind t (known o)) c.in-None.is in
    rw c.in-Some-Some.is-0 (rw c.in-Some-Some.is-1 (either_alone t j k (kind_view c.in_ok-clone-in-None.field-0) goes fails (c.in_ok-clone-in-None.ensures.cases ∙ c.requires.station.all)))

pub returns-in_ok-clone-in-Some : goal.returns-in_ok-clone-in-Some
returns-in_ok-clone-in-Some c =
    let t = station_task c.args.station.now in
    let l = kind_view c.in-Some.field-0.now in
    let j = kind_view c.in-Some-Some.kind in
    let k = kind_view c.in-Some-Some.field-0-1 in
    let goes : Some j ≡ going_kind t (Some l) = sym (ap (option_map kind_view) c.in-Some-Some.is-0) ∙ c.requires.going ∙ ap (λ o. going_kind t (known o)) c.in-Some.is in
    let fails : Some k ≡ failing_kind t (Some l) = sym (ap (option_map kind_view) c.in-Some-Some.is-1) ∙ c.requires.failing ∙ ap (λ o. failing_kind t (known o)) c.in-Some.is in
    rw c.in-Some-Some.is-0 (rw c.in-Some-Some.is-1 (rw c.in_ok-clone-in-Some.ensures.cases (either_looped t l j k goes fails)))
