-- A kind is well formed in one way at most, and so are the tables of views.
use Rattle.std.proofs.Common.{List}
use Rattle.std.proofs.Props.{props}
use Rattle.pb_semantics.specs.Kind.{KindData, Slots, Cases, lists, recs, results, no_slots, slot, no_cases, one}
use Rattle.pb_semantics.specs.Well.{LeastAbove, Well, WellCases, WellSlots}
use Rattle.pb_language.specs.Scope.{View}
use Rattle.pb_language.specs.Wells.{WellViews}

least_prop : (cs : Cases) (r : KindData) → IsProp (LeastAbove cs r)
least_prop cs r = hlevel props

mutual
  pub well_prop : (k : KindData) → IsProp (Well k)
  well_prop (lists k n) = well_prop k
  well_prop (recs ss) = let h : IsProp (WellSlots ss) = well_slots_prop ss in hlevel (props, h)
  well_prop (results cs r) =
      let h : IsProp (WellCases cs) = well_cases_prop cs in
      let i : IsProp (Well r) = well_prop r in
      hlevel (props, h, i, least_prop cs r)
  well_prop k = hlevel props

  pub well_slots_prop : (ss : Slots) → IsProp (WellSlots ss)
  well_slots_prop no_slots = hlevel props
  well_slots_prop (slot n a k ss) =
      let h : IsProp (Well k) = well_prop k in
      let i : IsProp (WellSlots ss) = well_slots_prop ss in
      hlevel (props, h, i)

  pub well_cases_prop : (cs : Cases) → IsProp (WellCases cs)
  well_cases_prop no_cases = hlevel props
  well_cases_prop (one m sh fl k cs) =
      let h : IsProp (Well k) = well_prop k in
      let i : IsProp (WellCases cs) = well_cases_prop cs in
      hlevel (props, h, i)

pub well_views_prop : (vs : List View) → IsProp (WellViews vs)
well_views_prop vs = hlevel (props, well_prop)
