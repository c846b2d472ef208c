use Rattle.std.proofs.Common.{◌≡◌, ℕ, ◌+◌, ◌<◌, max, drop, slice_index, vec_len}
use Rattle.std.specs.List.{All}
use Rattle.pb_route.specs.Places.{length_at}
use Rattle.pb_find.specs.Ways.{visits_from, way_visits}
use Rattle.pb_find.proofs.calls.lengths_in.Given as goal

abbrev pub invariant-loop-index : goal.invariant-loop-index
invariant-loop-index g l = record {
  placed : All (λ s. s.place < vec_len l.lengths) l.stations;
  left : (p : ℕ) → max (slice_index l.lengths.items p) (length_at p (visits_from (g.O.Outlook.setting l.outlook) (drop l.index l.stations) l.space l.values (l.index + 1)))
      ≡ length_at p (way_visits (g.O.Outlook.setting l.outlook) l.stations l.space l.values);
}
