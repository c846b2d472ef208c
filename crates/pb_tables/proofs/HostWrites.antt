-- What a host's variables become to others, play by play.
use Rattle.std.proofs.Common.{List, [], ◌∷◌}
use Rattle.pb_semantics.specs.Kind.{Slots, recs}
use Rattle.pb_semantics.specs.Well.{Well}
use Rattle.pb_language.specs.Tables.{PlayWalk, with_plays, with_visits}
use Rattle.pb_language.specs.Walk.{Visit}
use Rattle.pb_walks.specs.Agree.{AllPlaysAgree, AllVisitsAgree, SlotsAgree}
use Rattle.pb_walks.proofs.Agreeing.{SameSlots, slots_own, slots_through}
use Rattle.pb_walks.proofs.SameWrites.{visits_written}

-- the writes of visits that agree with others, on slots that agree
visits_on : (vs us : List Visit) (ss ts : Slots) → AllVisitsAgree vs us → SameSlots ss ts → SameSlots (with_visits vs ss) (with_visits vs ts)
visits_on vs us ss ts a s =
    let x = visits_written vs us ss ts a s in
    let y = visits_written vs us ts ts a (slots_own ts s.2, s.2, s.2) in
    (slots_through (with_visits vs ss) (with_visits us ts) (with_visits vs ts) x.1 x.2 y.1 x.0 (y.0.1, y.0.0), x.1, y.1)

plays_on : (ws xs : List PlayWalk) (ss ts : Slots) → AllPlaysAgree ws xs → SameSlots ss ts → SameSlots (with_plays ws ss) (with_plays ws ts)
plays_on [] [] ss ts a s = s
plays_on [] (x ∷ xs) ss ts a s = absurd a
plays_on (w ∷ ws) [] ss ts a s = absurd a
plays_on (w ∷ ws) (x ∷ xs) ss ts a s = plays_on ws xs (with_visits w.walked.visits ss) (with_visits w.walked.visits ts) a.1 (visits_on w.walked.visits x.walked.visits ss ts a.0.visits s)

-- the visits of a play, and then those of others
pub writes_then : (vs xs : List Visit) (ws ys : List PlayWalk) (old mid new : Slots) → AllVisitsAgree vs xs → AllPlaysAgree ws ys → Well (recs old) → Well (recs mid) → Well (recs new)
    → SlotsAgree mid (with_visits vs old) → SlotsAgree new (with_plays ws mid) → SlotsAgree new (with_plays ws (with_visits vs old))
writes_then vs xs ws ys old mid new a b wo wm wn m n =
    let first = visits_written vs xs old old a (slots_own old wo, wo, wo) in
    let last = plays_on ws ys mid (with_visits vs old) b (m, wm, first.1) in
    slots_through new (with_plays ws mid) (with_plays ws (with_visits vs old)) wn last.1 last.2 n last.0
