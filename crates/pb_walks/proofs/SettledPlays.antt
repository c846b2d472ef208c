-- The writes of a host's way through the plays, one after the other: once is enough.
use Rattle.std.proofs.Common.{◌≡◌, List, [], ◌∷◌, Bool, true, false, ◌&&◌, refl, sym, ap, subst, ◌∙◌}
use Rattle.pb_semantics.specs.Kind.{Slots, recs, slot_at}
use Rattle.pb_semantics.specs.Below.{below}
use Rattle.pb_semantics.specs.Well.{Well}
use Rattle.pb_language.specs.Scope.{spot_kind, with_spot}
use Rattle.pb_language.specs.Cases.{Sets, no_sets, sets, append_sets}
use Rattle.pb_language.specs.Judgement.{task_writes}
use Rattle.pb_language.specs.Walk.{Visit}
use Rattle.pb_language.specs.Tables.{PlayWalk, written_spot, with_writes, with_visits, with_plays, writes_below, visits_below, plays_below}
use Rattle.pb_language.specs.Wells.{WellSets}
use Rattle.pb_language.proofs.Ways.{AllVisits}
use Rattle.pb_language.proofs.After.{well_append_sets}
use Rattle.pb_language.proofs.Rounds.{WellVisit, WellPlays}
use Rattle.pb_walks.specs.Agree.{SlotsAgree}
use Rattle.pb_walks.proofs.SettledWrites.{writes_settled, writes_again}

-- writes after others
with_both : (r s : Sets) (ss : Slots) → with_writes (append_sets r s) ss ≡ with_writes s (with_writes r ss)
with_both no_sets s ss = refl
with_both (sets n a k r) s ss = with_both r s (with_spot n (written_spot (slot_at n ss) k) ss)

three_hold : (a b c : Bool) → a && (b && c) ≡ (a && b) && c
three_hold true b c = refl
three_hold false b c = refl

below_both : (r s : Sets) (ss : Slots) → writes_below (append_sets r s) ss ≡ writes_below r ss && writes_below s ss
below_both no_sets s ss = refl
below_both (sets n a k r) s ss =
    let here = below k (spot_kind (slot_at n ss)) in
    ap (λ q. here && q) (below_both r s ss) ∙ three_hold here (writes_below r ss) (writes_below s ss)

-- the writes of all visits
abbrev visits_writes : List Visit → Sets
visits_writes [] = no_sets
visits_writes (v ∷ vs) = append_sets (task_writes v.setting v.visited v.env) (visits_writes vs)

visits_with : (vs : List Visit) (ss : Slots) → with_visits vs ss ≡ with_writes (visits_writes vs) ss
visits_with [] ss = refl
visits_with (v ∷ vs) ss =
    let here = task_writes v.setting v.visited v.env in
    visits_with vs (with_writes here ss) ∙ sym (with_both here (visits_writes vs) ss)

visits_under : (vs : List Visit) (ss : Slots) → visits_below vs ss ≡ writes_below (visits_writes vs) ss
visits_under [] ss = refl
visits_under (v ∷ vs) ss =
    let here = task_writes v.setting v.visited v.env in
    ap (λ q. writes_below here ss && q) (visits_under vs ss) ∙ sym (below_both here (visits_writes vs) ss)

visits_sets : (vs : List Visit) → AllVisits WellVisit vs → WellSets (visits_writes vs)
visits_sets [] a = tt
visits_sets (v ∷ vs) a = well_append_sets (task_writes v.setting v.visited v.env) (visits_writes vs) a.0.1 (visits_sets vs a.1)

-- and of all plays
abbrev plays_writes : List PlayWalk → Sets
plays_writes [] = no_sets
plays_writes (w ∷ ws) = append_sets (visits_writes w.walked.visits) (plays_writes ws)

plays_with : (ws : List PlayWalk) (ss : Slots) → with_plays ws ss ≡ with_writes (plays_writes ws) ss
plays_with [] ss = refl
plays_with (w ∷ ws) ss =
    let here = visits_writes w.walked.visits in
    plays_with ws (with_visits w.walked.visits ss) ∙ ap (λ ts. with_writes (plays_writes ws) ts) (visits_with w.walked.visits ss) ∙ sym (with_both here (plays_writes ws) ss)

plays_under : (ws : List PlayWalk) (ss : Slots) → plays_below ws ss ≡ writes_below (plays_writes ws) ss
plays_under [] ss = refl
plays_under (w ∷ ws) ss =
    let here = visits_writes w.walked.visits in
    ap (λ q. visits_below w.walked.visits ss && q) (plays_under ws ss) ∙ ap (λ q. q && writes_below (plays_writes ws) ss) (visits_under w.walked.visits ss) ∙ sym (below_both here (plays_writes ws) ss)

plays_sets : (ws : List PlayWalk) → WellPlays ws → WellSets (plays_writes ws)
plays_sets [] a = tt
plays_sets (w ∷ ws) a = well_append_sets (visits_writes w.walked.visits) (plays_writes ws) (visits_sets w.walked.visits a.0) (plays_sets ws a.1)

-- so once is enough
pub plays_settled : (ws : List PlayWalk) (ss : Slots) → WellPlays ws → Well (recs ss) → plays_below ws (with_plays ws ss) ≡ true
plays_settled ws ss a v =
    plays_under ws (with_plays ws ss) ∙ ap (λ ts. writes_below (plays_writes ws) ts) (plays_with ws ss) ∙ writes_settled (plays_writes ws) ss (plays_sets ws a) v

pub plays_again : (ws : List PlayWalk) (ss : Slots) → WellPlays ws → Well (recs ss) → SlotsAgree (with_plays ws ss) (with_plays ws (with_plays ws ss))
plays_again ws ss a v =
    let w = plays_writes ws in
    let same : with_plays ws (with_plays ws ss) ≡ with_writes w (with_writes w ss) = plays_with ws (with_plays ws ss) ∙ ap (λ ts. with_writes w ts) (plays_with ws ss) in
    subst (λ z. SlotsAgree z (with_plays ws (with_plays ws ss))) (sym (plays_with ws ss)) (subst (λ z. SlotsAgree (with_writes w ss) z) (sym same) (writes_again w ss (plays_sets ws a) v))
