-- Walks that agree leave the same names certain at later places.
use Rattle.std.proofs.Common.{◌≡◌, ℕ, suc, max, nat_le, List, [], ◌∷◌, Bool, true, false, not, ◌&&◌, ◌||◌, cond, bytes_eq, refl, sym, ap, subst, ◌∙◌}
use Rattle.pb_semantics.specs.Kind.{KindData, Slots, Spot, no_slots, slot, nowhere, spot, slot_at, is_there, is_listed}
use Rattle.pb_semantics.specs.Keeps.{is_among}
use Rattle.pb_semantics.specs.Well.{are_once}
use Rattle.pb_semantics.proofs.Bools.{untrue, and-left, and-right, not-true, same_tests}
use Rattle.pb_semantics.proofs.Names.{same_name}
use Rattle.pb_semantics.proofs.Slots.{listed_is_there}
use Rattle.pb_language.specs.Expression.{Name}
use Rattle.pb_language.specs.Scope.{is_certain, Since, no_since, every_name, is_later, Later, later_of}
use Rattle.pb_language.specs.Judgement.{Exit, dead, live}
use Rattle.pb_language.specs.Walk.{Visit}
use Rattle.pb_language.specs.Program.{Play}
use Rattle.pb_language.specs.Tables.{PlayWalk, HostWalk, certain_from, past_places, latest_env, names_since, since_of, since_first, after_first, play_laters, walks_after}
use Rattle.pb_language.specs.Wells.{WellExit}
use Rattle.pb_language.proofs.Spots.{path_le}
use Rattle.pb_walks.specs.Agree.{SlotsAgree, ExitsAgree, LaterAgrees, AllVisitsAgree, AllPlaysAgree, AllHostsAgree}
use Rattle.pb_walks.specs.Laws.{LatersOfAgree}
use Rattle.pb_walks.proofs.Agreeing.{SameSlots, slots_own, either_same}

-- which names are certain
certain_too : (a b : Bool) → a || not b ≡ true → b ≡ true → a ≡ true
certain_too true b h i = refl
certain_too false true h i = untrue h
certain_too false false h i = i

certain_same : (n : Name) (ss ts : Slots) → SlotsAgree ss ts → is_certain (slot_at n ss) ≡ is_certain (slot_at n ts)
certain_same n ss ts x =
    let s = slot_at n ss in
    let t = slot_at n ts in
    same_tests (is_certain s) (is_certain t) (λ h. certain_too (is_certain t) (is_certain s) (path_le t s (x.1.at n)).1 h) (λ h. certain_too (is_certain s) (is_certain t) (path_le s t (x.0.at n)).1 h)

from_same : (n : Name) (vs us : List Visit) → AllVisitsAgree vs us → certain_from n vs ≡ certain_from n us
from_same n [] [] a = refl
from_same n [] (u ∷ us) a = absurd a
from_same n (v ∷ vs) [] a = absurd a
from_same n (v ∷ vs) (u ∷ us) a =
    ap (λ q. cond q (certain_from n vs) (max (suc v.visited.place) (certain_from n vs))) (certain_same n v.env u.env a.0.envs)
    ∙ ap (λ p. cond (is_certain (slot_at n u.env)) p (max (suc v.visited.place) p)) (from_same n vs us a.1)
    ∙ ap (λ t. cond (is_certain (slot_at n u.env)) (certain_from n us) (max (suc t.place) (certain_from n us))) a.0.visited

past_same : (vs us : List Visit) → AllVisitsAgree vs us → past_places vs ≡ past_places us
past_same [] [] a = refl
past_same [] (u ∷ us) a = absurd a
past_same (v ∷ vs) [] a = absurd a
past_same (v ∷ vs) (u ∷ us) a = ap (λ t. max (suc t.place) (past_places vs)) a.0.visited ∙ ap (λ p. max (suc u.visited.place) p) (past_same vs us a.1)

-- the latest environment
latest_same : (p q : ℕ) (ss ts : Slots) (vs us : List Visit) → p ≡ q → SameSlots ss ts → AllVisitsAgree vs us → SameSlots (latest_env p ss vs) (latest_env q ts us)
latest_same p q ss ts [] [] e x a = x
latest_same p q ss ts [] (u ∷ us) e x a = absurd a
latest_same p q ss ts (v ∷ vs) [] e x a = absurd a
latest_same p q ss ts (v ∷ vs) (u ∷ us) e x a =
    let place : v.visited.place ≡ u.visited.place = ap (λ t. t.place) a.0.visited in
    either_same (nat_le p v.visited.place) (nat_le q u.visited.place) (latest_env v.visited.place v.env vs) (latest_env p ss vs) (latest_env u.visited.place u.env us) (latest_env q ts us)
    (ap (λ n. nat_le n v.visited.place) e ∙ ap (λ n. nat_le q n) place) (latest_same v.visited.place u.visited.place v.env u.env vs us place (a.0.envs, a.0.well, a.0.well_too) a.1) (latest_same p q ss ts vs us e x a.1)

-- a name is listed where it is certain
unlisted_spot : (s : Spot) → is_there s ≡ false → is_certain s ≡ false
unlisted_spot nowhere h = refl
unlisted_spot (spot a k) h = untrue (sym h)

unlisted : (x n : Name) (ss : Slots) → bytes_eq x n ≡ true → not (is_listed n ss) ≡ true → is_certain (slot_at x ss) ≡ false
unlisted x n ss e h = rw (same_name x n e) (unlisted_spot (slot_at n ss) (sym (listed_is_there n ss) ∙ not-true (is_listed n ss) h))

certain_step : (q c d r : Bool) (k : KindData) (s : Spot) → (q ≡ true → is_certain s ≡ false) → (q ≡ true → c ≡ d) → (q && c) || ((is_certain s && d) || r) ≡ (is_certain (cond q (spot true k) s) && d) || r
certain_step true c d r k s f g = rw (f refl, g refl) refl
certain_step false c d r k s f g = refl

uncertain_step : (q d r : Bool) (k : KindData) (s : Spot) → (q ≡ true → is_certain s ≡ false) → (is_certain s && d) || r ≡ (is_certain (cond q (spot false k) s) && d) || r
uncertain_step true d r k s f = rw (f refl) refl
uncertain_step false d r k s f = refl

since_at : (vs : List Visit) (l : Since) (p : ℕ) (x : Name) (ss : Slots) → are_once ss ≡ true → is_later (names_since vs ss l) p x ≡ (is_certain (slot_at x ss) && nat_le (certain_from x vs) p) || is_later l p x
since_at vs l p x no_slots o = refl
since_at vs l p x (slot n true k ss) o =
    let none = and-left (not (is_listed n ss)) (are_once ss) o in
    ap (λ q. (bytes_eq x n && nat_le (certain_from n vs) p) || q) (since_at vs l p x ss (and-right (not (is_listed n ss)) (are_once ss) o))
    ∙ certain_step (bytes_eq x n) (nat_le (certain_from n vs) p) (nat_le (certain_from x vs) p) (is_later l p x) k (slot_at x ss) (λ e. unlisted x n ss e none) (λ e. ap (λ m. nat_le (certain_from m vs) p) (sym (same_name x n e)))
since_at vs l p x (slot n false k ss) o =
    let none = and-left (not (is_listed n ss)) (are_once ss) o in
    since_at vs l p x ss (and-right (not (is_listed n ss)) (are_once ss) o) ∙ uncertain_step (bytes_eq x n) (nat_le (certain_from x vs) p) (is_later l p x) k (slot_at x ss) (λ e. unlisted x n ss e none)

module _ (vs us : List Visit) (a : AllVisitsAgree vs us) (p : ℕ) (x : Name) where
  names_same : (ss ts : Slots) (l m : Since) → SameSlots ss ts → is_later l p x ≡ is_later m p x → is_later (names_since vs ss l) p x ≡ is_later (names_since us ts m) p x
  names_same ss ts l m s e =
      since_at vs l p x ss s.1.0 ∙ ap (λ q. (q && nat_le (certain_from x vs) p) || is_later l p x) (certain_same x ss ts s.0) ∙ ap (λ n. (is_certain (slot_at x ts) && nat_le n p) || is_later l p x) (from_same x vs us a)
      ∙ ap (λ q. (is_certain (slot_at x ts) && nat_le (certain_from x us) p) || q) e ∙ sym (since_at us m p x ts s.2.0)

  since_same : (e f : Exit) → WellExit e → WellExit f → ExitsAgree e f → is_later (since_of vs e) p x ≡ is_later (since_of us f) p x
  since_same dead dead w v s =
      names_same (latest_env 0 no_slots vs) (latest_env 0 no_slots us) (every_name (past_places vs) no_since) (every_name (past_places us) no_since)
      (latest_same 0 0 no_slots no_slots vs us refl (slots_own no_slots (refl, tt), (refl, tt), (refl, tt)) a) (ap (λ n. is_later (every_name n no_since) p x) (past_same vs us a))
  since_same dead (live ts) w v s = untrue s.1
  since_same (live ss) dead w v s = untrue s.0
  since_same (live ss) (live ts) w v s = names_same ss ts no_since no_since (s, w, v) refl

first_same : (ws xs : List PlayWalk) (p : ℕ) (x : Name) → AllPlaysAgree ws xs → is_later (since_first ws) p x ≡ is_later (since_first xs) p x
first_same [] [] p x a = refl
first_same [] (y ∷ xs) p x a = absurd a
first_same (w ∷ ws) [] p x a = absurd a
first_same (w ∷ ws) (y ∷ xs) p x a = since_same w.walked.visits y.walked.visits a.0.visits p x w.walked.well y.walked.well a.0.well a.0.well_too a.0.ends

later_step : (q r : Bool) (k l m i j : Since) (p : ℕ) (x : Name) → is_later k p x ≡ is_later l p x → is_later i p x ≡ is_later j p x → is_later (cond q (cond r k m) i) p x ≡ is_later (cond q (cond r l m) j) p x
later_step true true k l m i j p x e f = e
later_step true false k l m i j p x e f = refl
later_step false r k l m i j p x e f = f

play_same : (y : Play) (ws xs : List HostWalk) → AllHostsAgree ws xs → LaterAgrees (play_laters y ws) (play_laters y xs)
play_same y [] [] a p g x = refl
play_same y [] (z ∷ xs) a p g x = absurd a
play_same y (w ∷ ws) [] a p g x = absurd a
play_same y (w ∷ ws) (z ∷ xs) a p g x =
    later_step (bytes_eq g w.host) (is_among w.host y.hosts) (since_first w.plays) (since_first z.plays) (every_name 0 no_since) (later_of g (play_laters y ws)) (later_of g (play_laters y xs)) p x (first_same w.plays z.plays p x a.0.plays) (play_same y ws xs a.1 p g x)
    ∙ ap (λ h. is_later (cond (bytes_eq g h) (cond (is_among h y.hosts) (since_first z.plays) (every_name 0 no_since)) (later_of g (play_laters y xs))) p x) a.0.host

rest_agree : (q : Bool) (ws xs : List PlayWalk) → AllPlaysAgree ws xs → AllPlaysAgree (after_first q ws) (after_first q xs)
rest_agree false ws xs a = a
rest_agree true [] [] a = tt
rest_agree true [] (x ∷ xs) a = absurd a
rest_agree true (w ∷ ws) [] a = absurd a
rest_agree true (w ∷ ws) (x ∷ xs) a = a.1

after_agree : (y : Play) (ws xs : List HostWalk) → AllHostsAgree ws xs → AllHostsAgree (walks_after y ws) (walks_after y xs)
after_agree y [] [] a = tt
after_agree y [] (x ∷ xs) a = absurd a
after_agree y (w ∷ ws) [] a = absurd a
after_agree y (w ∷ ws) (x ∷ xs) a = (
  record {
    host = a.0.host;
    plays = subst (λ h. AllPlaysAgree (after_first (is_among w.host y.hosts) w.plays) (after_first (is_among h y.hosts) x.plays)) a.0.host (rest_agree (is_among w.host y.hosts) w.plays x.plays a.0.plays);
  },
  after_agree y ws xs a.1,
)

where_linear : (q : Bool) (ls ms : List Later) → LaterAgrees ls ms → LaterAgrees (cond q ls []) (cond q ms [])
where_linear true ls ms l = l
where_linear false ls ms l = λ p g x. refl

pub laters_of_agree : LatersOfAgree
laters_of_agree [] ws xs a = tt
laters_of_agree (y ∷ ps) ws xs a = (where_linear y.is_linear (play_laters y ws) (play_laters y xs) (play_same y ws xs a), laters_of_agree ps (walks_after y ws) (walks_after y xs) (after_agree y ws xs a))
