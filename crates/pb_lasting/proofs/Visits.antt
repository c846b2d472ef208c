-- Of the nodes of a host's way: from which place on a name is certain, the place past all of them, and the environment of the latest.
use Rattle.std.proofs.Common.{◌≡◌, ℕ, suc, max, nat_le, List, [], ◌∷◌, ◌++◌, map, Bool, true, false, not, ◌&&◌, cond, refl, sym, ap, ◌∙◌, arith, true≢false}
use Rattle.pb_semantics.specs.Kind.{Slots, slot_at}
use Rattle.pb_language.specs.Expression.{Name}
use Rattle.pb_language.specs.Judgement.{Exit, dead, live}
use Rattle.pb_language.specs.Scope.{is_certain}
use Rattle.pb_language.specs.Setting.{Setting}
use Rattle.pb_language.specs.Tables.{certain_from, latest_env, past_places}
use Rattle.pb_language.specs.Task.{Task}
use Rattle.pb_language.specs.Walk.{Visit, visits_at}
use Rattle.pb_lattice.specs.Environments.{is_dead}
use Rattle.pb_outlook.specs.Standing.{known_of}
use Rattle.pb_route.specs.Station.{station_task}
use Rattle.pb_route.specs.declared.station.Station.{Station}
use Rattle.pb_route.specs.Visited.{nodes_visits}
use Rattle.pb_lasting.specs.Losses.{lost_among, lost_at, reached}

later_of_two : (q : Bool) (p a b : ℕ) → cond q (max a b) (max p (max a b)) ≡ max (cond q a (max p a)) b
later_of_two true p a b = refl
later_of_two false p a b = omega arith

certain-append : (n : Name) (vs ws : List Visit) → certain_from n (vs ++ ws) ≡ max (certain_from n vs) (certain_from n ws)
certain-append n [] ws = omega arith
certain-append n (v ∷ vs) ws =
    let q = is_certain (slot_at n v.env) in
    ap (λ m. cond q m (max (suc v.visited.place) m)) (certain-append n vs ws) ∙ later_of_two q (suc v.visited.place) (certain_from n vs) (certain_from n ws)

certain-here : (n : Name) (st : Setting) (t : Task) (e : Exit) → certain_from n (visits_at st t e) ≡ lost_at n t.place e
certain-here n st t dead = refl
certain-here n st t (live ss) = once (is_certain (slot_at n ss)) where
  once : (q : Bool) → cond q 0 (max (suc t.place) 0) ≡ cond q 0 (suc t.place)
  once true = refl
  once false = omega arith

certain-nodes : (n : Name) (st : Setting) (ts : List Task) (val : ℕ → Exit) (k : ℕ) → certain_from n (nodes_visits st ts val k) ≡ lost_among n val (reached val k (map (λ t. t.place) ts))
certain-nodes n st [] val k = refl
certain-nodes n st (t ∷ ts) val k =
    certain-append n (visits_at st t (val k)) (nodes_visits st ts val (suc k)) ∙ ap (λ m. max m (certain_from n (nodes_visits st ts val (suc k)))) (certain-here n st t (val k))
    ∙ ap (max (lost_at n t.place (val k))) (certain-nodes n st ts val (suc k)) ∙ where_reached (val k) refl where
      rest : List (ℕ × ℕ)
      rest = reached val (suc k) (map (λ u. u.place) ts)

      where_reached : (e : Exit) → e ≡ val k → max (lost_at n t.place e) (lost_among n val rest) ≡ lost_among n val (cond (is_dead e) rest ((t.place, k) ∷ rest))
      where_reached dead h = omega arith
      where_reached (live ss) h = ap (λ e. max (lost_at n t.place e) (lost_among n val rest)) h

-- where a way leads to the node
pub alive_slots : (e : Exit) → is_dead e ≡ false → e ≡ live (known_of e)
alive_slots dead h = absurd (true≢false h)
alive_slots (live ss) h = refl

pub past-here : (st : Setting) (t : Task) (e : Exit) (vs : List Visit) → past_places (visits_at st t e ++ vs) ≡ cond (is_dead e) (past_places vs) (max (suc t.place) (past_places vs))
past-here st t dead vs = refl
past-here st t (live ss) vs = refl

latest-here : (st : Setting) (t : Task) (e : Exit) (vs : List Visit) (p : ℕ) (ss : Slots) → latest_env p ss (visits_at st t e ++ vs) ≡ cond (not (is_dead e) && nat_le p t.place) (latest_env t.place (known_of e) vs) (latest_env p ss vs)
latest-here st t dead vs p ss = refl
latest-here st t (live ts) vs p ss = refl

-- one node more is counted
pub past-more : (st : Setting) (t : Task) (e : Exit) (vs : List Visit) (first now : ℕ) → now ≡ cond (is_dead e) first (max first (suc t.place)) → max now (past_places vs) ≡ max first (past_places (visits_at st t e ++ vs))
past-more st t e vs first now h = ap (λ p. max p (past_places vs)) h ∙ either (is_dead e) ∙ ap (max first) (sym (past-here st t e vs)) where
  either : (q : Bool) → max (cond q first (max first (suc t.place))) (past_places vs) ≡ max first (cond q (past_places vs) (max (suc t.place) (past_places vs)))
  either true = refl
  either false = omega arith

-- the latest so far
pub latest-then : (st : Setting) (t : Task) (e : Exit) (vs : List Visit) (p : ℕ) (ss : Slots) → not (is_dead e) && nat_le p t.place ≡ true → latest_env t.place (known_of e) vs ≡ latest_env p ss (visits_at st t e ++ vs)
latest-then st t e vs p ss h = sym (latest-here st t e vs p ss ∙ ap (λ q. cond q (latest_env t.place (known_of e) vs) (latest_env p ss vs)) h)

pub latest-else : (st : Setting) (t : Task) (e : Exit) (vs : List Visit) (p : ℕ) (ss : Slots) → not (is_dead e) && nat_le p t.place ≡ false → latest_env p ss vs ≡ latest_env p ss (visits_at st t e ++ vs)
latest-else st t e vs p ss h = sym (latest-here st t e vs p ss ∙ ap (λ q. cond q (latest_env t.place (known_of e) vs) (latest_env p ss vs)) h)

-- of the tasks of stations
pub certain-stations : (n : Name) (st : Setting) (ss : List Station) (val : ℕ → Exit) (k : ℕ) → certain_from n (nodes_visits st (map station_task ss) val k) ≡ lost_among n val (reached val k (map (λ s. s.place) ss))
certain-stations n st ss val k = certain-nodes n st (map station_task ss) val k ∙ ap (λ ps. lost_among n val (reached val k ps)) (places ss) where
  places : (ss : List Station) → map (λ t. t.place) (map station_task ss) ≡ map (λ s. s.place) ss
  places [] = refl
  places (s ∷ ss) = ap (λ ps. s.place ∷ ps) (places ss)
