-- What an accepted verdict says of every way of every host.
use Rattle.std.proofs.Common.{◌≡◌, ◌≤◌, ℕ, max, List, [], ◌∷◌, Bool, true, false, ◌&&◌, cond, nat_eq, Option, Some, None, option_map, refl, subst, arith, true≢false}
use Rattle.std.proofs.lemmas.Bool.Decides.{nat_tests}
use Rattle.pb_semantics.specs.Keeps.{is_among}
use Rattle.pb_semantics.specs.Kind.{Slots}
use Rattle.pb_semantics.proofs.Bools.{untrue, and-left, and-right}
use Rattle.pb_language.specs.Expression.{Name, Expression}
use Rattle.pb_language.specs.World.{HostVariables}
use Rattle.pb_language.specs.Scope.{View, view_of, Since, Later, later_of}
use Rattle.pb_language.specs.Kinds.{known_slots}
use Rattle.pb_language.specs.Task.{Task}
use Rattle.pb_language.specs.Fit.{Fault}
use Rattle.pb_language.specs.Judgement.{Exit, live, task_fault, task_writes, loop_length}
use Rattle.pb_language.specs.Walk.{Visit, walk}
use Rattle.pb_language.specs.Program.{Inventory, Play, Program, setting_of}
use Rattle.pb_language.specs.Tables.{PlayWalk, first_laters, other_laters, plays_walked, hosts_walked, writes_below, visits_below, plays_below, are_settled, has_since, greatest_length, place_length}
use Rattle.pb_language.specs.Verdict.{Refusal, accepted, is_lesser, lesser, earlier, visit_offence, visits_offence, plays_offence, first_offence, exit_has, visits_have, play_has, plays_have, all_have, settled_verdict, offence_verdict}
use Rattle.pb_language.proofs.Claims.{StartClaim, GiveClaim, AfterClaim}
use Rattle.pb_language.proofs.Ways.{VisitFine, AllVisits}
use Rattle.pb_language.proofs.Runs.{Fixed}
use Rattle.pb_language.proofs.Turns.{If, PlayGood, Good}

-- an accepted verdict has no offence, and its budget is the one that was worked out
pub accepted_parts : (o : Option Refusal) (q : Bool) (m n : ℕ) → offence_verdict o (settled_verdict q m) ≡ accepted n → (o ≡ None) × (q ≡ true) × (m ≡ n)
accepted_parts None true m n h = let i : m ≡ n = cc in (refl, refl, i)
accepted_parts None false m n h = absurd (true≢false (cc))
accepted_parts (Some r) q m n h = absurd (true≢false (cc))

chosen_none : (q : Bool) (x y : Refusal) → cond q (Some x) (Some y) ≡ None → false ≡ true
chosen_none true x y h = absurd (true≢false (cc))
chosen_none false x y h = absurd (true≢false (cc))

lesser_none : (x y : Option Refusal) → lesser x y ≡ None → (x ≡ None) × (y ≡ None)
lesser_none None y h = (refl, h)
lesser_none (Some x) None h = absurd (true≢false (cc))
lesser_none (Some x) (Some y) h = untrue (chosen_none (is_lesser y x) y x h)

pub earlier_none : (x y : Option Refusal) → earlier x y ≡ None → (x ≡ None) × (y ≡ None)
earlier_none None y h = (refl, h)
earlier_none (Some x) None h = absurd (true≢false (cc))
earlier_none (Some x) (Some y) h = untrue (chosen_none _ y x h)

pub earlier_last : (x : Option Refusal) → earlier x None ≡ x
earlier_last None = refl
earlier_last (Some x) = refl

fault_none : (o : Option Fault) (g : Fault → Refusal) → option_map g o ≡ None → o ≡ None
fault_none None g h = refl
fault_none (Some f) g h = absurd (true≢false (cc))

-- no loop is longer than the greatest length at its place
longer : (q : Bool) (m n : ℕ) → n ≤ cond q (max m n) n
longer true m n = grind arith
longer false m n = omega arith

own_length : (q : Bool) (m n : ℕ) → q ≡ true → m ≤ cond q (max m n) n
own_length true m n e = grind arith
own_length false m n e = untrue e

pub same_place : (p : ℕ) → nat_eq p p ≡ true
same_place p = grind (arith, nat_tests)

place_more : (t : Task) (o : Option Expression) (v : Visit) (vs : List Visit) → place_length t o vs ≤ place_length t o (v ∷ vs)
place_more t None v vs = omega arith
place_more t (Some e) v vs = longer (nat_eq t.place v.visited.place) (loop_length v.setting v.visited v.env (Some e)) (greatest_length t.place e vs)

place_own : (o : Option Expression) (v : Visit) (vs : List Visit) → loop_length v.setting v.visited v.env o ≤ place_length v.visited o (v ∷ vs)
place_own None v vs = omega arith
place_own (Some e) v vs = own_length (nat_eq v.visited.place v.visited.place) (loop_length v.setting v.visited v.env (Some e)) (greatest_length v.visited.place e vs) (same_place v.visited.place)

abbrev Few : List Visit → Visit → Type 0
Few all v = loop_length v.setting v.visited v.env v.visited.loop ≤ place_length v.visited v.visited.loop all

few_more : (v : Visit) (all vs : List Visit) → AllVisits (Few all) vs → AllVisits (Few (v ∷ all)) vs
few_more v all [] a = tt
few_more v all (x ∷ vs) a = let i = a.0 in let j = place_more x.visited x.visited.loop v all in (omega (arith, i, j), few_more v all vs a.1)

few_all : (vs : List Visit) → AllVisits (Few vs) vs
few_all [] = tt
few_all (v ∷ vs) = (place_own v.visited.loop v vs, few_more v vs vs (few_all vs))

visits_fine : (h : Name) (view : Slots) (l : Since) (all vs : List Visit) → AllVisits (Few all) vs → visits_offence h vs ≡ None → visits_below vs view ≡ true → visits_have l vs ≡ true
    → AllVisits (λ v. VisitFine view l (λ t. place_length t t.loop all) v) vs
visits_fine h view l all [] f o b s = tt
visits_fine h view l all (v ∷ vs) f o b s =
    let n = lesser_none (visit_offence h v) (visits_offence h vs) o in
    let below = writes_below (task_writes v.setting v.visited v.env) view in
    let have = has_since v.visited.place l v.env in (
      record { fit = fault_none (task_fault v.setting v.visited v.env) _ n.0; below = and-left below (visits_below vs view) b; since = and-left have (visits_have l vs) s; few = f.0 },
      visits_fine h view l all vs f.1 n.1 (and-right below (visits_below vs view) b) (and-right have (visits_have l vs) s),
    )

have_skipped : (h : Name) (p : Play) (ps : Program) (ls : List (List Later)) (ws : List PlayWalk) → is_among h p.hosts ≡ false → plays_have h (p ∷ ps) ls ws ≡ true → plays_have h ps (other_laters ls) ws ≡ true
have_skipped h p [] ls [] e s = refl
have_skipped h p (q ∷ ps) ls [] e s = refl
have_skipped h p ps ls (w ∷ ws) e s = rw e at s

module _ (inventory : Inventory) (views : List View) (fixed : Fixed inventory views) (start_claim : StartClaim) (give_claim : GiveClaim) (after_claim : AfterClaim) (limit : ℕ) where
  abbrev GoodAt : Bool → Name → Exit → Play → Program → List (List Later) → Type 0
  GoodAt q n e p ps ls =
      If q (PlayGood inventory views fixed start_claim give_claim after_claim limit p (first_laters ls) n e
      × Good inventory views fixed start_claim give_claim after_claim limit n (walk (setting_of inventory p views (first_laters ls) n) p.row e).well ps (other_laters ls))
      (Good inventory views fixed start_claim give_claim after_claim limit n e ps (other_laters ls))

  good_at : (q : Bool) (n : Name) (e : Exit) (p : Play) (ps : Program) (ls : List (List Later)) → is_among n p.hosts ≡ q
      → ((x : Exit) → plays_offence n (plays_walked inventory views n x ps (other_laters ls)) ≡ None → plays_below (plays_walked inventory views n x ps (other_laters ls)) (view_of n views) ≡ true
      → plays_have n ps (other_laters ls) (plays_walked inventory views n x ps (other_laters ls)) ≡ true → Good inventory views fixed start_claim give_claim after_claim limit n x ps (other_laters ls))
      → plays_offence n (plays_walked inventory views n e (p ∷ ps) ls) ≡ None → plays_below (plays_walked inventory views n e (p ∷ ps) ls) (view_of n views) ≡ true → plays_have n (p ∷ ps) ls (plays_walked inventory views n e (p ∷ ps) ls) ≡ true
      → GoodAt q n e p ps ls
  good_at true n e p ps ls i go o b s =
      let w = walk (setting_of inventory p views (first_laters ls) n) p.row e in
      let rest = plays_walked inventory views n w.well ps (other_laters ls) in
      let o' : lesser (visits_offence n w.visits) (plays_offence n rest) ≡ None = rw i at o in
      let b' : visits_below w.visits (view_of n views) && plays_below rest (view_of n views) ≡ true = rw i at b in
      let s' : play_has n (first_laters ls) (record { play = p; walked = w }) && plays_have n ps (other_laters ls) rest ≡ true = rw (i, i) at s in
      let n' = lesser_none (visits_offence n w.visits) (plays_offence n rest) o' in
      let here = and-left (play_has n (first_laters ls) (record { play = p; walked = w })) (plays_have n ps (other_laters ls) rest) s' in
      let since = visits_have (later_of n (first_laters ls)) w.visits in
      let ends = exit_has (later_of n (first_laters ls)) w.well in (
        record {
          visits = visits_fine n (view_of n views) (later_of n (first_laters ls)) w.visits w.visits (few_all w.visits) n'.0 (and-left (visits_below w.visits (view_of n views)) (plays_below rest (view_of n views)) b') (and-left since ends here);
          ends = and-right since ends here;
        },
        go w.well n'.1 (and-right (visits_below w.visits (view_of n views)) (plays_below rest (view_of n views)) b') (and-right (play_has n (first_laters ls) (record { play = p; walked = w })) (plays_have n ps (other_laters ls) rest) s'),
      )
  good_at false n e p ps ls i go o b s =
      let rest = plays_walked inventory views n e ps (other_laters ls) in
      let o' : plays_offence n rest ≡ None = rw i at o in
      let b' : plays_below rest (view_of n views) ≡ true = rw i at b in
      let w : plays_walked inventory views n e (p ∷ ps) ls ≡ rest = rw i refl in
      let s' : plays_have n (p ∷ ps) ls rest ≡ true = subst (λ z. plays_have n (p ∷ ps) ls z ≡ true) w s in
      go e o' b' (have_skipped n p ps ls rest i s')

  -- of a host whose ways have no offence, are settled and have what they are said to have
  pub good_from : (ps : Program) (n : Name) (e : Exit) (ls : List (List Later)) → plays_offence n (plays_walked inventory views n e ps ls) ≡ None → plays_below (plays_walked inventory views n e ps ls) (view_of n views) ≡ true
      → plays_have n ps ls (plays_walked inventory views n e ps ls) ≡ true → Good inventory views fixed start_claim give_claim after_claim limit n e ps ls
  good_from [] n e ls o b s = tt
  good_from (p ∷ ps) n e ls o b s = good_at (is_among n p.hosts) n e p ps ls refl (λ x o b s. good_from ps n x (other_laters ls) o b s) o b s

  abbrev pub HostGood : Program → List (List Later) → HostVariables → Type 0
  HostGood ps ls x = Good inventory views fixed start_claim give_claim after_claim limit x.name (live (known_slots x.variables)) ps ls

  abbrev pub AllGood : Program → List (List Later) → List HostVariables → Type 0
  AllGood ps ls [] = Unit {0}
  AllGood ps ls (x ∷ xs) = HostGood ps ls x × AllGood ps ls xs

  pub all_good : (ps : Program) (ls : List (List Later)) (xs : List HostVariables) → first_offence (hosts_walked inventory views ps ls xs) ≡ None → are_settled (hosts_walked inventory views ps ls xs) views ≡ true → all_have ps ls (hosts_walked inventory views ps ls xs) ≡ true
      → AllGood ps ls xs
  all_good ps ls [] o b s = tt
  all_good ps ls (x ∷ xs) o b s =
      let mine = plays_walked inventory views x.name (live (known_slots x.variables)) ps ls in
      let rest = hosts_walked inventory views ps ls xs in
      let n = earlier_none (plays_offence x.name mine) (first_offence rest) o in
      let below = plays_below mine (view_of x.name views) in
      let have = plays_have x.name ps ls mine in (
        good_from ps x.name (live (known_slots x.variables)) ls n.0 (and-left below (are_settled rest views) b) (and-left have (all_have ps ls rest) s),
        all_good ps ls xs n.1 (and-right below (are_settled rest views) b) (and-right have (all_have ps ls rest) s),
      )
