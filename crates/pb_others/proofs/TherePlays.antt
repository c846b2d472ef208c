-- Hosts' ways through plays under tables that say the same of what is read.
use Rattle.std.proofs.Common.{◌≡◌, List, [], ◌∷◌, Bool, true, false, cond, refl, subst}
use Rattle.pb_semantics.specs.Keeps.{is_among}
use Rattle.pb_semantics.proofs.Bools.{neither-left, neither-right}
use Rattle.pb_language.specs.Expression.{Name, Root}
use Rattle.pb_language.specs.World.{HostVariables}
use Rattle.pb_language.specs.Scope.{View, Later}
use Rattle.pb_language.specs.Kinds.{known_slots}
use Rattle.pb_language.specs.Judgement.{Exit, live}
use Rattle.pb_language.specs.Walk.{Walked, walk}
use Rattle.pb_language.specs.Program.{Inventory, Play, Program, setting_of}
use Rattle.pb_language.specs.Tables.{PlayWalk, HostWalk, first_laters, other_laters, then_plays, plays_walked, hosts_walked}
use Rattle.pb_others.specs.Rooted.{row_has_root, plays_have_root}
use Rattle.pb_others.proofs.ThereSpots.{SameBut}
use Rattle.pb_others.proofs.ThereVisits.{AllVisitsAlike, WalksAlike, walk_alike}

pub record PlaysAlike (q : Root → Bool) (w x : PlayWalk) : Type 0 where
  pub play : w.play ≡ x.play
  pub reads : row_has_root q w.play.row ≡ false
  pub visits : AllVisitsAlike q w.walked.visits x.walked.visits

abbrev pub AllPlaysAlike : (Root → Bool) → List PlayWalk → List PlayWalk → Type 0
AllPlaysAlike q [] [] = Unit {0}
AllPlaysAlike q [] (x ∷ xs) = ⊥
AllPlaysAlike q (w ∷ ws) [] = ⊥
AllPlaysAlike q (w ∷ ws) (x ∷ xs) = PlaysAlike q w x × AllPlaysAlike q ws xs

pub record HostsAlike (q : Root → Bool) (w x : HostWalk) : Type 0 where
  pub host : w.host ≡ x.host
  pub plays : AllPlaysAlike q w.plays x.plays

abbrev pub AllHostsAlike : (Root → Bool) → List HostWalk → List HostWalk → Type 0
AllHostsAlike q [] [] = Unit {0}
AllHostsAlike q [] (x ∷ xs) = ⊥
AllHostsAlike q (w ∷ ws) [] = ⊥
AllHostsAlike q (w ∷ ws) (x ∷ xs) = HostsAlike q w x × AllHostsAlike q ws xs

play_step : (q : Root → Bool) (u : Bool) (p : Play) (w x : Walked) (more most : Exit → List PlayWalk) (rest last : List PlayWalk) → row_has_root q p.row ≡ false → WalksAlike q w x → ((y : Exit) → AllPlaysAlike q (more y) (most y))
    → AllPlaysAlike q rest last → AllPlaysAlike q (cond u (then_plays p w more) rest) (cond u (then_plays p x most) last)
play_step q true p w x more most rest last n a f b = (record { play = refl; reads = n; visits = a.visits }, subst (λ y. AllPlaysAlike q (more w.well) (most y)) a.well (f w.well))
play_step q false p w x more most rest last n a f b = b

module _ (q : Root → Bool) (inventory : Inventory) (vs us : List View) (s : SameBut q us vs) where
  plays_alike : (ps : Program) (h : Name) (e : Exit) (ls : List (List Later)) → plays_have_root q ps ≡ false → AllPlaysAlike q (plays_walked inventory vs h e ps ls) (plays_walked inventory us h e ps ls)
  plays_alike [] h e ls n = tt
  plays_alike (p ∷ ps) h e ls n =
      let st = setting_of inventory p vs (first_laters ls) h in
      let su = setting_of inventory p us (first_laters ls) h in
      let here = neither-left (row_has_root q p.row) (plays_have_root q ps) n in
      let more = neither-right (row_has_root q p.row) (plays_have_root q ps) n in
      play_step q (is_among h p.hosts) p (walk st p.row e) (walk su p.row e) (λ y. plays_walked inventory vs h y ps (other_laters ls)) (λ y. plays_walked inventory us h y ps (other_laters ls))
      (plays_walked inventory vs h e ps (other_laters ls)) (plays_walked inventory us h e ps (other_laters ls)) here (walk_alike q us st s p.row e here)
      (λ y. plays_alike ps h y (other_laters ls) more) (plays_alike ps h e (other_laters ls) more)

  pub hosts_alike : (ps : Program) (ls : List (List Later)) (xs : List HostVariables) → plays_have_root q ps ≡ false → AllHostsAlike q (hosts_walked inventory vs ps ls xs) (hosts_walked inventory us ps ls xs)
  hosts_alike ps ls [] n = tt
  hosts_alike ps ls (x ∷ xs) n = (record { host = refl; plays = plays_alike ps x.name (live (known_slots x.variables)) ls n }, hosts_alike ps ls xs n)
