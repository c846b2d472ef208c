-- Hosts' ways through plays whose texts read no other host, under any tables and laters.
use Rattle.std.proofs.Common.{◌≡◌, List, [], ◌∷◌, Bool, true, false, cond, refl, subst}
use Rattle.pb_semantics.specs.Keeps.{is_among}
use Rattle.pb_semantics.proofs.Bools.{neither-left, neither-right}
use Rattle.pb_language.specs.Expression.{Name}
use Rattle.pb_language.specs.World.{HostVariables}
use Rattle.pb_language.specs.Scope.{View, Later}
use Rattle.pb_language.specs.Kinds.{known_slots}
use Rattle.pb_language.specs.Judgement.{Exit, live}
use Rattle.pb_language.specs.Walk.{Walked, walk}
use Rattle.pb_language.specs.Program.{Inventory, Play, Program, setting_of}
use Rattle.pb_language.specs.Tables.{PlayWalk, HostWalk, first_laters, other_laters, then_plays, plays_walked, hosts_walked}
use Rattle.pb_walks.specs.Alone.{row_reads_others, plays_read_others}
use Rattle.pb_walks.proofs.AloneVisits.{AllVisitsAlike, WalksAlike, walk_alike}

pub record PlaysAlike (w x : PlayWalk) : Type 0 where
  pub play : w.play ≡ x.play
  pub reads : row_reads_others w.play.row ≡ false
  pub visits : AllVisitsAlike w.walked.visits x.walked.visits

abbrev pub AllPlaysAlike : List PlayWalk → List PlayWalk → Type 0
AllPlaysAlike [] [] = Unit {0}
AllPlaysAlike [] (x ∷ xs) = ⊥
AllPlaysAlike (w ∷ ws) [] = ⊥
AllPlaysAlike (w ∷ ws) (x ∷ xs) = PlaysAlike w x × AllPlaysAlike ws xs

pub record HostsAlike (w x : HostWalk) : Type 0 where
  pub host : w.host ≡ x.host
  pub plays : AllPlaysAlike w.plays x.plays

abbrev pub AllHostsAlike : List HostWalk → List HostWalk → Type 0
AllHostsAlike [] [] = Unit {0}
AllHostsAlike [] (x ∷ xs) = ⊥
AllHostsAlike (w ∷ ws) [] = ⊥
AllHostsAlike (w ∷ ws) (x ∷ xs) = HostsAlike w x × AllHostsAlike ws xs

play_step : (q : Bool) (p : Play) (w x : Walked) (more most : Exit → List PlayWalk) (rest last : List PlayWalk) → row_reads_others p.row ≡ false → WalksAlike w x → ((y : Exit) → AllPlaysAlike (more y) (most y))
    → AllPlaysAlike rest last → AllPlaysAlike (cond q (then_plays p w more) rest) (cond q (then_plays p x most) last)
play_step true p w x more most rest last n a f b = (record { play = refl; reads = n; visits = a.visits }, subst (λ y. AllPlaysAlike (more w.well) (most y)) a.well (f w.well))
play_step false p w x more most rest last n a f b = b

module _ (inventory : Inventory) (vs us : List View) where
  plays_alike : (ps : Program) (h : Name) (e : Exit) (ls ms : List (List Later)) → plays_read_others ps ≡ false → AllPlaysAlike (plays_walked inventory vs h e ps ls) (plays_walked inventory us h e ps ms)
  plays_alike [] h e ls ms n = tt
  plays_alike (p ∷ ps) h e ls ms n =
      let st = setting_of inventory p vs (first_laters ls) h in
      let su = setting_of inventory p us (first_laters ms) h in
      let here = neither-left (row_reads_others p.row) (plays_read_others ps) n in
      let more = neither-right (row_reads_others p.row) (plays_read_others ps) n in
      play_step (is_among h p.hosts) p (walk st p.row e) (walk su p.row e) (λ y. plays_walked inventory vs h y ps (other_laters ls)) (λ y. plays_walked inventory us h y ps (other_laters ms))
      (plays_walked inventory vs h e ps (other_laters ls)) (plays_walked inventory us h e ps (other_laters ms)) here (walk_alike us (first_laters ms) st p.row e here)
      (λ y. plays_alike ps h y (other_laters ls) (other_laters ms) more) (plays_alike ps h e (other_laters ls) (other_laters ms) more)

  pub hosts_alike : (ps : Program) (ls ms : List (List Later)) (xs : List HostVariables) → plays_read_others ps ≡ false → AllHostsAlike (hosts_walked inventory vs ps ls xs) (hosts_walked inventory us ps ms xs)
  hosts_alike ps ls ms [] n = tt
  hosts_alike ps ls ms (x ∷ xs) n = (record { host = refl; plays = plays_alike ps x.name (live (known_slots x.variables)) ls ms n }, hosts_alike ps ls ms xs n)
