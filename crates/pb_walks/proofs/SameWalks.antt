-- All walks under tables that agree do so too.
use Rattle.std.proofs.Common.{List, [], ◌∷◌, Bool, true, false, cond, refl, sym}
use Rattle.pb_semantics.specs.Keeps.{is_among}
use Rattle.pb_language.specs.Expression.{Name}
use Rattle.pb_language.specs.World.{HostVariables}
use Rattle.pb_language.specs.Scope.{View, Later}
use Rattle.pb_language.specs.Kinds.{known_slots}
use Rattle.pb_language.specs.Setting.{Setting}
use Rattle.pb_language.specs.Judgement.{Exit, live}
use Rattle.pb_language.specs.Walk.{Walked, walk}
use Rattle.pb_language.specs.Program.{Inventory, Play, Program, setting_of}
use Rattle.pb_language.specs.Tables.{PlayWalk, first_laters, other_laters, then_plays, plays_walked, hosts_walked, known_views}
use Rattle.pb_language.specs.Wells.{WellExit}
use Rattle.pb_language.proofs.After.{after_claim}
use Rattle.pb_language.proofs.WellKinds.{well_known_slots}
use Rattle.pb_language.proofs.Rounds.{views_well}
use Rattle.pb_language.proofs.Walks.{walk_well}
use Rattle.pb_walks.specs.Agree.{SettingsAgree, ExitsAgree, ViewsAgree, LaterAgrees, LatersAgree, PlaysAgree, AllPlaysAgree, AllHostsAgree}
use Rattle.pb_walks.specs.Laws.{AllWalkedAgree, KnownViewsAgree}
use Rattle.pb_walks.proofs.Agreeing.{slots_own, views_own}
use Rattle.pb_walks.proofs.WalksUp.{walks_up}
use Rattle.pb_walks.proofs.SameVisits.{walks_visit}

firsts_agree : (ls ms : List (List Later)) → LatersAgree ls ms → LaterAgrees (first_laters ls) (first_laters ms)
firsts_agree [] [] l = λ p g x. refl
firsts_agree [] (m ∷ ms) l = l.0
firsts_agree (k ∷ ls) [] l = l.0
firsts_agree (k ∷ ls) (m ∷ ms) l = l.0

others_agree : (ls ms : List (List Later)) → LatersAgree ls ms → LatersAgree (other_laters ls) (other_laters ms)
others_agree [] [] l = tt
others_agree [] (m ∷ ms) l = l.1
others_agree (k ∷ ls) [] l = l.1
others_agree (k ∷ ls) (m ∷ ms) l = l.1

play_agrees : (st su : Setting) (p : Play) (e f : Exit) → SettingsAgree st su → WellExit e → WellExit f → ExitsAgree e f → PlaysAgree (record { play = p; walked = walk st p.row e }) (record { play = p; walked = walk su p.row f })
play_agrees st su p e f s w v x = record {
  play = refl;
  visits = walks_visit st su p.row e f s w v x;
  ends = ((walks_up st su p.row e f s.well s.well_too w v s.first x.0).1, (walks_up su st p.row f e s.well_too s.well v w s.second x.1).1);
  well = (walk_well st s.well p.row e w).0;
  well_too = (walk_well su s.well_too p.row f v).0;
}

play_step : (q : Bool) (p : Play) (w x : Walked) (more most : Exit → List PlayWalk) (rest last : List PlayWalk) → PlaysAgree (record { play = p; walked = w }) (record { play = p; walked = x }) → AllPlaysAgree (more w.well) (most x.well)
    → AllPlaysAgree rest last → AllPlaysAgree (cond q (then_plays p w more) rest) (cond q (then_plays p x most) last)
play_step true p w x more most rest last a b c = (a, b)
play_step false p w x more most rest last a b c = c

module _ (inventory : Inventory) (vs us : List View) (a : ViewsAgree vs us) where
  settings_agree : (p : Play) (ls ms : List Later) (h : Name) → LaterAgrees ls ms → SettingsAgree (setting_of inventory p vs ls h) (setting_of inventory p us ms h)
  settings_agree p ls ms h l = record {
    first = record { same = refl; views = λ g. (a.slots g).0; hosts = a.hosts; laters = l };
    second = record { same = refl; views = λ g. (a.slots g).1; hosts = λ g. sym (a.hosts g); laters = λ q g x. sym (l q g x) };
    well = a.well;
    well_too = a.well_too;
  }

  pub plays_agree : (ps : Program) (h : Name) (e f : Exit) (ls ms : List (List Later)) → LatersAgree ls ms → WellExit e → WellExit f → ExitsAgree e f → AllPlaysAgree (plays_walked inventory vs h e ps ls) (plays_walked inventory us h f ps ms)
  plays_agree [] h e f ls ms l w v x = tt
  plays_agree (p ∷ ps) h e f ls ms l w v x =
      let st = setting_of inventory p vs (first_laters ls) h in
      let su = setting_of inventory p us (first_laters ms) h in
      let here = play_agrees st su p e f (settings_agree p (first_laters ls) (first_laters ms) h (firsts_agree ls ms l)) w v x in
      let later = others_agree ls ms l in
      play_step (is_among h p.hosts) p (walk st p.row e) (walk su p.row f) (λ y. plays_walked inventory vs h y ps (other_laters ls)) (λ y. plays_walked inventory us h y ps (other_laters ms))
      (plays_walked inventory vs h e ps (other_laters ls)) (plays_walked inventory us h f ps (other_laters ms)) here
      (plays_agree ps h (walk st p.row e).well (walk su p.row f).well (other_laters ls) (other_laters ms) later here.well here.well_too here.ends)
      (plays_agree ps h e f (other_laters ls) (other_laters ms) later w v x)

  hosts_agree : (ps : Program) (ls ms : List (List Later)) (xs : List HostVariables) → LatersAgree ls ms → AllHostsAgree (hosts_walked inventory vs ps ls xs) (hosts_walked inventory us ps ms xs)
  hosts_agree ps ls ms [] l = tt
  hosts_agree ps ls ms (x ∷ xs) l =
      let w = well_known_slots x.variables in
      (record { host = refl; plays = plays_agree ps x.name (live (known_slots x.variables)) (live (known_slots x.variables)) ls ms l w w (slots_own (known_slots x.variables) w) }, hosts_agree ps ls ms xs l)

pub all_walked_agree : AllWalkedAgree
all_walked_agree inventory ps vs us ls ms a l = hosts_agree inventory vs us a ps ls ms inventory.hosts l

pub known_views_agree : KnownViewsAgree
known_views_agree inventory = views_own (known_views inventory.hosts) (views_well after_claim inventory [] [] 0)
