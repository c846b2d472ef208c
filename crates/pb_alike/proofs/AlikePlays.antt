-- Hosts that look alike are walked alike through plays whose texts read neither other hosts nor the host's name.
use Rattle.std.proofs.Common.{◌≡◌, List, [], ◌∷◌, Bool, true, false, cond, length, refl, subst}
use Rattle.pb_semantics.specs.Keeps.{is_among}
use Rattle.pb_semantics.proofs.Bools.{neither-left, neither-right}
use Rattle.pb_language.specs.World.{HostVariables}
use Rattle.pb_language.specs.Scope.{View, Later}
use Rattle.pb_language.specs.Kinds.{known_slots}
use Rattle.pb_language.specs.Judgement.{Exit, live}
use Rattle.pb_language.specs.Walk.{Walked, walk}
use Rattle.pb_language.specs.Program.{Inventory, Play, Program, memberships_of, setting_of}
use Rattle.pb_language.specs.Tables.{PlayWalk, first_laters, other_laters, then_plays, plays_walked}
use Rattle.pb_walks.specs.Alone.{row_reads_others, plays_read_others}
use Rattle.pb_alike.specs.Alike.{SamePlays, SettingsAlike, AllPlaysAlike}
use Rattle.pb_alike.specs.Named.{row_reads_name, plays_read_name}
use Rattle.pb_alike.specs.Laws.{WalkedAlike}
use Rattle.pb_alike.proofs.AlikeVisits.{WalksAlike, walk_alike}

play_step : (q r : Bool) (p : Play) (w x : Walked) (more most : Exit → List PlayWalk) (rest last : List PlayWalk) → q ≡ r → row_reads_others p.row ≡ false → row_reads_name p.row ≡ false → WalksAlike w x
    → ((y : Exit) → AllPlaysAlike (more y) (most y)) → AllPlaysAlike rest last → AllPlaysAlike (cond q (then_plays p w more) rest) (cond r (then_plays p x most) last)
play_step q r p w x more most rest last s n m a f b = subst (λ z. AllPlaysAlike (cond q (then_plays p w more) rest) (cond z (then_plays p x most) last)) s (either_way q) where
  either_way : (z : Bool) → AllPlaysAlike (cond z (then_plays p w more) rest) (cond z (then_plays p x most) last)
  either_way true = (record { play = refl; visits = a.visits; ends = a.well; no_others = n; no_name = m }, subst (λ y. AllPlaysAlike (more w.well) (most y)) a.well (f w.well))
  either_way false = b

module _ (inventory : Inventory) (views : List View) (x y : HostVariables) where
  module _ (l : length (memberships_of x.name inventory.groups) ≡ length (memberships_of y.name inventory.groups)) where
    settings_alike : (p : Play) (ls : List Later) → SettingsAlike (setting_of inventory p views ls x.name) (setting_of inventory p views ls y.name)
    settings_alike p ls = record { groups = refl; memberships = l; play_hosts = refl; handlers = refl }

    plays_alike : (ps : Program) (e : Exit) (ls : List (List Later)) → plays_read_others ps ≡ false → plays_read_name ps ≡ false → SamePlays ps x.name y.name
        → AllPlaysAlike (plays_walked inventory views x.name e ps ls) (plays_walked inventory views y.name e ps ls)
    plays_alike [] e ls n m s = tt
    plays_alike (p ∷ ps) e ls n m s =
        let st = setting_of inventory p views (first_laters ls) x.name in
        let su = setting_of inventory p views (first_laters ls) y.name in
        let n1 = neither-left (row_reads_others p.row) (plays_read_others ps) n in
        let m1 = neither-left (row_reads_name p.row) (plays_read_name ps) m in
        let n2 = neither-right (row_reads_others p.row) (plays_read_others ps) n in
        let m2 = neither-right (row_reads_name p.row) (plays_read_name ps) m in
        play_step (is_among x.name p.hosts) (is_among y.name p.hosts) p (walk st p.row e) (walk su p.row e) (λ z. plays_walked inventory views x.name z ps (other_laters ls))
        (λ z. plays_walked inventory views y.name z ps (other_laters ls)) (plays_walked inventory views x.name e ps (other_laters ls)) (plays_walked inventory views y.name e ps (other_laters ls)) s.0 n1 m1
        (walk_alike st su (settings_alike p (first_laters ls)) p.row e n1 m1) (λ z. plays_alike ps z (other_laters ls) n2 m2 s.1) (plays_alike ps e (other_laters ls) n2 m2 s.1)

pub walked_alike : WalkedAlike
walked_alike inventory ps views ls x y n m a =
    subst (λ ss. AllPlaysAlike (plays_walked inventory views x.name (live (known_slots x.variables)) ps ls) (plays_walked inventory views y.name (live ss) ps ls)) a.known
    (plays_alike inventory views x y a.memberships ps (live (known_slots x.variables)) ls n m a.plays)
