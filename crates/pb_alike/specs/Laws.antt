-- What holds of hosts that look alike, and of walks that are alike (this project's own).
use Rattle.std.specs.Prelude.{◌≡◌, List, false}
use Rattle.pb_semantics.specs.Kind.{Slots}
use Rattle.pb_language.specs.Expression.{Name}
use Rattle.pb_language.specs.Program.{Inventory, Program}
use Rattle.pb_language.specs.Scope.{Later, View}
use Rattle.pb_language.specs.Tables.{PlayWalk, plays_below, plays_calls, with_plays}
use Rattle.pb_language.specs.Verdict.{plays_offence}
use Rattle.pb_language.specs.World.{HostVariables}
use Rattle.pb_walks.specs.Alone.{plays_read_others}
use Rattle.pb_walks.specs.Notified.{PlaysNameHandlers}
use Rattle.pb_alike.specs.Alike.{AllPlaysAlike, LookAlike, refused_on, ways_of}
use Rattle.pb_alike.specs.Named.{plays_read_name}

-- hosts that look alike are walked alike, whatever others look like and have at later places
abbrev pub WalkedAlike : Type 0
WalkedAlike = (inventory : Inventory) (ps : Program) (views : List View) (ls : List (List Later))
    (x y : HostVariables) → plays_read_others ps ≡ false → plays_read_name ps ≡ false
    → LookAlike inventory ps x y
    → AllPlaysAlike (ways_of inventory ps views ls x) (ways_of inventory ps views ls y)

-- what is made of walks that are alike
abbrev pub AlikeCalls : Type 0
AlikeCalls = (ws xs : List PlayWalk) → AllPlaysAlike ws xs → plays_calls ws ≡ plays_calls xs

abbrev pub AlikeOffence : Type 0
AlikeOffence = (h g : Name) (ws xs : List PlayWalk) → AllPlaysAlike ws xs
    → plays_offence g xs ≡ refused_on g (plays_offence h ws)

abbrev pub AlikeWrites : Type 0
AlikeWrites = (ws xs : List PlayWalk) (ss : Slots) → AllPlaysAlike ws xs
    → with_plays ws ss ≡ with_plays xs ss

abbrev pub AlikeSettled : Type 0
AlikeSettled = (ws xs : List PlayWalk) (ss : Slots) → AllPlaysAlike ws xs
    → plays_below ws ss ≡ plays_below xs ss

-- texts that notify name handlers on the one where they do on the other
abbrev pub AlikeNameHandlers : Type 0
AlikeNameHandlers = (ws xs : List PlayWalk) → AllPlaysAlike ws xs → PlaysNameHandlers xs
    → PlaysNameHandlers ws
