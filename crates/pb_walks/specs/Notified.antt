-- Texts that notify name handlers, wherever a host of a book comes that keeps the rules (this
-- project's own).
use Rattle.std.specs.Prelude.{◌≡◌, List, [], ◌∷◌, true, None}
use Rattle.pb_language.specs.Book.{Book, Registry}
use Rattle.pb_language.specs.Notify.{all_notified, names_something}
use Rattle.pb_language.specs.Plays.{program_of}
use Rattle.pb_language.specs.Program.{Inventory}
use Rattle.pb_language.specs.Rules.{rules_offence}
use Rattle.pb_language.specs.Scope.{Later, View}
use Rattle.pb_language.specs.Tables.{HostWalk, PlayWalk, all_walked}
use Rattle.pb_language.specs.Walk.{Visit}
use Rattle.pb_walks.specs.Agree.{AllHostsAgree}

abbrev pub AllNameHandlers : List Visit → Type 0
AllNameHandlers [] = Unit {0}
AllNameHandlers (v ∷ vs) =
    (names_something (all_notified v.setting.handlers v.visited.notifies) ≡ true)
    × AllNameHandlers vs

abbrev pub PlaysNameHandlers : List PlayWalk → Type 0
PlaysNameHandlers [] = Unit {0}
PlaysNameHandlers (w ∷ ws) = AllNameHandlers w.walked.visits × PlaysNameHandlers ws

abbrev pub HostsNameHandlers : List HostWalk → Type 0
HostsNameHandlers [] = Unit {0}
HostsNameHandlers (w ∷ ws) = PlaysNameHandlers w.plays × HostsNameHandlers ws

-- where no rule is broken that needs no flow, V05 among them
abbrev pub RuledNameHandlers : Type 0
RuledNameHandlers = (ms : Registry) (inventory : Inventory) (b : Book) (views : List View)
    (ls : List (List Later)) → rules_offence ms inventory b ≡ None
    → HostsNameHandlers (all_walked inventory (program_of ms inventory b) views ls)

-- and so it is in walks that agree with those
abbrev pub AgreeingNameHandlers : Type 0
AgreeingNameHandlers = (ws xs : List HostWalk) → AllHostsAgree ws xs → HostsNameHandlers xs
    → HostsNameHandlers ws
