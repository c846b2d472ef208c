-- What holds of walks that agree: all that is made of them is the same, or agrees (this project's
-- own).
use Rattle.std.specs.Prelude.{◌≡◌, ◌≤◌, ℕ, suc, List}
use Rattle.pb_language.specs.Judgement.{Exit}
use Rattle.pb_language.specs.Nodes.{Values, ValuesLe, WellValues, values, visits_of}
use Rattle.pb_language.specs.Ordered.{ExitLe, SettingLe}
use Rattle.pb_language.specs.Program.{Inventory, Program}
use Rattle.pb_language.specs.Scope.{Later, View}
use Rattle.pb_language.specs.Setting.{Setting}
use Rattle.pb_language.specs.Tables.{HostWalk, all_walked, are_settled, budget_of}
use Rattle.pb_language.specs.Tables.{known_views, laters_of, next_views}
use Rattle.pb_language.specs.Tables.{views_after}
use Rattle.pb_language.specs.Task.{Row}
use Rattle.pb_language.specs.Verdict.{first_offence, flow_verdict, found_laters}
use Rattle.pb_language.specs.Verdict.{walked_verdict}
use Rattle.pb_language.specs.Walk.{walk}
use Rattle.pb_language.specs.Wells.{WellExit, WellViews}
use Rattle.pb_walks.specs.Agree.{AllHostsAgree, AllVisitsAgree, ExitsAgree}
use Rattle.pb_walks.specs.Agree.{LatersAgree, SettingsAgree, ViewsAgree}

-- a walk goes up with where it begins, and with what hosts' variables look like to others
abbrev pub WalksGoUp : Type 0
WalksGoUp = (st su : Setting) (row : Row) (e f : Exit) → WellViews st.views → WellViews su.views
    → WellExit e → WellExit f → SettingLe st su → ExitLe e f
    → ValuesLe row (values st row e) (values su row f)
    × ExitLe (walk st row e).well (walk su row f).well

-- values that are below the walk's at each node, and above them, have the walk's visits
abbrev pub ValuesAreVisits : Type 0
ValuesAreVisits = (st su : Setting) (row : Row) (e f : Exit) (vs : Values row)
    → SettingsAgree st su → WellExit e → WellExit f → ExitsAgree e f → WellValues row vs
    → ValuesLe row vs (values st row e) → ValuesLe row (values st row e) vs
    → AllVisitsAgree (visits_of st row vs) (walk su row f).visits

-- what is made of walks that agree
abbrev pub SameOffence : Type 0
SameOffence = (ws xs : List HostWalk) → AllHostsAgree ws xs → first_offence ws ≡ first_offence xs

abbrev pub SameBudget : Type 0
SameBudget = (ws xs : List HostWalk) → AllHostsAgree ws xs → budget_of ws ≡ budget_of xs

abbrev pub SameSettled : Type 0
SameSettled = (ws xs : List HostWalk) (vs us : List View) → AllHostsAgree ws xs → ViewsAgree vs us
    → are_settled ws vs ≡ are_settled xs us

abbrev pub NextViewsAgree : Type 0
NextViewsAgree = (ws xs : List HostWalk) (vs us : List View) → AllHostsAgree ws xs
    → ViewsAgree vs us → ViewsAgree (next_views ws vs) (next_views xs us)

abbrev pub LatersOfAgree : Type 0
LatersOfAgree = (ps : Program) (ws xs : List HostWalk) → AllHostsAgree ws xs
    → LatersAgree (laters_of ps ws) (laters_of ps xs)

-- walks under tables that agree do so too
abbrev pub AllWalkedAgree : Type 0
AllWalkedAgree = (inventory : Inventory) (ps : Program) (vs us : List View)
    (ls ms : List (List Later)) → ViewsAgree vs us → LatersAgree ls ms
    → AllHostsAgree (all_walked inventory ps vs ls) (all_walked inventory ps us ms)

-- the inventory's table agrees with itself
abbrev pub KnownViewsAgree : Type 0
KnownViewsAgree = (inventory : Inventory)
    → ViewsAgree (known_views inventory.hosts) (known_views inventory.hosts)

-- a round that changes nothing is the last
abbrev pub RoundsSettle : Type 0
RoundsSettle = (inventory : Inventory) (ps : Program) (ls : List (List Later)) (m n : ℕ)
    → ViewsAgree (views_after m inventory ps ls) (views_after (suc m) inventory ps ls) → m ≤ n
    → ViewsAgree (views_after m inventory ps ls) (views_after n inventory ps ls)

-- the verdict of a table that agrees with the fourth, and of walks that agree with those under it
abbrev pub VerdictIsWalked : Type 0
VerdictIsWalked = (inventory : Inventory) (ps : Program) (vs : List View) (ws : List HostWalk)
    → ViewsAgree vs (views_after 4 inventory ps (found_laters ps inventory))
    → AllHostsAgree ws (all_walked inventory ps vs (found_laters ps inventory))
    → walked_verdict vs ws ≡ flow_verdict ps inventory
