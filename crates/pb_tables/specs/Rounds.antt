-- Rounds of the tables: what the ways of all hosts come to.
use Rattle.std.specs.Prelude.{◌≡◌, ℕ, List, [], ◌∷◌, true, map, option_map}
use Rattle.pb_semantics.specs.Kind.{Slots}
use Rattle.pb_language.specs.Program.{Inventory, Program}
use Rattle.pb_language.specs.Scope.{Later, View, view_of}
use Rattle.pb_language.specs.Tables.{HostWalk, all_walked, are_settled, budget_of, hosts_walked}
use Rattle.pb_language.specs.Tables.{next_views, views_after, with_plays}
use Rattle.pb_language.specs.Verdict.{first_offence, found_laters}
use Rattle.pb_language.specs.World.{HostVariables}
use Rattle.pb_inventory.specs.Inventory.{inventory_view}
use Rattle.pb_walks.specs.Agree.{AllHostsAgree, LatersAgree, SlotsAgree, ViewsAgree}
use Rattle.pb_walks.specs.Notified.{HostsNameHandlers}
use Rattle.pb_hosts.specs.Shown.{views_view}
use Rattle.pb_hosts.specs.Tables.{slots_of_each}
use Rattle.pb_tables.specs.Outcomes.{host_offence}
use Rattle.pb_tables.specs.Tabled.{laters_in}
use Rattle.pb_tables.specs.declared.round.Round.{Round}
use Rattle.pb_tables.specs.declared.round.SoFar.{SoFar}
use Rattle.pb_tables.specs.declared.table.Stage.{Stage}
use Rattle.pb_tables.specs.declared.table.Tables.{Tables}

-- what a round comes to, by ways that agree with those of all hosts
pub record IsRound (i : Inventory) (ps : Program) (views : List View) (ls : List (List Later))
    (r : Round) : Type 0 where
  pub walks : List HostWalk
  pub agrees : AllHostsAgree walks (all_walked i ps views ls)
  pub fault : HostsNameHandlers walks → option_map host_offence r.fault ≡ first_offence walks
  pub settled : r.is_settled ≡ are_settled walks views
  pub same : r.is_same ≡ true → views_view r.next ≡ views
  pub calls : r.calls ≡ budget_of walks
  pub next : ViewsAgree (views_view r.next) (next_views walks views)

-- what others see of each of these hosts
abbrev pub seen_of : List View → List HostVariables → List Slots
seen_of views xs = map (λ x. view_of x.name views) xs

-- slots that agree with what the way of each host makes of what others see of it
abbrev pub EachNext : List View → List HostVariables → List Slots → List HostWalk → Type 0
EachNext views [] [] [] = Unit {0}
EachNext views (x ∷ xs) (s ∷ ss) (w ∷ ws) = (x.name ≡ w.host)
    × SlotsAgree s (with_plays w.plays (view_of w.host views)) × EachNext views xs ss ws
EachNext views xs ss ws = ⊥

-- what the ways of these hosts come to
pub record AreFound (i : Inventory) (ps : Program) (views : List View) (ls : List (List Later))
    (xs : List HostVariables) (s : SoFar) : Type 0 where
  pub walks : List HostWalk
  pub agrees : AllHostsAgree walks (hosts_walked i views ps ls xs)
  pub fault : HostsNameHandlers walks → option_map host_offence s.fault ≡ first_offence walks
  pub settled : s.is_settled ≡ are_settled walks views
  pub same : s.is_same ≡ true → slots_of_each s.next.items ≡ seen_of views xs
  pub calls : s.calls ≡ budget_of walks
  pub next : EachNext views xs (slots_of_each s.next.items) walks

-- what others see after so many rounds, and what hosts have at their later places
pub record AreAfter (n : ℕ) (s : Stage) (t : Tables) (ps : Program) : Type 0 where
  pub views : ViewsAgree (views_view t.views) (views_after n (inventory_view s.inventory.now) ps
      (found_laters ps (inventory_view s.inventory.now)))
  pub laters : LatersAgree (laters_in s t.laters.items)
      (found_laters ps (inventory_view s.inventory.now))
