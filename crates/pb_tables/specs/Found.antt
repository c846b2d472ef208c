-- What is found of a host on its way through all plays.
use Rattle.std.specs.Prelude.{◌≡◌, ℕ, List, [], ◌∷◌, true, cond}
use Rattle.pb_semantics.specs.Keeps.{is_among}
use Rattle.pb_semantics.specs.Kind.{recs}
use Rattle.pb_semantics.specs.Well.{Well}
use Rattle.pb_language.specs.Expression.{Name}
use Rattle.pb_language.specs.Judgement.{live}
use Rattle.pb_language.specs.Kinds.{known_slots}
use Rattle.pb_language.specs.Program.{Inventory, Program}
use Rattle.pb_language.specs.Scope.{Later, View, every_name, is_later, no_since, view_of}
use Rattle.pb_language.specs.Tables.{HostWalk, PlayWalk, after_first, known_views, plays_below}
use Rattle.pb_language.specs.Tables.{plays_calls, plays_walked, since_first, with_plays}
use Rattle.pb_language.specs.Verdict.{plays_offence}
use Rattle.pb_language.specs.World.{HostVariables}
use Rattle.pb_kind.specs.KindView.{slots_view}
use Rattle.pb_walks.specs.Agree.{HostsAgree, SlotsAgree}
use Rattle.pb_walks.specs.Notified.{PlaysNameHandlers}
use Rattle.pb_find.specs.Finds.{offence_of}
use Rattle.pb_hosts.specs.Tables.{since_view}
use Rattle.pb_hosts.specs.declared.lasting.Lasting.{Lasting}
use Rattle.pb_tables.specs.declared.host.HostFound.{HostFound}

-- the host's way through all plays, where others see that of hosts and of their later places
abbrev pub host_walk : Inventory → Program → List View → List (List Later) → HostVariables
    → HostWalk
host_walk i ps views ls x = record {
  host = x.name;
  plays = plays_walked i views x.name (live (known_slots x.variables)) ps ls;
}

-- what is found on a way that agrees with the host's
pub record HostFinds (i : Inventory) (ps : Program) (views : List View) (ls : List (List Later))
    (x : HostVariables) (f : HostFound) : Type 0 where
  pub walk : HostWalk
  pub agrees : HostsAgree walk (host_walk i ps views ls x)
  pub fault : PlaysNameHandlers walk.plays
      → offence_of x.name f.find.fault ≡ plays_offence x.name walk.plays
  pub next : SlotsAgree (slots_view f.find.next.entries)
      (with_plays walk.plays (view_of x.name views))
  pub well : Well (recs (slots_view f.find.next.entries))
  pub settled : f.find.is_settled ≡ plays_below walk.plays (view_of x.name views)
  pub same : f.find.is_same ≡ true → slots_view f.find.next.entries ≡ view_of x.name views
  pub calls : f.calls ≡ plays_calls walk.plays

-- of each play from which places on the host has its variables, as its ways through the plays say
abbrev pub AllLast : List Name → Program → Name → List PlayWalk → List Lasting → Type 0
AllLast ns [] h ws ls = ls ≡ []
AllLast ns (p ∷ ps) h ws [] = ⊥
AllLast ns (p ∷ ps) h ws (l ∷ ls) =
    ((q : ℕ) (x : Name) → is_later (since_view ns l) q x
    ≡ is_later (cond (is_among h p.hosts) (since_first ws) (every_name 0 no_since)) q x)
    × AllLast ns ps h (after_first (is_among h p.hosts) ws) ls

-- by a way that agrees with the host's, where others see of hosts what the inventory says
pub record HostLasts (ns : List Name) (i : Inventory) (ps : Program) (x : HostVariables)
    (ls : List Lasting) : Type 0 where
  pub walk : HostWalk
  pub agrees : HostsAgree walk (host_walk i ps (known_views i.hosts) [] x)
  pub lasts : AllLast ns ps x.name walk.plays ls
