-- What was once joined to the views stands there: the kinds are settled then, and a second round of the same walks changes nothing.
use Rattle.std.proofs.Common.{◌≡◌, List, [], ◌∷◌, Bool, true, false, not, ◌||◌, cond, bytes_eq, refl, sym, ap, subst, ◌∙◌}
use Rattle.pb_semantics.specs.Kind.{Slots, no_slots, recs}
use Rattle.pb_semantics.specs.Keeps.{is_among}
use Rattle.pb_semantics.specs.Well.{Well}
use Rattle.pb_semantics.proofs.Bools.{and-left, and-right, and-both, or-left, or-right}
use Rattle.pb_semantics.proofs.Names.{same_name, own_name}
use Rattle.pb_language.specs.Expression.{Name}
use Rattle.pb_language.specs.World.{HostVariables}
use Rattle.pb_language.specs.Scope.{View, Later, view_of, has_view}
use Rattle.pb_language.specs.Kinds.{known_slots}
use Rattle.pb_language.specs.Judgement.{live}
use Rattle.pb_language.specs.Program.{Inventory, Program}
use Rattle.pb_language.specs.Tables.{HostWalk, with_plays, plays_below, hosts_walked, all_walked, next_views, are_settled}
use Rattle.pb_language.specs.Theorem.{host_names, are_distinct}
use Rattle.pb_language.specs.Wells.{WellViews}
use Rattle.pb_language.proofs.After.{after_claim}
use Rattle.pb_language.proofs.WellKinds.{well_known_slots}
use Rattle.pb_language.proofs.Seen.{apart_names}
use Rattle.pb_language.proofs.Rounds.{WellPlays, plays_well, rounds_well}
use Rattle.pb_walks.specs.Agree.{SlotsAgree, ViewsAgree}
use Rattle.pb_walks.proofs.Agreeing.{slots_own}
use Rattle.pb_walks.proofs.SettledPlays.{plays_settled, plays_again}

abbrev walk_names : List HostWalk → List Name
walk_names [] = []
walk_names (w ∷ ws) = w.host ∷ walk_names ws

-- what each host's tasks write is well formed
abbrev WellHosts : List HostWalk → Type 0
WellHosts [] = Unit {0}
WellHosts (w ∷ ws) = WellPlays w.plays × WellHosts ws

module _ (inventory : Inventory) (ps : Program) (us : List View) (ls : List (List Later)) where
  hosts_well : (xs : List HostVariables) → WellViews us → WellHosts (hosts_walked inventory us ps ls xs)
  hosts_well [] u = tt
  hosts_well (x ∷ xs) u = (plays_well after_claim inventory us u ps x.name (live (known_slots x.variables)) ls (well_known_slots x.variables), hosts_well xs u)

  hosts_named : (xs : List HostVariables) → walk_names (hosts_walked inventory us ps ls xs) ≡ host_names xs
  hosts_named [] = refl
  hosts_named (x ∷ xs) = ap (λ ns. x.name ∷ ns) (hosts_named xs)

either_well : (q : Bool) (ss ts : Slots) → Well (recs ss) → Well (recs ts) → Well (recs (cond q ss ts))
either_well true ss ts w v = w
either_well false ss ts w v = v

not_here : (q : Bool) (ss ts : Slots) → q ≡ false → cond q ss ts ≡ ts
not_here q ss ts e = rw e refl

module _ (vs : List View) (v : WellViews vs) where
  next_well : (ws : List HostWalk) (g : Name) → WellHosts ws → Well (recs (view_of g (next_views ws vs)))
  next_well [] g a = (refl, tt)
  next_well (w ∷ ws) g a =
      either_well (bytes_eq g w.host) (with_plays w.plays (view_of w.host vs)) (view_of g (next_views ws vs)) (rounds_well w.plays (view_of w.host vs) a.0 (v w.host)) (next_well ws g a.1)

  -- a view that says of each host what the next one does, where no host stands twice
  settled_here : (w : HostWalk) (ss : Slots) → WellPlays w.plays → ss ≡ with_plays w.plays (view_of w.host vs) → plays_below w.plays ss ≡ true
  settled_here w ss a e = rw e (plays_settled w.plays (view_of w.host vs) a (v w.host))

  settled_in : (ws : List HostWalk) (us : List View) → WellHosts ws → are_distinct (walk_names ws) ≡ true → ((g : Name) → is_among g (walk_names ws) ≡ true → view_of g us ≡ view_of g (next_views ws vs)) → are_settled ws us ≡ true
  settled_in [] us a d f = refl
  settled_in (w ∷ ws) us a d f =
      let h = w.host in
      let ns = walk_names ws in
      let mine = with_plays w.plays (view_of h vs) in
      let here : view_of h us ≡ mine = f h (or-left (bytes_eq h h) (is_among h ns) (own_name h)) ∙ rw (own_name h) refl in
      let alone = and-left (not (is_among h ns)) (are_distinct ns) d in
      and-both (plays_below w.plays (view_of h us)) (are_settled ws us) (settled_here w (view_of h us) a.0 here)
      (settled_in ws us a.1 (and-right (not (is_among h ns)) (are_distinct ns) d)
      (λ g i. f g (or-right (bytes_eq g h) (is_among g ns) i) ∙ not_here (bytes_eq g h) mine (view_of g (next_views ws vs)) (apart_names (bytes_eq g h) g h ns refl i alone)))

  -- a view that says of a host what the next one does
  again_step : (q : Bool) (g : Name) (w : HostWalk) (us : List View) (more again : Slots) → bytes_eq g w.host ≡ q → WellPlays w.plays → view_of g us ≡ cond q (with_plays w.plays (view_of w.host vs)) more → (view_of g us ≡ more → SlotsAgree more again)
      → SlotsAgree (cond q (with_plays w.plays (view_of w.host vs)) more) (cond q (with_plays w.plays (view_of w.host us)) again)
  again_step true g w us more again e a h f =
      let mine = with_plays w.plays (view_of w.host vs) in
      let here : mine ≡ view_of w.host us = sym h ∙ ap (λ n. view_of n us) (same_name g w.host e) in
      subst (λ ss. SlotsAgree mine (with_plays w.plays ss)) here (plays_again w.plays (view_of w.host vs) a (v w.host))
  again_step false g w us more again e a h f = f h

  again_at : (ws : List HostWalk) (us : List View) (g : Name) → WellHosts ws → view_of g us ≡ view_of g (next_views ws vs) → SlotsAgree (view_of g (next_views ws vs)) (view_of g (next_views ws us))
  again_at [] us g a h = slots_own no_slots (refl, tt)
  again_at (w ∷ ws) us g a h = again_step (bytes_eq g w.host) g w us (view_of g (next_views ws vs)) (view_of g (next_views ws us)) refl a.0 h (λ i. again_at ws us g a.1 i)

-- a round has views of the walks' hosts, whatever it begins with
next_hosts : (ws : List HostWalk) (vs us : List View) (g : Name) → has_view g (next_views ws vs) ≡ has_view g (next_views ws us)
next_hosts [] vs us g = refl
next_hosts (w ∷ ws) vs us g = ap (λ q. bytes_eq g w.host || q) (next_hosts ws vs us g)

pub next_settled : (inventory : Inventory) (ps : Program) (us vs : List View) (ls : List (List Later)) → are_distinct (host_names inventory.hosts) ≡ true → WellViews us → WellViews vs
    → are_settled (all_walked inventory ps us ls) (next_views (all_walked inventory ps us ls) vs) ≡ true
next_settled inventory ps us vs ls d u v =
    let ws = all_walked inventory ps us ls in
    settled_in vs v ws (next_views ws vs) (hosts_well inventory ps us ls inventory.hosts u) (ap (λ ns. are_distinct ns) (hosts_named inventory ps us ls inventory.hosts) ∙ d) (λ g i. refl)

pub next_again : (inventory : Inventory) (ps : Program) (us vs : List View) (ls : List (List Later)) → WellViews us → WellViews vs
    → ViewsAgree (next_views (all_walked inventory ps us ls) vs) (next_views (all_walked inventory ps us ls) (next_views (all_walked inventory ps us ls) vs))
next_again inventory ps us vs ls u v =
    let ws = all_walked inventory ps us ls in
    let a = hosts_well inventory ps us ls inventory.hosts u in
    let next = next_views ws vs in
    let w : WellViews next = λ g. next_well vs v ws g a in
    record {
      hosts = λ g. next_hosts ws vs next g;
      slots = λ g. again_at vs v ws next g a refl;
      well = w;
      well_too = λ g. next_well next w ws g a;
    }
